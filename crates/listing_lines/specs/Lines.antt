-- The lines of the listing (document 01, "Worked numbers"). "Every line ends with a line feed."
use Rattle.std.specs.Prelude.{List, ◌++◌, ℕ}
use Rattle.answers.specs.Refusals.{Answer, the_result, refusal}
use Rattle.listing_lines.specs.Text.{ascii, decimal}

-- the first line, as in `k 2 n 4 length 4 held 4 blocks 1`
unfoldable pub header_line : ℕ → ℕ → ℕ → ℕ → ℕ → List ℕ
header_line k n length held blocks =
    ascii "k " ++ (decimal k ++ (ascii " n " ++ (decimal n ++ (ascii " length " ++ (decimal length ++ (ascii " held " ++ (decimal held ++ (ascii " blocks " ++ (decimal blocks ++ ascii "\n")))))))))

-- "After the first line, each line is position, body offset, overflow count."
unfoldable pub entry_line : ℕ → ℕ → ℕ → List ℕ
entry_line position offset count = decimal position ++ (ascii " " ++ (decimal offset ++ (ascii " " ++ (decimal count ++ ascii "\n"))))

-- "The last line is OK after a full read, else REFUSED, the number and the place with single spaces between"
unfoldable pub last_line : Answer → List ℕ
last_line (the_result vs) = ascii "OK\n"
last_line (refusal number place) = ascii "REFUSED " ++ (decimal number ++ (ascii " " ++ (decimal place ++ ascii "\n")))
