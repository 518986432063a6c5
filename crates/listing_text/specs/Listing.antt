-- What the listing program prints (document 01, "Worked numbers").
use Rattle.std.specs.Prelude.{Bool, false, ◌||◌, cond, List, [], ◌++◌, ℕ, zero, suc, eqb}
use Rattle.answers.specs.Refusals.{Answer, the_result, refusal}
use Rattle.bundle_layout.specs.Fields.{k_in, n_in, length_in, held_in, blocks_in, position_in, count_in, offset_in}
use Rattle.listing_lines.specs.Lines.{header_line, entry_line, last_line}
use Rattle.listing_text.specs.Answers.{program_answer}

-- the lines of the first t entries
unfoldable pub entry_lines : List ℕ → ℕ → List ℕ
entry_lines s zero = []
entry_lines s (suc t) = entry_lines s t ++ entry_line (position_in s t) (offset_in s t) (count_in s t)

-- the first line and a line for each entry
unfoldable pub listing : List ℕ → List ℕ
listing s = header_line (k_in s) (n_in s) (length_in s) (held_in s) (blocks_in s) ++ entry_lines s (held_in s)

-- "Refusals 1, 3 and 11 print that line alone; 4, 8, 9 and 10 follow the listing."
unfoldable pub alone : ℕ → Bool
alone number = eqb number 1 || (eqb number 3 || eqb number 11)

unfoldable pub prints_alone : Answer → Bool
prints_alone (the_result vs) = false
prints_alone (refusal number place) = alone number

unfoldable pub printed : List ℕ → List ℕ
printed s = cond (prints_alone (program_answer s)) [] (listing s) ++ last_line (program_answer s)
