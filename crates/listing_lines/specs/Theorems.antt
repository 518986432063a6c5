-- What is proved of numbers as text, as statements: proofs/Theorems.antt proves each under the same name in small letters.
use Rattle.std.specs.Prelude.{◌≡◌, List, [], ◌∷◌, ◌++◌, ℕ, ◌+◌, ◌*◌, ◌^◌, ◌<◌, length, get_or}
use Rattle.listing_lines.specs.Text.{ascii, decimal}

-- text that is read as a number in base 10: all digits, `0` being character 48; one more makes ten times the number, and that digit
pub data ReadsBack : List ℕ → ℕ → Type 0 where
  nothing : ReadsBack [] 0
  further : {text : List ℕ} {n : ℕ} (d : ℕ) → d < 10 → ReadsBack text n → ReadsBack (text ++ ((48 + d) ∷ [])) (10 * n + d)

-- the decimal text of a number: some digits, which give the number when they are read, the first not `0` where there are more
pub record IsDecimal (text : List ℕ) (n : ℕ) : Type 0 where
  pub value : ReadsBack text n
  pub some : 0 < length text
  pub front : 1 < length text → ¬ (get_or text 0 0 ≡ 48)

-- a number of the machine is below 10 to the power 20
abbrev pub DecimalValue : Type 0
DecimalValue = (n : ℕ) → n < 10 ^ 20 → IsDecimal (decimal n) n

-- the smallest ones, the first with two digits, and large ones of the field, of the program and of the machine
pub record DecimalExamples : Type 0 where
  pub zero : decimal 0 ≡ ascii "0"
  pub nine : decimal 9 ≡ ascii "9"
  pub ten : decimal 10 ≡ ascii "10"
  pub symbol : decimal 65536 ≡ ascii "65536"
  pub input : decimal 24576 ≡ ascii "24576"
  pub largest : decimal 18446744073709551615 ≡ ascii "18446744073709551615"
