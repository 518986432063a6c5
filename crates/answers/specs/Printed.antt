-- A refusal as it is printed, which is the listing's last line (document 01, "Worked numbers") without its line feed.
use Rattle.std.specs.Prelude.{List, ◌++◌, ℕ, codes, decimal}
use Rattle.answers.specs.Refusals.{number_of, place_of}
use Rattle.answers.specs.declared.refusal.Refusal.{Refusal}

-- "REFUSED, the number and the place with single spaces between"
abbrev pub refusal_text : Refusal → List ℕ
refusal_text x = codes "REFUSED " ++ (decimal (number_of x) ++ (codes " " ++ decimal (place_of x)))
