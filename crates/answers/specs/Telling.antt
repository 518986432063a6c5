-- An answer as a caller from C gets it: the returned status is 0 or the refusal's number, and `number` holds the refusal's place, else 0.
use Rattle.std.specs.Prelude.{ℕ}
use Rattle.answers.specs.Refusals.{Answer, the_result, refusal}

pub record Returned : Type 0 where
  pub status : ℕ
  pub number : ℕ

abbrev pub status_number : ℕ → ℕ → Returned
status_number status number = record { status = status; number = number }

abbrev pub returned : Answer → Returned
returned (the_result vs) = status_number 0 0
returned (refusal n i) = status_number n i
