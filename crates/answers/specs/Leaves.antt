-- What a call leaves: its answer, and every cell of the lent list that takes the result and of the lent working space.
use Rattle.std.specs.Prelude.{◌≡◌, List, ◌++◌, ℕ, length, drop, replicate, ⊤, Result}
use Rattle.answers.specs.Refusals.{Answer, the_result, refusal, told_outcome}
use Rattle.answers.specs.declared.refusal.Refusal.{Refusal}

pub record Leaves : Type 0 where
  pub answer : Answer
  pub list : List ℕ
  pub work : List ℕ

abbrev pub leaving : Answer → List ℕ → List ℕ → Leaves
leaving answer list work = record { answer = answer; list = list; work = work }

-- "On refusals 1 to 7 and 11 nothing lent is written": where the checks refuse, else what the work leaves
abbrev pub unless_refused : Answer → List ℕ → List ℕ → Leaves → Leaves
unless_refused (refusal n i) list work later = leaving (refusal n i) list work
unless_refused (the_result vs) list work later = later

-- "the output holds the result at its front and is untouched after it"
abbrev pub written : {T : Type 0} → List T → List T → List T
written vs list = vs ++ drop (length vs) list

-- "the stated working space is zero and the rest of it untouched"
abbrev pub zeroed : ℕ → List ℕ → List ℕ
zeroed stated work = replicate stated 0 ++ drop stated work

-- a promise settles what a call leaves: two outcomes that meet it are equal, the answer and every cell
abbrev pub OutcomeSettled : Leaves → Type 0
OutcomeSettled it =
    (r s : Result ⊤ Refusal) (l m w v : List ℕ) → leaving (told_outcome r) l w ≡ it → leaving (told_outcome s) m v ≡ it
    → (r ≡ s) × (l ≡ m) × (w ≡ v)
