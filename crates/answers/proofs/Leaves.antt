-- What a call leaves is settled by an equation of it; and what it leaves where its checks refused, and where they passed.
-- Assumes nothing.
use mathlib.Core.Path.{◌≡◌, sym, ap, ap₂, ◌∙◌}
use mathlib.Core.List.{List, [], ◌++◌, append-nil}
use Prim.Native.Nat.{ℕ, ◌-◌, ◌≤◌}
use native.Mathlib.Omega.{arith}
use lib.ListN.{length, take, drop, replicate, drop_of_length-le}
use lib.Seq.{length-take-le}
use Rattle.std.specs.Prelude.{⊤, Result, Ok, Err}
use Rattle.answers.specs.Leaves.{Leaves, leaving, unless_refused, zeroed, OutcomeSettled}
use Rattle.answers.specs.Refusals.{Answer, the_result, refused, told_outcome}
use Rattle.answers.specs.declared.refusal.Refusal.{Refusal}
use Rattle.answers.proofs.Refusals.{told_outcome_one}

pub outcome_settled : (it : Leaves) → OutcomeSettled it
outcome_settled it r s l m w v p q =
    let same = p ∙ sym q in (
      told_outcome_one r s (ap (λ (x : Leaves). x.answer) same),
      ap (λ (x : Leaves). x.list) same,
      ap (λ (x : Leaves). x.work) same,
    )

-- what the checks answer, where the code's outcome is known

pub told_done : (a : Answer) (o : Result ⊤ Refusal) {u : ⊤} → told_outcome o ≡ a → o ≡ Ok u → a ≡ the_result []
told_done a o is done = sym is ∙ ap told_outcome done

pub told_refused : (a : Answer) (o : Result ⊤ Refusal) (x : Refusal) → told_outcome o ≡ a → o ≡ Err x → a ≡ refused x
told_refused a o x is done = sym is ∙ ap told_outcome done

-- what a call leaves where its checks refused, and where they passed

pub leaves_refused : (a : Answer) (x : Refusal) (list work : List ℕ) (later : Leaves) → a ≡ refused x
    → leaving (refused x) list work ≡ unless_refused a list work later
leaves_refused a x list work later bad = ap (λ (b : Answer). unless_refused b list work later) (sym bad)

pub leaves_done : (a : Answer) (list work : List ℕ) (later : Leaves) → a ≡ the_result [] → later ≡ unless_refused a list work later
leaves_done a list work later good = ap (λ (b : Answer). unless_refused b list work later) (sym good)

-- a front part that is lent: room is how much is stated, and stated what the code worked out
module _ (stated room : ℕ) (cells : List ℕ) (is : stated ≡ room) (enough : room ≤ length cells) where
  pub lent_length : length (take (stated - 0) cells) ≡ room
  lent_length = length-take-le (stated - 0) cells (omega arith) ∙ omega arith

  pub lent_rest : drop (stated - 0) cells ≡ drop room cells
  lent_rest = ap (λ (m : ℕ). drop m cells) {x = stated - 0} {y = room} (omega arith)

  -- e is what the part holds once it is cleared
  pub zeroed_part : (e : List ℕ) → e ≡ replicate room 0 → e ++ drop (stated - 0) cells ≡ zeroed room cells
  zeroed_part e zeros = ap₂ ◌++◌ zeros lent_rest

-- where all there is is stated
pub zeroed_all : (room : ℕ) (cells : List ℕ) → length cells ≡ room → zeroed room cells ≡ replicate room 0
zeroed_all room cells long =
    ap (replicate room 0 ++◌) (drop_of_length-le cells {i = room} (omega arith)) ∙ append-nil (replicate room 0)

-- the stated part, zeroed as a whole working space, and what lies behind it
pub zeroed_again : (stated room : ℕ) (cells : List ℕ) → stated ≡ room → room ≤ length cells
    → zeroed room (take (stated - 0) cells) ++ drop (stated - 0) cells ≡ zeroed room cells
zeroed_again stated room cells is enough =
    zeroed_part stated room cells is enough _ (zeroed_all room (take (stated - 0) cells) (lent_length stated room cells is enough))
