-- What the loop of `transform_halving::next_place` keeps true, and what falls with each turn.
use mathlib.Core.Path.{◌≡◌}
use Prim.Native.Nat.{ℕ, ◌+◌, ◌^◌, ◌/◌, ◌≤◌}
use Rattle.transform_halving.specs.Order.{reversed}
use Rattle.transform_halving.proofs.next_place.Given as goal

-- what comes after place i of 2 ^ k is what comes after place q of 2 ^ m, whose highest digit is `digit`
pub record Carried (k i left digit : ℕ) : Type 0 where
  pub m : ℕ
  pub q : ℕ
  pub highest : digit ≡ 2 ^ m / 2
  pub here : left ≡ reversed m q
  pub after : reversed k (i + 1) ≡ reversed m (q + 1)

abbrev pub invariant-loop-digit : goal.invariant-loop-digit
invariant-loop-digit l =
    (l.digit ≤ l.size / 2) × ((k i : ℕ) → l.size ≡ 2 ^ k → l.place ≡ reversed k i → Carried k i l.left l.digit)

abbrev pub decreases-loop-digit : goal.decreases-loop-digit
decreases-loop-digit l = l.digit
