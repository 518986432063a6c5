-- Where no position is n or more, each is below n; and the library's search finds the first that is.
-- Assumes nothing.
use mathlib.Core.Path.{◌≡◌, sym, ◌∙◌}
use mathlib.Core.List.{List}
use Prim.Native.Nat.{ℕ, ◌≤◌}
use native.Mathlib.Nat.{lt_of_lt_of_le}
use borrow.Author.Tests.{leb-false, lt-leb}
use lib.Dec.{ltb, leb}
use lib.ListN.{length, get_or}
use Rattle.std.specs.List.{position}
use Rattle.std.specs.Prelude.{Some, None}
use Rattle.answers.specs.Refusals.{Answer, refused, refuse_if}
use Rattle.answers.specs.declared.refusal.Refusal.TheVariants.{Position}
use Rattle.answers.proofs.Checks.{stops_found, passes_found}
use Rattle.answers.specs.First.{found}
use Rattle.answers.proofs.First.{first_before, first_none, first_position, found_none}
use Rattle.code.specs.Positions.{first_outside, Inside}

pub outside_none : (n : ℕ) (positions : List ℕ) → length positions ≤ first_outside n positions → Inside n positions
unfolding first_outside
outside_none n positions none i l = leb-false n _ (first_before (length positions) (λ j. leb n (get_or positions j 0)) i (lt_of_lt_of_le l none))

pub none_outside : (n : ℕ) (positions : List ℕ) → Inside n positions → first_outside n positions ≡ length positions
unfolding first_outside
none_outside n positions inside = first_none (length positions) (λ j. leb n (get_or positions j 0)) (λ i l. lt-leb n _ (inside i l))

found_outside : (n : ℕ) (positions : List ℕ) → position (leb n) positions ≡ found (length positions) (first_outside n positions)
unfolding first_outside
found_outside n positions = first_position (leb n) positions

pub outside_stops : (n : ℕ) (positions : List ℕ) (later : Answer) (i : ℕ) → Some i ≡ position (leb n) positions
    → refused (Position i) ≡ refuse_if (ltb (first_outside n positions) (length positions)) (Position (first_outside n positions)) later
outside_stops n positions later i is = stops_found Position _ _ later i (is ∙ found_outside n positions)

pub outside_goes_on : (n : ℕ) (positions : List ℕ) (later : Answer) {a : Answer} → None ≡ position (leb n) positions → a ≡ later
    → a ≡ refuse_if (ltb (first_outside n positions) (length positions)) (Position (first_outside n positions)) later
outside_goes_on n positions later is rest = passes_found Position _ _ later (is ∙ found_outside n positions) rest

-- where the search finds none, each position is below n, and so below a limit that is no less
pub none_outside_below : (n limit : ℕ) (positions : List ℕ) → None ≡ position (leb n) positions → n ≤ limit → Inside limit positions
none_outside_below n limit positions is le i l =
    lt_of_lt_of_le (outside_none n positions (found_none _ _ (sym (is ∙ found_outside n positions))) i l) le
