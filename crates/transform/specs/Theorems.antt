-- What is proved of the definitions, as statements: proofs/Theorems.antt proves each under the same name in small letters.
use Rattle.std.specs.Prelude.{◌≡◌, false, List, ◌↔◌, ℕ, ◌^◌, ◌≤◌}
use Rattle.answers.specs.Leaves.{OutcomeSettled}
use Rattle.limits.specs.Shape.{longest}
use Rattle.transform.specs.Calls.{transform_leaves, inverse_leaves}
use Rattle.transform.specs.Lengths.{bad_length}

-- SHAPE lets exactly the powers of two up to the longest length through
abbrev pub GoodLengths : Type 0
GoodLengths = (N : ℕ) → (bad_length N ≡ false) ↔ ((N ≤ longest) × ((e : ℕ) × (N ≡ 2 ^ e)))

-- two outcomes of a call are equal: the answer and every cell of both lists
abbrev pub TransformSettled : Type 0
TransformSettled = (list work : List ℕ) → OutcomeSettled (transform_leaves list work)

abbrev pub InverseSettled : Type 0
InverseSettled = (list work : List ℕ) → OutcomeSettled (inverse_leaves list work)
