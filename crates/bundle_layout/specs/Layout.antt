-- The layout as it is tested: "FORM for a bundle under 16 bytes, a wrong mark or nonzero last header bytes; then SHAPE; then FORM for the rest".
-- Theorems.antt says that exactly the bundles of Shadows.antt pass.
use Rattle.std.specs.Prelude.{Bool, ◌&&◌, ◌||◌, not, List, [], ℕ, zero, suc, ◌+◌, leb, ltb, eqb, length, drop}
use Rattle.answers.specs.First.{first}
use Rattle.answers.specs.Refusals.{Answer, the_result, refuse_if}
use Rattle.answers.specs.declared.refusal.Refusal.TheVariants.{Shape, Form}
use Rattle.bundle_layout.specs.Shape.{bad_bundle_shape}
use Rattle.bundle_layout.specs.Fields.{k_in, n_in, length_in, held_in, last_in, blocks_in, position_in, count_in, offset_in}
use Rattle.bundle_layout.specs.Mark.{mark, starts_with}
use Rattle.bundle_storage.specs.Rising.{out_of_order}
use Rattle.bundle_layout.specs.Shadows.{header_size, first_body}
use Rattle.bundle_storage.specs.Storage.{body_size, body_good}

unfoldable pub bad_front : List ℕ → Bool
bad_front s = ltb (length s) header_size || (not (starts_with mark s) || not (eqb (last_in s) 0))

-- where body t has to begin: behind the table and the bodies before it
unfoldable pub start_of : List ℕ → ℕ → ℕ
start_of s zero = first_body (held_in s)
start_of s (suc t) = start_of s t + body_size (blocks_in s) (count_in s t)

-- entry t: its position is not below n or not above the one before, its offset is not where its body has to begin, or no good body is there
unfoldable pub bad_entry : List ℕ → ℕ → Bool
bad_entry s t =
    out_of_order (n_in s) (position_in s) t
    || (not (eqb (offset_in s t) (start_of s t)) || not (body_good (blocks_in s) (count_in s t) (drop (start_of s t) s)))

-- the whole table is there, no entry is bad, and "The bundle ends with the last body"
unfoldable pub rest_good : List ℕ → Bool
rest_good s =
    leb (first_body (held_in s)) (length s)
    && (leb (held_in s) (first (held_in s) (bad_entry s)) && eqb (start_of s (held_in s)) (length s))

unfoldable pub layout_checks : List ℕ → Answer
layout_checks s =
    refuse_if (bad_front s) Form
    (refuse_if (bad_bundle_shape (k_in s) (n_in s) (length_in s)) Shape (refuse_if (not (rest_good s)) Form (the_result [])))
