-- The checks of the writer, and those of the reader before the blocks, in document 01's order.
use Rattle.std.specs.Prelude.{◌||◌, List, [], ℕ, ltb}
use Rattle.answers.specs.Refusals.{Answer, the_result, refuse_if, after}
use Rattle.answers.specs.declared.refusal.Refusal.TheVariants.{Shape, Room, Few}
use Rattle.bundle_layout.specs.Blocks.{blocks_of}
use Rattle.bundle_layout.specs.Shape.{bad_bundle_shape}
use Rattle.bundle_layout.specs.Fields.{k_in, n_in, length_in, held_in}
use Rattle.bundle_layout.specs.Layout.{layout_checks}
use Rattle.bundle_layout.specs.Rooms.{write_out, bundle_work}

-- out and work are the lengths of the output and of the working space, L that of the file

unfoldable pub write_checks : ℕ → ℕ → ℕ → ℕ → ℕ → Answer
write_checks k n L out work =
    refuse_if (bad_bundle_shape k n L) Shape
    (refuse_if (ltb out (write_out n (blocks_of k L)) || ltb work (bundle_work n)) Room (the_result []))

-- ROOM and FEW, once the layout is good
unfoldable pub room_checks : List ℕ → ℕ → ℕ → Answer
room_checks s out work =
    refuse_if (ltb out (length_in s) || ltb work (bundle_work (n_in s))) Room (refuse_if (ltb (held_in s) (k_in s)) Few (the_result []))

unfoldable pub read_checks : List ℕ → ℕ → ℕ → Answer
read_checks s out work = after (layout_checks s) (room_checks s out work)
