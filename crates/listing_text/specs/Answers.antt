-- What the listing program answers to the bytes of its input (document 01, "Numbers a refusal carries", the last lines).
use Rattle.std.specs.Prelude.{◌||◌, List, ℕ, ltb, length}
use Rattle.answers.specs.Refusals.{Answer, refuse_if, after}
use Rattle.answers.specs.declared.refusal.Refusal.TheVariants.{Room, Few}
use Rattle.bundle_layout.specs.Fields.{k_in, n_in, length_in, held_in, blocks_in}
use Rattle.bundle_layout.specs.Layout.{layout_checks}
use Rattle.bundle_read.specs.Reading.{blocks_answer}

-- "The program takes bundles up to 24,576 bytes"
unfoldable pub most_input : ℕ
most_input = 24576

-- "It serves n up to 256 and L up to 24,576"
unfoldable pub most_n : ℕ
most_n = 256

unfoldable pub most_length : ℕ
most_length = 24576

-- "a larger n or L is answered ROOM where the reader tests ROOM": once the layout is good, and before FEW and the blocks
unfoldable pub served_answer : List ℕ → Answer
served_answer s =
    refuse_if (ltb most_n (n_in s) || ltb most_length (length_in s)) Room
    (refuse_if (ltb (held_in s) (k_in s)) Few (blocks_answer s 0 (blocks_in s)))

-- "a longer input is answered ROOM before anything else is tested"
unfoldable pub program_answer : List ℕ → Answer
program_answer s = refuse_if (ltb most_input (length s)) Room (after (layout_checks s) (served_answer s))
