-- What encode and decode answer, and what the lent output and working space hold afterwards.
use Rattle.std.specs.Prelude.{List, [], ℕ, length}
use Rattle.answers.specs.Leaves.{Leaves, leaving, unless_refused, written, zeroed}
use Rattle.answers.specs.Refusals.{the_result}
use Rattle.block.specs.Checks.{encode_checks, decode_checks}
use Rattle.code.specs.Code.{code_word}
use Rattle.code.specs.Decoded.{decoded}
use Rattle.code.specs.Decoding.{decode_of}
use Rattle.code.specs.Held.{held}
use Rattle.code.specs.Rooms.{encode_work}

abbrev pub encode_leaves : ℕ → ℕ → List ℕ → List ℕ → List ℕ → Leaves
encode_leaves k n message out work =
    unless_refused (encode_checks k n message (length out) (length work)) out work
    (leaving (the_result []) (written (code_word n message) out) (zeroed (encode_work n) work))

abbrev pub decode_leaves : ℕ → ℕ → List ℕ → List ℕ → List ℕ → List ℕ → Leaves
decode_leaves k n positions values out work =
    unless_refused (decode_checks k n positions values (length out) (length work)) out work
    (decoded (decode_of k n (held positions values)) n out work)
