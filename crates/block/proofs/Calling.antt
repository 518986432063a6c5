-- What the work of encode and of decode asks for where the checks have passed, and what is left of the whole working space, of which the
-- stated part is lent to the work.
-- Assumes nothing.
use mathlib.Core.Path.{◌≡◌, sym, ap, ap₂, ◌∙◌}
use mathlib.Core.List.{List, [], ◌++◌}
use mathlib.Core.Option.{Option, some, none}
use Prim.Native.Nat.{ℕ, ◌-◌, ◌≤◌}
use native.Mathlib.Omega.{arith}
use lib.ListN.{length, take, drop, replicate}
use Rattle.answers.specs.Leaves.{Leaves, leaving, written}
use Rattle.answers.specs.Refusals.{Answer, the_result}
use Rattle.answers.proofs.Leaves.{leaves_done, lent_length, zeroed_part, zeroed_again}
use Rattle.block.specs.Calls.{encode_leaves, decode_leaves}
use Rattle.block.specs.Checks.{encode_checks, decode_checks}
use Rattle.block.proofs.Passing.{encode_passed, decode_passed}
use Rattle.code.specs.Codable.{Codable}
use Rattle.code.specs.Code.{code_word}
use Rattle.code.specs.Decodable.{Decodable}
use Rattle.code.specs.Decoded.{decoded}
use Rattle.code.specs.Decoding.{decode_of}
use Rattle.code.specs.Held.{held}
use Rattle.code.specs.Rooms.{encode_work, decode_work}

-- the cells of the work, with those behind the stated part put back
extended : List ℕ → Leaves → Leaves
extended behind it = leaving it.answer it.list (it.work ++ behind)

pub decoded_whole : (n stated : ℕ) (found : Option (List ℕ)) (a : Answer) (out work o e : List ℕ) → stated ≡ decode_work n
    → decode_work n ≤ length work → leaving a o e ≡ decoded found n out (take (stated - 0) work)
    → leaving a o (e ++ drop (stated - 0) work) ≡ decoded found n out work
unfolding extended
decoded_whole n stated none a out work o e is enough leaves =
    ap (extended (drop (stated - 0) work)) leaves ∙ ap (leaving _ out) (zeroed_again stated (decode_work n) work is enough)
decoded_whole n stated (some s) a out work o e is enough leaves =
    ap (extended (drop (stated - 0) work)) leaves
    ∙ ap (leaving (the_result []) (written s out)) (zeroed_again stated (decode_work n) work is enough)

-- encode's work; stated is the room that the call worked out
module _ (k n : ℕ) (message out work : List ℕ) (good : the_result [] ≡ encode_checks k n message (length out) (length work)) where
  encode_good : Codable n message × (length message ≡ k) × (n ≤ length out) × (encode_work n ≤ length work)
  encode_good = encode_passed k n message (length out) (length work) (sym good)

  pub encode_space : (stated : ℕ) → stated ≡ encode_work n → stated ≤ length work
  encode_space stated is = omega (arith, encode_good.3)

  pub encode_asked : (stated : ℕ) → stated ≡ encode_work n
      → Codable n message × (n ≤ length out) × (length (take (stated - 0) work) ≡ encode_work n)
  encode_asked stated is = (encode_good.0, encode_good.2, lent_length stated (encode_work n) work is encode_good.3)

  pub encode_left : (stated : ℕ) (o e : List ℕ) → stated ≡ encode_work n → o ≡ written (code_word n message) out → e ≡ replicate (encode_work n) 0
      → leaving (the_result []) o (e ++ drop (stated - 0) work) ≡ encode_leaves k n message out work
  encode_left stated o e is coded zeros =
      ap₂ (leaving (the_result [])) coded (zeroed_part stated (encode_work n) work is encode_good.3 e zeros)
      ∙ leaves_done (encode_checks k n message (length out) (length work)) _ _ _ (sym good)

-- decode's
module _ (k n : ℕ) (positions values out work : List ℕ)
    (good : the_result [] ≡ decode_checks k n positions values (length out) (length work)) where
  decode_good : Decodable k n (held positions values) × (k ≤ length out) × (decode_work n ≤ length work)
  decode_good = decode_passed k n positions values (length out) (length work) (sym good)

  pub decode_space : (stated : ℕ) → stated ≡ decode_work n → stated ≤ length work
  decode_space stated is = omega (arith, decode_good.2)

  pub decode_asked : (stated : ℕ) → stated ≡ decode_work n
      → Decodable k n (held positions values) × (k ≤ length out) × (length (take (stated - 0) work) ≡ decode_work n)
  decode_asked stated is = (decode_good.0, decode_good.1, lent_length stated (decode_work n) work is decode_good.2)

  pub decode_left : (stated : ℕ) (a : Answer) (o e : List ℕ) → stated ≡ decode_work n
      → leaving a o e ≡ decoded (decode_of k n (held positions values)) n out (take (stated - 0) work)
      → leaving a o (e ++ drop (stated - 0) work) ≡ decode_leaves k n positions values out work
  decode_left stated a o e is leaves =
      decoded_whole n stated (decode_of k n (held positions values)) a out work o e is decode_good.2 leaves
      ∙ leaves_done (decode_checks k n positions values (length out) (length work)) _ _ _ (sym good)

-- what the calls are proved by
pub ruleset encoding = (encode_space, encode_asked, encode_left)

pub ruleset decoding = (decode_space, decode_asked, decode_left)
