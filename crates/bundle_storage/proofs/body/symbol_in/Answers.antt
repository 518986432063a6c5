-- `bundle_storage::body::symbol_in` meets its contract: one look at the cursor tells whether the block is listed.
-- Assumes nothing.
use mathlib.Core.Path.{sym, ◌∙◌}
use mathlib.Core.List.{List}
use Prim.Native.Nat.{ℕ, ◌+◌, ◌*◌, ◌<◌}
use native.Mathlib.Omega.{arith}
use lib.ListN.{length}
use Rattle.bundle_storage.specs.Storage.{Placed}
use Rattle.bundle_storage.proofs.Cursors.{placed_inside, placed_listed, placed_word}
use Rattle.bundle_storage.proofs.body.symbol_in.Goals as goal

inside : (s : List ℕ) (b words cursor : ℕ) → ((at : ℕ) × (B : ℕ) × (c : ℕ) × Placed at B c s b words cursor) → words + 2 * b + 1 < length s
inside s b words cursor (at, B, c, placed) = placed_inside at B c s b words cursor placed

pub is_next-requires : goal.is_next-requires
is_next-requires c = omega (arith, inside c.args.bytes.now _ _ _ c.requires)

pub returns-then-is_next : goal.returns-then-is_next
returns-then-is_next c at B n placed = sym (placed_listed at B n c.args.bytes.now _ _ _ placed (sym c.is_next.ensures ∙ c.if-is_next.true))

pub overflow_mul-b : goal.overflow_mul-b
overflow_mul-b c = omega (arith, inside c.args.bytes.now _ _ _ c.requires)

pub overflow_add-words : goal.overflow_add-words
overflow_add-words c = omega (arith, inside c.args.bytes.now _ _ _ c.requires)

pub two_at-requires : goal.two_at-requires
two_at-requires c = inside c.args.bytes.now _ _ _ c.requires

pub returns : goal.returns
returns c at B n placed =
    c.two_at.ensures.0
    ∙ sym (placed_word at B n c.args.bytes.now _ _ _ placed (sym c.is_next.ensures ∙ c.if-is_next.false))
