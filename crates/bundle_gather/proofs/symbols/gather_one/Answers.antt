-- `bundle_gather::symbols::gather_one` meets its contract: the symbol and the next cursor are read at the indices that the cells hold.
-- Assumes nothing.
use mathlib.Core.Path.{◌≡◌, refl}
use mathlib.Core.List.{List}
use Prim.Native.Nat.{ℕ, suc, ◌+◌, ◌*◌}
use native.Mathlib.Omega.{arith}
use lib.ListN.{get_or}
use Rattle.bundle_storage.specs.Storage.{cursor_at, Placed}
use Rattle.bundle_layout.specs.Fields.{blocks_in, count_in, offset_in}
use Rattle.bundle_gather.specs.Gathering.{cursor_held}
use Rattle.bundle_gather.proofs.Gathering.{cursor_small, placed_read, stored_one}
use Rattle.bundle_gather.proofs.symbols.gather_one.Goals as goal
use Rattle.bundle_gather.proofs.symbols.gather_one.Goals.{After-cursor_after}

moved_on : (s : List ℕ) (b t next : ℕ) → next ≡ cursor_at (offset_in s t) (count_in s t) s (suc b) → next ≡ cursor_held s (suc b) t
unfolding cursor_held
moved_on s b t next is = is

pub symbol_in-symbol-requires : goal.symbol_in-symbol-requires
symbol_in-symbol-requires c =
    let s = c.args.bundle.bytes.now in (
      offset_in s c.args.t,
      blocks_in s,
      count_in s c.args.t,
      placed_read s c.args.bundle.good c.args.b c.args.t c.args.size c.args.cells.now c.requires.held.1 c.requires.held.2 c.requires.fixed.0
          _ refl _ _ refl refl c.requires.fixed.1 c.requires.held.0,
    )

placed : (c : After-cursor_after)
    → let s = c.args.bundle.bytes.now in
    Placed (offset_in s c.args.t) (blocks_in s) (count_in s c.args.t) s c.args.b
    (get_or c.args.cells.now (5 * c.args.size + c.args.t) 0)
    (get_or c.args.cells.now (6 * c.args.size + c.args.t) 0)
placed c =
    placed_read c.args.bundle.bytes.now c.args.bundle.good c.args.b c.args.t c.args.size c.args.cells.now c.requires.held.1 c.requires.held.2
    c.requires.fixed.0 _ refl _ _ refl refl c.requires.fixed.1 c.requires.held.0

next : (c : After-cursor_after) → c.cursor_after.result ≡ cursor_held c.args.bundle.bytes.now (suc c.args.b) c.args.t
next c =
    moved_on c.args.bundle.bytes.now c.args.b c.args.t _
    (c.cursor_after.ensures _ _ _ c.args.b _ c.args.bundle.bytes.now c.known_as_bytes.ensures (placed c) (c.symbol_in-symbol.ensures _ _ _ (placed c)))

pub overflow_cast-cells : goal.overflow_cast-cells
overflow_cast-cells c =
    omega (
      arith,
      next c,
      cursor_small c.args.bundle.bytes.now c.args.bundle.good c.args.t c.requires.held.1 c.known_as_bytes.ensures (suc c.args.b),
    )

pub returns : goal.returns
returns c =
    stored_one c.args.bundle.bytes.now c.args.bundle.good c.args.b c.args.t c.args.size c.args.cells.now c.requires.held.1 c.requires.held.2
    c.requires.fixed.0 _ refl _ _ _ (c.symbol_in-symbol.ensures _ _ _ (placed c)) c.product-value.ensures.is (next c)
