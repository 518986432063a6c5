-- `bundle_gather::symbols::gather` meets its contract: at the loop's head the first t shadows are gathered.
-- Assumes nothing.
use mathlib.Core.Path.{◌≡◌, refl, sym, ap, ◌∙◌}
use mathlib.Core.List.{List}
use Prim.Native.Nat.{ℕ, suc, ◌+◌, ◌*◌}
use native.Mathlib.Nat.{le_of_eq}
use native.Mathlib.Omega.{arith}
use lib.ListN.{get_or, set}
use Rattle.field.specs.Size.{size_of}
use Rattle.bundle_layout.specs.Fields.{n_in, position_in}
use Rattle.bundle_gather.specs.Gathering.{cursor_held, weighted_held}
use Rattle.bundle_gather.proofs.Kept.{below}
use Rattle.bundle_gather.proofs.Gathering.{cells_long, shadow_inside, place_inside, passed_none, passed_more, passed_all}
use Rattle.bundle_gather.proofs.symbols.gather.Goals as goal

-- size and held are what the code worked out

size_is : (s : List ℕ) (n size : ℕ) → n ≡ n_in s → size ≡ size_of n → size ≡ size_of (n_in s)
size_is s n size first second = second ∙ ap size_of first

stored : (s : List ℕ) (b t size : ℕ) (cells now : List ℕ) → size ≡ size_of (n_in s)
    → now ≡ set (set cells (position_in s t) (weighted_held s b t)) (6 * size + t) (cursor_held s (suc b) t)
    → now ≡ set (set cells (position_in s t) (weighted_held s b t)) (6 * size_of (n_in s) + t) (cursor_held s (suc b) t)
stored s b t size cells now is step =
    step ∙ ap (λ (N : ℕ). set (set cells (position_in s t) (weighted_held s b t)) (6 * N + t) (cursor_held s (suc b) t)) is

pub slice_bounds-clear-end : goal.slice_bounds-clear-end
slice_bounds-clear-end c = omega (arith, cells_long c.args.bundle.bytes.now c.args.bundle.good _ c.args.cells.now (size_is c.args.bundle.bytes.now _ _ c.n.ensures.0 c.size-size.ensures) c.requires.1.fixed.long)

pub loop-t-init : goal.loop-t-init
loop-t-init c = (passed_none c.args.bundle.bytes.now c.args.bundle.good c.args.b _ c.args.cells.now _ (size_is c.args.bundle.bytes.now _ _ c.n.ensures.0 c.size-size.ensures) c.requires.1 c.clear.ensures)

pub gather_one-requires : goal.gather_one-requires
gather_one-requires c =
    let l = c.loop-t in
    let s = c.args.bundle.bytes.now in
    let h = below _ _ _ c.loop-t-test.true c.held-t-end.ensures.0 in
    let is = size_is s _ _ c.n.ensures.0 c.size-size.ensures in
    let room = shadow_inside s c.args.bundle.good _ l.t l.cells is h l.invariant.fixed.long in
    record {
      held = (c.requires.0, h, is);
      room = (room.0, room.1, place_inside s c.args.bundle.good c.args.b l.t _ l.cells h is l.invariant.fixed _ refl);
      fixed = (l.invariant.fixed, ap (λ (N : ℕ). get_or l.cells (6 * N + l.t) 0) is ∙ l.invariant.left l.t (le_of_eq refl) h);
    }

pub loop-t-preserved : goal.loop-t-preserved
loop-t-preserved c =
    let l = c.loop-t in
    let s = c.args.bundle.bytes.now in
    passed_more s c.args.bundle.good c.args.b l.t (below _ _ _ c.loop-t-test.true c.held-t-end.ensures.0) l.cells _ l.invariant
    (stored s c.args.b l.t _ l.cells _ (size_is s _ _ c.n.ensures.0 c.size-size.ensures) c.gather_one.ensures)

pub shape_of-cells : goal.shape_of-cells
shape_of-cells c = c.loop-t.invariant.fixed.long ∙ sym c.requires.1.fixed.long

pub returns : goal.returns
returns c =
    let l = c.loop-t in
    passed_all c.args.bundle.bytes.now c.args.bundle.good c.args.b l.t l.cells (omega (arith, c.loop-t-test.false, c.held-t-end.ensures.0)) l.invariant
