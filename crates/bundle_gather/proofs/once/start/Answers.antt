-- `bundle_gather::once::start` meets its contract: the shadows are laid, their positions marked, and what the preparation makes of the marks is kept.
-- Assumes nothing.
use mathlib.Core.Path.{sym, ap, ◌∙◌}
use native.Mathlib.Omega.{arith}
use Rattle.field.specs.Size.{size_of}
use Rattle.field.proofs.Sizes.{size_small}
use Rattle.bundle_gather.proofs.Gathering.{cells_long}
use Rattle.bundle_gather.proofs.Starting.{marks_room, prepare_asked, marked_room, made_room, laid_start}
use Rattle.bundle_gather.proofs.once.start.Goals as goal

pub overflow_mul-marks : goal.overflow_mul-marks
overflow_mul-marks c = omega (arith, size_small _ _ c.size-size.ensures)

pub overflow_mul-powers : goal.overflow_mul-powers
overflow_mul-powers c = omega (arith, size_small _ _ c.size-size.ensures)

pub overflow_mul-weights : goal.overflow_mul-weights
overflow_mul-weights c = omega (arith, size_small _ _ c.size-size.ensures)

pub lay_shadows-requires : goal.lay_shadows-requires
lay_shadows-requires c = (c.size-size.ensures ∙ ap size_of c.n-n.ensures.0, cells_long c.args.bundle.bytes.now c.args.bundle.good _ c.args.cells.now (c.size-size.ensures ∙ ap size_of c.n-n.ensures.0) c.requires.1)

pub offset_bounds-cells-marks : goal.offset_bounds-cells-marks
offset_bounds-cells-marks c = omega (arith, size_small _ _ c.size-size.ensures)

pub slice_bounds-mark_held-end : goal.slice_bounds-mark_held-end
slice_bounds-mark_held-end c = omega (arith, (c.lay_shadows.auto.cells ∙ cells_long c.args.bundle.bytes.now c.args.bundle.good _ c.args.cells.now (c.size-size.ensures ∙ ap size_of c.n-n.ensures.0) c.requires.1))

pub mark_held-requires : goal.mark_held-requires
mark_held-requires c = (marks_room c.args.bundle.bytes.now c.args.bundle.good _ c.lay_shadows.new.cells (c.size-size.ensures ∙ ap size_of c.n-n.ensures.0) (c.lay_shadows.auto.cells ∙ cells_long c.args.bundle.bytes.now c.args.bundle.good _ c.args.cells.now (c.size-size.ensures ∙ ap size_of c.n-n.ensures.0) c.requires.1))

pub slice_bounds-prepare-end : goal.slice_bounds-prepare-end
slice_bounds-prepare-end c = omega (arith, marked_room c.args.bundle.bytes.now c.args.bundle.good _ _ _ c.k.ensures.0 c.n-n.ensures.0 c.size-size.ensures c.lay_shadows.new.cells c.mark_held.new.marks (c.lay_shadows.auto.cells ∙ cells_long c.args.bundle.bytes.now c.args.bundle.good _ c.args.cells.now (c.size-size.ensures ∙ ap size_of c.n-n.ensures.0) c.requires.1) c.mark_held.ensures)

pub prepare-missing-requires : goal.prepare-missing-requires
prepare-missing-requires c = prepare_asked c.args.bundle.bytes.now c.args.bundle.good _ _ _ c.k.ensures.0 c.n-n.ensures.0 c.size-size.ensures c.lay_shadows.new.cells c.mark_held.new.marks (c.lay_shadows.auto.cells ∙ cells_long c.args.bundle.bytes.now c.args.bundle.good _ c.args.cells.now (c.size-size.ensures ∙ ap size_of c.n-n.ensures.0) c.requires.1) c.mark_held.ensures c.requires.0

pub keep_weights-requires : goal.keep_weights-requires
keep_weights-requires c = made_room c.args.bundle.bytes.now c.args.bundle.good _ _ _ c.k.ensures.0 c.n-n.ensures.0 c.size-size.ensures c.lay_shadows.new.cells c.mark_held.new.marks c.prepare-missing.new.cells (c.lay_shadows.auto.cells ∙ cells_long c.args.bundle.bytes.now c.args.bundle.good _ c.args.cells.now (c.size-size.ensures ∙ ap size_of c.n-n.ensures.0) c.requires.1) c.mark_held.ensures c.lay_shadows.ensures c.prepare-missing.auto.cells

pub shape_of-cells : goal.shape_of-cells
shape_of-cells c =
    c.keep_weights.auto.cells
    ∙ made_room c.args.bundle.bytes.now c.args.bundle.good _ _ _ c.k.ensures.0 c.n-n.ensures.0 c.size-size.ensures c.lay_shadows.new.cells c.mark_held.new.marks c.prepare-missing.new.cells (c.lay_shadows.auto.cells ∙ cells_long c.args.bundle.bytes.now c.args.bundle.good _ c.args.cells.now (c.size-size.ensures ∙ ap size_of c.n-n.ensures.0) c.requires.1) c.mark_held.ensures c.lay_shadows.ensures c.prepare-missing.auto.cells
    ∙ sym (cells_long c.args.bundle.bytes.now c.args.bundle.good _ c.args.cells.now (c.size-size.ensures ∙ ap size_of c.n-n.ensures.0) c.requires.1)

pub returns : goal.returns
returns c = laid_start c.args.bundle.bytes.now c.args.bundle.good _ _ _ c.k.ensures.0 c.n-n.ensures.0 c.size-size.ensures c.lay_shadows.new.cells c.mark_held.new.marks c.prepare-missing.new.cells (c.lay_shadows.auto.cells ∙ cells_long c.args.bundle.bytes.now c.args.bundle.good _ c.args.cells.now (c.size-size.ensures ∙ ap size_of c.n-n.ensures.0) c.requires.1) c.mark_held.ensures c.lay_shadows.ensures c.prepare-missing.auto.cells _ c.prepare-missing.ensures _ c.keep_weights.ensures
