-- `bundle_write::bodies::write_all` meets its contract: the bundle is written with 2N cells, and all cells are cleared.
-- Assumes nothing.
use Prim.Native.Nat.{◌*◌}
use native.Mathlib.Omega.{arith}
use Rattle.field.specs.Size.{size_of}
use Rattle.answers.proofs.Leaves.{lent_length}
use Rattle.bundle_layout.specs.Rooms.{bundle_work}
use Rattle.bundle_front.proofs.Bundling.{bundle_room}
use Rattle.bundle_write.proofs.bodies.write_all.Goals as goal

pub write_within-length-requires : goal.write_within-length-requires
unfolding bundle_work
write_within-length-requires c =
    let s = c.args.source in (
      omega (arith, bundle_room s.k s.n s.file.now s.shaped, c.requires.0),
      lent_length (2 * c.size-size.result) (2 * size_of s.n) c.args.cells.now (omega (arith, c.size-size.ensures.0)) (omega (arith, c.requires.1)),
    )
