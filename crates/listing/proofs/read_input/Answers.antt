-- `listing::read_input`: a read puts what it takes behind what came before.
-- Assumes nothing.
use Rattle.std.proofs.Common.{rules, length, ◌-◌, subst}
use Rattle.std.specs.Io.KnownBytes.{Consumes}
use Rattle.std.proofs.KnownBytes.{Consumes-trans}
use Rattle.listing.proofs.Parts.{front_put}
use Rattle.listing.proofs.read_input.Goals as goal

pub loop-done-preserved : goal.loop-done-preserved
loop-done-preserved g c =
    let read = c.in-Ok.ensures in
    let at = c.loop-done.done in
    let joined = front_put at (length c.loop-done.input - at) c.in-Ok.more c.loop-done.input c.read.new.buf c.loop-done.invariant.0 read.bound.0 in
    (search rules, search rules, subst (Consumes _ _) joined (Consumes-trans _ _ _ _ _ c.loop-done.invariant.2 read.bytes.0))
