-- `bundle_write::bodies::write_within` meets its contract: the counts make the table, and behind it stand the bodies of the first pass, or of the second.
-- Assumes nothing.
use mathlib.Core.Path.{sym, ◌∙◌}
use native.Mathlib.Omega.{arith}
use Rattle.bundle_file.proofs.Counting.{none_over}
use Rattle.bundle_write.proofs.Filling.{plain_stands, second_begun}
use Rattle.bundle_write.proofs.bodies.write_within.Goals as goal

pub returns-then-none_counted-clause-out_after : goal.returns-then-none_counted-clause-out_after
returns-then-none_counted-clause-out_after c =
    let s = c.args.source in
    let first = c.write_plain.ensures in
    let front = c.write_front-length.ensures in
    plain_stands s.k s.n s.file.now s.shaped c.args.out.now c.write_plain.new.out c.write_front-length.new.out first.plainly first.plain front.onward front.stand
    (none_over s.n _ c.write_plain.new.cells c.size.ensures s.k s.file.now _ first.counted (sym c.none_counted.ensures ∙ c.if-none_counted.true))

pub write_bodies-requires : goal.write_bodies-requires
write_bodies-requires c =
    let s = c.args.source in
    let first = c.write_plain.ensures in
    let front = c.write_front-length.ensures in
    (second_begun s.k s.n s.file.now s.shaped c.args.out.now c.write_plain.new.out c.write_front-length.new.out first.plainly first.plain front.onward front.stand, omega (arith, first.counted.long))
