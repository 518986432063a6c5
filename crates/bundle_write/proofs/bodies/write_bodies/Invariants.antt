-- What the loop of `bundle_write::bodies::write_bodies` keeps true.
use Rattle.bundle_file.specs.File.{file_bundle}
use Rattle.bundle_file.specs.Counts.{Counted}
use Rattle.bundle_front.specs.Onward.{Onward}
use Rattle.bundle_write.specs.Writing.{Progress}
use Rattle.bundle_write.proofs.bodies.write_bodies.Given as goal

abbrev pub invariant-loop-b : goal.invariant-loop-b
invariant-loop-b l =
    Onward (file_bundle l.source.k l.source.n l.source.file.now) l.initial.out l.out
    × Progress l.source.k l.source.n l.source.file.now l.b l.out × Counted l.source.k l.source.n l.source.file.now l.b l.cells
