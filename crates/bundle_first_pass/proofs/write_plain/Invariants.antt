-- What the loop of `bundle_first_pass::write_plain` keeps true.
use Rattle.bundle_file.specs.Counts.{Counted}
use Rattle.bundle_first_pass.specs.Plain.{Plainly, Plain}
use Rattle.bundle_first_pass.proofs.write_plain.Given as goal

abbrev pub invariant-loop-b : goal.invariant-loop-b
invariant-loop-b l =
    Plainly l.source.k l.source.n l.source.file.now l.initial.out l.out × Plain l.source.k l.source.n l.source.file.now l.b l.out
    × Counted l.source.k l.source.n l.source.file.now l.b l.cells
