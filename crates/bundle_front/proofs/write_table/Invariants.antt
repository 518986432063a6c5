-- What the loop of `bundle_front::write_table` keeps true.
use mathlib.Core.Path.{◌≡◌}
use Rattle.bundle_layout.specs.Fields.{entry_at}
use Rattle.bundle_layout.specs.Shadows.{header_size}
use Rattle.bundle_file.specs.File.{file_bundle}
use Rattle.bundle_front.specs.Onward.{Stand, Onward}
use Rattle.bundle_front.proofs.Bundling.{body_at}
use Rattle.bundle_front.proofs.write_table.Given as goal

abbrev pub invariant-loop-i : goal.invariant-loop-i
invariant-loop-i l =
    (l.at ≡ body_at l.source.k l.source.n l.source.file.now l.i)
    × Onward (file_bundle l.source.k l.source.n l.source.file.now) l.initial.out l.out
    × Stand header_size (entry_at l.i) (file_bundle l.source.k l.source.n l.source.file.now) l.out
