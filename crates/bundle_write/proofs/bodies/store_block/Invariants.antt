-- What the loop of `bundle_write::bodies::store_block` keeps true.
use Prim.Native.Nat.{ℕ, suc, ◌<◌}
use Rattle.bundle_file.specs.File.{file_bundle}
use Rattle.bundle_front.specs.Onward.{Onward}
use Rattle.bundle_first_pass.specs.Filled.{Filled}
use Rattle.bundle_write.proofs.bodies.store_block.Given as goal

abbrev pub invariant-loop-i : goal.invariant-loop-i
invariant-loop-i l =
    Onward (file_bundle l.source.k l.source.n l.source.file.now) l.initial.out l.out
    × ((j : ℕ) → j < l.i → Filled l.source.k l.source.n l.source.file.now (suc l.b) j l.out)
