-- What the loop of `bundle_first_pass::store_plain` keeps true.
use mathlib.Core.Path.{◌≡◌}
use Prim.Native.Nat.{ℕ, suc, ◌<◌}
use lib.ListN.{length}
use Rattle.bundle_layout.specs.Blocks.{blocks_of}
use Rattle.bundle_first_pass.specs.Filled.{Filled}
use Rattle.bundle_first_pass.specs.Plain.{NoneOver, Plainly}
use Rattle.bundle_first_pass.proofs.Laying.{plain_at}
use Rattle.bundle_first_pass.proofs.store_plain.Given as goal

abbrev pub invariant-loop-symbol : goal.invariant-loop-symbol
invariant-loop-symbol l =
    (l.at ≡ plain_at l.source.n (blocks_of l.source.k (length l.source.file.now)) l.symbol-index)
    × Plainly l.source.k l.source.n l.source.file.now l.initial.out l.out
    × (NoneOver l.source.k l.source.n l.source.file.now → (j : ℕ) → j < l.symbol-index
    → Filled l.source.k l.source.n l.source.file.now (suc l.b) j l.out)
