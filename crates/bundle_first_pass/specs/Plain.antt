-- What the first pass may do, and what then stands in the output: of the bundle's bytes it is sure only if no symbol overflows.
use Rattle.std.specs.Prelude.{◌≡◌, List, ℕ, ◌<◌, ◌≤◌, length, drop}
use Rattle.bundle_front.specs.Onward.{Onward}
use Rattle.bundle_file.specs.File.{count_at, file_bundle}
use Rattle.bundle_first_pass.specs.Filled.{Filled}

-- no symbol of the file overflows
abbrev pub NoneOver : ℕ → ℕ → List ℕ → Type 0
NoneOver k n file = (i : ℕ) → i < n → count_at k n file i ≡ 0

-- what a step of it may do: behind the bundle's end all is as it was, and if no symbol overflows it is a step of writing the bundle
pub record Plainly (k n : ℕ) (file before after : List ℕ) : Type 0 where
  pub long : length after ≡ length before
  pub behind : drop (length (file_bundle k n file)) after ≡ drop (length (file_bundle k n file)) before
  pub onward : NoneOver k n file → Onward (file_bundle k n file) before after

-- the first b blocks are in the bodies if no symbol overflows
pub record Plain (k n : ℕ) (file : List ℕ) (b : ℕ) (out : List ℕ) : Type 0 where
  pub room : length (file_bundle k n file) ≤ length out
  pub bodies : NoneOver k n file → (i : ℕ) → i < n → Filled k n file b i out
