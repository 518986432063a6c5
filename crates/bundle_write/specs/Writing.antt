-- How far the writer has come: the bytes of the bundle in its output, block by block.
use Rattle.std.specs.Prelude.{List, ℕ, ◌<◌, ◌≤◌, length}
use Rattle.bundle_layout.specs.Shadows.{first_body}
use Rattle.bundle_front.specs.Onward.{Stand}
use Rattle.bundle_file.specs.File.{file_bundle}
use Rattle.bundle_first_pass.specs.Filled.{Filled}

-- header and table are there, and the first b blocks
pub record Progress (k n : ℕ) (file : List ℕ) (b : ℕ) (out : List ℕ) : Type 0 where
  pub room : length (file_bundle k n file) ≤ length out
  pub front : Stand 0 (first_body n) (file_bundle k n file) out
  pub bodies : (i : ℕ) → i < n → Filled k n file b i out
