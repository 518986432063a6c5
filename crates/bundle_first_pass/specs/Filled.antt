-- How far a body is written: the bytes of the bundle in the output, block by block.
use Rattle.std.specs.Prelude.{List, ℕ, ◌+◌, ◌*◌, length}
use Rattle.bundle_layout.specs.Blocks.{blocks_of}
use Rattle.bundle_layout.specs.Fields.{offset_in}
use Rattle.bundle_storage.specs.Storage.{count_of}
use Rattle.bundle_front.specs.Onward.{Stand}
use Rattle.bundle_file.specs.File.{symbol_at, file_bundle}

-- the first b symbols are in the body of shadow i: what is listed of them, and their words
pub record Filled (k n : ℕ) (file : List ℕ) (b i : ℕ) (out : List ℕ) : Type 0 where
  pub list :
      Stand (offset_in (file_bundle k n file) i) (offset_in (file_bundle k n file) i + 2 * count_of b (symbol_at k n file i)) (file_bundle k n file) out
  pub words :
      Stand (offset_in (file_bundle k n file) i + 2 * count_of (blocks_of k (length file)) (symbol_at k n file i))
      (offset_in (file_bundle k n file) i + (2 * count_of (blocks_of k (length file)) (symbol_at k n file i) + 2 * b))
      (file_bundle k n file) out
