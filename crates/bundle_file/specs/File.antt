-- The file as messages, and its shadows (document 01, "The bundle").
use Rattle.std.specs.Prelude.{◌≡◌, true, List, ◌++◌, map, ℕ, ◌+◌, ◌*◌, ◌-◌, length, get_or, replicate}
use Rattle.lists.specs.Tab.{tab}
use Rattle.code.specs.Code.{symbol_of}
use Rattle.bundle_layout.specs.Blocks.{blocks_of}
use Rattle.bundle_storage.specs.Bytes.{two_at}
use Rattle.bundle_layout.specs.Held.{up_to}
use Rattle.bundle_storage.specs.Rising.{rises}
use Rattle.bundle_layout.specs.Shadows.{Shadow, bundle_of}
use Rattle.bundle_storage.specs.Storage.{count_of, body_of}

-- "padded with zero bytes to whole blocks of 2k bytes"
unfoldable pub padded : ℕ → List ℕ → List ℕ
padded k file = file ++ replicate (2 * (k * blocks_of k (length file)) - length file) 0

-- "The file is read as words of two bytes": the k of block b
unfoldable pub message_at : ℕ → List ℕ → ℕ → List ℕ
message_at k file b = tab k (λ i. two_at (padded k file) (2 * (k * b + i)))

-- e_i of block b
unfoldable pub symbol_at : ℕ → ℕ → List ℕ → ℕ → ℕ → ℕ
symbol_at k n file i b = symbol_of n (message_at k file b) i

-- the overflow count of shadow i
abbrev pub count_at : ℕ → ℕ → List ℕ → ℕ → ℕ
count_at k n file i = count_of (blocks_of k (length file)) (symbol_at k n file i)

-- "Symbol e_i of block b is word b of shadow i."
unfoldable pub shadow_of : ℕ → ℕ → List ℕ → ℕ → Shadow
shadow_of k n file i =
    record {
      position = i;
      count = count_at k n file i;
      body = body_of (blocks_of k (length file)) (symbol_at k n file i);
    }

-- positions of a code word of length n, rising strictly
abbrev pub Rising : ℕ → List ℕ → Type 0
Rising n positions = rises n (length positions) (λ t. get_or positions t 0) ≡ true

-- the bundle that holds the file's shadows at these positions
unfoldable pub bundle_at : ℕ → ℕ → List ℕ → List ℕ → List ℕ
bundle_at k n file positions = bundle_of k n (length file) (map (shadow_of k n file) positions)

-- "The writer holds all n shadows."
unfoldable pub file_bundle : ℕ → ℕ → List ℕ → List ℕ
file_bundle k n file = bundle_at k n file (up_to n)
