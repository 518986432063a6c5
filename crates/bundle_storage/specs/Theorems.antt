-- What is proved of the storage, as statements: proofs/Theorems.antt proves each under the same name in small letters.
use Rattle.std.specs.Prelude.{◌≡◌, true, List, ◌++◌, ℕ, ◌<◌, ◌≤◌, length}
use Rattle.bundle_storage.specs.Blocks.{most_blocks}
use Rattle.bundle_storage.specs.Bytes.{Bytes}
use Rattle.bundle_storage.specs.Storage.{count_of, body_of, body_size, body_good, symbol_in}

-- A body stores its symbols, whatever stands behind it

pub record Stores (B : ℕ) (e : ℕ → ℕ) (behind : List ℕ) : Type 0 where
  pub long : length (body_of B e) ≡ body_size B (count_of B e)
  pub bytes : Bytes (body_of B e)
  pub good : body_good B (count_of B e) (body_of B e ++ behind) ≡ true
  pub symbols : (b : ℕ) → b < B → symbol_in (count_of B e) (body_of B e ++ behind) b ≡ e b

abbrev pub BodyStores : Type 0
BodyStores =
    (B : ℕ) (e : ℕ → ℕ) (behind : List ℕ) → B ≤ most_blocks → ((b : ℕ) → b < B → e b < 65537) → Stores B e behind

-- what is read of bytes is a symbol
abbrev pub SymbolsRead : Type 0
SymbolsRead = (c b : ℕ) (s : List ℕ) → Bytes s → symbol_in c s b < 65537
