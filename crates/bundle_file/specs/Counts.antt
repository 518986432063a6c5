-- What the cells hold while overflows are counted: the code word of a block in front, the counts behind it.
use Rattle.std.specs.Prelude.{◌≡◌, Bool, cond, not, List, ℕ, ◌+◌, ◌*◌, ◌<◌, leb, eqb, length, get_or}
use Rattle.answers.specs.First.{first}
use Rattle.field.specs.Size.{size_of}
use Rattle.bundle_storage.specs.Storage.{count_of}
use Rattle.bundle_file.specs.File.{symbol_at}

-- a count with one symbol more
unfoldable pub tallied : ℕ → ℕ → ℕ
tallied count x = count + cond (eqb x 65536) 1 0

-- each of n counts from an index on is 0
unfoldable pub none_counted : ℕ → ℕ → List ℕ → Bool
none_counted n size cells = leb n (first n (λ i. not (eqb (get_or cells (size + i) 0) 0)))

-- the front cells hold the symbols of block b
abbrev pub Coded : ℕ → ℕ → List ℕ → ℕ → List ℕ → Type 0
Coded k n file b cells = (i : ℕ) → i < n → get_or cells i 0 ≡ symbol_at k n file i b

-- of 2N cells those from N on hold the overflow counts of the first b blocks
pub record Counted (k n : ℕ) (file : List ℕ) (b : ℕ) (cells : List ℕ) : Type 0 where
  pub long : length cells ≡ 2 * size_of n
  pub counts : (i : ℕ) → i < n → get_or cells (size_of n + i) 0 ≡ count_of b (symbol_at k n file i)
