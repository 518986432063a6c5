-- N, the smallest power of two that is at least n (document 01, "One block"), for n up to 65536, where the table of roots ends.
use Rattle.std.specs.Prelude.{◌≡◌, ℕ, ◌^◌, ◌<◌, leb}
use Rattle.answers.specs.First.{first}

-- the index of N's root in the table: the first e below 16 for which 2 ^ e is at least n, else 16
unfoldable pub level_of : ℕ → ℕ
level_of n = first 16 (λ e. leb n (2 ^ e))

-- N
unfoldable pub size_of : ℕ → ℕ
size_of n = 2 ^ level_of n

-- r is that index, and in the table
pub record IsLevel (r n : ℕ) : Type 0 where
  pub is : r ≡ level_of n
  pub small : r < 17
