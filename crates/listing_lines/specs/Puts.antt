-- What it is to put text into lent bytes from an index on.
use Rattle.std.specs.Prelude.{◌≡◌, List, ℕ, ◌+◌, ◌≤◌, length}
use Rattle.bundle_storage.specs.Bytes.{put}

-- the text stands from `at` on, the rest is as it was before; the answer is where it ends, at most `most` further on
pub record Puts (text : List ℕ) (most at : ℕ) (before : List ℕ) (end : ℕ) (after : List ℕ) : Type 0 where
  pub is : after ≡ put text at before
  pub ends : end ≡ at + length text
  pub short : length text ≤ most
