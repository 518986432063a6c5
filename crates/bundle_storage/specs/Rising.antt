-- Numbers that rise strictly, each below a limit: the positions of a table, and the block numbers of an overflow list.
use Rattle.std.specs.Prelude.{Bool, ◌||◌, ℕ, zero, suc, ltb, leb}
use Rattle.answers.specs.First.{first}

-- the least that the number at index j may be: one more than the number before it
unfoldable pub least : (ℕ → ℕ) → ℕ → ℕ
least f zero = 0
least f (suc j) = suc (f j)

unfoldable pub out_of_order : ℕ → (ℕ → ℕ) → ℕ → Bool
out_of_order limit f j = ltb (f j) (least f j) || leb limit (f j)

-- none of f 0 .. f (count - 1) is out of order
unfoldable pub rises : ℕ → ℕ → (ℕ → ℕ) → Bool
rises limit count f = leb count (first count (out_of_order limit f))
