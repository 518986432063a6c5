-- The bitmap of positions: one bit for each position, 32 to a cell.
use Rattle.std.specs.Prelude.{Bool, List, ℕ, ◌+◌, ◌/◌, ◌%◌, ◌^◌, eqb, get_or, set}

-- the bit of the position is 1
unfoldable pub seen : List ℕ → ℕ → Bool
seen map position = eqb (get_or map (position / 32) 0 / 2 ^ (position % 32) % 2) 1

-- the map after that bit, which was 0, became 1
unfoldable pub with_seen : List ℕ → ℕ → List ℕ
with_seen map position = set map (position / 32) (get_or map (position / 32) 0 + 2 ^ (position % 32))
