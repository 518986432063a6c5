-- The held symbols: positions of the code word, and the value held for each.
use Rattle.std.specs.Prelude.{List, ℕ, length}

pub record Held : Type 0 where
  pub positions : List ℕ
  pub values : List ℕ

-- m, how many are held
abbrev pub held_count : Held → ℕ
held_count h = length h.positions

-- all symbols that are given are held: "all m are compared"
unfoldable pub held : List ℕ → List ℕ → Held
held positions values = record { positions = positions; values = values }
