-- What a step of writing a bundle may do, and what then stands in the output.
use Rattle.std.specs.Prelude.{◌≡◌, List, ℕ, ◌<◌, ◌≤◌, length, get_or, drop}

-- the bundle's bytes from an index up to another stand in out
abbrev pub Stand : ℕ → ℕ → List ℕ → List ℕ → Type 0
Stand from to bundle out = (p : ℕ) → from ≤ p → p < to → get_or out p 0 ≡ get_or bundle p 0

-- what writing may do: each byte of the bundle that stood there stands, and behind the bundle's end all is as it was
pub record Onward (bundle before after : List ℕ) : Type 0 where
  pub long : length after ≡ length before
  pub keeps : (p : ℕ) → get_or before p 0 ≡ get_or bundle p 0 → get_or after p 0 ≡ get_or bundle p 0
  pub behind : drop (length bundle) after ≡ drop (length bundle) before
