-- The values h at the N points are those of a polynomial times the product M of X - z over the missing points z: which polynomial that is.
use Rattle.std.specs.Prelude.{◌≡◌, Bool, true, false, List, ℕ, ◌+◌, ◌*◌, ◌<◌, ◌≤◌, length, get_or}
use Rattle.field.specs.Congruence.{◌≈◌}
use Rattle.field.specs.Points.{point_of}
use Rattle.field.specs.Symbol.{Symbols}
use Rattle.poly.specs.Distinct.{Distinct}
use Rattle.lists.specs.Every.{Every}
use Rattle.poly.specs.Products.{vanishing}
use Rattle.poly.specs.Value.{value}

-- f has k symbols, and f·M has the values h
pub record Divides (k : ℕ) (zs h f : List ℕ) : Type 0 where
  pub long : length f ≡ k
  pub symbols : Symbols f
  pub at : (j : ℕ) → j < length h
      → value f (point_of (length h) j) * value (vanishing zs) (point_of (length h) j) ≈ get_or h j 0

-- the missing points are points of the code word, each once, h is 0 there, and at least k others are left
pub record ZeroAt (k : ℕ) (zs h : List ℕ) : Type 0 where
  pub few : k + length zs ≤ length h
  pub distinct : Distinct zs
  pub none : Every (λ z. (j : ℕ) × (j < length h) × (z ≡ point_of (length h) j) × (get_or h j 0 ≡ 0)) zs

-- f, or that there is none
abbrev pub Divided : Bool → ℕ → List ℕ → List ℕ → List ℕ → Type 0
Divided true k zs h f = Divides k zs h f
Divided false k zs h f = (g : List ℕ) → ¬ Divides k zs h g
