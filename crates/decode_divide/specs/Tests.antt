-- The test of a product's degree: whether its coefficients are 0 from an index on.
use Rattle.std.specs.Prelude.{◌≡◌, Bool, true, false, List, ℕ, ◌<◌, ◌≤◌, length, get_or}

-- all numbers from an index on are 0
abbrev pub ZeroFrom : ℕ → List ℕ → Type 0
ZeroFrom from s = (i : ℕ) → from ≤ i → i < length s → get_or s i 0 ≡ 0

-- that a test says yes where something holds, and no where it does not
abbrev pub Decides : Bool → Type 0 → Type 0
Decides true holds = holds
Decides false holds = ¬ holds
