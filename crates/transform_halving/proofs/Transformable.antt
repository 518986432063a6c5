-- Lists that can be transformed: 2 ^ k symbols for a k of the table of roots.
-- Assumes nothing.
use mathlib.Core.Path.{◌≡◌, sym, ap, ◌∙◌}
use mathlib.Core.List.{List}
use Prim.Native.Nat.{ℕ, ◌^◌, ◌≤◌}
use native.Mathlib.Omega.{arith}
use lib.ListN.{length}
use lib.Pow.{pow_mono}
use Rattle.field.specs.Size.{level_of, size_of}
use Rattle.field.specs.Symbol.{Symbols}
use Rattle.field.proofs.Sizes.{level_le, size_power, size_of_power}
use Rattle.transform_halving.specs.Transformable.{Transformable}

pub transformable_of : (k : ℕ) → k ≤ 16 → (s : List ℕ) → length s ≡ 2 ^ k → Symbols s → Transformable s
transformable_of k h s long small = record { size = long ∙ sym (ap size_of long ∙ size_of_power k h); symbols = small }

pub transformable_power : (s : List ℕ) → Transformable s → length s ≡ 2 ^ level_of (length s)
transformable_power s able = able.size ∙ size_power (length s)

pub transformable_short : (s : List ℕ) → Transformable s → length s ≤ 65536
transformable_short s able = omega (arith, transformable_power s able, pow_mono (level_le (length s)))
