-- A list with its highest coefficient 1 and zeros behind it, up to twice its length: its value, and how it comes to stand in cells of which it
-- fills the front half.
-- Assumes nothing.
use mathlib.Core.Path.{◌≡◌, sym, ap, ap₂, ◌∙◌}
use mathlib.Core.List.{List, ◌∷◌, ◌++◌, append-nil}
use Prim.Native.Nat.{ℕ, suc, ◌+◌, ◌-◌, ◌^◌, ◌/◌, ◌<◌}
use native.Mathlib.Omega.{arith}
use lib.Dec.{lit<}
use lib.ListN.{length, take, drop, set, replicate, length-append, length-replicate, length-drop, drop_of_length-le}
use lib.Seq.{length-take-le, set_at, take_all}
use Rattle.field.specs.Size.{size_of}
use Rattle.field.specs.Symbol.{Symbols}
use Rattle.lists.specs.Every.{Every}
use Rattle.poly.specs.Value.{value}
use Rattle.lists.proofs.Every.{every_replicate}
use Rattle.poly.proofs.Symbols.{append_symbols, symbols_at}
use Rattle.poly.proofs.Values.{value_append, value_zeros}
use Rattle.transform_halving.specs.Transformable.{Transformable}
use Rattle.decode_product.specs.Factors.{padded_monic}
use Rattle.decode_product.specs.Halves.{SymbolsInFront}
use Rattle.decode_product.proofs.Quarters.{even_of}

pub padded_length : (a : List ℕ) → 0 < length a → length (padded_monic a) ≡ length a + length a
padded_length a some = length-append a _ ∙ omega (arith, length-replicate {A = ℕ} (length a - 1) 0)

padded_symbols : (a : List ℕ) → Symbols a → Symbols (padded_monic a)
unfolding Every
padded_symbols a small =
    append_symbols a _ small (symbols_at (1 ∷ replicate (length a - 1) 0) (lit< tt, every_replicate (◌< 65537) (length a - 1) 0 (lit< tt)))

pub padded_value : (a : List ℕ) (x : ℕ) → value (padded_monic a) x ≡ value a x + x ^ length a
unfolding value
padded_value a x = value_append a _ x ∙ rw value_zeros (omega arith)

module _ (d : List ℕ) (good : SymbolsInFront d) where
  half : ℕ
  half = length d / 2

  even : length d ≡ half + half
  unfolding half
  even = even_of d good.0 good.1

  front_length : length (take half d) ≡ half
  front_length = length-take-le half d (omega (arith, even))

  pub whole_length : length (padded_monic (take (length d / 2) d)) ≡ length d
  unfolding half
  whole_length = padded_length (take half d) (omega (arith, front_length, even, good.1)) ∙ omega (arith, front_length, even)

  pub padded_transformable : Transformable (padded_monic (take (length d / 2) d))
  unfolding half
  padded_transformable =
      record {
        size = whole_length ∙ good.0 ∙ ap size_of (sym whole_length);
        symbols = padded_symbols (take half d) good.2;
      }

  -- the cells behind the list cleared, and 1 written to the first of them
  pub padded_in_place : (e : List ℕ) → e ≡ replicate (length (take (length d - length d / 2) (drop (length d / 2) d))) 0
      → set (take (length d / 2) d ++ (e ++ drop (length d - length d / 2) (drop (length d / 2) d))) (length d / 2) 1 ≡ padded_monic (take (length d / 2) d)
  unfolding half
  padded_in_place e is =
      ap (λ (s : List ℕ). set (take half d ++ s) half 1)
      (ap₂ ◌++◌ (is ∙ ap (λ (m : ℕ). replicate m 0) zeros) (drop_of_length-le (drop half d) {i = length d - half} (omega (arith, length-drop half d)))
      ∙ append-nil (0 ∷ replicate (length (take half d) - 1) 0))
      ∙ set_at (take half d) 0 _ 1 half front_length
    where
      zeros : length (take (length d - half) (drop half d)) ≡ suc (length (take half d) - 1)
      zeros =
          ap length (take_all (length d - half) (drop half d) (omega (arith, length-drop half d)))
          ∙ length-drop half d ∙ omega (arith, front_length, even, good.1)
