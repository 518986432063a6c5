-- The product over a list of points from the products over its halves, as the cells hold it step by step.
-- Assumes nothing.
use mathlib.Core.Path.{◌≡◌, sym, ap, ap₂, subst, ◌∙◌}
use mathlib.Core.List.{List, ◌++◌, append_assoc}
use Prim.Native.Nat.{ℕ, ◌+◌, ◌-◌, ◌/◌, ◌<◌, ◌≤◌}
use native.Mathlib.Omega.{arith}
use lib.ListN.{length, take, drop, length-append, length-drop}
use lib.Seq.{length-take-le, take-add, take-append-le, take-take, take_at, drop_at}
use Rattle.std.specs.List.{copy_within}
use Rattle.field.specs.Size.{size_of}
use Rattle.field.specs.Symbol.{Symbols}
use Rattle.poly.proofs.Symbols.{symbols_at, symbols_every}
use Rattle.lists.specs.Every.{Every}
use Rattle.lists.proofs.Every.{every_left, every_right}
use Rattle.decode_product.specs.Factors.{lowers_of, monic_times}
use Rattle.decode_product.specs.Halves.{SymbolsInFront, TwoFactors, first_factor, second_factor}
use Rattle.decode_product.proofs.Lending.{front_length, front_read, back_length, back_read}
use Rattle.decode_product.proofs.Lowers.{lowers_symbols, lowers_append}
use Rattle.decode_product.proofs.Quarters.{Quarters, quarters_of, first_factor_length, second_factor_length}

-- e is d with the second half of the points at the front of the second half of the cells

module _ (d : List ℕ) (good : SymbolsInFront d) (many : 4 ≤ length d) (e : List ℕ) (kept : length e ≡ length d)
    (spread : e ≡ copy_within d (length d / 2 / 2) (length d / 2) (length d / 2)) where
  q : Quarters d
  q = quarters_of d good.0 many

  half : ℕ
  half = length d / 2

  end : ℕ
  end = half + (half - half / 2)

  moved : List ℕ
  moved = take (half - half / 2) (drop (half / 2) d)

  quarter : half - half / 2 ≡ length d / 4
  unfolding half
  quarter = omega (arith, q.half, q.quarter)

  whole : length (take half d) ≡ half
  unfolding half
  whole = length-take-le half d (omega arith)

  moved_length : length moved ≡ length d / 4
  unfolding half moved
  moved_length = length-take-le (half - half / 2) (drop (half / 2) d) (omega (arith, length-drop (half / 2) d)) ∙ quarter

  in_front : first_factor e ≡ take (length d / 4) d
  unfolding half moved end
  in_front =
      ap₂ (λ (n : ℕ) (l : List ℕ). take n l) {x = length e / 4} {y = length d / 4} (ap (λ (n : ℕ). n / 4) kept) (spread ∙ append_assoc (take half d) moved (drop end d))
      ∙ take-append-le (length d / 4) (take half d) _ (omega (arith, whole))
      ∙ take-take (length d / 4) half d (omega arith)

  behind : second_factor e ≡ take (length d / 4) (drop (length d / 4) d)
  unfolding half moved end
  behind =
      ap₂ (λ (n m : ℕ). take n (drop m e)) {x = length e / 4} {y = length d / 4} (ap (λ (n : ℕ). n / 4) kept) (ap (λ (n : ℕ). n / 2) kept)
      ∙ ap (λ (l : List ℕ). take (length d / 4) (drop half l)) (spread ∙ append_assoc (take half d) moved (drop end d))
      ∙ ap (take (length d / 4)) (drop_at (take half d) _ half whole)
      ∙ take_at moved (drop end d) (length d / 4) moved_length
      ∙ ap₂ (λ (n m : ℕ). take n (drop m d)) {x = half - half / 2} {y = length d / 4} quarter (omega arith)

  -- the points are those at the fronts of the halves
  points_are : take (length d / 2) d ≡ first_factor e ++ second_factor e
  points_are =
      ap (λ (n : ℕ). take n d) {x = length d / 2} {y = length d / 4 + length d / 4} (omega (arith, q.half, q.quarter))
      ∙ take-add (length d / 4) (length d / 4) d
      ∙ sym (ap₂ ◌++◌ in_front behind)

  pub spread_good : TwoFactors e
  spread_good =
      record {
        size = kept ∙ good.0 ∙ ap size_of (sym kept);
        many = omega (arith, kept, many);
        first = symbols_at _ (every_left (◌< 65537) (first_factor e) (second_factor e) points_every);
        second = symbols_at _ (every_right (◌< 65537) (first_factor e) (second_factor e) points_every);
      }
    where
      points_every : Every (◌< 65537) (first_factor e ++ second_factor e)
      points_every = subst (Every (◌< 65537)) points_are (symbols_every _ good.2)

  -- s and t are the halves, u and v what the two calls leave of them
  module _ (s t : List ℕ) (front : s ≡ take (length d / 2) e) (back : t ≡ drop (length d / 2) e)
      (u v : List ℕ) (long : length u ≡ length s) (done : take (length s / 2) u ≡ lowers_of (take (length s / 2) s))
      (long' : length v ≡ length t) (done' : take (length t / 2) v ≡ lowers_of (take (length t / 2) t)) where
    halved : length d / 2 ≡ length e / 2
    halved = ap (λ (n : ℕ). n / 2) (sym kept)

    s_length : length s ≡ length e / 2
    s_length = front_length e spread_good _ halved s front

    t_length : length t ≡ length e / 2
    t_length = back_length e spread_good _ halved t back

    all : length (u ++ v) ≡ length e
    all = length-append u v ∙ omega (arith, long, long', s_length, t_length, q.half, q.whole, kept)

    first_factor_is : first_factor (u ++ v) ≡ lowers_of (first_factor e)
    first_factor_is =
        ap (λ (n : ℕ). take n (u ++ v)) {x = length (u ++ v) / 4} {y = length s / 2} (omega (arith, all, s_length))
        ∙ take-append-le (length s / 2) u v (omega (arith, long))
        ∙ done
        ∙ ap lowers_of (front_read e spread_good _ halved s front)

    second_factor_is : second_factor (u ++ v) ≡ lowers_of (second_factor e)
    second_factor_is =
        ap₂ (λ (n m : ℕ). take n (drop m (u ++ v))) {x = length (u ++ v) / 4} {y = length t / 2} (omega (arith, all, t_length)) (ap (λ (n : ℕ). n / 2) all)
        ∙ ap (take (length t / 2)) (drop_at u v (length e / 2) (long ∙ s_length))
        ∙ done'
        ∙ ap lowers_of (back_read e spread_good _ halved t back)

    pub both_good : TwoFactors (u ++ v)
    both_good =
        record {
          size = all ∙ spread_good.size ∙ ap size_of (sym all);
          many = omega (arith, all, spread_good.many);
          first = subst Symbols (sym first_factor_is) (symbols_at _ (lowers_symbols (first_factor e)));
          second = subst Symbols (sym second_factor_is) (symbols_at _ (lowers_symbols (second_factor e)));
        }

    pub both_length : length (u ++ v) ≡ length d
    both_length = all ∙ kept

    pub multiplied : (p : List ℕ) → take (length (u ++ v) / 2) p ≡ monic_times (first_factor (u ++ v)) (second_factor (u ++ v))
        → take (length d / 2) p ≡ lowers_of (take (length d / 2) d)
    multiplied p is =
        ap (λ (n : ℕ). take (n / 2) p) (sym both_length)
        ∙ is
        ∙ ap₂ monic_times first_factor_is second_factor_is
        ∙ sym (ap lowers_of points_are ∙ lowers_append (first_factor e) (second_factor e) few)
      where
        few : length (first_factor e) + length (second_factor e) ≤ 65537
        few = omega (arith, first_factor_length e spread_good, second_factor_length e spread_good, kept, q.quarter, q.short)
