-- The two halves of a list that can be transformed can be, and what stands in a list whose halves are halved.
-- Assumes nothing.
use mathlib.Core.Path.{◌≡◌, refl, sym, ap, ap₂, subst, ◌∙◌}
use mathlib.Core.List.{List, ◌++◌}
use Prim.Native.Nat.{ℕ, zero, suc, ◌+◌, ◌^◌, ◌/◌, ◌%◌, ◌<◌, ◌≤◌}
use native.Mathlib.Omega.{arith}
use lib.ListN.{length, get_or, take, drop, length-append, length-drop}
use lib.Pow.{pow_pos}
use lib.Seq.{length-take-le, take_at, drop_at, get_or-take, get_or-drop}
use Rattle.field.specs.Field.{sum, difference, product}
use Rattle.field.specs.Size.{level_of}
use Rattle.field.specs.Symbol.{Symbols}
use Rattle.field.proofs.Ring.{sum_lt, difference_lt}
use Rattle.field.proofs.Sizes.{level_le, level_power}
use Rattle.lists.specs.Tab.{tab}
use Rattle.poly.proofs.Symbols.{append_symbols, tab_symbols}
use Rattle.lists.proofs.Tab.{tab_length}
use Rattle.transform_halving.specs.Halving.{turned, joined}
use Rattle.transform_halving.specs.InPlace.{joined_halves, halved}
use Rattle.transform_halving.specs.Transformable.{Transformable}
use Rattle.transform_halving.proofs.Transformable.{transformable_of, transformable_power}

-- a list that can be transformed, of more than one number
pub record Pair (d : List ℕ) : Type 0 where
  pub k : ℕ
  pub few : k ≤ 16
  pub level : level_of (length d) ≡ suc k
  pub half : length d / 2 ≡ 2 ^ k
  pub whole : length d ≡ 2 ^ k + 2 ^ k

pub pair_of : (d : List ℕ) → Transformable d → 2 ≤ length d → Pair d
pair_of d able many = at (level_of (length d)) refl
  where
    at : (e : ℕ) → level_of (length d) ≡ e → Pair d
    at zero e = absurd (omega (arith, transformable_power d able, ap (2 ^◌) e))
    at (suc k) e =
        record {
          k = k;
          few = omega (arith, level_le (length d));
          level = e;
          half = omega (arith, transformable_power d able, ap (2 ^◌) e);
          whole = omega (arith, transformable_power d able, ap (2 ^◌) e);
        }

joined_symbols : (r : ℕ) (e o : List ℕ) → Symbols (joined r e o)
unfolding joined
joined_symbols r e o =
    append_symbols
    (tab (length e) (λ j. sum (get_or e j 0) (turned r o j)))
    (tab (length e) (λ j. difference (get_or e j 0) (turned r o j)))
    (tab_symbols (length e) _ (λ j h. sum_lt (get_or e j 0) (turned r o j)))
    (tab_symbols (length e) _ (λ j h. difference_lt (get_or e j 0) (turned r o j)))

pub halved_symbols : (k r : ℕ) (a : List ℕ) → Symbols a → Symbols (halved k r a)
unfolding halved
halved_symbols zero r a small = small
halved_symbols (suc k) r a small = joined_symbols r _ _

joined_length : (r : ℕ) (e o : List ℕ) → length (joined r e o) ≡ length e + length e
unfolding joined
joined_length r e o = simp (length-append, tab_length)

pub halved_length : (k r : ℕ) (a : List ℕ) → length a ≡ 2 ^ k → length (halved k r a) ≡ 2 ^ k
unfolding halved
halved_length zero r a e = e
halved_length (suc k) r a e =
    joined_length r _ _
    ∙ omega (arith, halved_length k (product r r) (take (2 ^ k) a) (length-take-le (2 ^ k) a (omega arith)))

-- The halves of a list of more than one number, which are lent: e is what the first becomes, o the second

module _ (d : List ℕ) (able : Transformable d) (many : 2 ≤ length d) where
  abbrev p : Pair d
  p = pair_of d able many

  module _ (f b : List ℕ) (front : f ≡ take (length d / 2) d) (back : b ≡ drop (length d / 2) d) where
    pub front_length : length f ≡ 2 ^ p.k
    front_length = ap length front ∙ length-take-le (length d / 2) d (omega arith) ∙ p.half

    pub back_length : length b ≡ 2 ^ p.k
    back_length = ap length back ∙ length-drop (length d / 2) d ∙ omega (arith, p.half, p.whole)

    pub front_transformable : Transformable f
    front_transformable =
        transformable_of p.k p.few f front_length
        (λ i h. rw (front, get_or-take (length d / 2) d i 0 (omega (arith, front_length, p.half))) (able.symbols i (omega (arith, front_length, p.whole))))

    pub back_transformable : Transformable b
    back_transformable =
        transformable_of p.k p.few b back_length
        (λ i h. rw (back, get_or-drop (length d / 2) d i 0) (able.symbols (length d / 2 + i) (omega (arith, back_length, p.half, p.whole))))

    pub front_less : length f < length d
    front_less = omega (arith, front_length, p.whole, pow_pos p.k)

    pub back_less : length b < length d
    back_less = omega (arith, back_length, p.whole, pow_pos p.k)

    -- at roots that are the square of the whole's
    module _ (root r q : ℕ) (r_is : r ≡ product root root) (q_is : q ≡ product root root) (e o : List ℕ) (one : e ≡ halved (level_of (length f)) r f) (two : o ≡ halved (level_of (length b)) q b) where
      -- a half, by the level below
      half_is : (s x t : List ℕ) (y : ℕ) → y ≡ product root root → length t ≡ 2 ^ p.k → s ≡ halved (level_of (length t)) y t → t ≡ x
          → s ≡ halved p.k (product root root) x
      half_is s x t y squared long done is =
          done
          ∙ ap₂ (λ (l z : ℕ). halved l z t) (ap level_of long ∙ level_power p.k p.few) squared
          ∙ ap (halved p.k (product root root)) is

      e_long : length e ≡ 2 ^ p.k
      e_long = ap length (half_is e f f r r_is front_length one refl) ∙ halved_length p.k (product root root) f front_length

      o_long : length o ≡ 2 ^ p.k
      o_long = ap length (half_is o b b q q_is back_length two refl) ∙ halved_length p.k (product root root) b back_length

      pub both_length : length (e ++ o) ≡ length d
      both_length = length-append e o ∙ omega (arith, e_long, o_long, p.whole)

      pub both_even : length (e ++ o) % 2 ≡ 0
      both_even = omega (arith, both_length, p.whole)

      pub both_symbols : Symbols (e ++ o)
      both_symbols =
          append_symbols e o
          (subst Symbols (sym one) (halved_symbols _ r f front_transformable.symbols))
          (subst Symbols (sym two) (halved_symbols _ q b back_transformable.symbols))

      pub both_transformable : Transformable (e ++ o)
      both_transformable = transformable_of (suc p.k) (omega (arith, p.level, level_le (length d))) (e ++ o) (omega (arith, both_length, p.whole)) both_symbols

      halves_joined : joined root e o ≡ halved (level_of (length d)) root d
      unfolding halved
      halves_joined =
          ap₂ (joined root)
          (half_is e _ f r r_is front_length one (front ∙ ap (λ (m : ℕ). take m d) p.half))
          (half_is o _ b q q_is back_length two (back ∙ ap (λ (m : ℕ). drop m d) p.half))
          ∙ sym (ap (λ (l : ℕ). halved l root d) p.level)

      pub both_joined : joined_halves root (e ++ o) ≡ halved (level_of (length d)) root d
      both_joined =
          ap (λ (m : ℕ). joined root (take m (e ++ o)) (drop m (e ++ o))) {x = length (e ++ o) / 2} {y = 2 ^ p.k} (omega (arith, both_length, p.whole))
          ∙ ap₂ (joined root) (take_at e o (2 ^ p.k) e_long) (drop_at e o (2 ^ p.k) e_long)
          ∙ halves_joined

-- a single number
pub single_halved : (root : ℕ) (d : List ℕ) → Transformable d → length d < 2 → d ≡ halved (level_of (length d)) root d
unfolding halved
single_halved root d able one = ap (λ (l : ℕ). halved l root d) (sym none)
  where
    at : (e : ℕ) → level_of (length d) ≡ e → e ≡ 0
    at zero e = refl
    at (suc k) e = absurd (omega (arith, transformable_power d able, ap (2 ^◌) e, pow_pos k))

    none : level_of (length d) ≡ 0
    none = at (level_of (length d)) refl
