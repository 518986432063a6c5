-- The sums at the inverse of a root of order N are the sums at the root, turned round; and turning round changes places in pairs, which is putting
-- in reverse what stands behind the first.
-- Assumes nothing.
use mathlib.Core.Path.{◌≡◌, refl, sym, ap, ap₂, ◌∙◌}
use mathlib.Core.List.{List, [], ◌∷◌, ◌++◌, append-nil}
use mathlib.Core.Logic.{◌⊎◌, inl, inr, ⊎_elim}
use Prim.Native.Nat.{ℕ, zero, suc, ◌+◌, ◌-◌, ◌*◌, ◌^◌, ◌%◌, ◌<◌}
use native.Mathlib.Decide.{dec_lt}
use native.Mathlib.Nat.{eq-zero-or-pos, mod-lt, mod_self, mod-eq_of_lt, pow-zero}
use native.Mathlib.Omega.{arith}
use lib.ListN.{length, get_or, take, drop, drop_of_length-le}
use lib.Seq.{take_all}
use lib.Pow.{pow-add}
use Rattle.std.specs.Prelude.{reverse}
use Rattle.std.proofs.lemmas.List.{length-reverse, get_or-reverse}
use Rattle.field.specs.Congruence.{◌≈◌}
use Rattle.field.specs.Field.{inverse}
use Rattle.field.specs.Points.{root_of}
use Rattle.field.proofs.Congruence.{≈-of, ≈-sym, ◌+≈◌, ◌·≈◌, comb}
use Rattle.lists.specs.Tab.{tab}
use Rattle.poly.specs.Value.{value}
use Rattle.lists.proofs.Tab.{tab_ext, tab_get_or}
use Rattle.poly.proofs.Values.{value-≈}
use Rattle.transform_halving.specs.Transformable.{Transformable}
use Rattle.transform_halving.specs.Transform.{sums, transform_of}
use Rattle.transform_halving.proofs.Arranging.{Paired, Arranging, arranging_all}
use Rattle.transform_halving.proofs.Round.{Opposite}
use Rattle.transform_halving.proofs.Sums.{values, values_at, sums_values}
use Rattle.transform_halving.proofs.Undo.{opposed, transform_values, transform_length}
use Rattle.transform_table.specs.Round.{mirror, turned_round}

mirror_zero : (n : ℕ) → mirror n 0 ≡ 0
unfolding mirror
mirror_zero n = ap (◌% n) {x = n - 0} {y = n} (omega arith) ∙ mod_self n

pub mirror_above : (n j : ℕ) → 0 < j → j < n → mirror n j ≡ n - j
unfolding mirror
mirror_above n j some h = mod-eq_of_lt (omega arith)

mirror_lt : (n j : ℕ) → j < n → mirror n j < n
unfolding mirror
mirror_lt n j h = mod-lt (n - j) (omega arith)

mirror_twice : (n j : ℕ) → j < n → mirror n (mirror n j) ≡ j
mirror_twice n j h =
    elim (eq-zero-or-pos j) [
      | inl none ↦ ap (λ (x : ℕ). mirror n (mirror n x)) none ∙ ap (mirror n) (mirror_zero n) ∙ mirror_zero n ∙ sym none
      | inr some ↦ ap (mirror n) (mirror_above n j some h) ∙ mirror_above n (n - j) (omega arith) (omega arith) ∙ omega arith
    ]

pub mirror_paired : (n : ℕ) → Paired n (mirror n)
mirror_paired n = record { below = mirror_lt n; twice = mirror_twice n }

-- place 0 is its own mirror, and no other's
pub turning_none : (d : List ℕ) → Arranging (length d) (mirror (length d)) d d 1
turning_none d = record { done = λ x h met. ap (λ (y : ℕ). get_or d y 0) (own x (first x h met)); rest = λ x h a b. refl }
  where
    first : (x : ℕ) → x < length d → (x < 1) ⊎ (mirror (length d) x < 1) → x ≡ 0
    first x h met =
        ⊎_elim
        (λ l. omega arith)
        (λ l. sym (mirror_twice (length d) x h) ∙ ap (mirror (length d)) {y = 0} (omega arith) ∙ mirror_zero (length d))
        met

    own : (x : ℕ) → x ≡ 0 → x ≡ mirror (length d) x
    own x none = none ∙ sym (ap (mirror (length d)) none ∙ mirror_zero (length d))

-- from half way on, the mirror of every place is met
pub turning_all : (d list : List ℕ) (low : ℕ) → length list ≡ length d → length d < low + low → Arranging (length d) (mirror (length d)) d list low
    → list ≡ turned_round d
unfolding turned_round
turning_all d list low long half a = arranging_all (mirror (length d)) d list low long a met
  where
    met : (x : ℕ) → x < length d → (x < low) ⊎ (mirror (length d) x < low)
    met x h =
        elim (dec_lt x low) [
          | yes less ↦ inl less
          | no above ↦ inr (omega (arith, mirror_above (length d) x (omega arith) h))
        ]

-- the first number, and those behind it in reverse
reversed_behind : (a : ℕ) (s : List ℕ) → a ∷ reverse s ≡ turned_round (a ∷ s)
unfolding turned_round tab
reversed_behind a s = ap₂ ◌∷◌ (ap (λ (x : ℕ). get_or (a ∷ s) x 0) (sym (mirror_zero (suc (length s))))) behind
  where
    entry : (i : ℕ) → i < length s → get_or (reverse s) i 0 ≡ get_or (a ∷ s) (mirror (suc (length s)) (suc i)) 0
    entry i h =
        get_or-reverse s i 0 h
        ∙ ap (λ (x : ℕ). get_or (a ∷ s) x 0) {x = suc (length s - 1 - i)} {y = mirror (suc (length s)) (suc i)} (omega (arith, mirror_above (suc (length s)) (suc i) (omega arith) (omega arith)))

    behind : reverse s ≡ tab (length s) (λ i. get_or (a ∷ s) (mirror (suc (length s)) (suc i)) 0)
    behind = sym (tab_get_or (reverse s)) ∙ ap (λ (n : ℕ). tab n (λ i. get_or (reverse s) i 0)) (length-reverse s) ∙ tab_ext (length s) _ _ entry

-- those behind the first, lent
pub rest_turned : (d e : List ℕ) → 0 < length d → e ≡ reverse (take (length d - 1) (drop 1 d))
    → take 1 d ++ (e ++ drop (length d - 1) (drop 1 d)) ≡ turned_round d
rest_turned [] e some is = absurd (omega arith)
rest_turned (a ∷ s) e some is =
    ap (a ∷◌)
    (ap₂ ◌++◌ (is ∙ ap reverse (take_all (length (a ∷ s) - 1) s (omega arith))) (drop_of_length-le s {i = length (a ∷ s) - 1} (omega arith)) ∙ append-nil (reverse s))
    ∙ reversed_behind a s

pub none_turned : (d : List ℕ) → length d ≡ 0 → d ≡ turned_round d
unfolding turned_round tab
none_turned [] none = refl
none_turned (a ∷ s) none = absurd (omega arith)

-- the powers of the inverse, in the other direction
power_back : (r q n : ℕ) → Opposite r q n → (j : ℕ) → j < n → q ^ j ≈ r ^ mirror n j
power_back r q n o zero h = ≈-of (pow-zero q ∙ sym (ap (r ^◌) (mirror_zero n) ∙ pow-zero r))
power_back r q n o (suc i) h =
    rw (mirror_above n j (omega arith) h)
    (comb (≈-sym (q ^ j ·≈ o.full) +≈ r ^ (n - j) ·≈ o.meet j) 0 0 (omega (arith, ap (q ^ j *◌) whole)))
  where
    j : ℕ
    j = suc i

    whole : r ^ n ≡ r ^ (n - j) * r ^ j
    whole = ap (r ^◌) {x = n} {y = n - j + j} (omega arith) ∙ pow-add r (n - j) j

pub sums_back : (a : List ℕ) → Transformable a → sums (inverse (root_of (length a))) a ≡ turned_round (transform_of a)
unfolding turned_round values
sums_back a able =
    sums_values (inverse (root_of (length a))) a
    ∙ tab_ext (length a) _ _ entry
    ∙ ap (λ (n : ℕ). tab n (λ j. get_or (transform_of a) (mirror n j) 0)) (sym (transform_length a))
  where
    entry : (j : ℕ) → j < length a
        → value a (inverse (root_of (length a)) ^ j) % 65537 ≡ get_or (transform_of a) (mirror (length a) j) 0
    entry j h =
        (value-≈ a (power_back _ _ _ (opposed a able) j h)).mods
        ∙ sym (values_at (root_of (length a)) (length a) a (mirror (length a) j) (mirror_lt (length a) j h))
        ∙ ap (λ (l : List ℕ). get_or l (mirror (length a) j) 0) (sym (transform_values a))
