-- Arranging a list in place, where places change in pairs: each pair changes once, when the lower of the two is met.
-- Assumes nothing.
use mathlib.Core.Path.{◌≡◌, refl, sym, ap, ◌∙◌}
use mathlib.Core.List.{List}
use mathlib.Core.Logic.{◌⊎◌, inl, inr, ⊎_elim}
use Prim.Native.Nat.{ℕ, ◌+◌, ◌<◌, ◌≤◌}
use native.Mathlib.Decide.{dec_lt, ℕ_discrete}
use native.Mathlib.Nat.{eq-or-lt_of_le}
use native.Mathlib.Omega.{arith}
use borrow.Author.Tests.{lt-ltb, le-ltb}
use lib.ListN.{length, get_or, set, length-set}
use lib.Seq.{get_or-set_same, get_or-set_other}
use Rattle.lists.specs.Tab.{tab}
use Rattle.lists.proofs.Tab.{tab_ext, tab_get_or}
use Rattle.transform_halving.specs.Order.{exchanged}

-- What an exchange leaves where

module _ (e : List ℕ) (i j : ℕ) where
  pub exchanged_none : j ≤ i → exchanged e i j ≡ e
  unfolding exchanged
  exchanged_none h = simp (le-ltb i j h)

  exchanged_is : i < j → exchanged e i j ≡ set (set e i (get_or e j 0)) j (get_or e i 0)
  unfolding exchanged
  exchanged_is h = simp (lt-ltb i j h)

  exchanged_low : i < j → j < length e → get_or (exchanged e i j) i 0 ≡ get_or e j 0
  exchanged_low h l =
      rw (exchanged_is h, get_or-set_other (set e i (get_or e j 0)) j i (get_or e i 0) 0 (λ same. omega arith))
      (get_or-set_same e i (get_or e j 0) 0 (omega arith))

  exchanged_high : i < j → j < length e → get_or (exchanged e i j) j 0 ≡ get_or e i 0
  exchanged_high h l = rw (exchanged_is h) (get_or-set_same (set e i (get_or e j 0)) j (get_or e i 0) 0 (simp length-set l))

  exchanged_other : i < j → (x : ℕ) → ¬ (x ≡ i) → ¬ (x ≡ j) → get_or (exchanged e i j) x 0 ≡ get_or e x 0
  exchanged_other h x no-i no-j =
      rw (exchanged_is h) (get_or-set_other (set e i (get_or e j 0)) j x (get_or e i 0) 0 no-j ∙ get_or-set_other e i x (get_or e j 0) 0 no-i)

-- the places below n in pairs: each has a partner, whose partner it is
pub record Paired (n : ℕ) (partner : ℕ → ℕ) : Type 0 where
  pub below : (x : ℕ) → x < n → partner x < n
  pub twice : (x : ℕ) → x < n → partner (partner x) ≡ x

-- the places met so far are changed, the others as they were
pub record Arranging (n : ℕ) (partner : ℕ → ℕ) (d list : List ℕ) (i : ℕ) : Type 0 where
  pub done : (x : ℕ) → x < n → (x < i) ⊎ (partner x < i) → get_or list x 0 ≡ get_or d (partner x) 0
  pub rest : (x : ℕ) → x < n → i ≤ x → i ≤ partner x → get_or list x 0 ≡ get_or d x 0

pub arranging_none : (n : ℕ) (partner : ℕ → ℕ) (d : List ℕ) → Arranging n partner d d 0
arranging_none n partner d = record { done = λ x h met. absurd (⊎_elim (λ l. omega arith) (λ l. omega arith) met); rest = λ x h a b. refl }

module _ (n : ℕ) (partner : ℕ → ℕ) (paired : Paired n partner) (d list : List ℕ) (i : ℕ) (h : i < n) (long : length list ≡ n) (a : Arranging n partner d list i) where
  j : ℕ
  j = partner i

  -- the place whose partner is i
  back : (x : ℕ) → x < n → partner x ≡ i → x ≡ j
  unfolding j
  back x l e = sym (paired.twice x l) ∙ ap partner e

  -- a place first met now
  module _ (up : i < j) where
    changed : List ℕ
    changed = exchanged list i j

    at_low : get_or changed i 0 ≡ get_or d j 0
    unfolding changed j
    at_low =
        exchanged_low list i j up (omega (arith, paired.below i h))
        ∙ a.rest j (paired.below i h) (omega arith) (omega (arith, paired.twice i h))

    at_high : get_or changed j 0 ≡ get_or d i 0
    unfolding changed j
    at_high = exchanged_high list i j up (omega (arith, paired.below i h)) ∙ a.rest i h (omega arith) (omega arith)

    met_before : (x : ℕ) → x < n → ¬ (x ≡ i) → ¬ (x ≡ j) → (x < i + 1) ⊎ (partner x < i + 1) → (x < i) ⊎ (partner x < i)
    met_before x l no-i no-j (inl m) =
        let low : x ≤ i = omega arith in
        elim (eq-or-lt_of_le low) [ inl e ↦ absurd (no-i e) | inr less ↦ inl less ]
    met_before x l no-i no-j (inr m) =
        let low : partner x ≤ i = omega arith in
        elim (eq-or-lt_of_le low) [ inl e ↦ absurd (no-j (back x l e)) | inr less ↦ inr less ]

    up_done : (x : ℕ) → x < n → (x < i + 1) ⊎ (partner x < i + 1) → get_or changed x 0 ≡ get_or d (partner x) 0
    unfolding changed j
    up_done x l met =
        elim (ℕ_discrete x i) [
          | yes e ↦ ap (λ (y : ℕ). get_or changed y 0) e ∙ at_low ∙ ap (λ (y : ℕ). get_or d (partner y) 0) (sym e)
          | no no-i ↦
              elim (ℕ_discrete x j) [
                | yes e ↦
                    ap (λ (y : ℕ). get_or changed y 0) e
                    ∙ at_high
                    ∙ ap (λ (y : ℕ). get_or d y 0) (sym (paired.twice i h) ∙ ap partner (sym e))
                | no no-j ↦ exchanged_other list i j up x no-i no-j ∙ a.done x l (met_before x l no-i no-j met)
              ]
        ]

    up_rest : (x : ℕ) → x < n → i + 1 ≤ x → i + 1 ≤ partner x → get_or changed x 0 ≡ get_or d x 0
    unfolding changed j
    up_rest x l m o =
        exchanged_other list i j up x
        (λ e. omega arith)
        (λ e. omega (arith, ap partner e, paired.twice i h))
        ∙ a.rest x l (omega arith) (omega arith)

  -- a pair met before, or a place that is its own partner
  module _ (down : j ≤ i) where
    own : (x : ℕ) → x < n → i ≤ x → i ≤ partner x → (x < i + 1) ⊎ (partner x < i + 1) → x ≡ i
    own x l m o (inl low) = omega arith
    own x l m o (inr low) = omega (arith, back x l (omega arith))

    down_done : (x : ℕ) → x < n → (x < i + 1) ⊎ (partner x < i + 1) → get_or list x 0 ≡ get_or d (partner x) 0
    unfolding j
    down_done x l met =
        elim (dec_lt x i) [
          | yes less ↦ a.done x l (inl less)
          | no m ↦
              elim (dec_lt (partner x) i) [
                | yes less ↦ a.done x l (inr less)
                | no o ↦
                    let e : x ≡ i = own x l (omega arith) (omega arith) met in
                    a.rest x l (omega arith) (omega arith)
                    ∙ ap (λ (y : ℕ). get_or d y 0) {x = x} {y = partner x} (omega (arith, ap partner e))
              ]
        ]

  pub arranging_more : Arranging n partner d (exchanged list i (partner i)) (i + 1)
  unfolding changed j
  arranging_more =
      elim (dec_lt i j) [
        | yes up ↦ record { done = up_done up; rest = up_rest up }
        | no down ↦
            rw (exchanged_none list i j (omega arith))
            record {
              done = down_done (omega arith);
              rest = λ x l m o. a.rest x l (omega arith) (omega arith);
            }
      ]

-- every place is met, or its partner
pub arranging_all : (partner : ℕ → ℕ) (d list : List ℕ) (i : ℕ) → length list ≡ length d → Arranging (length d) partner d list i
    → ((x : ℕ) → x < length d → (x < i) ⊎ (partner x < i)) → list ≡ tab (length d) (λ x. get_or d (partner x) 0)
arranging_all partner d list i long a met =
    sym (tab_get_or list)
    ∙ ap (λ (n : ℕ). tab n (λ x. get_or list x 0)) long
    ∙ tab_ext (length d) _ _ (λ x l. a.done x l (met x l))
