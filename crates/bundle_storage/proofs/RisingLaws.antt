-- What a search of every index says and tells, and what it says that numbers rise strictly, each below a limit.
-- Assumes nothing.
use mathlib.Core.Path.{◌≡◌, refl, ap, ◌∙◌}
use mathlib.Core.Bool.{Bool, true, false}
use Prim.Native.Nat.{ℕ, zero, suc, ◌+◌, ◌<◌, ◌≤◌, zero-le}
use native.Mathlib.Nat.{not-suc-le-zero}
use native.Mathlib.Decide.{dec_lt}
use native.Mathlib.Numerals.{add-one}
use native.Mathlib.Omega.{arith}
use borrow.Author.Tests.{lt-ltb, le-ltb, le-leb, lt-leb, ltb-false, leb-false, leb-true}
use lib.Dec.{ltb, leb}
use Rattle.answers.specs.First.{first}
use Rattle.answers.proofs.First.{first_here, first_none, first_before}
use Rattle.answers.proofs.Checks.{or_false}
use Rattle.bundle_storage.specs.Rising.{least, out_of_order, rises}

-- a search that passed every index, and one that found nothing

pub none_found : (n : ℕ) (test : ℕ → Bool) → leb n (first n test) ≡ true → (j : ℕ) → j < n → test j ≡ false
none_found n test all j h = first_before n test j (omega (arith, leb-true n (first n test) all))

pub found_none : (n : ℕ) (test : ℕ → Bool) → ((j : ℕ) → j < n → test j ≡ false) → leb n (first n test) ≡ true
found_none n test none = le-leb n (first n test) (omega (arith, first_none n test none))

pub some_found : (n : ℕ) (test : ℕ → Bool) (j : ℕ) → j < n → test j ≡ true → ltb (first n test) n ≡ true
some_found n test j h here =
    elim (dec_lt (first n test) n) [
      | yes less ↦ lt-ltb (first n test) n less
      | no more ↦ absurd (let z : ◌≡◌ {A = ℕ} 0 1 = cc (here, first_before n test j (omega arith)) in omega arith)
    ]

-- the same for one that counts up and is at index i

pub one_bad : (n i : ℕ) (test : ℕ → Bool) → i < n → ((k : ℕ) → k < i → test k ≡ false) → test i ≡ true → leb n (first n test) ≡ false
one_bad n i test h before here = ap (leb n) (first_here n i test h before here) ∙ lt-leb n i h

pub none_bad : (n i : ℕ) (test : ℕ → Bool) → i ≤ n → n ≤ i → ((k : ℕ) → k < i → test k ≡ false) → leb n (first n test) ≡ true
none_bad n i test h l before = found_none n test (λ k less. before k (omega arith))

-- The test of one number

-- the number at index j is in order
abbrev pub InOrder : ℕ → (ℕ → ℕ) → ℕ → Type 0
InOrder limit f j = (least f j ≤ f j) × (f j < limit)

pub in_order : (limit : ℕ) (f : ℕ → ℕ) (j : ℕ) → out_of_order limit f j ≡ false → InOrder limit f j
unfolding out_of_order
in_order limit f j e =
    let both = or_false (ltb (f j) (least f j)) (leb limit (f j)) e in
    (ltb-false (f j) (least f j) both.0, leb-false limit (f j) both.1)

pub not_out : (limit : ℕ) (f : ℕ → ℕ) (j : ℕ) → InOrder limit f j → out_of_order limit f j ≡ false
unfolding out_of_order
not_out limit f j h = rw (le-ltb (f j) (least f j) h.0, lt-leb limit (f j) h.1)

-- the same with the number and the least that it may be as the code has them

pub least_first : (f : ℕ → ℕ) → 0 ≡ least f 0
unfolding least
least_first f = refl

pub least_next : (f : ℕ → ℕ) (j x : ℕ) → x ≡ f j → x + 1 ≡ least f (j + 1)
unfolding least
least_next f j x e = simp add-one (ap suc e)

module _ (limit : ℕ) (f : ℕ → ℕ) (j low x : ℕ) (bound : low ≡ least f j) (is : x ≡ f j) where
  pub too_low : x < low → out_of_order limit f j ≡ true
  unfolding out_of_order
  too_low h = rw (← bound, ← is) (simp (lt-ltb x low h))

  pub too_high : low ≤ x → limit ≤ x → out_of_order limit f j ≡ true
  unfolding out_of_order
  too_high h l = rw (← bound, ← is) (simp (le-ltb x low h, le-leb limit x l))

  pub between : low ≤ x → x < limit → out_of_order limit f j ≡ false
  between h l = not_out limit f j (omega arith, omega arith)

-- Numbers that are all in order

module _ (limit count : ℕ) (f : ℕ → ℕ) where
  pub rises_in_order : rises limit count f ≡ true → (j : ℕ) → j < count → InOrder limit f j
  unfolding rises
  rises_in_order up j h = in_order limit f j (none_found count (out_of_order limit f) up j h)

  pub in_order_rises : ((j : ℕ) → j < count → InOrder limit f j) → rises limit count f ≡ true
  unfolding rises
  in_order_rises each = found_none count (out_of_order limit f) (λ j h. not_out limit f j (each j h))

  -- a number is no less than its index
  rising_index : rises limit count f ≡ true → (j : ℕ) → j < count → j ≤ f j
  unfolding least
  rising_index up zero h = zero-le
  rising_index up (suc j) h = omega (arith, rising_index up j (omega arith), (rises_in_order up (suc j) h).0)

  pub rising_count : rises limit count f ≡ true → count ≤ limit
  rising_count up =
      elim (dec_lt limit count) [
        | yes more ↦ absurd (omega (arith, rising_index up limit more, (rises_in_order up limit more).1))
        | no less ↦ omega arith
      ]

  pub rising_apart : rises limit count f ≡ true → (i j : ℕ) → i < j → j < count → f i < f j
  unfolding least
  rising_apart up i zero h l = absurd (not-suc-le-zero h)
  rising_apart up i (suc j) h l =
      elim (dec_lt i j) [
        | yes less ↦ omega (arith, rising_apart up i j less (omega arith), (rises_in_order up (suc j) l).0)
        | no more ↦ omega (arith, (rises_in_order up (suc j) l).0, ap f {x = i} {y = j} (omega arith))
      ]

-- the same numbers
pub rises_same : (limit count : ℕ) (f g : ℕ → ℕ) → ((j : ℕ) → j < count → f j ≡ g j) → rises limit count f ≡ true
    → rises limit count g ≡ true
unfolding least
rises_same limit count f g same up = in_order_rises limit count g each
  where
    each : (j : ℕ) → j < count → InOrder limit g j
    each zero h = (zero-le, omega (arith, (rises_in_order limit count f up 0 h).1, same 0 h))
    each (suc j) h =
        let here = rises_in_order limit count f up (suc j) h in
        (omega (arith, here.0, same j (omega arith), same (suc j) h), omega (arith, here.1, same (suc j) h))
