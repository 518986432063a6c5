-- The laws of the first index at which a test holds: a search that counts up finds it, and every index before it fails the test.
-- Assumes nothing.
use mathlib.Core.Path.{◌≡◌, refl, sym, ap, ◌∙◌}
use mathlib.Core.Bool.{Bool, true, false, true≢false, cond, not}
use mathlib.Core.List.{List, [], ◌∷◌}
use Prim.Native.Nat.{ℕ, zero, suc, ◌+◌, ◌<◌, ◌≤◌, zero-le, suc-le-suc}
use native.Mathlib.Nat.{not-suc-le-zero, le_of_suc-le-suc, zero-lt-suc}
use native.Mathlib.Omega.{arith}
use borrow.Author.Tests.{ltb-true, ltb-false, lt-ltb, le-ltb}
use lib.Dec.{ltb}
use lib.ListN.{length, get_or}
use Rattle.std.specs.List.{position, position_or_len}
use Rattle.std.specs.Prelude.{Some, None, is_some}
use Rattle.answers.specs.First.{first, found}

pub first_here : (n i : ℕ) (test : ℕ → Bool) → i < n → ((k : ℕ) → k < i → test k ≡ false) → test i ≡ true → first n test ≡ i
unfolding first
first_here zero i test h before here = absurd (not-suc-le-zero h)
first_here (suc n) zero test h before here = rw here
first_here (suc n) (suc i) test h before here =
    rw (before 0 (zero-lt-suc i))
    (ap suc (first_here n i (λ j. test (suc j)) (le_of_suc-le-suc h) (λ k l. before (suc k) (suc-le-suc l)) here))

pub first_none : (n : ℕ) (test : ℕ → Bool) → ((k : ℕ) → k < n → test k ≡ false) → first n test ≡ n
unfolding first
first_none zero test fails = refl
first_none (suc n) test fails =
    rw (fails 0 (zero-lt-suc n)) (ap suc (first_none n (λ j. test (suc j)) (λ k l. fails (suc k) (suc-le-suc l))))

-- the same for a search that has passed every index
pub first_all : (n i : ℕ) (test : ℕ → Bool) → i ≤ n → n ≤ i → ((k : ℕ) → k < i → test k ≡ false) → first n test ≡ i
first_all n i test h l before = first_none n test (λ k less. before k (omega arith)) ∙ omega arith

-- one step of the search: either the test holds at 0, or the rest of it goes on one further

step_le : (b : Bool) {m n : ℕ} → m ≤ n → cond b 0 (suc m) ≤ suc n
step_le true h = zero-le
step_le false h = suc-le-suc h

step_fails : (b : Bool) (m k : ℕ) → k < cond b 0 (suc m) → b ≡ false
step_fails true m k h = absurd (not-suc-le-zero h)
step_fails false m k h = refl

step_further : (b : Bool) (m k : ℕ) → suc k < cond b 0 (suc m) → k < m
step_further true m k h = absurd (not-suc-le-zero h)
step_further false m k h = le_of_suc-le-suc h

step_holds : (b : Bool) (m n : ℕ) (test : ℕ → Bool) → test 0 ≡ b → (m < n → test (suc m) ≡ true) → cond b 0 (suc m) < suc n
    → test (cond b 0 (suc m)) ≡ true
step_holds true m n test here later h = here
step_holds false m n test here later h = later (le_of_suc-le-suc h)

pub first_le : (n : ℕ) (test : ℕ → Bool) → first n test ≤ n
unfolding first
first_le zero test = zero-le
first_le (suc n) test = step_le (test 0) (first_le n (λ j. test (suc j)))

pub first_before : (n : ℕ) (test : ℕ → Bool) (k : ℕ) → k < first n test → test k ≡ false
unfolding first
first_before zero test k h = absurd (not-suc-le-zero h)
first_before (suc n) test zero h = step_fails (test 0) (first n (λ j. test (suc j))) 0 h
first_before (suc n) test (suc k) h =
    first_before n (λ j. test (suc j)) k (step_further (test 0) (first n (λ j. test (suc j))) k h)

pub first_holds : (n : ℕ) (test : ℕ → Bool) → first n test < n → test (first n test) ≡ true
unfolding first
first_holds zero test h = absurd (not-suc-le-zero h)
first_holds (suc n) test h =
    step_holds (test 0) (first n (λ j. test (suc j))) n test refl (first_holds n (λ j. test (suc j))) h

-- what a search answers: that there is none, or which

none_of : (b : Bool) (i : ℕ) → cond b (Some i) None ≡ None → b ≡ false
none_of true i e = absurd (true≢false (ap is_some e))
none_of false i e = refl

some_of : (b : Bool) {i j : ℕ} → cond b (Some i) None ≡ Some j → (j ≡ i) × (b ≡ true)
some_of true e = (cc, refl)
some_of false e = absurd (true≢false (sym (ap is_some e)))

pub found_none : (n i : ℕ) → found n i ≡ None → n ≤ i
found_none n i e = ltb-false i n (none_of (ltb i n) i e)

pub found_some : (n i : ℕ) {j : ℕ} → found n i ≡ Some j → (j ≡ i) × (i < n)
found_some n i e = let is = some_of (ltb i n) e in (is.0, ltb-true i n is.1)

pub found_here : (n i : ℕ) {j : ℕ} → i ≡ j → j < n → Some j ≡ found n i
found_here n i is h = rw (is, lt-ltb _ n h) refl

pub found_nowhere : (n i : ℕ) → n ≤ i → None ≡ found n i
found_nowhere n i h = rw (le-ltb i n h) refl

-- the same by the list: the library's search finds the first index

further : (b : Bool) {m n : ℕ} → m ≡ n → cond b 0 (suc m) ≡ cond (not b) (1 + n) 0
further true e = refl
further false e = omega arith

first_passing : (p : ℕ → Bool) (xs : List ℕ) → first (length xs) (λ i. p (get_or xs i 0)) ≡ position_or_len p xs
unfolding first
first_passing p [] = refl
first_passing p (x ∷ xs) = further (p x) (first_passing p xs)

pub first_position : (p : ℕ → Bool) (xs : List ℕ) → position p xs ≡ found (length xs) (first (length xs) (λ i. p (get_or xs i 0)))
first_position p xs = rw (first_passing p xs)
