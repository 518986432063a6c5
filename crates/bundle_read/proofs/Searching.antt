-- Whether some number of a list meets a test: what a search through the list finds.
-- Assumes nothing.
use mathlib.Core.Path.{◌≡◌, refl, sym, ◌∙◌}
use mathlib.Core.Bool.{Bool, true, false, cond, ◌||◌}
use mathlib.Core.List.{List, [], ◌∷◌}
use Prim.Native.Nat.{ℕ, suc, ◌<◌, ◌≤◌, suc-le-suc}
use native.Mathlib.Decide.{dec_lt}
use native.Mathlib.Omega.{arith}
use borrow.Author.Tests.{lt-ltb, le-ltb}
use lib.Dec.{ltb}
use lib.ListN.{length, get_or}
use Rattle.std.specs.List.{list_any}
use Rattle.answers.specs.First.{first}
use Rattle.answers.proofs.First.{first_none}
use Rattle.bundle_storage.proofs.RisingLaws.{some_found}
use Rattle.bundle_read.specs.Reading.{some_meets}

module _ (test : ℕ → Bool) (vs : List ℕ) where
  pub meets : (i : ℕ) → i < length vs → test (get_or vs i 0) ≡ true → some_meets test vs ≡ true
  unfolding some_meets
  meets i h here = some_found (length vs) (λ j. test (get_or vs j 0)) i h here

  pub meets_none : ((i : ℕ) → i < length vs → test (get_or vs i 0) ≡ false) → some_meets test vs ≡ false
  unfolding some_meets
  meets_none fails = le-ltb (first (length vs) (λ j. test (get_or vs j 0))) (length vs) (omega (arith, first_none (length vs) (λ j. test (get_or vs j 0)) fails))

-- the same as the library's search tells it

same_test : (m n : ℕ) → ltb m n ≡ ltb (suc m) (suc n)
same_test m n =
    elim (dec_lt m n) [
      | yes h ↦ lt-ltb m n h ∙ sym (lt-ltb (suc m) (suc n) (suc-le-suc h))
      | no h ↦ let most : n ≤ m = omega arith in le-ltb m n most ∙ sym (le-ltb (suc m) (suc n) (suc-le-suc most))
    ]

later : (b : Bool) (m n : ℕ) {rest : Bool} → rest ≡ ltb m n → b || rest ≡ ltb (cond b 0 (suc m)) (suc n)
later true m n is = sym (lt-ltb 0 (suc n) (omega arith))
later false m n is = is ∙ same_test m n

pub any_meets : (test : ℕ → Bool) (vs : List ℕ) → list_any test vs ≡ some_meets test vs
unfolding some_meets first
any_meets test [] = refl
any_meets test (v ∷ vs) = later (test v) _ (length vs) (any_meets test vs)
