-- The numbers of a list at which a test holds: how many are left, and what stays true of them.
-- Assumes nothing.
use mathlib.Core.Path.{◌≡◌, refl}
use mathlib.Core.Bool.{Bool, true, false, cond}
use mathlib.Core.List.{List, [], ◌∷◌}
use Prim.Native.Nat.{ℕ, suc, ◌+◌}
use native.Mathlib.Omega.{arith}
use lib.ListN.{length, get_or}
use Rattle.poly.specs.Distinct.{Distinct}
use Rattle.lists.specs.Every.{Every}
use Rattle.poly.specs.Sum.{total}

pub sieve : (ℕ → Bool) → List ℕ → List ℕ
sieve test [] = []
sieve test (x ∷ xs) = cond (test x) (x ∷ sieve test xs) (sieve test xs)

-- the laws of one number, which stays if its test b holds

every_one : (P : ℕ → Type 0) (b : Bool) (x : ℕ) (rest : List ℕ) → (b ≡ true → P x) → Every P rest → Every P (cond b (x ∷ rest) rest)
unfolding Every
every_one P true x rest here later = (here refl, later)
every_one P false x rest here later = later

distinct_one : (b : Bool) (x : ℕ) (rest : List ℕ) → Distinct (x ∷ rest) → Distinct (cond b (x ∷ rest) rest)
unfolding Distinct
distinct_one true x rest apart = apart
distinct_one false x rest apart = apart.1

length_one : (b : Bool) (x : ℕ) (rest : List ℕ) → length (cond b (x ∷ rest) rest) + cond b 0 1 ≡ suc (length rest)
length_one true x rest = omega arith
length_one false x rest = omega arith

pub sieve_every : (P : ℕ → Type 0) (test : ℕ → Bool) (xs : List ℕ) → Every P xs → Every P (sieve test xs)
unfolding sieve Every
sieve_every P test [] h = tt
sieve_every P test (x ∷ xs) h = every_one P (test x) x _ (λ e. h.0) (sieve_every P test xs h.1)

pub sieve_true : (test : ℕ → Bool) (xs : List ℕ) → Every (λ x. test x ≡ true) (sieve test xs)
unfolding sieve Every
sieve_true test [] = tt
sieve_true test (x ∷ xs) = every_one (λ y. test y ≡ true) (test x) x _ (λ e. e) (sieve_true test xs)

pub sieve_distinct : (test : ℕ → Bool) (xs : List ℕ) → Distinct xs → Distinct (sieve test xs)
unfolding sieve Distinct
sieve_distinct test [] apart = tt
sieve_distinct test (x ∷ xs) apart =
    distinct_one (test x) x _ (sieve_every _ test xs apart.0, sieve_distinct test xs apart.1)

-- those that stay and those that do not are all
pub sieve_length : (test : ℕ → Bool) (xs : List ℕ)
    → length (sieve test xs) + total (length xs) (λ j. cond (test (get_or xs j 0)) 0 1) ≡ length xs
unfolding sieve total
sieve_length test [] = refl
sieve_length test (x ∷ xs) = omega (arith, length_one (test x) x (sieve test xs), sieve_length test xs)
