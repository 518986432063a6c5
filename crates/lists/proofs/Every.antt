-- The laws of a property that each number of a list has, and that it says the same as the property at each index.
-- Assumes nothing.
use mathlib.Core.List.{List, [], ◌∷◌, ◌++◌}
use Prim.Native.Nat.{ℕ, zero, suc, ◌<◌, suc-le-suc}
use native.Mathlib.Nat.{not-suc-le-zero, le_of_suc-le-suc, zero-lt-suc}
use lib.ListN.{length, get_or, replicate}
use Rattle.lists.specs.Every.{Every}
use Rattle.lists.specs.Tab.{tab}

pub every_map : {P Q : ℕ → Type 0} → ((a : ℕ) → P a → Q a) → (s : List ℕ) → Every P s → Every Q s
unfolding Every
every_map f [] h = tt
every_map f (a ∷ s) h = (f a h.0, every_map f s h.1)

pub every_both : (P Q : ℕ → Type 0) (s : List ℕ) → Every P s → Every Q s → Every (λ a. P a × Q a) s
unfolding Every
every_both P Q [] g h = tt
every_both P Q (a ∷ s) g h = ((g.0, h.0), every_both P Q s g.1 h.1)

pub every_append : (P : ℕ → Type 0) (s t : List ℕ) → Every P s → Every P t → Every P (s ++ t)
unfolding Every
every_append P [] t g h = h
every_append P (a ∷ s) t g h = (g.0, every_append P s t g.1 h)

pub every_left : (P : ℕ → Type 0) (s t : List ℕ) → Every P (s ++ t) → Every P s
unfolding Every
every_left P [] t h = tt
every_left P (a ∷ s) t h = (h.0, every_left P s t h.1)

pub every_right : (P : ℕ → Type 0) (s t : List ℕ) → Every P (s ++ t) → Every P t
unfolding Every
every_right P [] t h = h
every_right P (a ∷ s) t h = every_right P s t h.1

pub every_at : (P : ℕ → Type 0) (s : List ℕ) → Every P s → (i : ℕ) → i < length s → P (get_or s i 0)
unfolding Every
every_at P [] h i l = absurd (not-suc-le-zero l)
every_at P (a ∷ s) h zero l = h.0
every_at P (a ∷ s) h (suc i) l = every_at P s h.1 i (le_of_suc-le-suc l)

pub every_of : (P : ℕ → Type 0) (s : List ℕ) → ((i : ℕ) → i < length s → P (get_or s i 0)) → Every P s
unfolding Every
every_of P [] h = tt
every_of P (a ∷ s) h = (h 0 (zero-lt-suc _), every_of P s (λ i l. h (suc i) (suc-le-suc l)))

pub every_tab : (P : ℕ → Type 0) (n : ℕ) (f : ℕ → ℕ) → ((i : ℕ) → i < n → P (f i)) → Every P (tab n f)
unfolding Every tab
every_tab P zero f h = tt
every_tab P (suc n) f h = (h 0 (zero-lt-suc n), every_tab P n (λ i. f (suc i)) (λ i l. h (suc i) (suc-le-suc l)))

pub every_replicate : (P : ℕ → Type 0) (n a : ℕ) → P a → Every P (replicate n a)
unfolding Every
every_replicate P zero a h = tt
every_replicate P (suc n) a h = (h, every_replicate P n a h)
