-- The laws of a list given by its entries.
-- Assumes nothing.
use mathlib.Core.Path.{◌≡◌, refl, sym, ap, ◌∙◌}
use mathlib.Core.List.{List, [], ◌∷◌, ◌++◌}
use Prim.Native.Nat.{ℕ, zero, suc, ◌+◌, ◌<◌, ◌≤◌, suc-le-suc}
use native.Mathlib.Nat.{not-suc-le-zero, le_of_suc-le-suc, zero-lt-suc, zero-add, suc-add}
use native.Mathlib.Omega.{arith}
use lib.ListN.{length, get_or, take, drop, length-drop, drop_of_length-le}
use lib.Seq.{split_at, length-take-le, get_or-take, get_or-drop}
use Rattle.lists.specs.Tab.{tab}

pub tab_length : (n : ℕ) (f : ℕ → ℕ) → length (tab n f) ≡ n
unfolding tab
tab_length zero f = refl
tab_length (suc n) f = ap suc (tab_length n (λ i. f (suc i)))

pub tab_at : (n : ℕ) (f : ℕ → ℕ) (i : ℕ) → i < n → get_or (tab n f) i 0 ≡ f i
unfolding tab
tab_at zero f i h = absurd (not-suc-le-zero h)
tab_at (suc n) f zero h = refl
tab_at (suc n) f (suc i) h = tab_at n (λ j. f (suc j)) i (le_of_suc-le-suc h)

pub tab_ext : (n : ℕ) (f g : ℕ → ℕ) → ((i : ℕ) → i < n → f i ≡ g i) → tab n f ≡ tab n g
unfolding tab
tab_ext zero f g e = refl
tab_ext (suc n) f g e =
    cc (e 0 (zero-lt-suc n), tab_ext n (λ i. f (suc i)) (λ i. g (suc i)) (λ i h. e (suc i) (suc-le-suc h)))

-- a list is the list of its entries
pub tab_get_or : (s : List ℕ) → tab (length s) (λ i. get_or s i 0) ≡ s
unfolding tab
tab_get_or [] = refl
tab_get_or (a ∷ s) = ap (a ∷◌) (tab_get_or s)

-- a part of a list, by its entries
pub tab_part : (at n : ℕ) (s : List ℕ) → at + n ≤ length s → tab n (λ i. get_or s (at + i) 0) ≡ take n (drop at s)
tab_part at n s h =
    tab_ext n _ (λ i. get_or (take n (drop at s)) i 0) (λ i l. sym (get_or-take n (drop at s) i 0 l ∙ get_or-drop at s i 0))
    ∙ ap (λ (m : ℕ). tab m (λ i. get_or (take n (drop at s)) i 0)) (sym (length-take-le n (drop at s) (omega (arith, length-drop at s))))
    ∙ tab_get_or (take n (drop at s))

pub tab_append : (m n : ℕ) (f : ℕ → ℕ) → tab (m + n) f ≡ tab m f ++ tab n (λ i. f (m + i))
unfolding tab
tab_append zero n f = rw zero-add (tab_ext n f (λ i. f (0 + i)) (λ i h. ap f (sym (zero-add i))))
tab_append (suc m) n f =
    rw suc-add
    (ap (f 0 ∷◌)
    (tab_append m n (λ i. f (suc i)) ∙ ap (tab m (λ i. f (suc i)) ++◌) (tab_ext n _ _ (λ i h. ap f (sym (suc-add m i))))))

pub tab_more : (n : ℕ) (f : ℕ → ℕ) → tab (n + 1) f ≡ tab n f ++ (f n ∷ [])
unfolding tab
tab_more n f = tab_append n 1 f ∙ ap (λ (m : ℕ). tab n f ++ (f m ∷ [])) {x = n + 0} {y = n} (omega arith)

-- a list is what stands before its last number, and that number
pub with_last : (s : List ℕ) (n : ℕ) → length s ≡ suc n → s ≡ take n s ++ (get_or s n 0 ∷ [])
with_last s n size =
    split_at s n 0 (omega arith)
    ∙ ap (λ (rest : List ℕ). take n s ++ (get_or s n 0 ∷ rest)) (drop_of_length-le s {i = suc n} (omega arith))
