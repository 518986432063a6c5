-- A list in which n numbers from a place on are written anew and the rest is as it was: what a loop that writes a slice keeps true. One law
-- for a store at the window's end, one for a store before it, and what is read before, in and past it.
-- Assumes nothing.
use mathlib.Core.Path.{◌≡◌, sym, ap, ◌∙◌}
use mathlib.Core.List.{List, ◌∷◌, ◌++◌, append_assoc, append-nil}
use Prim.Native.Nat.{ℕ, suc, ◌+◌, ◌-◌, ◌<◌, ◌≤◌}
use native.Mathlib.Nat.{zero-add}
use native.Mathlib.Omega.{arith}
use lib.ListN.{length, get_or, take, drop, set, length-append, length-take, length-drop, take-append-drop, drop_of_length-le, get_or-append}
use lib.Seq.{take_at, drop-append-add, drop-drop, length-take-le, drop-cons, set_at, set-append_left, take-set-lt, drop-set-lt, get_or-append-add, get_or-drop, get_or-take}
use Rattle.lists.specs.Tab.{tab}
use Rattle.lists.proofs.Tab.{tab_length, tab_at, tab_more}

unfoldable pub window : ℕ → ℕ → (ℕ → ℕ) → List ℕ → List ℕ
window at n f d = take at d ++ (tab n f ++ drop (at + n) d)

pub window_none : (at : ℕ) (f : ℕ → ℕ) (d : List ℕ) → d ≡ window at 0 f d
unfolding window tab
window_none at f d =
    sym (take-append-drop at d) ∙ ap (λ (m : ℕ). take at d ++ drop m d) {x = at} {y = at + 0} (omega arith)

front_length : (at n : ℕ) (f : ℕ → ℕ) (d : List ℕ) → at ≤ length d → length (take at d ++ tab n f) ≡ at + n
front_length at n f d h = simp (length-append, length-take-le at d h, tab_length)

pub window_length : (at n : ℕ) (f : ℕ → ℕ) (d : List ℕ) → at + n ≤ length d → length (window at n f d) ≡ length d
unfolding window
window_length at n f d h = simp (length-append, length-take, length-drop, tab_length) (omega arith)

pub window_store : (at n i : ℕ) (f : ℕ → ℕ) (d e : List ℕ) (v : ℕ) → i ≡ at + n → i < length d → e ≡ window at n f d → v ≡ f n
    → set e i v ≡ window at (n + 1) f d
unfolding window
window_store at n i f d e v place h is new =
    ap (λ (l : List ℕ). set l i v)
    (is ∙ sym (append_assoc (take at d) (tab n f) (drop (at + n) d))
    ∙ ap ((take at d ++ tab n f) ++◌) (drop-cons d (at + n) 0 (omega arith)))
    ∙ set_at (take at d ++ tab n f) _ _ v i (front_length at n f d (omega arith) ∙ sym place)
    ∙ ap (λ (w : ℕ). (take at d ++ tab n f) ++ (w ∷ drop (suc (at + n)) d)) new
    ∙ simp (tab_more, append_assoc)
    (ap (λ (m : ℕ). take at d ++ (tab n f ++ (f n ∷ drop m d))) {x = suc (at + n)} {y = at + (n + 1)} (omega arith))

pub window_set_before : (at n i : ℕ) (f : ℕ → ℕ) (d : List ℕ) (v : ℕ) → i < at → at ≤ length d
    → set (window at n f d) i v ≡ window at n f (set d i v)
unfolding window
window_set_before at n i f d v h l =
    rw (take-set-lt at d i v h, drop-set-lt (at + n) d i v (omega arith))
    (set-append_left (take at d) (tab n f ++ drop (at + n) d) i v (omega (arith, length-take-le at d l)))

pub window_before : (at n i : ℕ) (f : ℕ → ℕ) (d : List ℕ) → i < at → at ≤ length d → get_or (window at n f d) i 0 ≡ get_or d i 0
unfolding window
window_before at n i f d h l =
    get_or-append (take at d) (tab n f ++ drop (at + n) d) 0 i (omega (arith, length-take-le at d l)) ∙ get_or-take at d i 0 h

pub window_past : (at n i : ℕ) (f : ℕ → ℕ) (d : List ℕ) → at + n ≤ i → at ≤ length d → get_or (window at n f d) i 0 ≡ get_or d i 0
unfolding window
window_past at n i f d h l =
    ap (λ (l : List ℕ). get_or l i 0) (sym (append_assoc (take at d) (tab n f) (drop (at + n) d)))
    ∙ ap (λ (m : ℕ). get_or ((take at d ++ tab n f) ++ drop (at + n) d) m 0) {x = i} {y = length (take at d ++ tab n f) + (i - (at + n))} (omega (arith, front_length at n f d l))
    ∙ get_or-append-add (take at d ++ tab n f) (drop (at + n) d) (i - (at + n)) 0
    ∙ get_or-drop (at + n) d (i - (at + n)) 0
    ∙ ap (λ (m : ℕ). get_or d m 0) {y = i} (omega arith)

pub window_at : (at n i : ℕ) (f : ℕ → ℕ) (d : List ℕ) → i < n → at ≤ length d → get_or (window at n f d) (at + i) 0 ≡ f i
unfolding window
window_at at n i f d h l =
    ap (λ (m : ℕ). get_or (take at d ++ (tab n f ++ drop (at + n) d)) (m + i) 0) (sym (length-take-le at d l))
    ∙ get_or-append-add (take at d) (tab n f ++ drop (at + n) d) i 0
    ∙ get_or-append (tab n f) (drop (at + n) d) 0 i (omega (arith, tab_length n f))
    ∙ tab_at n f i h

-- a window that reaches to the list's end, and what is taken off a window at its front
pub window_end : (at n : ℕ) (f : ℕ → ℕ) (d : List ℕ) → length d ≤ at + n → window at n f d ≡ take at d ++ tab n f
unfolding window
window_end at n f d h = rw (drop_of_length-le d h) (ap (take at d ++◌) (append-nil (tab n f)))

pub window_front : (n : ℕ) (f : ℕ → ℕ) (d : List ℕ) → take n (window 0 n f d) ≡ tab n f
unfolding window
window_front n f d = take_at (tab n f) _ n (tab_length n f)

-- a window as long as the list
pub window_all : (n : ℕ) (f : ℕ → ℕ) (d : List ℕ) → length d ≤ n → window 0 n f d ≡ tab n f
window_all n f d h = window_end 0 n f d (omega arith)

-- a loop that has written each number of a list
pub window_done : (n i : ℕ) (f : ℕ → ℕ) (d e : List ℕ) → length d ≡ n → i ≤ n → n ≤ i → e ≡ window 0 i f d → e ≡ tab n f
window_done n i f d e long le ge is = is ∙ window_all i f d (omega arith) ∙ ap (λ (m : ℕ). tab m f) {x = i} {y = n} (omega arith)

-- a loop that changes each number in its place
pub window_change : (g : ℕ → ℕ) (i : ℕ) (d e : List ℕ) (v : ℕ) → i < length d → e ≡ window 0 i (λ j. g (get_or d j 0)) d
    → v ≡ g (get_or e i 0) → set e i v ≡ window 0 (i + 1) (λ j. g (get_or d j 0)) d
window_change g i d e v h is new =
    window_store 0 i i (λ j. g (get_or d j 0)) d e v (sym (zero-add i)) h is
    (new ∙ ap g (ap (λ (l : List ℕ). get_or l i 0) is ∙ window_past 0 i i (λ j. g (get_or d j 0)) d (omega arith) (omega arith)))

-- what stands before a window, and what from a place behind it on
pub window_lead : (at n : ℕ) (f : ℕ → ℕ) (d : List ℕ) → at ≤ length d → take at (window at n f d) ≡ take at d
unfolding window
window_lead at n f d h = take_at (take at d) _ at (length-take-le at d h)

pub window_rest : (at n m : ℕ) (f : ℕ → ℕ) (d : List ℕ) → at ≤ length d → at + n ≤ m → drop m (window at n f d) ≡ drop m d
unfolding window
window_rest at n m f d h l =
    ap (drop m) (sym (append_assoc (take at d) (tab n f) (drop (at + n) d)))
    ∙ ap (λ (x : ℕ). drop x ((take at d ++ tab n f) ++ drop (at + n) d)) {x = m} {y = length (take at d ++ tab n f) + (m - (at + n))} (omega (arith, front_length at n f d h))
    ∙ drop-append-add (take at d ++ tab n f) (drop (at + n) d) (m - (at + n))
    ∙ drop-drop (m - (at + n)) (at + n) d
    ∙ ap (λ (x : ℕ). drop x d) {x = at + n + (m - (at + n))} {y = m} (omega arith)
