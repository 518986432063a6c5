-- A coefficient of the product of two lists as the code adds it up: no product in it has a factor from outside the lists.
-- Assumes nothing.
use mathlib.Core.Path.{◌≡◌, sym, ap, ap₂, ◌∙◌}
use mathlib.Core.List.{List, ◌++◌}
use Prim.Native.Nat.{ℕ, suc, ◌+◌, ◌-◌, ◌*◌, ◌%◌, ◌<◌, ◌≤◌}
use native.Mathlib.Nat.{zero-add, add-zero}
use native.Mathlib.Omega.{arith}
use lib.ListN.{length, get_or, take, drop, length-drop, replicate, length-replicate, get_or-replicate, get_or-append, get_or-eq_default}
use lib.Seq.{length-take-le, take_all, get_or-take, get_or-drop, get_or-append-add}
use Rattle.poly.specs.Sum.{total}
use Rattle.poly.proofs.Sum.{total_ext, total_zero, total_append, total_more}
use Rattle.decode_product.specs.Factors.{crossed, run, coefficient}

-- only the terms in the middle are not 0
total_middle : (m n k : ℕ) (f : ℕ → ℕ) → ((i : ℕ) → i < m → f i ≡ 0) → ((i : ℕ) → i < k → f (m + (n + i)) ≡ 0)
    → total (m + (n + k)) f ≡ total n (λ i. f (m + i))
total_middle m n k f before behind =
    total_append m (n + k) f
    ∙ ap₂ ◌+◌
    (total_ext m f (λ i. 0) before ∙ total_zero m)
    (total_append n k (λ i. f (m + i)) ∙ ap (total n (λ i. f (m + i)) +◌) (total_ext k _ (λ i. 0) behind ∙ total_zero k))
    ∙ omega arith

pub run_whole : (a b : List ℕ) (i : ℕ) → i ≡ length a → total i (λ j. get_or a j 0 * get_or b (length a - suc j) 0) ≡ run a b 0 (length a)
unfolding run
run_whole a b i all =
    total_ext i _ (λ j. get_or a (0 + j) 0 * get_or b (length a - suc j) 0)
    (λ j h. ap (λ (n : ℕ). get_or a n 0 * get_or b (length a - suc j) 0) (sym (zero-add j)))
    ∙ ap (λ (n : ℕ). total n (λ j. get_or a (0 + j) 0 * get_or b (length a - suc j) 0)) {x = i} {y = length a - 0} (omega arith)

-- The products that are added up

module _ (a b : List ℕ) (from to : ℕ) where
  pub run_none : 0 ≡ total (from - from) (λ j. get_or a (from + j) 0 * get_or b (to - suc j) 0)
  unfolding total
  run_none = sym (ap (λ (n : ℕ). total n (λ j. get_or a (from + j) 0 * get_or b (to - suc j) 0)) {x = from - from} {y = 0} (omega arith))

  pub run_more : (i sum x y : ℕ) → from ≤ i → sum ≡ total (i - from) (λ j. get_or a (from + j) 0 * get_or b (to - suc j) 0)
      → x ≡ get_or a i 0 → y ≡ get_or b (to + from - suc i) 0
      → sum + x * y ≡ total (i + 1 - from) (λ j. get_or a (from + j) 0 * get_or b (to - suc j) 0)
  run_more i sum x y le is here there =
      ap₂ ◌+◌ is (ap₂ ◌*◌
      (here ∙ ap (λ (n : ℕ). get_or a n 0) {x = i} {y = from + (i - from)} (omega arith))
      (there ∙ ap (λ (n : ℕ). get_or b n 0) {x = to + from - suc i} {y = to - suc (i - from)} (omega arith)))
      ∙ sym (total_more (i - from) _)
      ∙ ap (λ (n : ℕ). total n (λ j. get_or a (from + j) 0 * get_or b (to - suc j) 0)) {x = i - from + 1} {y = i + 1 - from} (omega arith)

-- The products of parts of two lists

pub run_front : (a b : List ℕ) (n m : ℕ) → length b ≡ length a → n ≡ m → m ≤ length a
    → run (take n a) (take n b) 0 (length (take n a)) ≡ run a b 0 m
unfolding run
run_front a b n m long same h =
    ap (λ (l : ℕ). total (l - 0) (λ j. get_or (take n a) (0 + j) 0 * get_or (take n b) (l - suc j) 0)) {x = length (take n a)} {y = m} (length-take-le n a (omega arith) ∙ same)
    ∙ total_ext (m - 0) _ _ (λ j l.
    ap₂ ◌*◌ (get_or-take n a (0 + j) 0 (omega arith)) (get_or-take n b (m - suc j) 0 (omega arith)))

pub run_behind : (a b : List ℕ) (m : ℕ) → length b ≡ length a → m ≤ length a
    → run (take (length a - m) (drop m a)) (take (length b - m) (drop m b)) 0 (length (take (length a - m) (drop m a))) ≡ run a b m (length a)
unfolding run
run_behind a b m long h =
    ap₂ (λ (s t : List ℕ). total (length s - 0) (λ j. get_or s (0 + j) 0 * get_or t (length s - suc j) 0))
    (take_all (length a - m) (drop m a) (omega (arith, length-drop m a)))
    (take_all (length b - m) (drop m b) (omega (arith, length-drop m b)))
    ∙ ap (λ (l : ℕ). total (l - 0) (λ j. get_or (drop m a) (0 + j) 0 * get_or (drop m b) (l - suc j) 0)) (length-drop m a)
    ∙ ap (λ (l : ℕ). total l (λ j. get_or (drop m a) (0 + j) 0 * get_or (drop m b) (length a - m - suc j) 0)) {x = length a - m - 0} {y = length a - m} (omega arith)
    ∙ total_ext (length a - m) _ _ (λ j l.
    ap₂ ◌*◌
    (get_or-drop m a (0 + j) 0 ∙ ap (λ (n : ℕ). get_or a n 0) {x = m + (0 + j)} {y = m + j} (omega arith))
    (get_or-drop m b (length a - m - suc j) 0 ∙ ap (λ (n : ℕ). get_or b n 0) {x = m + (length a - m - suc j)} {y = length a - suc j} (omega arith)))

-- Two lists of one length

module _ (a b : List ℕ) (w : ℕ) (long_a : length a ≡ w) (long_b : length b ≡ w) (i : ℕ) (h : i < w) where
  unreached : (s : List ℕ) → get_or (replicate w 0 ++ s) i 0 ≡ 0
  unreached s = get_or-append (replicate w 0) s 0 i (omega (arith, length-replicate {A = ℕ} w 0)) ∙ get_or-replicate w i 0 0 h

  reached : (s : List ℕ) → get_or (replicate w 0 ++ s) (w + i) 0 ≡ get_or s i 0
  reached s =
      ap (λ (n : ℕ). get_or (replicate w 0 ++ s) (n + i) 0) (sym (length-replicate {A = ℕ} w 0))
      ∙ get_or-append-add (replicate w 0) s i 0

  pub low_is : (r : ℕ) → r ≡ run a b 0 (i + 1) → r % 65537 ≡ coefficient a b i
  unfolding run coefficient crossed
  low_is r is =
      rw (long_a, long_b, unreached a, unreached b)
      (ap (◌% 65537)
      (is
      ∙ ap (λ (n : ℕ). total n (λ j. get_or a (0 + j) 0 * get_or b (i + 1 - suc j) 0)) {x = i + 1 - 0} {y = suc i} (omega arith)
      ∙ total_ext (suc i) _ _ (λ j l.
      ap (λ (n : ℕ). get_or a (0 + j) 0 * get_or b n 0) {x = i + 1 - suc j} {y = i - j} (omega arith)
      ∙ ap (λ (n : ℕ). get_or a n 0 * get_or b (i - j) 0) (zero-add j))
      ∙ sym (add-zero _)))

  crossed_high : crossed a b (w + i) ≡ run a b (i + 1) w
  unfolding run crossed
  crossed_high =
      ap (λ (n : ℕ). total n (λ j. get_or a j 0 * get_or b (w + i - j) 0)) {x = suc (w + i)} {y = i + 1 + (w - (i + 1) + (i + 1))} (omega arith)
      ∙ total_middle (i + 1) (w - (i + 1)) (i + 1) _
      (λ j l. ap (get_or a j 0 *◌) (get_or-eq_default b 0 {n = w + i - j} (omega arith)) ∙ omega arith)
      (λ j l. ap (◌* get_or b (w + i - (i + 1 + (w - (i + 1) + j))) 0) (get_or-eq_default a 0 {n = i + 1 + (w - (i + 1) + j)} (omega arith)) ∙ omega arith)
      ∙ total_ext (w - (i + 1)) _ _ (λ j l. ap (λ (n : ℕ). get_or a (i + 1 + j) 0 * get_or b n 0) {x = w + i - (i + 1 + j)} {y = w - suc j} (omega arith))

  pub high_is : (r x y : ℕ) → r ≡ run a b (i + 1) w → x ≡ get_or a i 0 → y ≡ get_or b i 0 → (r + (x + y)) % 65537 ≡ coefficient a b (w + i)
  unfolding coefficient
  high_is r x y is one other =
      rw (long_a, long_b, reached a, reached b, crossed_high)
      (ap (◌% 65537) (ap₂ ◌+◌ is (ap₂ ◌+◌ one other)))
