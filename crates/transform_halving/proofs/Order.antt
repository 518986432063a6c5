-- Digits in reverse: reversing twice changes nothing, and a list arranged so has its even places in front and its odd places behind, at every
-- size. So halving the arranged list side by side is halving by even and odd places.
-- Assumes nothing.
use mathlib.Core.Path.{◌≡◌, refl, sym, ap, ap₂, ◌∙◌}
use mathlib.Core.List.{List, ◌++◌}
use Prim.Native.Nat.{ℕ, zero, suc, ◌+◌, ◌*◌, ◌^◌, ◌/◌, ◌%◌, ◌<◌, ◌≤◌}
use native.Mathlib.Nat.{pow-suc, mul-le-mul_left}
use native.Mathlib.Omega.{arith}
use lib.Dec.{lit<}
use lib.ListN.{length, get_or}
use lib.Seq.{take_at, drop_at}
use Rattle.field.specs.Field.{product}
use Rattle.field.specs.Size.{level_of}
use Rattle.field.proofs.Sizes.{level_power}
use Rattle.poly.specs.Parts.{evens, odds}
use Rattle.lists.specs.Tab.{tab}
use Rattle.poly.proofs.Parts.{parts_length, parts_at}
use Rattle.lists.proofs.Tab.{tab_length, tab_ext, tab_append, tab_get_or}
use Rattle.transform_halving.specs.Halving.{joined, halving}
use Rattle.transform_halving.specs.InPlace.{halved}
use Rattle.transform_halving.specs.Order.{reversed, arranged}

pub reversed_none : (i : ℕ) → reversed 0 i ≡ 0
unfolding reversed
reversed_none i = refl

-- the lowest digit becomes the highest
pub reversed_suc : (k i : ℕ) → reversed (suc k) i ≡ i % 2 * 2 ^ k + reversed k (i / 2)
unfolding reversed
reversed_suc k i = refl

pub reversed_zero : (k : ℕ) → reversed k 0 ≡ 0
reversed_zero zero = reversed_none 0
reversed_zero (suc k) = omega (arith, reversed_suc k 0, reversed_zero k)

pub reversed_lt : (k i : ℕ) → reversed k i < 2 ^ k
reversed_lt zero i = unfold reversed in omega arith
reversed_lt (suc k) i =
    let one : i % 2 ≤ 1 = omega arith in
    omega (arith, reversed_suc k i, mul-le-mul_left (2 ^ k) one, reversed_lt k (i / 2))

-- and the highest the lowest
reversed_high : (k t j : ℕ) → t < 2 → j < 2 ^ k → reversed (suc k) (t * 2 ^ k + j) ≡ 2 * reversed k j + t
reversed_high zero t j ht hj = unfold reversed in omega arith
reversed_high (suc k) t j ht hj =
    reversed_suc (suc k) (t * 2 ^ suc k + j)
    ∙ ap₂ ◌+◌
    (ap (◌* 2 ^ suc k) {y = j % 2} (omega (arith, ap (t *◌) (pow-suc 2 k))))
    (ap (reversed (suc k)) {y = t * 2 ^ k + j / 2} (omega (arith, ap (t *◌) (pow-suc 2 k))) ∙ reversed_high k t (j / 2) ht (omega arith))
    ∙ omega (arith, reversed_suc k j, ap (j % 2 *◌) (pow-suc 2 k))

pub reversed_twice : (k i : ℕ) → i < 2 ^ k → reversed k (reversed k i) ≡ i
reversed_twice zero i h = unfold reversed in omega arith
reversed_twice (suc k) i h =
    ap (reversed (suc k)) (reversed_suc k i)
    ∙ reversed_high k (i % 2) (reversed k (i / 2)) (omega arith) (reversed_lt k (i / 2))
    ∙ omega (arith, reversed_twice k (i / 2) (omega arith))

-- A list of 2 ^ k numbers, arranged

unfoldable pub in_order : ℕ → List ℕ → List ℕ
in_order k a = tab (2 ^ k) (λ i. get_or a (reversed k i) 0)

pub arranged_in_order : (k : ℕ) → k ≤ 16 → (a : List ℕ) → length a ≡ 2 ^ k → arranged a ≡ in_order k a
unfolding arranged in_order
arranged_in_order k h a long =
    ap (λ (n : ℕ). tab n (λ i. get_or a (reversed (level_of n) i) 0)) long
    ∙ ap (λ (l : ℕ). tab (2 ^ k) (λ i. get_or a (reversed l i) 0)) (level_power k h)

in_order_length : (k : ℕ) (a : List ℕ) → length (in_order k a) ≡ 2 ^ k
unfolding in_order
in_order_length k a = tab_length (2 ^ k) _

-- even places in front, odd places behind
in_order_parts : (k : ℕ) (a : List ℕ) → in_order (suc k) a ≡ in_order k (evens a) ++ in_order k (odds a)
unfolding in_order
in_order_parts k a =
    ap (λ (n : ℕ). tab n (λ i. get_or a (reversed (suc k) i) 0)) {y = 2 ^ k + 2 ^ k} (omega arith)
    ∙ tab_append (2 ^ k) (2 ^ k) _
    ∙ ap₂ ◌++◌
    (tab_ext (2 ^ k) _ _ (λ i h. moved i i 0 (reversed k i + reversed k i) (lit< tt) h (omega arith) (omega arith) ∙ sym (parts_at a (reversed k i)).0))
    (tab_ext (2 ^ k) _ _ (λ i h.
    moved i (2 ^ k + i) 1 (suc (reversed k i + reversed k i)) (lit< tt) h (omega arith) (omega arith) ∙ sym (parts_at a (reversed k i)).1))
  where
    moved : (i x t m : ℕ) → t < 2 → i < 2 ^ k → x ≡ t * 2 ^ k + i → m ≡ 2 * reversed k i + t
        → get_or a (reversed (suc k) x) 0 ≡ get_or a m 0
    moved i x t m ht h from to =
        ap (λ (n : ℕ). get_or a n 0) (ap (reversed (suc k)) from ∙ reversed_high k t i ht h ∙ sym to)

in_order_single : (a : List ℕ) → length a ≡ 1 → in_order 0 a ≡ a
unfolding in_order reversed
in_order_single a e =
    ap (λ (n : ℕ). tab n (λ i. get_or a 0 0)) (sym e)
    ∙ tab_ext (length a) _ _ (λ i h. ap (λ (n : ℕ). get_or a n 0) {x = 0} {y = i} (omega arith))
    ∙ tab_get_or a

pub halved_is : (k r : ℕ) (a : List ℕ) → length a ≡ 2 ^ k → halved k r (in_order k a) ≡ halving k r a
unfolding halved halving
halved_is zero r a e = in_order_single a e
halved_is (suc k) r a e =
    rw (in_order_parts, take_at _ _ (2 ^ k) (in_order_length k (evens a)), drop_at _ _ (2 ^ k) (in_order_length k (evens a)))
    (ap₂ (joined r)
    (halved_is k (product r r) (evens a) (omega (arith, (parts_length a).0)))
    (halved_is k (product r r) (odds a) (omega (arith, (parts_length a).1))))
