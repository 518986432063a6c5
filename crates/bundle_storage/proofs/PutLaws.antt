-- Bytes that are put into a list: what one put makes of it, two puts one behind the other, a number that is put, and what is read after.
-- Assumes nothing.
use mathlib.Core.Path.{◌≡◌, sym, ap, ap₂, ◌∙◌}
use mathlib.Core.List.{List, [], ◌∷◌, ◌++◌, append_assoc}
use Prim.Native.Nat.{ℕ, suc, ◌+◌, ◌-◌, ◌/◌, ◌%◌, ◌<◌, ◌≤◌}
use native.Mathlib.Nat.{zero-add}
use native.Mathlib.Omega.{arith}
use lib.ListN.{length, take, drop, set, length-append, length-take, length-drop, take-append-drop}
use lib.Seq.{take_at, drop_at, drop-drop, drop-append-add, length-take-le, sets-eq}
use Rattle.answers.specs.Leaves.{written}
use Rattle.bundle_storage.specs.Bytes.{two, four, put}
use Rattle.bundle_storage.proofs.BytesLaws.{Alike, alike_past, alike_front, alike_take, alike_drop, two_length}

-- new bytes in the place of old ones
pub put_at : (bytes p old q : List ℕ) (at : ℕ) → length p ≡ at → length old ≡ length bytes → put bytes at (p ++ (old ++ q)) ≡ p ++ (bytes ++ q)
unfolding put
put_at bytes p old q at e same =
    ap₂ (λ (front back : List ℕ). front ++ (bytes ++ back)) (take_at p (old ++ q) at e)
    (ap (drop (at + length bytes)) (sym (append_assoc p old q)) ∙ drop_at (p ++ old) q (at + length bytes) (omega (arith, length-append p old)))

-- at the front
pub put_front : (bytes s : List ℕ) → written bytes s ≡ put bytes 0 s
unfolding put
put_front bytes s = ap (λ (m : ℕ). bytes ++ drop m s) (sym (zero-add (length bytes)))

-- a list as what stands before, in and behind a place
pub parted : (n at : ℕ) (s : List ℕ) → s ≡ take at s ++ (take n (drop at s) ++ drop (at + n) s)
parted n at s =
    sym (take-append-drop at s)
    ∙ ap (take at s ++◌) (sym (take-append-drop n (drop at s)) ∙ ap (take n (drop at s) ++◌) (drop-drop n at s))

pub put_length : (bytes : List ℕ) (at : ℕ) (s : List ℕ) → at + length bytes ≤ length s → length (put bytes at s) ≡ length s
unfolding put
put_length bytes at s h = simp (length-append, length-take, length-drop) (omega arith)

-- behind the bytes all is as it was
pub put_behind : (bytes : List ℕ) (at : ℕ) (s : List ℕ) (m : ℕ) → at + length bytes ≤ m → at ≤ length s → drop m (put bytes at s) ≡ drop m s
unfolding put
put_behind bytes at s m inside h =
    let front = take at s ++ bytes in
    let end = at + length bytes in
    let long : length front ≡ end = length-append (take at s) bytes ∙ omega (arith, length-take-le at s h) in
    ap (drop m) (sym (append_assoc (take at s) bytes (drop end s)))
    ∙ ap (λ (i : ℕ). drop i (front ++ drop end s)) {x = m} {y = length front + (m - end)} (omega arith)
    ∙ drop-append-add front (drop end s) (m - end)
    ∙ drop-drop (m - end) end s
    ∙ ap (λ (i : ℕ). drop i s) {x = end + (m - end)} {y = m} (omega arith)

-- one put behind another
pub put_more : (p q : List ℕ) (at next : ℕ) (s : List ℕ) → next ≡ at + length p → at ≤ length s → put q next (put p at s) ≡ put (p ++ q) at s
unfolding put
put_more p q at next s e h =
    let rest = drop (at + length p) s in
    let size : length (take at s ++ p) ≡ next = length-append (take at s) p ∙ omega (arith, length-take-le at s h) in
    ap (put q next) (sym (append_assoc (take at s) p rest))
    ∙ ap₂ (λ (front back : List ℕ). front ++ (q ++ back)) (take_at (take at s ++ p) rest next size)
    (ap (λ (m : ℕ). drop m ((take at s ++ p) ++ rest)) {x = next + length q} {y = length (take at s ++ p) + length q} (omega arith)
    ∙ drop-append-add (take at s ++ p) rest (length q) ∙ drop-drop (length q) (at + length p) s)
    ∙ simp append_assoc
    (ap (λ (m : ℕ). take at s ++ (p ++ (q ++ drop m s))) {x = at + length p + length q} {y = at + length (p ++ q)} (omega (arith, length-append p q)))

-- a number that is put, as the code does it

pub stores_two : (x at : ℕ) (s : List ℕ) → at + 1 < length s → x < 65536 → set (set s at (x / 256)) (at + 1) (x % 256) ≡ put (two x) at s
unfolding put two
stores_two x at s h l =
    ap (λ (i : ℕ). set (set s at (x / 256)) i (x % 256)) {x = at + 1} {y = suc at} (omega arith)
    ∙ ap (λ (a : ℕ). set (set s at a) (suc at) (x % 256)) {x = x / 256} {y = x / 256 % 256} (omega arith)
    ∙ sets-eq (x / 256 % 256 ∷ x % 256 ∷ []) s at (omega arith)
    ∙ append_assoc (take at s) _ _

pub puts_four : (x at : ℕ) (s : List ℕ) → at + 3 < length s → put (two (x % 65536)) (at + 2) (put (two (x / 65536)) at s) ≡ put (four x) at s
unfolding four
puts_four x at s h =
    put_more (two (x / 65536)) (two (x % 65536)) at (at + 2) s (omega (arith, two_length (x / 65536))) (omega arith)

-- What stands there after a put

pub put_here : (bytes : List ℕ) (at : ℕ) (s : List ℕ) → at ≤ length s → Alike (length bytes) (put bytes at s) at bytes 0
unfolding put
put_here bytes at s h d l =
    alike_past (length bytes) (take at s) (bytes ++ drop (at + length bytes) s) 0 at (omega (arith, length-take-le at s h)) d l
    ∙ alike_front (length bytes) bytes (drop (at + length bytes) s) 0 (omega arith) d l

pub put_before : (n : ℕ) (bytes : List ℕ) (at : ℕ) (s : List ℕ) (i : ℕ) → i + n ≤ at → at ≤ length s → Alike n (put bytes at s) i s i
unfolding put
put_before n bytes at s i h l d m =
    alike_front n (take at s) (bytes ++ drop (at + length bytes) s) i (omega (arith, length-take-le at s l)) d m
    ∙ alike_take n at s i h d m

pub put_past : (n : ℕ) (bytes : List ℕ) (at : ℕ) (s : List ℕ) (i : ℕ) → at + length bytes ≤ i → at ≤ length s → Alike n (put bytes at s) i s i
unfolding put
put_past n bytes at s i h l d m =
    alike_past n (take at s) (bytes ++ drop (at + length bytes) s) (i - at) i (omega (arith, length-take-le at s l)) d m
    ∙ alike_past n bytes (drop (at + length bytes) s) (i - (at + length bytes)) (i - at) (omega arith) d m
    ∙ alike_drop n (at + length bytes) s (i - (at + length bytes)) i (omega arith) d m
