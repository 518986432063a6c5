-- Numbers in bytes: how long they are, that they are read back as they were written, and that bytes are the numbers that are read of them.
-- Assumes nothing.
use mathlib.Core.Path.{◌≡◌, refl, sym, ap, ap₂, ◌∙◌}
use mathlib.Core.List.{List, [], ◌∷◌, ◌++◌, append_assoc}
use Prim.Native.Nat.{ℕ, zero, suc, ◌+◌, ◌*◌, ◌/◌, ◌%◌, ◌<◌, ◌≤◌, suc-le-suc}
use native.Mathlib.Nat.{not-suc-le-zero, le_of_suc-le-suc}
use native.Mathlib.Decide.{dec_lt}
use native.Mathlib.Omega.{arith}
use lib.Dec.{lit<, lit≤}
use lib.ListN.{length, get_or, take, drop, length-take, get_or-append, get_or-eq_default}
use lib.Seq.{get_or-append-add, get_or-drop, get_or-take, drop-cons}
use Rattle.bundle_storage.specs.Bytes.{Bytes, two, four, in_bytes, two_at, four_at}

-- Lengths

pub two_length : (x : ℕ) → length (two x) ≡ 2
unfolding two
two_length x = refl

pub in_bytes_length : (xs : List ℕ) → length (in_bytes xs) ≡ 2 * length xs
unfolding in_bytes two
in_bytes_length [] = refl
in_bytes_length (x ∷ xs) = omega (arith, in_bytes_length xs)

-- Two places of two lists from which on the same n numbers stand; what is read there is the same

abbrev pub Alike : ℕ → List ℕ → ℕ → List ℕ → ℕ → Type 0
Alike n s i t j = (d : ℕ) → d < n → get_or s (i + d) 0 ≡ get_or t (j + d) 0

get_or_ix : (s : List ℕ) (i j : ℕ) → i ≡ j → get_or s i 0 ≡ get_or s j 0
get_or_ix s i j e = ap (λ (m : ℕ). get_or s m 0) e

pub two_alike : (s : List ℕ) (i : ℕ) (t : List ℕ) (j : ℕ) → Alike 2 s i t j → two_at s i ≡ two_at t j
unfolding two_at
two_alike s i t j same =
    omega (arith, same 0 (lit< tt), same 1 (lit< tt), get_or_ix s i (i + 0) (omega arith), get_or_ix t j (j + 0) (omega arith))

pub alike_on : (n m k : ℕ) (s : List ℕ) (i i' : ℕ) (t : List ℕ) (j j' : ℕ) → i' ≡ i + n → j' ≡ j + n → n + m ≤ k → Alike k s i t j
    → Alike m s i' t j'
alike_on n m k s i i' t j j' e f h same d l =
    get_or_ix s (i' + d) (i + (n + d)) (omega arith) ∙ same (n + d) (omega arith) ∙ get_or_ix t (j + (n + d)) (j' + d) (omega arith)

pub four_alike : (s : List ℕ) (i : ℕ) (t : List ℕ) (j : ℕ) → Alike 4 s i t j → four_at s i ≡ four_at t j
unfolding four_at
four_alike s i t j same =
    ap₂ (λ (a b : ℕ). 65536 * a + b) (two_alike s i t j (λ d h. same d (omega arith)))
    (two_alike s (i + 2) t (j + 2) (alike_on 2 2 4 s i (i + 2) t j (j + 2) refl refl (lit≤ tt) same))

pub alike_past : (n : ℕ) (p q : List ℕ) (at i : ℕ) → i ≡ length p + at → Alike n (p ++ q) i q at
alike_past n p q at i e d h = get_or_ix (p ++ q) (i + d) (length p + (at + d)) (omega arith) ∙ get_or-append-add p q (at + d) 0

pub alike_front : (n : ℕ) (p q : List ℕ) (at : ℕ) → at + n ≤ length p → Alike n (p ++ q) at p at
alike_front n p q at h d l = get_or-append p q 0 (at + d) (omega arith)

pub alike_drop : (n m : ℕ) (s : List ℕ) (at i : ℕ) → i ≡ m + at → Alike n (drop m s) at s i
alike_drop n m s at i e d h = get_or-drop m s (at + d) 0 ∙ get_or_ix s (m + (at + d)) (i + d) (omega arith)

pub alike_take : (n m : ℕ) (s : List ℕ) (at : ℕ) → at + n ≤ m → Alike n (take m s) at s at
alike_take n m s at h d l = get_or-take m s (at + d) 0 (omega arith)

pub in_bytes_there : (xs q : List ℕ) (j : ℕ) → j < length xs → Alike 2 (in_bytes xs ++ q) (2 * j) (two (get_or xs j 0)) 0
unfolding in_bytes
in_bytes_there [] q j h = absurd (not-suc-le-zero h)
in_bytes_there (x ∷ xs) q zero h =
    rw (append_assoc (two x) (in_bytes xs) q) (alike_front 2 (two x) (in_bytes xs ++ q) 0 (omega (arith, two_length x)))
in_bytes_there (x ∷ xs) q (suc j) h =
    rw (append_assoc (two x) (in_bytes xs) q)
    (λ d l. alike_past 2 (two x) (in_bytes xs ++ q) (2 * j) (2 * suc j) (omega (arith, two_length x)) d l
    ∙ in_bytes_there xs q j (le_of_suc-le-suc h) d l)

-- What was written is read back

two_back : (x : ℕ) → x < 65536 → two_at (two x) 0 ≡ x
unfolding two_at two
two_back x h = omega arith

pub in_bytes_at : (xs q : List ℕ) (j : ℕ) → j < length xs → get_or xs j 0 < 65536 → two_at (in_bytes xs ++ q) (2 * j) ≡ get_or xs j 0
in_bytes_at xs q j h low = two_alike _ (2 * j) _ 0 (in_bytes_there xs q j h) ∙ two_back (get_or xs j 0) low

pub in_bytes_append : (xs ys : List ℕ) → in_bytes (xs ++ ys) ≡ in_bytes xs ++ in_bytes ys
unfolding in_bytes
in_bytes_append [] ys = refl
in_bytes_append (x ∷ xs) ys = ap (two x ++◌) (in_bytes_append xs ys) ∙ sym (append_assoc (two x) (in_bytes xs) (in_bytes ys))

-- Bytes

-- past its end a list reads as 0
pub byte_at : (s : List ℕ) → Bytes s → (i : ℕ) → get_or s i 0 < 256
byte_at s bytes i =
    elim (dec_lt i (length s)) [
      | yes h ↦ bytes i h
      | no h ↦ omega (arith, get_or-eq_default s 0 {n = i} (omega arith))
    ]

pub two_lt : (s : List ℕ) (at : ℕ) → Bytes s → two_at s at < 65536
unfolding two_at
two_lt s at bytes = omega (arith, byte_at s bytes at, byte_at s bytes (at + 1))

-- each number of a list has a property

abbrev pub Each : (ℕ → Type 0) → List ℕ → Type 0
Each P s = (i : ℕ) → i < length s → P (get_or s i 0)

pub each_append : (P : ℕ → Type 0) (p q : List ℕ) → Each P p → Each P q → Each P (p ++ q)
each_append P [] q front back i h = back i h
each_append P (x ∷ p) q front back zero h = front 0 (omega arith)
each_append P (x ∷ p) q front back (suc i) h =
    each_append P p q (λ j l. front (suc j) (suc-le-suc l)) back i (le_of_suc-le-suc h)

pub bytes_append : (p q : List ℕ) → Bytes p → Bytes q → Bytes (p ++ q)
bytes_append = each_append (◌< 256)

pub two_bytes : (x : ℕ) → Bytes (two x)
unfolding two
two_bytes x zero h = omega arith
two_bytes x (suc zero) h = omega arith
two_bytes x (suc (suc i)) h = absurd (omega arith)

pub four_bytes : (x : ℕ) → Bytes (four x)
unfolding four
four_bytes x = bytes_append (two (x / 65536)) (two (x % 65536)) (two_bytes (x / 65536)) (two_bytes (x % 65536))

pub in_bytes_bytes : (xs : List ℕ) → Bytes (in_bytes xs)
unfolding in_bytes
in_bytes_bytes [] = λ i h. absurd (not-suc-le-zero h)
in_bytes_bytes (x ∷ xs) = bytes_append (two x) (in_bytes xs) (two_bytes x) (in_bytes_bytes xs)

pub bytes_drop : (n : ℕ) (s : List ℕ) → Bytes s → Bytes (drop n s)
bytes_drop n s bytes i h = rw (get_or-drop n s i 0) (byte_at s bytes (n + i))

pub bytes_take : (n : ℕ) (s : List ℕ) → Bytes s → Bytes (take n s)
bytes_take n s bytes i h = rw (get_or-take n s i 0 (omega (arith, length-take n s))) (byte_at s bytes i)

-- Bytes are the numbers that are read of them

pub two_split : (s : List ℕ) (at next : ℕ) → Bytes s → next ≡ at + 2 → next ≤ length s → drop at s ≡ two (two_at s at) ++ drop next s
unfolding two two_at
two_split s at next bytes e h =
    let first = byte_at s bytes at in
    let second = byte_at s bytes (at + 1) in
    let there = get_or_ix s (at + 1) (suc at) (omega arith) in
    let high : get_or s at 0 ≡ two_at s at / 256 % 256 = omega arith in
    let low : get_or s (suc at) 0 ≡ two_at s at % 256 = omega arith in
    let end : suc (suc at) ≡ next = omega arith in
    cc (drop-cons s at 0 (omega arith), drop-cons s (suc at) 0 (omega arith))

pub four_split : (s : List ℕ) (at next : ℕ) → Bytes s → next ≡ at + 4 → next ≤ length s → drop at s ≡ four (four_at s at) ++ drop next s
unfolding four four_at
four_split s at next bytes e h =
    two_split s at (at + 2) bytes refl (omega arith)
    ∙ ap (two (two_at s at) ++◌) (two_split s (at + 2) next bytes (omega arith) h)
    ∙ ap₂ (λ (a b : ℕ). two a ++ (two b ++ drop next s)) (omega (arith, two_lt s (at + 2) bytes)) (omega (arith, two_lt s (at + 2) bytes))
    ∙ sym (append_assoc (two (four_at s at / 65536)) (two (four_at s at % 65536)) (drop next s))
