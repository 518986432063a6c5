-- A part of a list and the list with other numbers in its place: what is read there and beside it, a store, and two parts side by side.
-- Assumes nothing.
use mathlib.Core.Path.{◌≡◌, sym, ap, ap₂, ◌∙◌}
use mathlib.Core.List.{List, ◌++◌, append_assoc}
use Prim.Native.Nat.{ℕ, ◌+◌, ◌-◌, ◌<◌, ◌≤◌}
use native.Mathlib.Omega.{arith}
use lib.ListN.{length, get_or, take, drop, set, length-append, length-take, length-drop, take-append-drop, get_or-append}
use lib.Seq.{take-append-le, drop-append-le, take-take, length-take-le, take_at, drop_at, take-set-le, drop-set-add, set-append_left, drop-drop, take-add, get_or-append-add, get_or-drop, get_or-take}
use Rattle.lists.specs.Part.{part, replaced}

pub part_length : (at size : ℕ) (c : List ℕ) → at + size ≤ length c → length (part at size c) ≡ size
part_length at size c h = length-take-le size (drop at c) (omega (arith, length-drop at c))

-- two parts side by side are one
pub part_join : (at m n : ℕ) (c : List ℕ) → part at (m + n) c ≡ part at m c ++ part (at + m) n c
part_join at m n c = take-add m n (drop at c) ∙ ap (λ (l : List ℕ). part at m c ++ take n l) (drop-drop m at c)

pub replaced_self : (at size : ℕ) (c : List ℕ) → c ≡ replaced at size c (part at size c)
replaced_self at size c =
    sym (take-append-drop at c)
    ∙ ap (take at c ++◌) (sym (take-append-drop size (drop at c)) ∙ ap (part at size c ++◌) (drop-drop size at c))

-- what stands before a part stays
pub replaced_front : (m at size : ℕ) (c new : List ℕ) → m ≤ at → at ≤ length c → take m (replaced at size c new) ≡ take m c
replaced_front m at size c new l inside =
    take-append-le m (take at c) (new ++ drop (at + size) c) (omega (arith, length-take-le at c inside)) ∙ take-take m at c l

module _ (at size : ℕ) (c : List ℕ) (h : at + size ≤ length c) where
  front_length : length (take at c) ≡ at
  front_length = length-take-le at c (omega arith)

  module _ (new : List ℕ) (long : length new ≡ size) where
    pub replaced_length : length (replaced at size c new) ≡ length c
    replaced_length = simp (length-append, length-take, length-drop) (omega arith)

    -- as a list before a place, at the part's end
    split_end : replaced at size c new ≡ (take at c ++ new) ++ drop (at + size) c
    split_end = sym (append_assoc (take at c) new (drop (at + size) c))

    end_length : length (take at c ++ new) ≡ at + size
    end_length = length-append (take at c) new ∙ omega (arith, front_length)

    replaced_from : drop at (replaced at size c new) ≡ new ++ drop (at + size) c
    replaced_from = drop_at (take at c) _ at front_length

    pub replaced_behind : (m : ℕ) → at + size ≤ m → drop m (replaced at size c new) ≡ drop m c
    replaced_behind m past =
        ap (λ (n : ℕ). drop n (replaced at size c new)) {x = m} {y = at + size + (m - (at + size))} (omega arith)
        ∙ ap (drop (at + size + (m - (at + size)))) split_end
        ∙ sym (drop-drop (m - (at + size)) (at + size) _)
        ∙ ap (drop (m - (at + size))) (drop_at (take at c ++ new) _ (at + size) end_length)
        ∙ drop-drop (m - (at + size)) (at + size) c
        ∙ ap (λ (n : ℕ). drop n c) {x = at + size + (m - (at + size))} {y = m} (omega arith)

    pub replaced_part : part at size (replaced at size c new) ≡ new
    replaced_part = ap (take size) replaced_from ∙ take_at new _ size long

    pub replaced_at : (i : ℕ) → i < size → get_or (replaced at size c new) (at + i) 0 ≡ get_or new i 0
    replaced_at i l =
        sym (get_or-drop at (replaced at size c new) i 0)
        ∙ ap (λ (l : List ℕ). get_or l i 0) replaced_from
        ∙ get_or-append new _ 0 i (omega arith)

    pub replaced_past : (i : ℕ) → at + size ≤ i → get_or (replaced at size c new) i 0 ≡ get_or c i 0
    replaced_past i past =
        ap (λ (l : List ℕ). get_or l i 0) split_end
        ∙ ap (λ (n : ℕ). get_or ((take at c ++ new) ++ drop (at + size) c) n 0) {x = i} {y = length (take at c ++ new) + (i - (at + size))} (omega (arith, end_length))
        ∙ get_or-append-add (take at c ++ new) _ (i - (at + size)) 0
        ∙ get_or-drop (at + size) c (i - (at + size)) 0
        ∙ ap (λ (n : ℕ). get_or c n 0) {x = at + size + (i - (at + size))} {y = i} (omega arith)

    pub replaced_set : (i v : ℕ) → i < size → set (replaced at size c new) (at + i) v ≡ replaced at size c (set new i v)
    replaced_set i v l =
        sym (take-append-drop at (set (replaced at size c new) (at + i) v))
        ∙ ap₂ ◌++◌
        (take-set-le at (replaced at size c new) (at + i) v (omega arith) ∙ take_at (take at c) _ at front_length)
        (drop-set-add at (replaced at size c new) i v
        ∙ ap (λ (l : List ℕ). set l i v) replaced_from
        ∙ set-append_left new _ i v (omega arith))

    pub replaced_twice : (again : List ℕ) → replaced at size (replaced at size c new) again ≡ replaced at size c again
    replaced_twice again =
        ap₂ (λ (front back : List ℕ). front ++ (again ++ back))
        (take_at (take at c) _ at front_length)
        (replaced_behind (at + size) (omega arith))

    -- the part behind replaced too
    pub replaced_join : (n : ℕ) (next : List ℕ)
        → replaced (at + size) n (replaced at size c new) next ≡ replaced at (size + n) c (new ++ next)
    replaced_join n next =
        ap₂ (λ (front back : List ℕ). front ++ (next ++ back))
        (ap (take (at + size)) split_end ∙ take_at (take at c ++ new) _ (at + size) end_length)
        (replaced_behind (at + size + n) (omega arith) ∙ ap (λ (m : ℕ). drop m c) {x = at + size + n} {y = at + (size + n)} (omega arith))
        ∙ simp append_assoc

-- A part as it is lent, up to an end, and as it comes back

pub lent_part : (at size : ℕ) (c : List ℕ) → take (at + size - at) (drop at c) ≡ part at size c
lent_part at size c = ap (λ (m : ℕ). take m (drop at c)) {x = at + size - at} {y = size} (omega arith)

pub returned_part : (at size : ℕ) (c new : List ℕ) → take at c ++ (new ++ drop (at + size - at) (drop at c)) ≡ replaced at size c new
returned_part at size c new =
    ap (λ (m : ℕ). take at c ++ (new ++ drop m (drop at c))) {x = at + size - at} {y = size} (omega arith)
    ∙ ap (λ (l : List ℕ). take at c ++ (new ++ l)) (drop-drop size at c)

-- The same where what lies behind y is split off first: x is in front of it
module _ (at size end : ℕ) (c x y : List ℕ) (split : c ≡ x ++ y) (to : end ≡ at + size) (inside : at + size ≤ length x) where
  lent_front : take (end - at) (drop at x) ≡ part at size x
  lent_front = ap (λ (e : ℕ). take (e - at) (drop at x)) to ∙ lent_part at size x

  pub split_part : take (end - at) (drop at x) ≡ part at size c
  split_part =
      lent_front
      ∙ sym (ap (part at size) split
      ∙ ap (take size) (drop-append-le at x y (omega arith))
      ∙ take-append-le size (drop at x) y (omega (arith, length-drop at x)))

  split_replaced : (new : List ℕ) → replaced at size x new ++ y ≡ replaced at size c new
  split_replaced new =
      simp append_assoc
      (sym (ap (λ (l : List ℕ). replaced at size l new) split
      ∙ ap₂ (λ (front back : List ℕ). front ++ (new ++ back)) (take-append-le at x y (omega arith)) (drop-append-le (at + size) x y inside)))

  -- what f makes of the part
  pub split_returned : (f : List ℕ → List ℕ) (new : List ℕ) → new ≡ f (take (end - at) (drop at x))
      → (take at x ++ (new ++ drop (end - at) (drop at x))) ++ y ≡ replaced at size c (f (part at size c))
  split_returned f new is =
      ap (λ (e : ℕ). (take at x ++ (new ++ drop (e - at) (drop at x))) ++ y) to
      ∙ ap (◌++ y) (returned_part at size x new)
      ∙ split_replaced new
      ∙ ap (replaced at size c) (is ∙ ap f split_part)

-- Lent in three parts, of which the middle one has other numbers at its front when it is given back

module _ (at size : ℕ) (c front behind before room : List ℕ) (first : c ≡ front ++ behind) (second : front ≡ before ++ room)
    (long : length before ≡ at) (enough : size ≤ length room) where
  pub middle_returned : (k : ℕ) (new : List ℕ) → k ≡ size → (before ++ (new ++ drop k room)) ++ behind ≡ replaced at size c new
  middle_returned k new is =
      append_assoc before (new ++ drop k room) behind
      ∙ ap₂ ◌++◌
      (sym (ap (take at) (first ∙ ap (◌++ behind) second ∙ append_assoc before room behind) ∙ take_at before (room ++ behind) at long))
      (append_assoc new (drop k room) behind
      ∙ ap (new ++◌)
      (ap (λ (n : ℕ). drop n room ++ behind) is
      ∙ sym (drop-append-le size room behind enough)
      ∙ ap (drop size) (sym (ap (drop at) (first ∙ ap (◌++ behind) second ∙ append_assoc before room behind) ∙ drop_at before (room ++ behind) at long))
      ∙ drop-drop size at c))

-- a number of a part that is lent out of the front of a list
pub lent_at : (at size i : ℕ) (c front behind : List ℕ) → c ≡ front ++ behind → at + size ≤ length front → i < size
    → get_or (take (at + size - at) (drop at front)) i 0 ≡ get_or c (at + i) 0
lent_at at size i c front behind is enough h =
    get_or-take (at + size - at) (drop at front) i 0 (omega arith)
    ∙ get_or-drop at front i 0
    ∙ sym (ap (λ (s : List ℕ). get_or s (at + i) 0) is ∙ get_or-append front behind 0 (at + i) (omega arith))

pub lent_at_length : (at size : ℕ) (front : List ℕ) → at + size ≤ length front → length (take (at + size - at) (drop at front)) ≡ size
lent_at_length at size front enough =
    length-take-le (at + size - at) (drop at front) (omega (arith, length-drop at front)) ∙ omega arith
