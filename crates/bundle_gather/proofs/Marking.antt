-- The marks of the held positions mark them all and no other.
-- Assumes nothing.
use mathlib.Core.Path.{◌≡◌, refl, sym, ap, ap₂, ◌∙◌}
use mathlib.Core.Bool.{Bool, true, false, cond}
use mathlib.Core.List.{List, [], ◌∷◌}
use Prim.Native.Nat.{ℕ, zero, suc, ◌+◌, ◌<◌, ◌≤◌, suc-le-suc}
use native.Mathlib.Decide.{dec_lt, ℕ_discrete}
use native.Mathlib.Nat.{not-suc-le-zero, lt_of_lt_of_le, le_of_eq}
use native.Mathlib.Numerals.{add-one}
use native.Mathlib.Omega.{arith}
use borrow.Author.Tests.{ne_eqb}
use lib.Dec.{eqb}
use lib.ListN.{length, get_or, set, length-set, length-replicate, replicate, get_or-replicate}
use lib.Seq.{get_or-set_same, get_or-set_other}
use Rattle.field.specs.Points.{point_of}
use Rattle.answers.specs.Refusals.{the_result}
use Rattle.field.specs.Size.{size_of}
use Rattle.lists.specs.Tab.{tab}
use Rattle.lists.proofs.Tab.{tab_length, tab_at}
use Rattle.decode_missing.specs.Marks.{Marks}
use Rattle.decode_missing.specs.Missing.{unmarked}
use Rattle.decode_missing.proofs.Laying.{unmarked_le}
use Rattle.bundle_layout.specs.Fields.{n_in, held_in, position_in}
use Rattle.bundle_layout.specs.Layout.{layout_checks}
use Rattle.bundle_layout.proofs.Passing.{position_below, position_after}
use Rattle.bundle_gather.specs.Gathering.{marks_in, missing_in}
use Rattle.bundle_gather.proofs.Kept.{n_in_size}

-- a mark leaves one point fewer
unmarked_fewer : (N : ℕ) (marks : List ℕ) (b j : ℕ) → j < b → ¬ (get_or marks j 0 ≡ 0) → length (unmarked N marks b) < b
unfolding unmarked
unmarked_fewer N marks zero j h held = absurd (not-suc-le-zero h)
unmarked_fewer N marks (suc b) j h held =
    elim (dec_lt j b) [
      | yes l ↦ more (eqb (get_or marks b 0) 0) (unmarked_fewer N marks b j l held)
      | no g ↦ rw (ne_eqb (get_or marks b 0) 0 (λ free. held (ap (λ (i : ℕ). get_or marks i 0) {x = j} {y = b} (omega (arith, g, h)) ∙ free))) (suc-le-suc (unmarked_le N marks b))
    ]
  where
    more : (t : Bool) → length (unmarked N marks b) < b → length (cond t (point_of N b ∷ unmarked N marks b) (unmarked N marks b)) < suc b
    more true less = suc-le-suc less
    more false less = omega (arith, less)

module _ (s : List ℕ) where
  pub marks_long : (t : ℕ) → length (marks_in s t) ≡ size_of (n_in s)
  unfolding marks_in
  marks_long zero = length-replicate (size_of (n_in s)) 0
  marks_long (suc t) = length-set (marks_in s t) (position_in s t) 1 ∙ marks_long t

  -- as the code marks them

  pub marks_none : (zeros : List ℕ) (m : ℕ) → m ≡ size_of (n_in s) → zeros ≡ replicate m 0 → zeros ≡ marks_in s 0
  unfolding marks_in
  marks_none zeros m long cleared = cleared ∙ ap (λ (n : ℕ). replicate n 0) long

  pub marks_more : (t place : ℕ) (marks : List ℕ) → place ≡ position_in s t → marks ≡ marks_in s t → set marks place 1 ≡ marks_in s (t + 1)
  unfolding marks_in
  marks_more t place marks is before = ap₂ (λ (l : List ℕ) (i : ℕ). set l i 1) before is ∙ ap (marks_in s) (sym (add-one t))

  -- a place that is marked with one shadow more, where it is not that shadow's
  marks_before : (t j : ℕ) → ¬ (j ≡ position_in s t) → get_or (marks_in s (suc t)) j 0 ≡ get_or (marks_in s t) j 0
  unfolding marks_in
  marks_before t j other = get_or-set_other (marks_in s t) (position_in s t) j 1 0 other

  marks_only : (t j : ℕ) → j < size_of (n_in s) → ¬ (get_or (marks_in s t) j 0 ≡ 0) → (i : ℕ) × (i < t) × (position_in s i ≡ j)
  unfolding marks_in
  marks_only zero j h marked = absurd (marked (get_or-replicate (size_of (n_in s)) j 0 0 h))
  marks_only (suc t) j h marked =
      elim (ℕ_discrete j (position_in s t)) [
        | yes here ↦ (t, omega arith, sym here)
        | no other ↦ earlier (marks_only t j h (λ free. marked (marks_before t j other ∙ free)))
      ]
    where
      earlier : ((i : ℕ) × (i < t) × (position_in s i ≡ j)) → (i : ℕ) × (i < suc t) × (position_in s i ≡ j)
      earlier (i, l, is) = (i, omega (arith, l), is)

  module _ (good : layout_checks s ≡ the_result []) where
    pub position_inside : (t : ℕ) → t < held_in s → position_in s t < size_of (n_in s)
    position_inside t h = lt_of_lt_of_le (position_below s good t h) (n_in_size s good)

    marks_new : (t : ℕ) → t < held_in s → get_or (marks_in s (suc t)) (position_in s t) 0 ≡ 1
    unfolding marks_in
    marks_new t h = get_or-set_same (marks_in s t) (position_in s t) 1 0 (omega (arith, marks_long t, position_inside t h))

    -- what has no mark with one shadow more is not its place, and had none before
    pub marks_free : (t j : ℕ) → t < held_in s → get_or (marks_in s (suc t)) j 0 ≡ 0 → (¬ (j ≡ position_in s t)) × (get_or (marks_in s t) j 0 ≡ 0)
    marks_free t j h free = (other, sym (marks_before t j other) ∙ free)
      where
        other : ¬ (j ≡ position_in s t)
        other is = omega (arith, marks_new t h, ap (λ (z : ℕ). get_or (marks_in s (suc t)) z 0) is, free)

    marks_held : (t i : ℕ) → t ≤ held_in s → i < t → get_or (marks_in s t) (position_in s i) 0 ≡ 1
    marks_held zero i le h = absurd (not-suc-le-zero h)
    marks_held (suc t) i le h =
        elim (dec_lt i t) [
          | yes l ↦ marks_before t (position_in s i) (λ same. omega (arith, same, position_after s good i t l le)) ∙ marks_held t i (omega (arith, le)) l
          | no g ↦ ap (λ (z : ℕ). get_or (marks_in s (suc t)) (position_in s z) 0) {x = i} {y = t} (omega (arith, g, h)) ∙ marks_new t le
        ]

    pub marked : Marks (size_of (n_in s)) (tab (held_in s) (position_in s)) (marks_in s (held_in s))
    marked =
        record {
          long = marks_long (held_in s);
          held = λ t h free. omega (arith, marks_held (held_in s) t (omega arith) (inside t h), ap (λ (z : ℕ). get_or (marks_in s (held_in s)) z 0) (tab_at (held_in s) (position_in s) t (inside t h)), free);
          only = λ j l unfree. found j (marks_only (held_in s) j l unfree);
        }
      where
        inside : (t : ℕ) → t < length (tab (held_in s) (position_in s)) → t < held_in s
        inside t h = omega (arith, h, tab_length (held_in s) (position_in s))

        found : (j : ℕ) → ((t : ℕ) × (t < held_in s) × (position_in s t ≡ j))
            → (t : ℕ) × (t < length (tab (held_in s) (position_in s))) × (get_or (tab (held_in s) (position_in s)) t 0 ≡ j)
        found j (t, h, is) = (t, omega (arith, h, tab_length (held_in s) (position_in s)), tab_at (held_in s) (position_in s) t h ∙ is)

    -- where a shadow is held a position is not missing
    pub missing_fewer : 0 < held_in s → length (missing_in s) < size_of (n_in s)
    unfolding missing_in
    missing_fewer h =
        unmarked_fewer (size_of (n_in s)) (marks_in s (held_in s)) (size_of (n_in s)) (position_in s 0) (position_inside 0 h)
        (λ free. omega (arith, free, marks_held (held_in s) 0 (le_of_eq refl) h))
