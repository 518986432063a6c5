-- Numbers of a list written to another place of it: what stands before the place, there, and behind it.
-- Assumes nothing.
use mathlib.Core.Path.{◌≡◌, sym, ap, ◌∙◌}
use mathlib.Core.Logic.{◌⊎◌, inl, inr}
use mathlib.Core.List.{List, ◌++◌, append_assoc}
use Prim.Native.Nat.{ℕ, ◌+◌, ◌-◌, ◌<◌, ◌≤◌}
use native.Mathlib.Omega.{arith}
use lib.ListN.{length, get_or, take, drop, length-drop}
use lib.Seq.{length-take-le, take_at, drop_at, take-append-le, take-take, drop-drop}
use Rattle.std.specs.List.{copy_within}
use Rattle.lists.specs.Tab.{tab}
use Rattle.lists.proofs.Tab.{tab_part}
use Rattle.lists.proofs.Window.{window, window_before, window_past}

module _ (from to count : ℕ) (d : List ℕ) (reads : from + count ≤ length d) (writes : to + count ≤ length d) where
  -- what is read was not written
  pub unwritten : (to + count ≤ from) ⊎ (from + count ≤ to) → (i : ℕ) (f : ℕ → ℕ) (e : List ℕ) → i < count → e ≡ window to i f d
      → get_or e (from + i) 0 ≡ get_or d (from + i) 0
  unwritten (inl below) i f e h is =
      ap (λ (l : List ℕ). get_or l (from + i) 0) is ∙ window_past to i (from + i) f d (omega arith) (omega arith)
  unwritten (inr above) i f e h is =
      ap (λ (l : List ℕ). get_or l (from + i) 0) is ∙ window_before to i (from + i) f d (omega arith) (omega arith)

  copied_is : copy_within d from (from + count) to ≡ take to d ++ (take count (drop from d) ++ drop (to + count) d)
  copied_is =
      ap (λ (n : ℕ). (take to d ++ take n (drop from d)) ++ drop (to + n) d) {x = from + count - from} {y = count} (omega arith)
      ∙ append_assoc (take to d) (take count (drop from d)) (drop (to + count) d)

  pub all_written : (i : ℕ) (e : List ℕ) → i ≤ count → count ≤ i → e ≡ window to i (λ j. get_or d (from + j) 0) d
      → e ≡ copy_within d from (from + count) to
  unfolding window
  all_written i e le ge is =
      is
      ∙ ap (λ (n : ℕ). take to d ++ (tab n (λ j. get_or d (from + j) 0) ++ drop (to + n) d)) {x = i} {y = count} (omega arith)
      ∙ ap (λ (l : List ℕ). take to d ++ (l ++ drop (to + count) d)) (tab_part from count d reads)
      ∙ sym copied_is

  -- What stands before the place written, there, and behind it

  long : length (take count (drop from d)) ≡ count
  long = length-take-le count (drop from d) (omega (arith, length-drop from d))

  from_there : drop to (copy_within d from (from + count) to) ≡ take count (drop from d) ++ drop (to + count) d
  from_there = ap (drop to) copied_is ∙ drop_at (take to d) _ to (length-take-le to d (omega arith))

  pub copied_before : (m : ℕ) → m ≤ to → take m (copy_within d from (from + count) to) ≡ take m d
  copied_before m h =
      ap (take m) copied_is ∙ take-append-le m (take to d) _ (omega (arith, length-take-le to d (omega arith))) ∙ take-take m to d h

  pub copied_there : take count (drop to (copy_within d from (from + count) to)) ≡ take count (drop from d)
  copied_there = ap (take count) from_there ∙ take_at (take count (drop from d)) _ count long

  pub copied_past : (m : ℕ) → to + count ≤ m → drop m (copy_within d from (from + count) to) ≡ drop m d
  copied_past m h =
      ap (λ (n : ℕ). drop n (copy_within d from (from + count) to)) {x = m} {y = to + (count + (m - (to + count)))} (omega arith)
      ∙ sym (drop-drop (count + (m - (to + count))) to (copy_within d from (from + count) to))
      ∙ ap (drop (count + (m - (to + count)))) from_there
      ∙ sym (drop-drop (m - (to + count)) count (take count (drop from d) ++ drop (to + count) d))
      ∙ ap (drop (m - (to + count))) (drop_at (take count (drop from d)) _ count long)
      ∙ drop-drop (m - (to + count)) (to + count) d
      ∙ ap (λ (n : ℕ). drop n d) {x = to + count + (m - (to + count))} {y = m} (omega arith)
