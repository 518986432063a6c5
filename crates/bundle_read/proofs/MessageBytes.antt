-- The bytes of a message's words, one at a time, and a file with a message's bytes laid into it.
-- Assumes nothing.
use mathlib.Core.Path.{◌≡◌, refl, sym, ap, ap₂, ◌∙◌}
use mathlib.Core.Bool.{true, false, not}
use mathlib.Core.List.{List, [], ◌∷◌, ◌++◌, append-nil}
use Prim.Native.Nat.{ℕ, zero, suc, ◌+◌, ◌*◌, ◌-◌, ◌/◌, ◌%◌, ◌<◌, ◌≤◌}
use native.Mathlib.Decide.{dec_lt}
use native.Mathlib.Omega.{arith}
use borrow.Author.Tests.{eq-eqb, ne_eqb}
use lib.Dec.{eqb}
use lib.ListN.{length, get_or, take, drop, set, length-drop, drop_of_length-le}
use lib.Seq.{get_or-drop, get_or-take, length-take-le, take_all}
use Rattle.lists.specs.Tab.{tab}
use Rattle.lists.proofs.Tab.{tab_ext, tab_get_or}
use Rattle.lists.proofs.Window.{window, window_length, window_store}
use Rattle.bundle_storage.specs.Bytes.{two, in_bytes, put}
use Rattle.bundle_storage.proofs.PutLaws.{stores_two}
use Rattle.bundle_read.specs.Reading.{some_meets}
use Rattle.bundle_read.proofs.Searching.{meets, meets_none}

-- word j has its first byte at 2j and its second at 2j + 1

first_byte : (ws : List ℕ) (j : ℕ) → get_or (in_bytes ws) (2 * j) 0 ≡ get_or ws j 0 / 256 % 256
unfolding in_bytes two
first_byte [] j = refl
first_byte (w ∷ ws) zero = refl
first_byte (w ∷ ws) (suc j) =
    ap (λ (z : ℕ). get_or (in_bytes (w ∷ ws)) z 0) {x = 2 * suc j} {y = suc (suc (2 * j))} (omega arith) ∙ first_byte ws j

second_byte : (ws : List ℕ) (j : ℕ) → get_or (in_bytes ws) (2 * j + 1) 0 ≡ get_or ws j 0 % 256
unfolding in_bytes two
second_byte [] j = refl
second_byte (w ∷ ws) zero = refl
second_byte (w ∷ ws) (suc j) =
    ap (λ (z : ℕ). get_or (in_bytes (w ∷ ws)) z 0) {x = 2 * suc j + 1} {y = suc (suc (2 * j + 1))} (omega arith) ∙ second_byte ws j

-- so byte i, from the word w

module _ (ws : List ℕ) (i w : ℕ) (is : w ≡ get_or ws (i / 2) 0) (low : get_or ws (i / 2) 0 < 65536) where
  pub even_byte : i % 2 ≡ 0 → (w / 256 ≡ get_or (in_bytes ws) i 0) × (w / 256 < 256)
  even_byte even =
      (omega (arith, is, low, first_byte ws (i / 2), ap (λ (z : ℕ). get_or (in_bytes ws) z 0) {x = i} {y = 2 * (i / 2)} (omega arith)), omega (arith, is, low))

  pub odd_byte : ¬ (i % 2 ≡ 0) → (w % 256 ≡ get_or (in_bytes ws) i 0) × (w % 256 < 256)
  odd_byte odd =
      (omega (arith, is, second_byte ws (i / 2), ap (λ (z : ℕ). get_or (in_bytes ws) z 0) {x = i} {y = 2 * (i / 2) + 1} (omega (arith, odd))), omega arith)

-- a byte that is not zero from an index on

module _ (bytes : List ℕ) (from : ℕ) where
  pub bad_here : (i x : ℕ) → from ≤ i → i < length bytes → x ≡ get_or bytes i 0 → ¬ (x ≡ 0) → some_meets (λ y. not (eqb y 0)) (drop from bytes) ≡ true
  bad_here i x le h is bad =
      meets (λ y. not (eqb y 0)) (drop from bytes) (i - from) (omega (arith, length-drop from bytes))
      (ap (λ (y : ℕ). not (eqb y 0)) (get_or-drop from bytes (i - from) 0 ∙ ap (λ (z : ℕ). get_or bytes z 0) {x = from + (i - from)} {y = i} (omega arith) ∙ sym is)
      ∙ ap not (ne_eqb x 0 bad))

  pub bad_nowhere : ((i : ℕ) → from ≤ i → i < length bytes → get_or bytes i 0 ≡ 0) → some_meets (λ y. not (eqb y 0)) (drop from bytes) ≡ false
  bad_nowhere none =
      meets_none (λ y. not (eqb y 0)) (drop from bytes)
      (λ i h. ap not (eq-eqb _ 0 (get_or-drop from bytes i 0 ∙ none (from + i) (omega arith) (omega (arith, length-drop from bytes)))))

-- none is passed yet
pub passed_none : {from j : ℕ} → from ≤ j → j < from → ⊥
passed_none le l = omega arith

-- one zero more
pub passed_more : (bytes : List ℕ) (from i : ℕ) → ((j : ℕ) → from ≤ j → j < i → get_or bytes j 0 ≡ 0) → get_or bytes i 0 ≡ 0
    → (j : ℕ) → from ≤ j → j < i + 1 → get_or bytes j 0 ≡ 0
passed_more bytes from i before here j le h =
    elim (dec_lt j i) [
      | yes l ↦ before j le l
      | no g ↦ ap (λ (z : ℕ). get_or bytes z 0) {x = j} {y = i} (omega (arith, g)) ∙ here
    ]

-- i bytes of them laid into the file from an index on

tab_take : (i : ℕ) (s : List ℕ) → i ≤ length s → tab i (λ j. get_or s j 0) ≡ take i s
tab_take i s le =
    tab_ext i _ _ (λ j l. sym (get_or-take i s j 0 l))
    ∙ ap (λ (m : ℕ). tab m (λ j. get_or (take i s) j 0)) (sym (length-take-le i s le)) ∙ tab_get_or (take i s)

-- a word more: e is the file so far
pub words_more : (ws file e : List ℕ) (from i w : ℕ) → w ≡ get_or ws i 0 → w < 65536 → from + (2 * i + 2) ≤ length file → e ≡ window from (2 * i) (λ j. get_or (in_bytes ws) j 0) file
    → put (two w) (from + 2 * i) e ≡ window from (2 * (i + 1)) (λ j. get_or (in_bytes ws) j 0) file
words_more ws file e from i w is low inside so_far =
    sym (stores_two w (from + 2 * i) e (omega (arith, ap length so_far, window_length from (2 * i) (λ j. get_or (in_bytes ws) j 0) file (omega arith))) low)
    ∙ window_store from (2 * i + 1) (from + 2 * i + 1) _ file (set e (from + 2 * i) (w / 256)) (w % 256) (omega arith) (omega arith)
    (window_store from (2 * i) (from + 2 * i) _ file e (w / 256) refl (omega arith) so_far (omega (arith, first_byte ws i, is)))
    (omega (arith, second_byte ws i, is))
    ∙ ap (λ (m : ℕ). window from m (λ j. get_or (in_bytes ws) j 0) file) {x = 2 * i + 1 + 1} {y = 2 * (i + 1)} (omega arith)

module _ (bytes file : List ℕ) (from i : ℕ) (inside : from + i ≤ length file) (le : i ≤ length bytes) where
  -- all of them
  pub laid_all : length bytes ≤ i
      → window from i (λ j. get_or bytes j 0) file ≡ take from file ++ (take (length file - from) bytes ++ drop (from + length bytes) file)
  unfolding window
  laid_all ge =
      ap (λ (s : List ℕ). take from file ++ (s ++ drop (from + i) file))
      (tab_take i bytes le ∙ take_all i bytes ge ∙ sym (take_all (length file - from) bytes (omega arith)))
      ∙ ap (λ (m : ℕ). take from file ++ (take (length file - from) bytes ++ drop (from + m) file)) {x = i} {y = length bytes} (omega arith)

  -- as many as the file has room for
  pub laid_full : length file ≤ from + i
      → window from i (λ j. get_or bytes j 0) file ≡ take from file ++ (take (length file - from) bytes ++ drop (from + length bytes) file)
  unfolding window
  laid_full full =
      ap₂ (λ (s t : List ℕ). take from file ++ (s ++ t))
      (tab_take i bytes le ∙ ap (λ (m : ℕ). take m bytes) {x = i} {y = length file - from} (omega arith))
      (drop_of_length-le file {i = from + i} full ∙ sym (drop_of_length-le file {i = from + length bytes} (omega arith)))

-- none, where the file ends before
pub laid_past : (bytes file : List ℕ) (from m : ℕ) → length file ≤ from → file ≡ take from file ++ (take (length file - from) bytes ++ drop (from + m) file)
laid_past bytes file from m past =
    sym (append-nil file)
    ∙ ap₂ ◌++◌ (sym (take_all from file past))
    (sym (drop_of_length-le file {i = from + m} (omega arith)) ∙ ap (λ (z : ℕ). take z bytes ++ drop (from + m) file) {x = 0} {y = length file - from} (omega arith))
