-- The laws of a cursor in an overflow list: with it, one look tells whether a block is listed, and where the cursor of the next block is.
-- Assumes nothing.
use mathlib.Core.Path.{◌≡◌, refl, subst, sym, ap, ap₂, ◌∙◌}
use mathlib.Core.Bool.{Bool, true, false, ◌&&◌}
use mathlib.Core.List.{List}
use Prim.Native.Nat.{ℕ, suc, ◌+◌, ◌*◌, ◌<◌, ◌≤◌}
use native.Mathlib.Decide.{dec_lt}
use native.Mathlib.Omega.{arith}
use borrow.Author.Tests.{lt-ltb, le-ltb, le-leb, lt-leb, ltb-true, leb-true, leb-false, eqb-true, eqb-false}
use lib.Dec.{ltb, leb, eqb}
use lib.ListN.{length, drop, length-drop}
use Rattle.answers.specs.First.{first}
use Rattle.answers.proofs.First.{first_here, first_all, first_le, first_before, first_holds}
use Rattle.bundle_storage.specs.Bytes.{Bytes, two_at}
use Rattle.bundle_storage.specs.Rising.{rises}
use Rattle.bundle_storage.specs.Storage.{body_size, list_at, listed, symbol_in, cursor_in, words_at, cursor_at, Placed}
use Rattle.bundle_storage.proofs.BytesLaws.{two_alike, alike_drop, two_lt}
use Rattle.bundle_storage.proofs.RisingLaws.{rising_apart}
use Rattle.bundle_storage.proofs.Storing.{both, good_parts, listed_true, listed_false}

-- an index before which the test fails, and at which it holds if it is inside
first_is : (n i : ℕ) (test : ℕ → Bool) → i ≤ n → ((k : ℕ) → k < i → test k ≡ false) → (i < n → test i ≡ true) → first n test ≡ i
first_is n i test h before here =
    elim (dec_lt i n) [
      | yes l ↦ first_here n i test l before (here l)
      | no g ↦ first_all n i test h (omega (arith, g)) before
    ]

cursor_zero : (c : ℕ) (body : List ℕ) → cursor_in c body 0 ≡ 0
unfolding cursor_in
cursor_zero c body =
    first_is c 0 _ (omega arith) (λ k l. absurd (let no : k < 0 = l in omega arith)) (λ h. le-leb 0 (list_at body 0) (omega arith))

-- d is the cursor of block b in a list that rises
module _ (B c : ℕ) (body : List ℕ) (b d : ℕ) (rise : rises B c (list_at body) ≡ true) (is : d ≡ cursor_in c body b) where
  cursor_le : d ≤ c
  unfolding cursor_in
  cursor_le = subst (λ (z : ℕ). z ≤ c) (sym is) (first_le c _)

  below : (j : ℕ) → j < d → list_at body j < b
  unfolding cursor_in
  below j h = leb-false b (list_at body j) (first_before c (λ i. leb b (list_at body i)) j (subst (λ (z : ℕ). j < z) is h))

  at_least : d < c → b ≤ list_at body d
  unfolding cursor_in
  at_least h =
      subst (λ (z : ℕ). b ≤ list_at body z) (sym is)
      (leb-true b _ (first_holds c (λ i. leb b (list_at body i)) (subst (λ (z : ℕ). z < c) is h)))

  -- block b is next in the list
  module _ (next : ltb d c && eqb (list_at body d) b ≡ true) where
    inside : d < c
    inside = ltb-true d c (both (ltb d c) (eqb (list_at body d) b) next).0

    here : list_at body d ≡ b
    here = eqb-true (list_at body d) b (both (ltb d c) (eqb (list_at body d) b) next).1

    next_listed : listed c body b ≡ true
    next_listed = listed_true c body b d inside here

    next_cursor : suc d ≡ cursor_in c body (suc b)
    unfolding cursor_in
    next_cursor =
        sym (first_is c (suc d) _ inside
        (λ k l. lt-leb (suc b) (list_at body k) (passed k (omega (arith, l))))
        (λ h. le-leb (suc b) (list_at body (suc d)) (omega (arith, rising_apart B c (list_at body) rise d (suc d) (omega arith) h, here))))
      where
        passed : (k : ℕ) → k ≤ d → list_at body k < suc b
        passed k le =
            elim (dec_lt k d) [
              | yes l ↦ omega (arith, below k l)
              | no g ↦ omega (arith, here, ap (list_at body) {x = k} {y = d} (omega (arith, g)))
            ]

  -- it is not
  module _ (other : ltb d c && eqb (list_at body d) b ≡ false) where
    above : d < c → b < list_at body d
    above h =
        elim (dec_lt b (list_at body d)) [
          | yes l ↦ l
          | no g ↦ absurd (not_here (omega (arith, g, at_least h)))
        ]
      where
        not_here : ¬ (list_at body d ≡ b)
        not_here = eqb-false (list_at body d) b (ap (λ (t : Bool). t && eqb (list_at body d) b) (sym (lt-ltb d c h)) ∙ other)

    other_listed : listed c body b ≡ false
    other_listed = listed_false c body b none
      where
        none : (j : ℕ) → j < c → list_at body j ≡ b → ⊥
        none j h same =
            elim (dec_lt j d) [
              | yes l ↦ omega (arith, below j l, same)
              | no g ↦ later (omega (arith, g))
            ]
          where
            later : d ≤ j → ⊥
            later le =
                elim (dec_lt d j) [
                  | yes l ↦ omega (arith, rising_apart B c (list_at body) rise d j l h, above (omega (arith, l, h)), same)
                  | no g ↦ omega (arith, ap (list_at body) {x = j} {y = d} (omega (arith, g, le)), above (omega (arith, le, h)), same)
                ]

    other_cursor : d ≡ cursor_in c body (suc b)
    unfolding cursor_in
    other_cursor =
        sym (first_is c d _ cursor_le (λ k l. lt-leb (suc b) (list_at body k) (omega (arith, below k l))) (λ h. le-leb (suc b) (list_at body d) (above h)))

-- The same for a body that begins at an index of s

pub cursor_first : (at c : ℕ) (s : List ℕ) → cursor_at at c s 0 ≡ at
unfolding cursor_at
cursor_first at c s = omega (arith, cursor_zero c (drop at s))

pub cursor_limited : (at c : ℕ) (s : List ℕ) (b : ℕ) → cursor_at at c s b ≤ words_at at c
unfolding cursor_at cursor_in words_at
cursor_limited at c s b = omega (arith, first_le c (λ j. leb b (list_at (drop at s) j)))

module _ (at B c : ℕ) (s : List ℕ) (b words cursor : ℕ) (placed : Placed at B c s b words cursor) where
  up : rises B c (list_at (drop at s)) ≡ true
  up = (good_parts B c (drop at s) placed.good).1

  pub placed_inside : words + 2 * b + 1 < length s
  unfolding words_at body_size
  placed_inside = omega (arith, (good_parts B c (drop at s) placed.good).0, length-drop at s, placed.inside, placed.words_there)

  -- whether block b is next, as the indices tell it
  next_there : Bool
  next_there = ltb cursor words && eqb (two_at s cursor) b

  next_same : next_there ≡ ltb (cursor_in c (drop at s) b) c && eqb (list_at (drop at s) (cursor_in c (drop at s) b)) b
  unfolding next_there words_at cursor_at list_at
  next_same =
      let d = cursor_in c (drop at s) b in
      ap₂ (λ (i j : ℕ). ltb i j && eqb (two_at s i) b) placed.cursor_there placed.words_there
      ∙ ap₂ ◌&&◌ (doubled d) (ap (λ (x : ℕ). eqb x b) (sym (two_alike (drop at s) (2 * d) s (at + 2 * d) (alike_drop 2 at s (2 * d) (at + 2 * d) refl))))
    where
      doubled : (d : ℕ) → ltb (at + 2 * d) (at + 2 * c) ≡ ltb d c
      doubled d =
          elim (dec_lt d c) [
            | yes l ↦ lt-ltb (at + 2 * d) (at + 2 * c) (omega (arith, l)) ∙ sym (lt-ltb d c l)
            | no g ↦ le-ltb (at + 2 * d) (at + 2 * c) (omega (arith, g)) ∙ sym (le-ltb d c (omega (arith, g)))
          ]

  pub placed_listed : ltb cursor words && eqb (two_at s cursor) b ≡ true → symbol_in c (drop at s) b ≡ 65536
  unfolding symbol_in next_there
  placed_listed hit = simp (next_listed B c (drop at s) b (cursor_in c (drop at s) b) up refl (sym next_same ∙ hit))

  pub placed_word : ltb cursor words && eqb (two_at s cursor) b ≡ false → symbol_in c (drop at s) b ≡ two_at s (words + 2 * b)
  unfolding symbol_in next_there words_at
  placed_word miss =
      simp (other_listed B c (drop at s) b (cursor_in c (drop at s) b) up refl (sym next_same ∙ miss))
      (two_alike (drop at s) (2 * c + 2 * b) s (words + 2 * b) (alike_drop 2 at s (2 * c + 2 * b) (words + 2 * b) (omega (arith, placed.words_there))))

  -- a word is below 65536, so that the symbol tells whether the cursor moves
  module _ (bytes : Bytes s) where
    pub placed_moved : symbol_in c (drop at s) b ≡ 65536 → cursor + 2 ≡ cursor_at at c s (suc b)
    unfolding next_there cursor_at
    placed_moved over = go next_there refl
      where
        go : (t : Bool) → next_there ≡ t → cursor + 2 ≡ at + 2 * cursor_in c (drop at s) (suc b)
        go true hit = omega (arith, placed.cursor_there, next_cursor B c (drop at s) b (cursor_in c (drop at s) b) up refl (sym next_same ∙ hit))
        go false miss = absurd (omega (arith, placed_word miss, two_lt s (words + 2 * b) bytes))

    pub placed_stays : ¬ (symbol_in c (drop at s) b ≡ 65536) → cursor ≡ cursor_at at c s (suc b)
    unfolding next_there cursor_at
    placed_stays under = go next_there refl
      where
        go : (t : Bool) → next_there ≡ t → cursor ≡ at + 2 * cursor_in c (drop at s) (suc b)
        go true hit = absurd (under (placed_listed hit))
        go false miss = omega (arith, placed.cursor_there, other_cursor B c (drop at s) b (cursor_in c (drop at s) b) up refl (sym next_same ∙ miss))
