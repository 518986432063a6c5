-- The laws of the first repeat: that there is none means that the positions differ, and a search that marks what it passes finds it.
-- Assumes nothing.
use mathlib.Core.Path.{◌≡◌, sym, ap, ◌∙◌}
use mathlib.Core.Bool.{true, false, true≢false, not-eq-not}
use mathlib.Core.List.{List}
use Prim.Native.Nat.{ℕ, ◌+◌, ◌/◌, ◌<◌, ◌≤◌}
use native.Mathlib.Decide.{ℕ_discrete}
use native.Mathlib.Omega.{arith}
use borrow.Author.Count.{below_none, below_more}
use borrow.Author.Tests.{ltb-false, le-ltb, eqb-false, ne_eqb}
use lib.Dec.{eqb}
use lib.ListN.{length, get_or, replicate}
use Rattle.answers.proofs.First.{first_here, first_none, first_all, first_before}
use Rattle.code_positions.specs.Bitmap.{seen, with_seen}
use Rattle.code.specs.Repeats.{stands_earlier, first_repeat}
use Rattle.code_positions.proofs.Bitmap.{seen_same, seen_other, none_seen}

module _ (positions : List ℕ) where
  -- what it means that a position stands earlier

  earlier_none : (i : ℕ) → ((k : ℕ) → k < i → ¬ (get_or positions k 0 ≡ get_or positions i 0)) → stands_earlier positions i ≡ false
  unfolding stands_earlier
  earlier_none i apart =
      le-ltb _ i (omega (arith, first_none i (λ j. eqb (get_or positions j 0) (get_or positions i 0)) (λ k h. ne_eqb _ _ (apart k h))))

  earlier_apart : (i : ℕ) → stands_earlier positions i ≡ false → (k : ℕ) → k < i → ¬ (get_or positions k 0 ≡ get_or positions i 0)
  unfolding stands_earlier
  earlier_apart i e k h =
      let all = ltb-false _ i e in
      eqb-false _ _ (first_before i (λ j. eqb (get_or positions j 0) (get_or positions i 0)) k (omega arith))

  earlier_some : (i k : ℕ) → k < i → get_or positions k 0 ≡ get_or positions i 0 → stands_earlier positions i ≡ true
  earlier_some i k h e = not-eq-not.0 (λ none. earlier_apart i none k h e)

  pub repeat_none : length positions ≤ first_repeat positions → (i j : ℕ) → i < j → j < length positions
      → ¬ (get_or positions i 0 ≡ get_or positions j 0)
  unfolding first_repeat
  repeat_none none i j less h =
      earlier_apart j (first_before (length positions) (stands_earlier positions) j (omega arith)) i less

  pub none_repeat : ((i j : ℕ) → i < j → j < length positions → ¬ (get_or positions i 0 ≡ get_or positions j 0))
      → first_repeat positions ≡ length positions
  unfolding first_repeat
  none_repeat apart = first_none _ _ (λ j h. earlier_none j (λ i less. apart i j less h))

-- what a search knows at index i: no position before it is a repeat, and the map has just these positions
pub record Passed (positions map : List ℕ) (i : ℕ) : Type 0 where
  pub some : i ≤ length positions
  pub different : (k : ℕ) → k < i → stands_earlier positions k ≡ false
  pub all : (k : ℕ) → k < i → seen map (get_or positions k 0) ≡ true
  pub only : (q : ℕ) → seen map q ≡ true → (k : ℕ) × (k < i) × (get_or positions k 0 ≡ q)

module _ (positions : List ℕ) where
  pub passed_none : (n i : ℕ) → i ≡ 0 → Passed positions (replicate n 0) i
  passed_none n i start =
      record {
        some = omega arith;
        different = rw start (below_none _);
        all = rw start (below_none _);
        only = λ q m. absurd (true≢false (sym m ∙ none_seen n q));
      }

  module _ (map : List ℕ) (i : ℕ) (passed : Passed positions map i) where
    pub passed_all : length positions ≤ i → first_repeat positions ≡ i
    unfolding first_repeat
    passed_all h = first_all _ i _ passed.some h passed.different

    module _ (p : ℕ) (at : get_or positions i 0 ≡ p) (h : i < length positions) where
      pub passed_here : seen map p ≡ true → first_repeat positions ≡ i
      unfolding first_repeat
      passed_here m =
          let earlier = passed.only p m in
          first_here _ i _ h passed.different (earlier_some positions i earlier.0 earlier.1 (earlier.2 ∙ sym at))

      module _ (free : seen map p ≡ false) (inside : p / 32 < length map) where
        new : (k : ℕ) → k < i → ¬ (p ≡ get_or positions k 0)
        new k less e = true≢false (sym (passed.all k less) ∙ ap (seen map) (sym e) ∙ free)

        more_only : (q : ℕ) → seen (with_seen map p) q ≡ true → (k : ℕ) × (k < i + 1) × (get_or positions k 0 ≡ q)
        more_only q m =
            elim (ℕ_discrete p q) [
              | yes e ↦ (i, omega arith, at ∙ e)
              | no other ↦
                  let before = passed.only q (sym (seen_other map p free inside q other) ∙ m) in
                  (before.0, omega (arith, before.1), before.2)
            ]

        pub passed_more : Passed positions (with_seen map p) (i + 1)
        passed_more =
            record {
              some = omega arith;
              different = below_more _ i passed.different (earlier_none positions i (λ k less e. new k less (sym (e ∙ at))));
              all =
                  below_more _ i
                  (λ k less. seen_other map p free inside (get_or positions k 0) (new k less) ∙ passed.all k less)
                  (rw at (seen_same map p free inside));
              only = more_only;
            }
