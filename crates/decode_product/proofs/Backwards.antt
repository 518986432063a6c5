-- A loop over the numbers of one list beside those of another from its end: which two it has in a turn, and how many turns there are.
-- Assumes nothing.
use mathlib.Core.Path.{◌≡◌, ap, ◌∙◌}
use mathlib.Core.List.{List, reverse}
use Prim.Native.Nat.{ℕ, suc, ◌-◌, ◌<◌}
use native.Mathlib.Omega.{arith}
use denote.Ref.{Bor}
use lib.ListN.{length, get_or}
use Rattle.std.specs.Iterator.{Yields}
use Rattle.std.specs.Iterator.Adapters.{rev_source, rev_steps, zip_first, zip_second}
use Rattle.std.specs.List.{zip}
use Rattle.std.specs.Prelude.{Option, Some, None}
use Rattle.std.specs.Slice.Iter.{iter_rest, iter_steps_back}
use Rattle.std.specs.declared.iter.Rev.{Rev}
use Rattle.std.specs.declared.iter.Zip.{Zip}
use Rattle.std.proofs.Common.{Iter}
use Rattle.std.proofs.iter.Yields.{fronts}
use Rattle.std.proofs.lemmas.Grind.{get_or_default_zero}
use Rattle.std.proofs.lemmas.Iterator.{YieldsList, zips, YieldsList-from_slice, YieldsList-from_zip}
use Rattle.std.proofs.lemmas.Iterator.Adapters.{YieldsList-from_rev_slice}
use Rattle.std.proofs.lemmas.Iterator.Consumers.{YieldsList-turn, YieldsList-end}
use Rattle.std.proofs.lemmas.List.{length-reverse, get_or-reverse}
use Rattle.std.proofs.lemmas.Slice.Zip.{length-zip, get_or-zip}

module _ (a b : List ℕ) (long : length b ≡ length a) where
  met_length : length (zip a (reverse b)) ≡ length a
  met_length = length-zip a (reverse b) ∙ omega (arith, length-reverse b, long)

  met_at : (i x y : ℕ) → i < length a → ◌≡◌ {A = ℕ × ℕ} (x, y) (get_or (zip a (reverse b)) i (x, y))
      → (x ≡ get_or a i 0) × (y ≡ get_or b (length a - suc i) 0)
  met_at i x y inside there = (
    ap (λ (p : ℕ × ℕ). p.0) both ∙ get_or_default_zero a i x inside,
    ap (λ (p : ℕ × ℕ). p.1) both
        ∙ get_or-reverse b i y (omega (arith, inside, long))
        ∙ ap (λ (n : ℕ). get_or b n y) {x = length b - 1 - i} {y = length a - suc i} (omega (arith, long))
        ∙ get_or_default_zero b (length a - suc i) y (omega (arith, inside, long)),
  )
    where
      both : ◌≡◌ {A = ℕ × ℕ} (x, y) (get_or a i x, get_or (reverse b) i y)
      both = there ∙ get_or-zip a (reverse b) i (x, y) inside (omega (arith, inside, length-reverse b, long))

  -- xs is what came before
  module _ (s : Zip (Iter ℕ) (Rev (Iter ℕ))) (first : iter_rest (zip_first s) ≡ a) (second : iter_rest (rev_source (zip_second s)) ≡ b)
      (xs : List (Bor ℕ × Bor ℕ)) (t u : Zip (Iter ℕ) (Rev (Iter ℕ))) (before : Yields (zips fronts (rev_steps iter_steps_back)) s xs t)
      (r : Option (Bor ℕ × Bor ℕ)) (step : zips fronts (rev_steps iter_steps_back) t r u) where
    road : YieldsList {B = ℕ × ℕ} (zips fronts (rev_steps iter_steps_back)) (λ p. (p.0.now, p.1.now)) s (zip a (reverse b))
    road = YieldsList-from_zip (YieldsList-from_slice a first) (YieldsList-from_rev_slice b second)

    pub backwards_turn : (p : Bor ℕ × Bor ℕ) → r ≡ Some p
        → (length xs < length a) × (p.0.now ≡ get_or a (length xs) 0) × (p.1.now ≡ get_or b (length a - suc (length xs)) 0)
    backwards_turn p is =
        let turn = YieldsList-turn road xs t before r u p is step in
        let inside : length xs < length a = omega (arith, turn.0, met_length) in
        let at = met_at (length xs) p.0.now p.1.now inside turn.1 in
        (inside, at.0, at.1)

    pub backwards_end : r ≡ None → length xs ≡ length a
    backwards_end is = (YieldsList-end road xs t before r u is step).1 ∙ met_length
