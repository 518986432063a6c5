-- The count of altered symbols: none is altered exactly if the sent message fits, and with few altered no other message does.
-- Assumes nothing.
use mathlib.Core.Path.{◌≡◌, refl, sym, ap, ◌∙◌}
use mathlib.Core.Bool.{Bool, true, false, cond}
use mathlib.Core.List.{List}
use Prim.Native.Nat.{ℕ, ◌+◌, ◌≤◌}
use native.Mathlib.Omega.{arith}
use borrow.Author.Tests.{eqb-true, eq-eqb}
use lib.Dec.{eqb}
use lib.ListN.{length, get_or}
use Rattle.limits.proofs.Shape.{shape_good}
use Rattle.poly.proofs.Sum.{total_ext, total_none, total_zero}
use Rattle.code.specs.Altered.{altered_count}
use Rattle.code.specs.Code.{symbol_of}
use Rattle.code.specs.Fits.{Fits}
use Rattle.code.specs.Held.{Held}
use Rattle.code.specs.Message.{IsMessage}
use Rattle.code.specs.Decodable.{Decodable}
use Rattle.block.proofs.Agreement.{differing, few_differ}

module _ (k n : ℕ) (sent : List ℕ) (h : Held) where
  unaltered : (b : Bool) → ◌≡◌ {A = ℕ} (cond b 0 1) 0 → b ≡ true
  unaltered true e = refl
  unaltered false e = absurd (omega arith)

  pub none_fits : IsMessage k sent → altered_count n sent h ≡ 0 → Fits k n h sent
  unfolding altered_count
  none_fits is none =
      record {
        message = is;
        at = λ j l. eqb-true _ _ (unaltered _ (total_none (length h.positions) _ none j l));
      }

  pub fits_none : Fits k n h sent → altered_count n sent h ≡ 0
  unfolding altered_count
  fits_none fits =
      total_ext (length h.positions) _ (λ j. 0) (λ j l. ap (λ (b : Bool). cond b 0 1) (eq-eqb _ _ (fits.at j l)))
      ∙ total_zero (length h.positions)

  -- a held symbol is altered where the code word of a message that fits differs
  altered_differing : (t : List ℕ) → Fits k n h t → altered_count n sent h ≡ differing n sent t h.positions
  unfolding altered_count differing
  altered_differing t fits =
      total_ext (length h.positions) _ _
      (λ j l. ap (λ (v : ℕ). cond (eqb (symbol_of n sent (get_or h.positions j 0)) v) 0 1) (sym (fits.at j l)))

  pub few_altered : Decodable k n h → IsMessage k sent → altered_count n sent h + k ≤ length h.positions → (t : List ℕ) → Fits k n h t → sent ≡ t
  few_altered able is few t fits =
      few_differ k n sent t h.positions (shape_good k n able.shape).2 is fits.message able.inside able.apart
      (omega (arith, altered_differing t fits))
