-- The tests of a layout as the code makes them: that the bytes begin with the mark, as the library's search tells it, and what the tests of the
-- front and of the shape leave for the rest.
-- Assumes nothing.
use mathlib.Core.Path.{◌≡◌, refl, sym, ap, ap₂, ◌∙◌}
use mathlib.Core.Bool.{Bool, true, false, not, cond, ◌&&◌}
use mathlib.Core.List.{List, [], ◌∷◌}
use Prim.Native.Nat.{ℕ, suc, ◌<◌, ◌≤◌, suc-le-suc}
use native.Mathlib.Decide.{dec_le, ℕ_discrete}
use native.Mathlib.Nat.{le_of_suc-le-suc}
use native.Mathlib.Omega.{arith}
use borrow.Author.Tests.{le-leb, lt-leb, eq-eqb, ne_eqb}
use lib.Dec.{eqb, leb}
use lib.ListN.{length}
use Rattle.std.specs.List as Std
use Rattle.limits.specs.Shape.{longest}
use Rattle.answers.specs.First.{first}
use Rattle.answers.proofs.Checks.{in_order}
use Rattle.bundle_storage.specs.Blocks.{most_blocks}
use Rattle.bundle_layout.specs.Blocks.{blocks_of}
use Rattle.bundle_layout.specs.Fields.{k_in, length_in, blocks_in}
use Rattle.bundle_layout.specs.Layout.{bad_front}
use Rattle.bundle_layout.specs.Mark.{mark, starts_with}
use Rattle.bundle_layout.specs.Shadows.{header_size}
use Rattle.bundle_layout.specs.Shape.{longest_file, bad_bundle_shape}
use Rattle.bundle_layout.proofs.Passing.{front_told, countable, measurable}

-- a step of either search: the first bytes are the same, or the search ends there

same_rest : (n m : ℕ) → leb n m ≡ leb (suc n) (suc m)
same_rest n m =
    elim (dec_le n m) [
      | yes h ↦ le-leb n m h ∙ sym (le-leb (suc n) (suc m) (suc-le-suc h))
      | no h ↦ let less : m < n = omega arith in lt-leb n m less ∙ sym (lt-leb (suc n) (suc m) (suc-le-suc less))
    ]

step : (b : Bool) (n m : ℕ) {rest : Bool} → rest ≡ leb n m → b && rest ≡ leb (suc n) (cond (not b) 0 (suc m))
step true n m is = is ∙ same_rest n m
step false n m is = sym (lt-leb (suc n) 0 (omega arith))

same_test : (x a : ℕ) → eqb x a ≡ eqb a x
same_test x a =
    elim (ℕ_discrete x a) [
      | yes e ↦ eq-eqb x a e ∙ sym (eq-eqb a x (sym e))
      | no apart ↦ ne_eqb x a apart ∙ sym (ne_eqb a x (λ e. apart (sym e)))
    ]

begins : (bytes s : List ℕ) → length bytes ≤ length s → Std.starts_with eqb s bytes ≡ starts_with bytes s
unfolding starts_with first
begins [] s h = refl
begins (x ∷ bytes) [] h = absurd (omega arith)
begins (x ∷ bytes) (a ∷ s) h =
    ap (◌&& Std.starts_with eqb s bytes) (same_test x a) ∙ step (eqb a x) (length bytes) _ (begins bytes s (le_of_suc-le-suc h))

pub mark_found : (s : List ℕ) → header_size ≤ length s → Std.starts_with eqb s mark ≡ starts_with mark s
unfolding mark header_size
mark_found s long = begins mark s (omega arith)

module _ (s : List ℕ) (good : false ≡ bad_front s) where
  pub front_inside : header_size ≤ length s
  front_inside = (front_told s (sym good)).0

-- k, n, L and m are what the code read, and B what it worked out
module _ (s : List ℕ) (k n L : ℕ) (first : k ≡ k_in s) (third : L ≡ length_in s) (good : false ≡ bad_bundle_shape k n L) where
  pub shape_countable : (0 < k) × (k ≤ longest) × (L ≤ longest_file)
  shape_countable = countable k n L false good refl

  pub shape_counted : (B : ℕ) → B ≡ blocks_of k L → B ≡ blocks_in s
  unfolding blocks_in
  shape_counted B is = is ∙ ap₂ blocks_of first third

  pub shape_few : (B : ℕ) → B ≡ blocks_of k L → B ≤ most_blocks
  shape_few B is = (measurable k n L false good refl B is).1

pub ruleset layout_tests = (in_order, front_inside, shape_countable, shape_counted, shape_few)
