-- What decoding finds: the candidate is the only message that may fit, and it is taken exactly if it fits all held symbols.
-- Assumes nothing.
use mathlib.Core.Path.{◌≡◌, refl, sym, ap, subst, ◌∙◌}
use mathlib.Core.Bool.{Bool, true, false, cond, not}
use mathlib.Core.List.{List}
use mathlib.Core.Logic.{◌↔◌}
use mathlib.Core.Option.{some, none, some-injective, none-ne-some}
use Prim.Native.Nat.{ℕ, ◌<◌, ◌≤◌}
use native.Mathlib.Nat.{le_of_eq, le_trans, lt_of_lt_of_le}
use borrow.Author.Tests.{ltb-false, eqb-true, not-false, le-ltb, eq-eqb}
use lib.Dec.{ltb}
use lib.ListN.{length, get_or, take}
use lib.Seq.{length-take-le, get_or-take}
use Rattle.field.specs.Congruence.{◌≈◌}
use Rattle.field.specs.Points.{point_of}
use Rattle.field.specs.Size.{size_of}
use Rattle.field.specs.Symbol.{Symbols}
use Rattle.field.proofs.Congruence.{≈-of, ≈-sym, ◌∘≈◌, mod-≈}
use Rattle.answers.proofs.First.{first_before, first_none}
use Rattle.limits.proofs.Shape.{shape_good}
use Rattle.poly.specs.Value.{value}
use Rattle.poly.proofs.Interpolation.{through_length, through_symbols, through_unique, fits_of}
use Rattle.poly.proofs.Symbols.{symbols_at, symbols_every}
use Rattle.code.specs.Code.{symbol_of}
use Rattle.code.specs.Decoding.{points_of, candidate, first_wrong, decode_of}
use Rattle.code.specs.Fits.{Fits}
use Rattle.code.specs.Held.{Held}
use Rattle.code.specs.Meeting.{polynomial_of, message_of}
use Rattle.code.specs.Message.{IsMessage}
use Rattle.code.specs.Decodable.{Decodable}
use Rattle.code.proofs.Meeting.{message_polynomial, message_of_lem, polynomial_long, polynomial_symbols}
use Rattle.code.proofs.Points.{points_length, points_at, points_apart}

pub symbol-≈ : (n : ℕ) (s : List ℕ) (p : ℕ) → symbol_of n s p ≈ value (polynomial_of s) (point_of (size_of n) p)
unfolding symbol_of
symbol-≈ n s p = mod-≈ _

-- The comparison of all m

module _ (n : ℕ) (h : Held) (s : List ℕ) where
  right_at : length h.positions ≤ first_wrong n h s → (j : ℕ) → j < length h.positions
      → symbol_of n s (get_or h.positions j 0) ≡ get_or h.values j 0
  unfolding first_wrong
  right_at all j l =
      eqb-true _ _ (not-false _ (first_before (length h.positions) _ j (lt_of_lt_of_le l all)))

  all_right : ((j : ℕ) → j < length h.positions → symbol_of n s (get_or h.positions j 0) ≡ get_or h.values j 0)
      → first_wrong n h s ≡ length h.positions
  unfolding first_wrong
  all_right right = first_none (length h.positions) _ (λ j l. ap not (eq-eqb _ _ (right j l)))

-- The candidate

module _ (k n : ℕ) (h : Held) (able : Decodable k n h) where
  values_length : length (take k h.values) ≡ k
  values_length = length-take-le k h.values (le_trans able.enough (le_of_eq able.paired))

  lengths : length (points_of k n h.positions) ≡ length (take k h.values)
  lengths = points_length k n h.positions ∙ sym values_length

  -- a polynomial of k symbols with the first k values is the candidate's
  only_candidate : (f : List ℕ) → length f ≡ k → Symbols f
      → ((j : ℕ) → j < k → value f (point_of (size_of n) (get_or h.positions j 0)) ≈ get_or h.values j 0) → message_of f ≡ candidate k n h
  unfolding candidate
  only_candidate f long small right =
      ap message_of
      (through_unique (points_of k n h.positions) (take k h.values) f lengths
      (points_apart k n h.positions (shape_good k n able.shape).2 able.enough able.inside able.apart)
      (long ∙ sym (points_length k n h.positions))
      (symbols_every f small)
      (fits_of f _ _ lengths (λ j l. at j (lt_of_lt_of_le l (le_of_eq (points_length k n h.positions))))))
    where
      at : (j : ℕ) → j < k → value f (get_or (points_of k n h.positions) j 0) ≈ get_or (take k h.values) j 0
      at j l = rw (points_at k n h.positions j l, get_or-take k h.values j 0 l) (right j l)

  candidate_message : IsMessage k (candidate k n h)
  unfolding candidate
  candidate_message =
      message_of_lem k _ (through_length _ _ lengths ∙ points_length k n h.positions) (symbols_at _ (through_symbols _ _))

  fits_candidate : (s : List ℕ) → Fits k n h s → s ≡ candidate k n h
  fits_candidate s fits =
      sym (message_polynomial s)
      ∙ only_candidate (polynomial_of s) (polynomial_long k s fits.message) (polynomial_symbols k s fits.message)
      (λ j l. ≈-sym (symbol-≈ n s _) ∘≈ ≈-of (fits.at j (lt_of_lt_of_le l able.enough)))

  -- What decoding gives

  kept : (b : Bool) (c s : List ℕ) → cond b none (some c) ≡ some s → (b ≡ false) × (c ≡ s)
  kept true c s e = absurd (none-ne-some s e)
  kept false c s e = (refl, some-injective c s e)

  dropped : (b : Bool) (c : List ℕ) → ¬ (b ≡ false) → cond b none (some c) ≡ none
  dropped true c wrong = refl
  dropped false c wrong = absurd (wrong refl)

  candidate_fits : length h.positions ≤ first_wrong n h (candidate k n h) → Fits k n h (candidate k n h)
  candidate_fits all = record { message = candidate_message; at = right_at n h (candidate k n h) all }

  pub decodes_fitting : (s : List ℕ) → (decode_of k n h ≡ some s) ↔ Fits k n h s
  unfolding decode_of
  decodes_fitting s = (forth, back)
    where
      forth : cond (ltb (first_wrong n h (candidate k n h)) (length h.positions)) none (some (candidate k n h)) ≡ some s → Fits k n h s
      forth e =
          let found = kept (ltb (first_wrong n h (candidate k n h)) (length h.positions)) (candidate k n h) s e in
          subst (Fits k n h) found.1 (candidate_fits (ltb-false _ _ found.0))

      back : Fits k n h s → cond (ltb (first_wrong n h (candidate k n h)) (length h.positions)) none (some (candidate k n h)) ≡ some s
      back fits =
          let is = fits_candidate s fits in
          ap (λ (b : Bool). cond b none (some (candidate k n h)))
          (le-ltb _ _ (le_of_eq (sym (all_right n h (candidate k n h) (subst (Fits k n h) is fits).at))))
          ∙ ap some (sym is)

  pub decodes_none : (decode_of k n h ≡ none) ↔ ((s : List ℕ) → ¬ Fits k n h s)
  unfolding decode_of
  decodes_none = (forth, back)
    where
      forth : cond (ltb (first_wrong n h (candidate k n h)) (length h.positions)) none (some (candidate k n h)) ≡ none
          → (s : List ℕ) → ¬ Fits k n h s
      forth e s fits = none-ne-some s (sym e ∙ (decodes_fitting s).1 fits)

      back : ((s : List ℕ) → ¬ Fits k n h s)
          → cond (ltb (first_wrong n h (candidate k n h)) (length h.positions)) none (some (candidate k n h)) ≡ none
      back never = dropped _ (candidate k n h) (λ e. never (candidate k n h) (candidate_fits (ltb-false _ _ e)))

  pub fits_one : (s t : List ℕ) → Fits k n h s → Fits k n h t → s ≡ t
  fits_one s t fs ft = fits_candidate s fs ∙ sym (fits_candidate t ft)
