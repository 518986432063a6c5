-- The polynomial through points has as many symbols as there are points, and fits them; by root counting it alone does.
-- Assumes nothing.
use mathlib.Core.Path.{◌≡◌, refl, sym, ap, ◌∙◌}
use mathlib.Core.List.{List, [], ◌∷◌}
use Prim.Native.Nat.{ℕ, suc, ◌+◌, ◌*◌, ◌<◌, suc-le-suc}
use native.Mathlib.Nat.{zero-lt-suc}
use native.Mathlib.Omega.{arith}
use lib.ListN.{length, get_or}
use Rattle.field.specs.Congruence.{◌≈◌}
use Rattle.field.specs.Field.{difference, product, inverse}
use Rattle.field.proofs.Congruence.{≈-of, ≈-sym, ◌∘≈◌, ◌+≈◌, ◌·≈◌, mul-≈, comb}
use Rattle.field.proofs.Fermat.{inverse-≈}
use Rattle.field.proofs.Ring.{difference-≈, product-≈}
use Rattle.poly.specs.Distinct.{Distinct}
use Rattle.lists.specs.Every.{Every}
use Rattle.poly.specs.Interpolation.{slopes, through, GoesThrough}
use Rattle.poly.specs.Raised.{raised}
use Rattle.poly.specs.Value.{value}
use Rattle.poly.proofs.Counting.{unique}
use Rattle.poly.proofs.Raised.{raised_length, raised_symbols, raised_value}

pub slopes_length : (x y : ℕ) (zs ws : List ℕ) → length zs ≡ length ws → length (slopes x y zs ws) ≡ length zs
unfolding slopes
slopes_length x y [] ws size = refl
slopes_length x y (z ∷ zs) [] size = absurd (omega arith)
slopes_length x y (z ∷ zs) (w ∷ ws) size = ap suc (slopes_length x y zs ws (omega arith))

pub through_length : (xs ys : List ℕ) → length xs ≡ length ys → length (through xs ys) ≡ length xs
unfolding through
through_length [] ys size = refl
through_length (x ∷ xs) [] size = absurd (omega arith)
through_length (x ∷ xs) (y ∷ ys) size =
    raised_length x y (through xs (slopes x y xs ys))
    ∙ ap suc (through_length xs (slopes x y xs ys) (sym (slopes_length x y xs ys (omega arith))))

pub through_symbols : (xs ys : List ℕ) → Every (◌< 65537) (through xs ys)
unfolding through Every
through_symbols [] ys = tt
through_symbols (x ∷ xs) [] = tt
through_symbols (x ∷ xs) (y ∷ ys) = raised_symbols x y (through xs (slopes x y xs ys))

-- z - x times the slope is w - y
slope : (x y z w : ℕ) → ¬ (z ≈ x)
    → (z + 65536 * x) * product (difference w y) (inverse (difference z x)) ≈ w + 65536 * y
slope x y z w apart =
    mul-≈ (≈-sym run) (product-≈ rise (inverse (difference z x)))
    ∘≈ ≈-of (omega arith)
    ∘≈ rise ·≈ inverse-≈ (difference z x) (λ e. apart (comb (≈-sym run ∘≈ e) x 0 (omega arith)))
    ∘≈ comb (difference-≈ w y) 0 0 (omega arith)
  where
    rise : ℕ
    rise = difference w y

    run : difference z x ≈ z + 65536 * x
    run = difference-≈ z x

-- where h has the slopes, y + (X - x)·h has the values
raised_fits : (x y : ℕ) (h zs ws : List ℕ) → length zs ≡ length ws → Every (λ z. ¬ (z ≈ x)) zs
    → GoesThrough h zs (slopes x y zs ws) → GoesThrough (raised x y h) zs ws
unfolding Every GoesThrough slopes
raised_fits x y h [] [] size apart fits = tt
raised_fits x y h [] (w ∷ ws) size apart fits = absurd (omega arith)
raised_fits x y h (z ∷ zs) [] size apart fits = absurd fits
raised_fits x y h (z ∷ zs) (w ∷ ws) size apart fits = (
  comb (raised_value x y h z +≈ (z + 65536 * x) ·≈ fits.0 +≈ slope x y z w apart.0) (x * value h z) y (omega arith),
  raised_fits x y h zs ws (omega arith) apart.1 fits.1,
)

pub through_fits : (xs ys : List ℕ) → length xs ≡ length ys → Distinct xs → GoesThrough (through xs ys) xs ys
unfolding Distinct GoesThrough through
through_fits [] [] size apart = tt
through_fits [] (y ∷ ys) size apart = absurd (omega arith)
through_fits (x ∷ xs) [] size apart = absurd (omega arith)
through_fits (x ∷ xs) (y ∷ ys) size apart = (
  comb (raised_value x y rest x) 0 0 (omega arith),
  raised_fits x y rest xs ys (omega arith) apart.0
      (through_fits xs (slopes x y xs ys) (sym (slopes_length x y xs ys (omega arith))) apart.1),
)
  where
    rest : List ℕ
    rest = through xs (slopes x y xs ys)

-- a list fits where it has the right value at each index
pub fits_of : (s xs ys : List ℕ) → length xs ≡ length ys → ((j : ℕ) → j < length xs → value s (get_or xs j 0) ≈ get_or ys j 0) → GoesThrough s xs ys
unfolding GoesThrough
fits_of s [] [] size at = tt
fits_of s [] (y ∷ ys) size at = absurd (omega arith)
fits_of s (x ∷ xs) [] size at = absurd (omega arith)
fits_of s (x ∷ xs) (y ∷ ys) size at = (at 0 (zero-lt-suc _), fits_of s xs ys (omega arith) (λ j l. at (suc j) (suc-le-suc l)))

-- two lists that fit have the same values
fits_same : (s t xs ys : List ℕ) → GoesThrough s xs ys → GoesThrough t xs ys → Every (λ x. value s x ≈ value t x) xs
unfolding Every GoesThrough
fits_same s t [] [] g h = tt
fits_same s t [] (y ∷ ys) g h = absurd g
fits_same s t (x ∷ xs) [] g h = absurd g
fits_same s t (x ∷ xs) (y ∷ ys) g h = (g.0 ∘≈ ≈-sym h.0, fits_same s t xs ys g.1 h.1)

pub through_unique : (xs ys s : List ℕ) → length xs ≡ length ys → Distinct xs → length s ≡ length xs → Every (◌< 65537) s
    → GoesThrough s xs ys → s ≡ through xs ys
through_unique xs ys s size apart size-s low fits =
    unique xs s (through xs ys) size-s (through_length xs ys size) apart low (through_symbols xs ys)
    (fits_same s (through xs ys) xs ys fits (through_fits xs ys size apart))
