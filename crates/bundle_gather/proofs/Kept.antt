-- What stays of the working space where other cells change.
-- Assumes nothing.
use mathlib.Core.Path.{◌≡◌, subst, sym, ap, ◌∙◌}
use mathlib.Core.List.{List, []}
use Prim.Native.Nat.{ℕ, ◌+◌, ◌*◌, ◌-◌, ◌<◌, ◌≤◌}
use native.Mathlib.Nat.{le_trans}
use native.Mathlib.Omega.{arith}
use lib.ListN.{length, get_or, drop}
use lib.Seq.{get_or-drop}
use Rattle.field.specs.Congruence.{◌≈◌}
use Rattle.answers.specs.Refusals.{the_result}
use Rattle.field.specs.Size.{size_of}
use Rattle.limits.proofs.Shape.{longest_le, size_le}
use Rattle.field.proofs.Sizes.{size_enough}
use Rattle.poly.specs.Products.{vanishing}
use Rattle.poly.specs.Value.{value}
use Rattle.decode_between.specs.Between.{between}
use Rattle.bundle_layout.specs.Fields.{k_in, n_in, held_in}
use Rattle.bundle_layout.specs.Layout.{layout_checks}
use Rattle.bundle_layout.proofs.Passing.{shape_passed, n_limited, held_few}
use Rattle.bundle_gather.specs.Gathering.{missing_in, Fixed, Laid}

-- two lists that are the same from an index on
same_later : (m i : ℕ) (a b : List ℕ) → drop m a ≡ drop m b → m ≤ i → get_or a i 0 ≡ get_or b i 0
same_later m i a b same h =
    ap (λ (z : ℕ). get_or a z 0) {x = i} {y = m + (i - m)} (omega arith) ∙ sym (get_or-drop m a (i - m) 0)
    ∙ ap (λ (l : List ℕ). get_or l (i - m) 0) same
    ∙ get_or-drop m b (i - m) 0 ∙ ap (λ (z : ℕ). get_or b z 0) {x = m + (i - m)} {y = i} (omega arith)

module _ (s : List ℕ) (good : layout_checks s ≡ the_result []) where
  pub n_in_size : n_in s ≤ size_of (n_in s)
  n_in_size = size_enough (n_in s) (le_trans (n_limited s good) longest_le)

  pub held_room : held_in s ≤ size_of (n_in s)
  held_room = le_trans (held_few s good) n_in_size

  -- K is no more than N
  pub size_order : size_of (k_in s) ≤ size_of (n_in s)
  size_order = size_le (k_in s) (n_in s) (shape_passed s good)

  module _ (cells now : List ℕ) (same : length now ≡ length cells) where
    -- all but the first two parts and the cursors
    pub fixed_kept : ((i : ℕ) → 2 * size_of (n_in s) ≤ i → i < 6 * size_of (n_in s) → get_or now i 0 ≡ get_or cells i 0)
        → ((i : ℕ) → 7 * size_of (n_in s) ≤ i → get_or now i 0 ≡ get_or cells i 0) → Fixed s cells → Fixed s now
    fixed_kept middle last fixed =
        record {
          long = same ∙ fixed.long;
          inverses = λ some. record { at = λ i l. subst (λ (x : ℕ). size_of (n_in s) * size_of (k_in s) * value (vanishing (missing_in s)) (between (size_of (n_in s)) (size_of (k_in s)) i) * x ≈ 1) (inverse i l) ((fixed.inverses some).at i l) };
          powers = λ j l. middle (3 * size_of (n_in s) + j) (omega arith) (omega (arith, l)) ∙ fixed.powers j l;
          weighs = λ j l. middle (4 * size_of (n_in s) + j) (omega arith) (omega (arith, l)) ∙ fixed.weighs j l;
          words = λ t l. middle (5 * size_of (n_in s) + t) (omega arith) (omega (arith, l, held_room)) ∙ fixed.words t l;
          positions = λ t l. last (7 * size_of (n_in s) + t) (omega arith) ∙ fixed.positions t l;
        }
      where
        inverse : (i : ℕ) → i < size_of (k_in s) → get_or (drop (2 * size_of (n_in s)) cells) i 0 ≡ get_or (drop (2 * size_of (n_in s)) now) i 0
        inverse i l =
            get_or-drop (2 * size_of (n_in s)) cells i 0 ∙ sym (middle (2 * size_of (n_in s) + i) (omega arith) (omega (arith, l, size_order)))
            ∙ sym (get_or-drop (2 * size_of (n_in s)) now i 0)

    pub laid_kept : (b : ℕ) → drop (2 * size_of (n_in s)) now ≡ drop (2 * size_of (n_in s)) cells → Laid s b cells → Laid s b now
    laid_kept b behind laid =
        record {
          fixed = fixed_kept (λ i le l. same_later (2 * size_of (n_in s)) i now cells behind le) (λ i le. same_later (2 * size_of (n_in s)) i now cells behind (omega (arith, le))) laid.fixed;
          cursors = λ t h. same_later (2 * size_of (n_in s)) (6 * size_of (n_in s) + t) now cells behind (omega arith) ∙ laid.cursors t h;
        }

-- how many are held, as the code has read it
pub below : (t held m : ℕ) → t < held → held ≡ m → t < m
below t held m h is = omega arith
