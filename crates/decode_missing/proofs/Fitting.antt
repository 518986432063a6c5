-- What division by the product over the missing points finds is the message that fits the held symbols.
-- Assumes nothing.
use mathlib.Core.Path.{◌≡◌, refl, sym, ap, subst, ◌∙◌}
use mathlib.Core.Bool.{Bool, true, false, cond}
use mathlib.Core.List.{List, ◌++◌}
use mathlib.Core.Option.{some, none}
use Prim.Native.Nat.{ℕ, suc, ◌+◌, ◌-◌, ◌*◌, ◌^◌, ◌%◌, ◌<◌, ◌≤◌}
use native.Mathlib.Decide.{ℕ_discrete}
use native.Mathlib.Nat.{lt_of_lt_of_le, le_of_eq, le_trans, mod-eq_of_lt}
use native.Mathlib.Omega.{arith}
use lib.ListN.{length, get_or, length-append}
use lib.Pow.{pow_pos}
use Rattle.field.specs.Congruence.{◌≈◌}
use Rattle.field.specs.Points.{point_of}
use Rattle.field.specs.Size.{level_of, size_of}
use Rattle.field.proofs.Congruence.{≈-refl, ≈-of, ≈-sym, ◌∘≈◌, ◌·≈◌, mul-≈, mod-≈, comb}
use Rattle.field.proofs.Fermat.{no_divisors}
use Rattle.field.proofs.Ring.{product-≈}
use Rattle.limits.proofs.Shape.{shape_good, longest_le}
use Rattle.field.proofs.Sizes.{size_power, size_enough}
use Rattle.poly.specs.Distinct.{Distinct}
use Rattle.lists.specs.Every.{Every}
use Rattle.poly.specs.Products.{vanishing}
use Rattle.poly.specs.Value.{value}
use Rattle.lists.proofs.Every.{every_map, every_append, every_tab}
use Rattle.lists.proofs.Tab.{tab_at}
use Rattle.code.specs.Code.{symbol_of}
use Rattle.code.specs.Decoding.{points_of, decode_of}
use Rattle.code.specs.Fits.{Fits}
use Rattle.code.specs.Held.{Held}
use Rattle.code.specs.Meeting.{polynomial_of, message_of}
use Rattle.code.specs.Decodable.{Decodable}
use Rattle.code.proofs.Decoding.{symbol-≈, decodes_fitting, decodes_none}
use Rattle.code.proofs.Meeting.{polynomial_message, message_of_lem, polynomial_long, polynomial_symbols}
use Rattle.code.proofs.Points.{point_one, points_length, points_apart}
use Rattle.decode_divide.specs.Dividing.{Divides, ZeroAt, Divided}
use Rattle.decode_missing.specs.Marks.{Marks}
use Rattle.decode_missing.specs.Missing.{missing_points}
use Rattle.decode_missing.specs.Weights.{weights, Weighted}
use Rattle.decode_missing.proofs.Unmarked.{distinct_append, few_roots, point_full, Unmarked, unmarked_every, unmarked_distinct, unmarked_zero, unmarked_apart}

module _ (k n : ℕ) (h : Held) (able : Decodable k n h) (marks : List ℕ) (m : Marks (size_of n) h.positions marks) where
  zs : List ℕ
  zs = missing_points (size_of n) marks

  inside : (t : ℕ) → t < length h.positions → get_or h.positions t 0 < size_of n
  inside t l = let good = shape_good k n able.shape in lt_of_lt_of_le (able.inside t l) (size_enough n (le_trans good.2 longest_le))

  unmarked_all : Every (Unmarked (size_of n) marks (size_of n)) zs
  unfolding zs
  unmarked_all = unmarked_every n marks (size_of n)

  -- The held and the missing points together are distinct, so that there are no more than N

  held_points : List ℕ
  held_points = points_of (length h.positions) n h.positions

  held_full : Every (λ x. x ^ size_of n ≈ 1) held_points
  unfolding held_points points_of
  held_full = every_tab _ (length h.positions) _ (λ t l. point_full n (get_or h.positions t 0))

  missing_full : Every (λ x. x ^ size_of n ≈ 1) zs
  missing_full = every_map (λ z u. full z u) zs unmarked_all
    where
      full : (z : ℕ) → Unmarked (size_of n) marks (size_of n) z → z ^ size_of n ≈ 1
      full z (j, l, is, free) = rw is (point_full n j)

  apart : Every (λ z. Every (λ x. ¬ (x ≈ z)) held_points) zs
  unfolding held_points points_of
  apart = every_map (λ z u. every_tab _ (length h.positions) _ (λ t l same. other z u t l same)) zs unmarked_all
    where
      other : (z : ℕ) → Unmarked (size_of n) marks (size_of n) z → (t : ℕ) → t < length h.positions
          → ¬ (point_of (size_of n) (get_or h.positions t 0) ≈ z)
      other z (j, l, is, free) t lt same =
          m.held t lt (ap (λ (x : ℕ). get_or marks x 0) (point_one n (get_or h.positions t 0) j (inside t lt) l (same ∘≈ ≈-of is)) ∙ free)

  pub counted : length h.positions + length (missing_points (size_of n) marks) ≤ size_of n
  unfolding zs held_points
  counted =
      omega (
        arith,
        few_roots (size_of n - 1) (zs ++ held_points)
            (distinct_append zs held_points (unmarked_distinct n marks (size_of n) (le_of_eq refl)) held_apart apart)
            (rw (sym whole) (every_append _ zs held_points missing_full held_full)),
        whole,
        length-append zs held_points,
        points_length (length h.positions) n h.positions,
      )
    where
      whole : size_of n ≡ suc (size_of n - 1)
      whole = omega (arith, size_power n, pow_pos (level_of n))

      held_apart : Distinct (points_of (length h.positions) n h.positions)
      held_apart = points_apart (length h.positions) n h.positions (shape_good k n able.shape).2 (le_of_eq refl) able.inside able.apart

  -- list holds the held values, each times M(x)
  module _ (list : List ℕ) (w : Weighted (size_of n) marks h list) where
    M : ℕ → ℕ
    M j = value (vanishing (missing_points (size_of n) marks)) (point_of (size_of n) j)

    weight_at : (j : ℕ) → j < size_of n → get_or (weights (size_of n) (missing_points (size_of n) marks)) j 0 ≈ M j
    unfolding weights M
    weight_at j l = ≈-of (tab_at (size_of n) _ j l) ∘≈ mod-≈ _

    held_at : (t : ℕ) → t < length h.positions → get_or list (get_or h.positions t 0) 0 ≈ get_or h.values t 0 * M (get_or h.positions t 0)
    held_at t l =
        ≈-of (w.at t l) ∘≈ product-≈ (get_or h.values t 0) _ ∘≈ get_or h.values t 0 ·≈ weight_at (get_or h.positions t 0) (inside t l)

    pub missing_in_lem : ZeroAt k (missing_points (size_of n) marks) list
    missing_in_lem =
        record {
          few = omega (arith, counted, able.enough, w.long);
          distinct = unmarked_distinct n marks (size_of n) (le_of_eq refl);
          none = rw w.long (every_map (λ z u. free z u) _ (unmarked_every n marks (size_of n)));
        }
      where
        free : (z : ℕ) → Unmarked (size_of n) marks (size_of n) z → (j : ℕ) × (j < size_of n) × (z ≡ point_of (size_of n) j) × (get_or list j 0 ≡ 0)
        free z (j, l, is, unheld) = (j, l, is, w.none j l unheld)

    -- what M(x), which is not 0, multiplies to the same
    cancelled : (t : ℕ) → t < length h.positions → (x : ℕ)
        → x * M (get_or h.positions t 0) ≈ get_or h.values t 0 * M (get_or h.positions t 0) → x ≈ get_or h.values t 0
    unfolding M
    cancelled t l x same =
        comb
        (no_divisors (M (get_or h.positions t 0)) (x + 65536 * get_or h.values t 0)
        (comb same 0 (get_or h.values t 0 * M (get_or h.positions t 0)) (omega arith))
        (unmarked_apart n marks (get_or h.positions t 0) (inside t l) (m.held t l)))
        (get_or h.values t 0) 0 (omega arith)

    divides_fits : (f : List ℕ) → Divides k (missing_points (size_of n) marks) list f → Fits k n h (message_of f)
    divides_fits f d = record { message = message_of_lem k f d.long d.symbols; at = λ t l. right t l }
      where
        there : (j : ℕ) → j < size_of n → value f (point_of (size_of n) j) * M j ≈ get_or list j 0
        there j l =
            unfold M in
            subst (λ (x : ℕ). value f (point_of x j) * value (vanishing (missing_points (size_of n) marks)) (point_of x j) ≈ get_or list j 0) w.long
            (d.at j (lt_of_lt_of_le l (le_of_eq (sym w.long))))

        right : (t : ℕ) → t < length h.positions → symbol_of n (message_of f) (get_or h.positions t 0) ≡ get_or h.values t 0
        right t l =
            unfold symbol_of in
            ap (λ (s : List ℕ). value s (point_of (size_of n) (get_or h.positions t 0)) % 65537) (polynomial_message f)
            ∙ (cancelled t l _ (there _ (inside t l) ∘≈ held_at t l)).mods
            ∙ mod-eq_of_lt (able.symbols t (lt_of_lt_of_le l (le_of_eq able.paired)))

    fits_divides : (s : List ℕ) → Fits k n h s → Divides k (missing_points (size_of n) marks) list (polynomial_of s)
    fits_divides s fits =
        record {
          long = polynomial_long k s fits.message;
          symbols = polynomial_symbols k s fits.message;
          at = λ j l.
              subst (λ (x : ℕ). value (polynomial_of s) (point_of x j) * value (vanishing (missing_points (size_of n) marks)) (point_of x j) ≈ get_or list j 0)
              (sym w.long) (there j (lt_of_lt_of_le l (le_of_eq w.long)) (ℕ_discrete (get_or marks j 0) 0));
        }
      where
        held_there : (j t : ℕ) → t < length h.positions → get_or h.positions t 0 ≡ j → value (polynomial_of s) (point_of (size_of n) j) * M j ≈ get_or list j 0
        held_there j t l is =
            subst (λ (x : ℕ). value (polynomial_of s) (point_of (size_of n) x) * M x ≈ get_or list x 0) is
            (mul-≈ (≈-sym (symbol-≈ n s (get_or h.positions t 0)) ∘≈ ≈-of (fits.at t l)) (≈-refl {a = M (get_or h.positions t 0)})
            ∘≈ ≈-sym (held_at t l))

        there : (j : ℕ) → j < size_of n → Dec (get_or marks j 0 ≡ 0)
            → value (polynomial_of s) (point_of (size_of n) j) * value (vanishing (missing_points (size_of n) marks)) (point_of (size_of n) j) ≈ get_or list j 0
        there j l (yes unheld) =
            value (polynomial_of s) (point_of (size_of n) j) ·≈ unmarked_zero n marks (size_of n) j l unheld
            ∘≈ ≈-of (sym (w.none j l unheld ∙ omega arith))
        there j l (no marked) = unfold M in held_there j (m.only j l marked).0 (m.only j l marked).1 (m.only j l marked).2

    -- what is found in front, or that there is none, decides
    pub decodes : (r : Bool) (front : List ℕ) → Divided r k (missing_points (size_of n) marks) list front
        → decode_of k n h ≡ cond r (some (message_of front)) none
    decodes true front found = (decodes_fitting k n h able (message_of front)).1 (divides_fits front found)
    decodes false front never = (decodes_none k n h able).1 (λ s fits. never (polynomial_of s) (fits_divides s fits))
