-- What the sums at the inverse root of the values h tell: they are N times the coefficients of the polynomial that has the values h, so some f
-- of k symbols times the product has these values exactly if they are 0 from index k + u on, u being how many points are missing.
-- Assumes nothing.
use mathlib.Core.Path.{◌≡◌, refl, sym, ap, ◌∙◌}
use mathlib.Core.List.{List, ◌++◌}
use Prim.Native.Nat.{ℕ, ◌+◌, ◌-◌, ◌*◌, ◌^◌, ◌%◌, ◌<◌, ◌≤◌}
use native.Mathlib.Nat.{le_of_suc-le-suc}
use native.Mathlib.Omega.{arith}
use lib.ListN.{length, get_or, take, replicate, length-append, length-replicate, get_or-replicate, get_or-append}
use lib.Seq.{length-take-le, get_or-append-add}
use lib.Pow.{pow_pos, pow_mono}
use Rattle.field.specs.Congruence.{◌≈◌}
use Rattle.field.specs.Field.{product, inverse}
use Rattle.field.specs.Points.{root_of, point_of}
use Rattle.field.specs.Size.{level_of}
use Rattle.field.specs.Symbol.{Symbols}
use Rattle.field.proofs.Congruence.{≈-refl, ≈-of, ≈-sym, ◌∘≈◌, ◌+≈◌, ◌·≈◌, mul-≈, comb}
use Rattle.field.proofs.Fermat.{inverse-≈}
use Rattle.field.proofs.Ring.{product_lt, power-≈}
use Rattle.field.proofs.Roots.{root_order, powers_distinct}
use Rattle.poly.specs.Distinct.{Distinct}
use Rattle.lists.specs.Every.{Every}
use Rattle.poly.specs.Products.{times, vanishing}
use Rattle.lists.specs.Tab.{tab}
use Rattle.poly.specs.Value.{value}
use Rattle.poly.proofs.Counting.{unique}
use Rattle.poly.proofs.Distinct.{distinct_tab}
use Rattle.lists.proofs.Every.{every_map, every_tab}
use Rattle.poly.proofs.Products.{times_length, product_value}
use Rattle.poly.proofs.Symbols.{symbols_every, tab_symbols}
use Rattle.lists.proofs.Tab.{tab_length, tab_at}
use Rattle.poly.proofs.Values.{value-≈, value_append, value_zeros, value_front}
use Rattle.transform_halving.specs.Transform.{sums}
use Rattle.transform_halving.proofs.Round.{Opposite, round}
use Rattle.transform_halving.proofs.Sums.{values, sums_values, sums_length, sums_symbols}
use Rattle.transform_halving.proofs.Undo.{opposite, flipped, scaled_value}
use Rattle.decode_divide.specs.Dividing.{Divides, ZeroAt}
use Rattle.decode_divide.proofs.Quotients.{Quotient, divided_by}

module _ (e k : ℕ) (few_e : e < 16) (zs h : List ℕ) (size : length h ≡ 2 ^ e) (level : level_of (length h) ≡ e) where
  N : ℕ
  N = length h

  r : ℕ
  r = root_of N

  -- N times the coefficients
  unfoldable pub grown : List ℕ
  grown = sums (inverse (root_of (length h))) h

  opposed : Opposite (inverse r) r N
  unfolding N r root_of
  opposed = flipped (rw (level, size) (opposite e (omega arith)))

  grown_values : grown ≡ values (inverse r) N h
  unfolding grown N r
  grown_values = sums_values (inverse (root_of (length h))) h

  pub grown_length : length grown ≡ length h
  unfolding grown
  grown_length = sums_length (inverse (root_of (length h))) h

  pub grown_symbols : Symbols grown
  unfolding grown
  grown_symbols = sums_symbols (inverse (root_of (length h))) h

  point-≈ : (j : ℕ) → point_of N j ≈ r ^ j
  unfolding point_of r
  point-≈ j = power-≈ r j

  grown_at : (j : ℕ) → j < N → value grown (point_of N j) ≈ N * get_or h j 0
  unfolding N
  grown_at j l =
      value-≈ grown (point-≈ j)
      ∘≈ ≈-of (ap (λ (s : List ℕ). value s (r ^ j)) grown_values)
      ∘≈ round (inverse r) r N opposed h refl j l

  short : 2 ^ e ≤ 2 ^ 15
  short = pow_mono (le_of_suc-le-suc few_e)

  -- N is not 0 modulo 65537
  pub unit : length h * inverse (length h) ≈ 1
  unit = inverse-≈ (length h) (λ none. omega (arith, none.mods, size, pow_pos e, short))

  -- the N points are distinct, so that N symbols are settled by their values there
  points : List ℕ
  points = tab N (point_of N)

  points_apart : Distinct points
  unfolding points N r root_of point_of
  points_apart =
      distinct_tab (length h) (point_of (length h)) (λ i j l m same.
      absurd (omega (
        arith,
        powers_distinct (root_of (length h)) (2 ^ e) (rw level (root_order e (omega arith))) j i (omega (arith, size)) (omega (arith, size))
            (≈-sym (power-≈ (root_of (length h)) j) ∘≈ same ∘≈ power-≈ (root_of (length h)) i),
      )))

  by_values : (s : List ℕ) → length s ≡ N → Symbols s → ((j : ℕ) → j < N → value s (point_of N j) ≈ N * get_or h j 0) → grown ≡ s
  unfolding points N
  by_values s long small right =
      unique points grown s (grown_length ∙ sym (tab_length N (point_of N))) (long ∙ sym (tab_length N (point_of N))) points_apart
      (symbols_every grown grown_symbols) (symbols_every s small)
      (every_tab _ N (point_of N) (λ j l. grown_at j l ∘≈ ≈-sym (right j l)))

  -- Where f·M has the values, the sums are 0 from k + u on

  module _ (few : k + length zs ≤ length h) (f : List ℕ) (d : Divides k zs h f) where
    rest : ℕ
    rest = N - (k + length zs)

    padded : List ℕ
    padded = times f zs ++ replicate rest 0

    front_long : length (times f zs) ≡ k + length zs
    front_long = times_length f zs ∙ omega (arith, d.long)

    padded_long : length padded ≡ N
    unfolding padded rest N
    padded_long = length-append (times f zs) _ ∙ omega (arith, front_long, length-replicate {A = ℕ} (length h - (k + length zs)) 0)

    padded_value : (x : ℕ) → value padded x ≡ value (times f zs) x
    unfolding padded
    padded_value x = value_append (times f zs) (replicate rest 0) x ∙ rw (value_zeros rest x) (omega arith)

    multiple : List ℕ
    multiple = tab N (λ j. product N (get_or padded j 0))

    multiple_at : (j : ℕ) → j < N → value multiple (point_of N j) ≈ N * get_or h j 0
    unfolding multiple N
    multiple_at j l =
        scaled_value N N padded (point_of N j) padded_long
        ∘≈ N ·≈ (≈-of (padded_value (point_of N j)) ∘≈ product_value f zs (point_of N j) ∘≈ d.at j l)

    is_multiple : grown ≡ multiple
    unfolding multiple
    is_multiple = by_values multiple (tab_length N _) (tab_symbols N _ (λ j l. product_lt N (get_or padded j 0))) multiple_at

    -- each is N times that of f·M
    pub entry_of : (i : ℕ) → i < k + length zs → get_or grown i 0 ≡ product (length h) (get_or (times f zs) i 0)
    unfolding multiple padded N
    entry_of i l =
        ap (λ (s : List ℕ). get_or s i 0) is_multiple
        ∙ tab_at (length h) _ i (omega arith)
        ∙ ap (product (length h)) (get_or-append (times f zs) (replicate rest 0) 0 i (omega (arith, front_long)))

    pub zero_from : (i : ℕ) → k + length zs ≤ i → i < length h → get_or grown i 0 ≡ 0
    unfolding multiple padded rest N product
    zero_from i from l =
        ap (λ (s : List ℕ). get_or s i 0) is_multiple
        ∙ tab_at (length h) _ i l
        ∙ ap (λ (x : ℕ). length h * x % 65537) {x = get_or padded i 0} {y = 0} none
        ∙ ap (◌% 65537) {x = length h * 0} {y = 0} (omega arith)
      where
        none : get_or padded i 0 ≡ 0
        none =
            ap (λ (m : ℕ). get_or (times f zs ++ replicate (length h - (k + length zs)) 0) m 0) {x = i} {y = length (times f zs) + (i - (k + length zs))} (omega (arith, front_long))
            ∙ get_or-append-add (times f zs) _ (i - (k + length zs)) 0
            ∙ get_or-replicate (length h - (k + length zs)) (i - (k + length zs)) 0 0 (omega arith)

  -- Where the sums are 0 from k + u on, there is such an f

  pub record Found : Type 0 where
    pub f : List ℕ
    pub divides : Divides k zs h f
    pub values_of : (x : ℕ) → value grown x ≈ length h * (value f x * value (vanishing zs) x)

  module _ (m : ZeroAt k zs h) (none : (i : ℕ) → k + length zs ≤ i → i < length h → get_or grown i 0 ≡ 0) where
    front : List ℕ
    front = take (k + length zs) grown

    front_value : (x : ℕ) → value grown x ≡ value front x
    unfolding front
    front_value x = value_front (k + length zs) grown x (λ i from l. none i from (omega (arith, grown_length)))

    vanishes : Every (λ z. value front z ≈ 0) zs
    unfolding N
    vanishes = every_map (λ z w. at z w) zs m.none
      where
        at : (z : ℕ) → (j : ℕ) × (j < length h) × (z ≡ point_of (length h) j) × (get_or h j 0 ≡ 0) → value front z ≈ 0
        at z (j, l, is, zero_there) =
            ≈-of (sym (front_value z) ∙ ap (value grown) is)
            ∘≈ grown_at j l
            ∘≈ ≈-of (ap (length h *◌) zero_there ∙ omega arith)

    quotient : Quotient k zs front
    unfolding front
    quotient =
        divided_by zs front k (length-take-le (k + length zs) grown (omega (arith, grown_length, m.few)) ∙ omega arith) m.distinct vanishes

    scaled : List ℕ
    scaled = tab k (λ i. product (inverse N) (get_or quotient.s i 0))

    scaled-≈ : (x : ℕ) → N * value scaled x ≈ value quotient.s x
    unfolding scaled N
    scaled-≈ x =
        N ·≈ scaled_value (inverse N) k quotient.s x quotient.long
        ∘≈ comb (value quotient.s x ·≈ unit) 0 0 (omega arith)

    grown-≈ : (x : ℕ) → value grown x ≈ N * (value scaled x * value (vanishing zs) x)
    grown-≈ x =
        ≈-of (front_value x)
        ∘≈ quotient.is x
        ∘≈ mul-≈ (≈-sym (scaled-≈ x)) (≈-refl {a = value (vanishing zs) x})
        ∘≈ ≈-of (omega arith)

    cancelled : (x y : ℕ) → N * x ≈ N * y → x ≈ y
    unfolding N
    cancelled x y same = comb (inverse N ·≈ same +≈ y ·≈ unit +≈ ≈-sym (x ·≈ unit)) 0 0 (omega arith)

    pub found : Found
    unfolding scaled N
    found =
        record {
          f = scaled;
          divides =
              record {
                long = tab_length k _;
                symbols = tab_symbols k _ (λ i l. product_lt (inverse N) (get_or quotient.s i 0));
                at = λ j l. cancelled _ _ (≈-sym (grown-≈ (point_of (length h) j)) ∘≈ grown_at j l);
              };
          values_of = grown-≈;
        }
