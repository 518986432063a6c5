-- The product over the missing points from their place at the end of the first N cells to its coefficients in front.
-- Assumes nothing.
use mathlib.Core.Path.{◌≡◌, refl, sym, ap, ap₂, subst, ◌∙◌}
use mathlib.Core.List.{List, [], ◌∷◌, ◌++◌, append_assoc}
use Prim.Native.Nat.{ℕ, zero, suc, ◌+◌, ◌-◌, ◌*◌, ◌/◌, ◌^◌, ◌<◌, ◌≤◌}
use native.Mathlib.Nat.{zero-mul, mod-eq_of_lt, le_of_eq, le_trans}
use native.Mathlib.Omega.{arith}
use lib.Dec.{lit<}
use lib.ListN.{length, get_or, take, drop, set, replicate, length-set, length-append, length-drop, length-replicate, get_or-replicate}
use lib.Pow.{pow_pos}
use lib.Seq.{length-take-le, take_at, drop_at, take-take, take-append-add, drop-append-add, drop-drop, get_or-take, get_or-drop, get_or-append-add, set_at, ext_get_or}
use Rattle.std.specs.List.{copy_within}
use Rattle.field.specs.Field.{difference, product}
use Rattle.field.specs.Size.{level_of, size_of}
use Rattle.field.specs.Symbol.{Symbols}
use Rattle.field.proofs.Sizes.{size_power, size_enough, size_least, size_of_power, level_least, size_small}
use Rattle.lists.specs.Every.{Every}
use Rattle.poly.specs.Products.{times, vanishing}
use Rattle.poly.specs.Raised.{raised}
use Rattle.poly.proofs.Products.{vanishing_length, vanishing_symbols}
use Rattle.poly.proofs.Symbols.{append_symbols}
use Rattle.lists.specs.Part.{part, replaced}
use Rattle.lists.proofs.Part.{part_length, part_join, replaced_length, replaced_at, replaced_behind, returned_part}
use Rattle.decode_product.specs.Factors.{lowers_of}
use Rattle.decode_product.proofs.Lowers.{lowers_whole, lowers_length}

-- Zeros among the points move the coefficients up

raised_zero : (y : ℕ) (h : List ℕ) → y < 65537 → Every (◌< 65537) h → raised 0 y h ≡ y ∷ h
unfolding raised Every difference product
raised_zero y [] l low = ap (◌∷ []) (mod-eq_of_lt l)
raised_zero y (a ∷ h) l low = ap₂ ◌∷◌ (rw (zero-mul a) (omega arith)) (raised_zero a h low.0 low.1)

zeros_vanishing : (p : ℕ) (zs : List ℕ) → vanishing (replicate p 0 ++ zs) ≡ replicate p 0 ++ vanishing zs
unfolding vanishing times
zeros_vanishing zero zs = refl
zeros_vanishing (suc p) zs =
    raised_zero 0 (times (1 ∷ []) (replicate p 0 ++ zs)) (lit< tt) (vanishing_symbols (replicate p 0 ++ zs))
    ∙ ap (0 ∷◌) (zeros_vanishing p zs)

zeros_lowers : (p : ℕ) (zs : List ℕ) → lowers_of (replicate p 0 ++ zs) ≡ replicate p 0 ++ lowers_of zs
unfolding lowers_of
zeros_lowers p zs =
    ap (take (length (replicate p 0 ++ zs))) (zeros_vanishing p zs)
    ∙ ap (λ (m : ℕ). take m (replicate p 0 ++ vanishing zs)) (length-append (replicate p 0) zs)
    ∙ take-append-add (replicate p 0) (vanishing zs) (length zs)

pub zeros_symbols : (p : ℕ) → Symbols (replicate p 0)
zeros_symbols p i l = rw (get_or-replicate {A = ℕ} p i 0 0 (omega (arith, length-replicate {A = ℕ} p 0))) (lit< tt)

module _ (N u : ℕ) (d : List ℕ) (long : length d ≡ 4 * N) (N_power : N ≡ size_of N) (N_root : level_of N < 16) (some : 0 < u) (few : u ≤ N) (zeros : take (N - u) d ≡ replicate (N - u) 0) (small : Symbols (part (N - u) u d)) where
  points_length : length (part (N - u) u d) ≡ u
  points_length = part_length (N - u) u d (omega (arith, long))

  size_N : N ≡ 2 ^ level_of N
  size_N = N_power ∙ size_power N

  -- S is the power of two that is multiplied out
  module _ (S : ℕ) (S-is : S ≡ size_of u) where
    pub enough : u ≤ S
    enough = rw S-is (size_enough u (omega (arith, few, size_small N N N_power)))

    pub fits : S ≤ N
    fits = omega (arith, S-is, size_least u (level_of N) (le_trans few (le_of_eq size_N)), size_N)

    S_power : S ≡ 2 ^ level_of u
    S_power = S-is ∙ size_power u

    level_u : level_of u ≤ level_of N
    level_u = level_least u (level_of N) (le_trans few (le_of_eq size_N))

    -- what is lent
    abbrev pub lent : List ℕ
    lent = take (N + S - (N - S)) (drop (N - S) d)

    lent_is : lent ≡ part (N - S) (2 * S) d
    lent_is = ap (λ (m : ℕ). take m (drop (N - S) d)) {x = N + S - (N - S)} {y = 2 * S} (omega (arith, fits))

    lent_length : length lent ≡ 2 * S
    lent_length = ap length lent_is ∙ part_length (N - S) (2 * S) d (omega (arith, fits, long))

    half : length lent / 2 ≡ S
    half = omega (arith, lent_length)

    before : part (N - S) (S - u) d ≡ replicate (S - u) 0
    before =
        ext_get_or 0 _ _ (part_length (N - S) (S - u) d (omega (arith, fits, long)) ∙ sym (length-replicate {A = ℕ} (S - u) 0)) (λ i l.
        at i (omega (arith, part_length (N - S) (S - u) d (omega (arith, fits, long)))))
      where
        at : (i : ℕ) → i < S - u → get_or (part (N - S) (S - u) d) i 0 ≡ get_or (replicate (S - u) 0) i 0
        at i l =
            get_or-take (S - u) (drop (N - S) d) i 0 l
            ∙ get_or-drop (N - S) d i 0
            ∙ sym (get_or-take (N - u) d (N - S + i) 0 (omega (arith, fits, enough)))
            ∙ ap (λ (s : List ℕ). get_or s (N - S + i) 0) zeros
            ∙ get_or-replicate (N - u) (N - S + i) 0 0 (omega (arith, fits, enough))
            ∙ sym (get_or-replicate (S - u) i 0 0 l)

    front_is : take (length lent / 2) lent ≡ replicate (S - u) 0 ++ part (N - u) u d
    front_is =
        ap₂ take half lent_is
        ∙ take-take S (2 * S) (drop (N - S) d) (omega arith)
        ∙ ap (λ (m : ℕ). part (N - S) m d) {x = S} {y = S - u + u} (omega (arith, enough))
        ∙ part_join (N - S) (S - u) u d
        ∙ ap₂ (λ (z : List ℕ) (m : ℕ). z ++ part m u d) before place
      where
        place : N - S + (S - u) ≡ N - u
        place = omega (arith, fits, enough)

    pub out_asked : (length lent ≡ size_of (length lent)) × (2 ≤ length lent) × Symbols (take (length lent / 2) lent)
    out_asked = (
      lent_length ∙ twice ∙ sym (ap size_of (lent_length ∙ twice) ∙ size_of_power (suc (level_of u)) (omega (arith, level_u, N_root))),
      omega (arith, lent_length, S_power, pow_pos (level_of u)),
      subst Symbols (sym front_is) (append_symbols (replicate (S - u) 0) (part (N - u) u d) (zeros_symbols (S - u)) small),
    )
      where
        twice : 2 * S ≡ 2 ^ suc (level_of u)
        twice = omega (arith, S_power)

    -- e is what the call leaves of it
    module _ (e : List ℕ) (same : length e ≡ length lent) (out : take (length lent / 2) e ≡ lowers_of (take (length lent / 2) lent)) where
      abbrev pub after : List ℕ
      after = take (N - S) d ++ (e ++ drop (N + S - (N - S)) (drop (N - S) d))

      after_is : after ≡ replaced (N - S) (2 * S) d e
      after_is =
          ap (λ (m : ℕ). take (N - S) d ++ (e ++ drop m (drop (N - S) d))) {x = N + S - (N - S)} {y = N - S + 2 * S - (N - S)} (omega (arith, fits))
          ∙ returned_part (N - S) (2 * S) d e

      inside : N - S + 2 * S ≤ length d
      inside = omega (arith, fits, long)

      e_front : take S e ≡ replicate (S - u) 0 ++ lowers_of (part (N - u) u d)
      e_front =
          ap (λ (m : ℕ). take m e) (sym half)
          ∙ out
          ∙ ap lowers_of front_is
          ∙ zeros_lowers (S - u) (part (N - u) u d)

      pub product_there : part (N - u) u after ≡ take u (vanishing (part (N - u) u d))
      unfolding lowers_of
      product_there =
          ext_get_or 0 _ _ (part_length (N - u) u after (omega (arith, ap length after_is, after_long, long)) ∙ sym (ap length lowers ∙ lowers_length (part (N - u) u d) ∙ points_length)) (λ i l.
          at i (omega (arith, part_length (N - u) u after (omega (arith, after_long, long)))))
        where
          after_long : length after ≡ length d
          after_long = ap length after_is ∙ replaced_length (N - S) (2 * S) d inside e (same ∙ lent_length)

          place : (i : ℕ) → N - u + i ≡ N - S + (S - u + i)
          place i = omega (arith, fits, enough)

          lowers : take u (vanishing (part (N - u) u d)) ≡ lowers_of (part (N - u) u d)
          lowers = ap (λ (m : ℕ). take m (vanishing (part (N - u) u d))) (sym points_length) ∙ (unfold lowers_of in refl)

          at : (i : ℕ) → i < u → get_or (part (N - u) u after) i 0 ≡ get_or (take u (vanishing (part (N - u) u d))) i 0
          at i l =
              get_or-take u (drop (N - u) after) i 0 l
              ∙ get_or-drop (N - u) after i 0
              ∙ ap₂ (λ (s : List ℕ) (m : ℕ). get_or s m 0) after_is (place i)
              ∙ replaced_at (N - S) (2 * S) d inside e (same ∙ lent_length) (S - u + i) (omega (arith, enough))
              ∙ sym (get_or-take S e (S - u + i) 0 (omega (arith, enough)))
              ∙ ap (λ (s : List ℕ). get_or s (S - u + i) 0) e_front
              ∙ ap (λ (m : ℕ). get_or (replicate (S - u) 0 ++ lowers_of (part (N - u) u d)) (m + i) 0) (sym (length-replicate {A = ℕ} (S - u) 0))
              ∙ get_or-append-add (replicate (S - u) 0) (lowers_of (part (N - u) u d)) i 0
              ∙ ap (λ (s : List ℕ). get_or s i 0) (sym lowers)

      pub rest_stays : drop (2 * N) after ≡ drop (2 * N) d
      rest_stays = ap (drop (2 * N)) after_is ∙ replaced_behind (N - S) (2 * S) d inside e (same ∙ lent_length) (2 * N) (omega (arith, fits))

-- Brought to the front: s₁ is what multiplying out leaves

module _ (N u : ℕ) (zs s₁ : List ℕ) (count : length zs ≡ u) (few : u < N) (long : length s₁ ≡ 4 * N) (there : part (N - u) u s₁ ≡ take u (vanishing zs)) where
  lowers_long : length (lowers_of zs) ≡ u
  lowers_long = lowers_length zs ∙ count

  module _ (s₂ : List ℕ) (brings : s₂ ≡ copy_within s₁ (N - u) N 0) where
    s₂_is : s₂ ≡ lowers_of zs ++ drop u s₁
    unfolding lowers_of
    s₂_is =
        brings
        ∙ ap (λ (n : ℕ). take n (drop (N - u) s₁) ++ drop (0 + n) s₁) {x = N - (N - u)} {y = u} (omega arith)
        ∙ ap₂ ◌++◌ (there ∙ ap (λ (m : ℕ). take m (vanishing zs)) (sym count)) (ap (λ (n : ℕ). drop n s₁) {x = 0 + u} {y = u} (omega arith))

    back₂ : drop u s₂ ≡ drop u s₁
    back₂ = ap (drop u) s₂_is ∙ drop_at (lowers_of zs) (drop u s₁) u lowers_long

    module _ (e : List ℕ) (cleared : e ≡ replicate (length (take (N - u) (drop u s₂))) 0) where
      abbrev pub behind : List ℕ
      behind = take u s₂ ++ (e ++ drop (N - u) (drop u s₂))

      e_is : e ≡ 0 ∷ replicate (N - u - 1) 0
      e_is =
          cleared
          ∙ ap (λ (m : ℕ). replicate {A = ℕ} m 0)
          (ap (λ (s : List ℕ). length (take (N - u) s)) back₂ ∙ length-take-le (N - u) (drop u s₁) (omega (arith, length-drop u s₁, long)) ∙ one_more)
        where
          one_more : N - u ≡ suc (N - u - 1)
          one_more = omega arith

      behind_is : behind ≡ lowers_of zs ++ (0 ∷ (replicate (N - u - 1) 0 ++ drop N s₁))
      behind_is =
          ap₂ ◌++◌ (ap (take u) s₂_is ∙ take_at (lowers_of zs) (drop u s₁) u lowers_long)
          (ap₂ ◌++◌ e_is (ap (drop (N - u)) back₂ ∙ drop-drop (N - u) u s₁ ∙ ap (λ (m : ℕ). drop m s₁) {x = u + (N - u)} {y = N} (omega arith)))

      pub one_laid : set behind u 1 ≡ (vanishing zs ++ replicate (N - u - 1) 0) ++ drop N s₁
      one_laid =
          ap (λ (s : List ℕ). set s u 1) behind_is
          ∙ set_at (lowers_of zs) 0 _ 1 u lowers_long
          ∙ sym (ap (◌++ drop N s₁) (ap (◌++ replicate (N - u - 1) 0) (lowers_whole zs) ∙ append_assoc (lowers_of zs) (1 ∷ []) (replicate (N - u - 1) 0))
          ∙ append_assoc (lowers_of zs) (1 ∷ replicate (N - u - 1) 0) (drop N s₁))

      whole_long : length (vanishing zs ++ replicate (N - u - 1) 0) ≡ N
      whole_long = length-append (vanishing zs) _ ∙ omega (arith, vanishing_length zs, count, length-replicate {A = ℕ} (N - u - 1) 0)

      pub product_laid : take N (set behind u 1) ≡ vanishing zs ++ replicate (N - u - 1) 0
      product_laid = ap (take N) one_laid ∙ take_at (vanishing zs ++ replicate (N - u - 1) 0) (drop N s₁) N whole_long

      pub rest_laid : drop (2 * N) (set behind u 1) ≡ drop (2 * N) s₁
      rest_laid =
          ap (drop (2 * N)) one_laid
          ∙ ap (λ (m : ℕ). drop m ((vanishing zs ++ replicate (N - u - 1) 0) ++ drop N s₁)) {x = 2 * N} {y = length (vanishing zs ++ replicate (N - u - 1) 0) + N} (omega (arith, whole_long))
          ∙ drop-append-add (vanishing zs ++ replicate (N - u - 1) 0) (drop N s₁) N
          ∙ drop-drop N N s₁
          ∙ ap (λ (m : ℕ). drop m s₁) {x = N + N} {y = 2 * N} (omega arith)

      pub laid_long : length (set behind u 1) ≡ length s₁
      laid_long =
          ap length one_laid ∙ length-append (vanishing zs ++ replicate (N - u - 1) 0) (drop N s₁) ∙ omega (arith, whole_long, length-drop N s₁, long)

      pub behind_long : length behind ≡ length s₁
      behind_long = sym (length-set behind u 1) ∙ laid_long
