-- The answer of division: from the sums in front, that there is no such polynomial, or the polynomial itself in front.
-- Assumes nothing.
use mathlib.Core.Path.{◌≡◌, refl, sym, ap, ap₂, subst, ◌∙◌}
use mathlib.Core.Bool.{Bool, true, false, not}
use mathlib.Core.List.{List, [], ◌∷◌, ◌++◌}
use Prim.Native.Nat.{ℕ, ◌+◌, ◌-◌, ◌*◌, ◌^◌, ◌<◌, ◌≤◌}
use native.Mathlib.Nat.{le_of_eq}
use native.Mathlib.Omega.{arith}
use borrow.Author.Tests.{not-true, not-false}
use lib.ListN.{length, get_or, take, drop}
use lib.Seq.{length-take-le, take_all, take-take, take_at, drop-append-add, drop-drop, get_or-take}
use Rattle.field.specs.Congruence.{◌≈◌}
use Rattle.field.specs.Field.{product, inverse}
use Rattle.field.specs.Points.{root_of}
use Rattle.field.specs.Size.{level_of}
use Rattle.field.specs.Symbol.{Symbols}
use Rattle.field.proofs.Congruence.{≈-of, ◌∘≈◌, ◌·≈◌, comb, reduced}
use Rattle.field.proofs.Ring.{product-≈, product_lt}
use Rattle.poly.specs.Products.{times, vanishing}
use Rattle.lists.specs.Tab.{tab}
use Rattle.poly.specs.Value.{value}
use Rattle.lists.proofs.Tab.{tab_length, tab_ext, tab_get_or}
use Rattle.transform_halving.specs.Transform.{sums}
use Rattle.transform_halving.proofs.Sums.{sums_length, sums_symbols}
use Rattle.lists.specs.Part.{part, replaced}
use Rattle.transform_table.specs.Turns.{Tabled}
use Rattle.lists.proofs.Part.{replaced_length, replaced_part, replaced_behind}
use Rattle.decode_between.specs.Foldable.{Foldable}
use Rattle.decode_between.proofs.Foldable.{size_N, size_K, levels, table_kept}
use Rattle.decode_between.proofs.Turning.{whole_tabled}
use Rattle.decode_divide.specs.Dividing.{Divides, ZeroAt, Divided}
use Rattle.decode_divide.specs.Quotients.{InversesBetween, quotients, untwisted}
use Rattle.decode_divide.specs.Tests.{ZeroFrom, Decides}
use Rattle.decode_divide.proofs.Dividing.{Found, grown, unit, entry_of, zero_from, found}
use Rattle.decode_divide.proofs.Untwisting.{untwisted_is}

-- what `divide` promises, over N and K
abbrev pub Finds : ℕ → ℕ → List ℕ → ℕ → Bool → List ℕ → ℕ → Type 0
Finds k missing d N r s K =
    ((zs : List ℕ) → length zs ≡ missing → ZeroAt k zs (take N d) → (0 < missing → InversesBetween N K zs (drop (2 * N) d)) → Divided r k zs (take N d) (take k s))
    × (drop (2 * N) s ≡ drop (2 * N) d)

module _ (k missing N K : ℕ) (d : List ℕ) (room : Foldable N K d) (few : k ≤ K) where
  h_long : length (take N d) ≡ N
  h_long = length-take-le N d (omega (arith, room.table.long))

  size_h : length (take N d) ≡ 2 ^ level_of N
  size_h = h_long ∙ size_N N d room.table

  level_h : level_of (length (take N d)) ≡ level_of N
  level_h = ap level_of h_long

  -- the sums, N times the coefficients
  G : List ℕ
  G = sums (inverse (root_of N)) (take N d)

  G_long : length G ≡ N
  unfolding G
  G_long = sums_length (inverse (root_of N)) (take N d) ∙ h_long

  G_is : (zs : List ℕ) → grown (level_of N) k room.table.N_root zs (take N d) size_h level_h ≡ G
  unfolding G grown
  G_is zs = ap (λ (m : ℕ). sums (inverse (root_of m)) (take N d)) h_long

  -- What the first transform asks, and what it leaves

  pub first_asked : (x t : List ℕ) → x ≡ part 0 N d → t ≡ drop (3 * N) d → Tabled x t 2
  first_asked x t lent powers =
      whole_tabled N d t room.table powers x (ap length lent ∙ h_long) (subst Symbols (sym lent) room.symbols)

  module _ (s : List ℕ) (is : s ≡ replaced 0 N d (sums (inverse (root_of N)) (part 0 N d))) where
    inside : 0 + N ≤ length d
    inside = omega (arith, room.table.long)

    pub first_long : length s ≡ length d
    unfolding G
    first_long = ap length is ∙ replaced_length 0 N d inside G G_long

    front : take N s ≡ G
    unfolding G
    front = ap (take N) is ∙ replaced_part 0 N d inside G G_long

    behind : (m : ℕ) → N ≤ m → drop m s ≡ drop m d
    unfolding G
    behind m l = ap (drop m) is ∙ replaced_behind 0 N d inside G G_long m (omega arith)

    -- a part of the sums that is lent
    lent : (m : ℕ) → m ≤ N → take (m - 0) s ≡ take m G
    lent m l =
        ap (λ (x : ℕ). take x s) {x = m - 0} {y = m} (omega arith) ∙ sym (take-take m N s l) ∙ ap (take m) front

    sums_lent : take (N - 0) s ≡ G
    sums_lent = lent N (le_of_eq refl) ∙ take_all N G (le_of_eq G_long)

    pub quotient_room : Foldable N K s
    unfolding G
    quotient_room =
        record {
          table = table_kept N d room.table s first_long (behind (3 * N) (omega arith));
          K_power = room.K_power;
          K_fits = room.K_fits;
          symbols = subst Symbols (sym front) (sums_symbols (inverse (root_of N)) (take N d));
        }

    -- where the test said no
    pub none_found : (t : Bool) → not t ≡ true → Decides t (ZeroFrom (k + missing) (take (N - 0) s)) → Finds k missing d N false s K
    none_found t said told = (
      λ zs long m inverted g divides.
          told_no (λ i from l.
          ap (λ (x : List ℕ). get_or x i 0) (sums_lent ∙ sym (G_is zs))
          ∙ zero_from (level_of N) k room.table.N_root zs (take N d) size_h level_h m.few g divides i (omega arith) (omega (arith, ap length sums_lent, G_long, h_long))),
      behind (2 * N) (omega arith),
    )
      where
        told_no : ¬ ZeroFrom (k + missing) (take (N - 0) s)
        told_no = subst (λ (b : Bool). Decides b (ZeroFrom (k + missing) (take (N - 0) s))) (not-true t said) told

    -- where it said yes

    module _ (b : Bool) (said : not b ≡ false) (told : Decides b (ZeroFrom (k + missing) (take (N - 0) s))) where
      zero_there : ZeroFrom (k + missing) (take (N - 0) s)
      zero_there = subst (λ (x : Bool). Decides x (ZeroFrom (k + missing) (take (N - 0) s))) (not-false b said) told

      there : (zs : List ℕ) → length zs ≡ missing → ZeroAt k zs (take N d) → Found (level_of N) k room.table.N_root zs (take N d) size_h level_h
      there zs long m =
          found (level_of N) k room.table.N_root zs (take N d) size_h level_h m (λ i from l.
          ap (λ (x : List ℕ). get_or x i 0) (G_is zs ∙ sym sums_lent)
          ∙ zero_there i (omega arith) (omega (arith, ap length sums_lent, G_long, h_long)))

      -- nothing is missing

      module _ (all : missing ≡ 0) (c : ℕ) (inverted : c ≡ inverse N) (e t : List ℕ) (scaled : e ≡ tab (length (take (k - 0) s)) (λ j. product c (get_or (take (k - 0) s) j 0))) (result : t ≡ e ++ drop (k - 0) s) where
        part_long : length (take (k - 0) s) ≡ k
        part_long = ap length (lent k (omega (arith, few, room.K_fits))) ∙ length-take-le k G (omega (arith, G_long, few, room.K_fits))

        e_long : length e ≡ k
        e_long = ap length scaled ∙ tab_length _ _ ∙ part_long

        e_is : e ≡ tab k (λ j. product (inverse N) (get_or G j 0))
        e_is =
            scaled
            ∙ ap (λ (m : ℕ). tab m (λ j. product c (get_or (take (k - 0) s) j 0))) part_long
            ∙ tab_ext k _ _ (λ j l. ap₂ product inverted (ap (λ (x : List ℕ). get_or x j 0) (lent k (omega (arith, few, room.K_fits))) ∙ get_or-take k G j 0 l))

        coefficients : (f : List ℕ) → Divides k [] (take N d) f → e ≡ f
        unfolding times
        coefficients f divides =
            e_is
            ∙ tab_ext k _ (λ j. get_or f j 0) (λ j l.
            reduced
            (product-≈ (inverse N) _ ∘≈ inverse N ·≈ (entry j l) ∘≈ comb (get_or f j 0 ·≈ unit_N) 0 0 (omega arith))
            (product_lt (inverse N) _)
            (divides.symbols j (omega (arith, divides.long))))
            ∙ ap (λ (m : ℕ). tab m (λ j. get_or f j 0)) (sym divides.long)
            ∙ tab_get_or f
          where
            unit_N : N * inverse N ≈ 1
            unit_N = subst (λ (x : ℕ). x * inverse x ≈ 1) h_long (unit (level_of N) k room.table.N_root [] (take N d) size_h level_h)

            entry : (j : ℕ) → j < k → get_or G j 0 ≈ N * get_or f j 0
            entry j l =
                ≈-of (ap (λ (x : List ℕ). get_or x j 0) (sym (G_is []))
                ∙ entry_of (level_of N) k room.table.N_root [] (take N d) size_h level_h (omega (arith, h_long, few, room.K_fits)) f divides j (omega arith)
                ∙ ap (λ (m : ℕ). product m (get_or f j 0)) h_long)
                ∘≈ product-≈ N (get_or f j 0)

        pub all_found : Finds k missing d N true t K
        all_found = (λ zs long m inverted. at zs long m, rest)
          where
            at : (zs : List ℕ) → length zs ≡ missing → ZeroAt k zs (take N d) → Divides k zs (take N d) (take k t)
            at (z ∷ zs) long m = absurd (omega (arith, all))
            at [] long m =
                let f = there [] long m in
                subst (Divides k [] (take N d)) (sym (ap (take k) result ∙ take_at e _ k e_long ∙ coefficients f.f f.divides)) f.divides

            rest : drop (2 * N) t ≡ drop (2 * N) d
            rest =
                ap (drop (2 * N)) result
                ∙ ap (λ (m : ℕ). drop m (e ++ drop (k - 0) s)) {x = 2 * N} {y = length e + (2 * N - k)} (omega (arith, e_long, few, room.K_fits))
                ∙ drop-append-add e (drop (k - 0) s) (2 * N - k)
                ∙ drop-drop (2 * N - k) (k - 0) s
                ∙ ap (λ (m : ℕ). drop m s) {x = k - 0 + (2 * N - k)} {y = 2 * N} (omega (arith, few, room.K_fits))
                ∙ behind (2 * N) (omega arith)

      -- something is

      pub some_found : (t : List ℕ) → 0 < missing → take k t ≡ tab k (untwisted N (sums (inverse (root_of K)) (quotients N K (take N s) (drop (2 * N) s))))
          → drop (2 * N) t ≡ drop (2 * N) s → Finds k missing d N true t K
      some_found t some untwists rest = (λ zs long m inverted. at zs (there zs long m) (inverted some), rest ∙ behind (2 * N) (omega arith))
        where
          at : (zs : List ℕ) → Found (level_of N) k room.table.N_root zs (take N d) size_h level_h → InversesBetween N K zs (drop (2 * N) d)
              → Divides k zs (take N d) (take k t)
          at zs f inverted =
              subst (Divides k zs (take N d))
              (sym (untwists
              ∙ untwisted_is N K (level_of N) (level_of K) (size_N N d room.table) refl (size_K N K d room) refl (levels N K d room) room.table.N_root
              k zs (take N s) (drop (2 * N) s) f.f (subst (InversesBetween N K zs) (sym (behind (2 * N) (omega arith))) inverted)
              f.divides.long f.divides.symbols few
              (λ x. ≈-of (ap (λ (g : List ℕ). value g x) (front ∙ sym (G_is zs))) ∘≈ f.values_of x ∘≈ ≈-of (ap (◌* (value f.f x * value (vanishing zs) x)) h_long))))
              f.divides
