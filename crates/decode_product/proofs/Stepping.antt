-- A few points multiplied out one factor at a time in the room behind them, from the last point down.
-- Assumes nothing.
use mathlib.Core.Path.{◌≡◌, refl, sym, ap, ap₂, subst, ◌∙◌}
use mathlib.Core.List.{List, [], ◌∷◌, ◌++◌, reverse}
use Prim.Native.Nat.{ℕ, suc, ◌+◌, ◌-◌, ◌/◌, ◌<◌}
use native.Mathlib.Omega.{arith}
use denote.Ref.{Bor}
use lib.ListN.{length, get_or, take, drop, set, length-drop, drop_of_length-le}
use lib.Seq.{length-take-le, take_at, take-append-le, drop-cons, take-suc-set}
use Rattle.std.specs.Iterator.{Yields}
use Rattle.std.specs.Iterator.Adapters.{rev_source, rev_steps, enumerate_source, enumerate_count, enumerate_steps}
use Rattle.std.specs.List.{enumerate_from}
use Rattle.std.specs.Prelude.{Option, Some, None}
use Rattle.std.specs.Slice.Iter.{iter_rest, iter_steps_back}
use Rattle.std.specs.declared.iter.Enumerate.{Enumerate}
use Rattle.std.specs.declared.iter.Rev.{Rev}
use Rattle.std.proofs.Common.{Iter}
use Rattle.std.proofs.lemmas.Grind.{get_or_default_zero}
use Rattle.std.proofs.lemmas.Iterator.{YieldsList}
use Rattle.std.proofs.lemmas.Iterator.Adapters.{YieldsList-from_rev_slice}
use Rattle.std.proofs.lemmas.Iterator.Consumers.{YieldsList-from_enumerate, YieldsList-turn, YieldsList-end}
use Rattle.std.proofs.lemmas.List.{length-reverse, get_or-reverse}
use Rattle.std.proofs.lemmas.List.FromFn.{length-enumerate_from, get_or-enumerate_from}
use Rattle.field.specs.Symbol.{Symbols}
use Rattle.poly.specs.Products.{times, vanishing}
use Rattle.poly.specs.Raised.{raised}
use Rattle.poly.proofs.Products.{vanishing_length, vanishing_symbols}
use Rattle.poly.proofs.Symbols.{symbols_at}
use Rattle.decode_product.specs.Factors.{lowers_of}
use Rattle.decode_product.specs.Halves.{SymbolsInFront}
use Rattle.decode_product.proofs.Lowers.{lowers_whole}
use Rattle.decode_product.proofs.Quarters.{even_of}

-- Which point comes next, and which number it has

module _ (points : List ℕ) (s : Enumerate (Rev (Iter ℕ))) (rest : iter_rest (rev_source (enumerate_source s)) ≡ points) (none : enumerate_count s ≡ 0)
    (xs : List (ℕ × Bor ℕ)) (t u : Enumerate (Rev (Iter ℕ))) (before : Yields (enumerate_steps (rev_steps iter_steps_back)) s xs t)
    (r : Option (ℕ × Bor ℕ)) (step : enumerate_steps (rev_steps iter_steps_back) t r u) where
  road : YieldsList {B = ℕ × ℕ} (enumerate_steps (rev_steps iter_steps_back)) (λ p. (p.0, p.1.now)) s (enumerate_from 0 (reverse points))
  road = YieldsList-from_enumerate (YieldsList-from_rev_slice points rest) none

  road_length : length (enumerate_from 0 (reverse points)) ≡ length points
  road_length = length-enumerate_from 0 (reverse points) ∙ length-reverse points

  pub next_point : (p : ℕ × Bor ℕ) → r ≡ Some p → (length xs < length points) × (p.0 ≡ length xs) × (p.1.now ≡ get_or points (length points - suc (length xs)) 0)
  next_point p is = (
    inside,
    ap (λ (q : ℕ × ℕ). q.0) both ∙ omega arith,
    ap (λ (q : ℕ × ℕ). q.1) both
        ∙ get_or-reverse points (length xs) p.1.now inside
        ∙ ap (λ (n : ℕ). get_or points n p.1.now) {x = length points - 1 - length xs} {y = length points - suc (length xs)} (omega arith)
        ∙ get_or_default_zero points (length points - suc (length xs)) p.1.now (omega (arith, inside)),
  )
    where
      inside : length xs < length points
      inside = omega (arith, (YieldsList-turn road xs t before r u p is step).0, road_length)

      both : ◌≡◌ {A = ℕ × ℕ} (p.0, p.1.now) (0 + length xs, get_or (reverse points) (length xs) p.1.now)
      both =
          (YieldsList-turn road xs t before r u p is step).1
          ∙ get_or-enumerate_from 0 (reverse points) (length xs) (p.0, p.1.now) (omega (arith, inside, length-reverse points))

  pub no_point : r ≡ None → length xs ≡ length points
  no_point is = (YieldsList-end road xs t before r u is step).1 ∙ road_length

lowers_none : lowers_of [] ≡ []
unfolding lowers_of
lowers_none = refl

-- one point more
raised_lowers : (z : ℕ) (zs : List ℕ) → take (suc (length zs)) (raised z 0 (vanishing zs)) ≡ lowers_of (z ∷ zs)
unfolding lowers_of vanishing times
raised_lowers z zs = refl

module _ (d : List ℕ) (good : SymbolsInFront d) where
  points : List ℕ
  points = take (length d / 2) d

  points_length : length points ≡ length d / 2
  unfolding points
  points_length = length-take-le (length d / 2) d (omega arith)

  pub stepped_none : (room : List ℕ) → take 0 room ≡ lowers_of (drop (length d / 2 - 0) (take (length d / 2) d))
  unfolding points
  stepped_none room = sym (ap lowers_of (drop_of_length-le points {i = length d / 2 - 0} (omega (arith, points_length))) ∙ lowers_none)

  module _ (room : List ℕ) (n : ℕ) where
    -- n points are multiplied out, and the highest coefficient is written behind them
    module _ (at end : ℕ) (more : n < length (take (length d / 2) d)) (long : length room + length d / 2 ≡ length d)
        (done : take n room ≡ lowers_of (drop (length d / 2 - n) (take (length d / 2) d))) (here : at ≡ n) (whole : end ≡ suc n) where
      last : List ℕ
      last = drop (length d / 2 - n) points

      inside : n < length d / 2
      unfolding points
      inside = omega (arith, more, points_length)

      lent_is : take end (set room at 1) ≡ vanishing last
      unfolding points last
      lent_is =
          ap₂ (λ (i j : ℕ). take i (set room j 1)) whole here
          ∙ take-suc-set room n 1 (omega (arith, inside, long))
          ∙ ap (◌++ (1 ∷ [])) done
          ∙ sym (lowers_whole last)

      last_length : length (vanishing last) ≡ suc n
      unfolding last
      last_length = vanishing_length last ∙ omega (arith, length-drop (length d / 2 - n) points, points_length, inside)

      pub stepped_symbols : Symbols (take end (set room at 1))
      stepped_symbols = subst Symbols (sym lent_is) (symbols_at _ (vanishing_symbols last))

      pub stepped_more : (p rest : List ℕ) (x m : ℕ) → length p ≡ length (take end (set room at 1))
          → p ≡ take (length (take end (set room at 1))) (raised x 0 (take end (set room at 1)))
          → x ≡ get_or (take (length d / 2) d) (length (take (length d / 2) d) - suc n) 0 → m ≡ n + 1
          → take m (p ++ rest) ≡ lowers_of (drop (length d / 2 - m) (take (length d / 2) d))
      unfolding points last
      stepped_more p rest x m same is next up =
          take_at p rest m (omega (arith, same, ap length lent_is, last_length, up))
          ∙ is
          ∙ ap (λ (l : List ℕ). take (length l) (raised x 0 l)) lent_is
          ∙ ap (λ (i : ℕ). take i (raised x 0 (vanishing last))) (vanishing_length last)
          ∙ raised_lowers x last
          ∙ ap lowers_of
          (ap₂ ◌∷◌ (next ∙ ap (λ (i : ℕ). get_or points (i - suc n) 0) points_length)
          (ap (λ (i : ℕ). drop i points) {x = length d / 2 - n} {y = suc (length d / 2 - suc n)} (omega (arith, inside)))
          ∙ sym (drop-cons points (length d / 2 - suc n) 0 (omega (arith, points_length, inside)))
          ∙ ap (λ (i : ℕ). drop i points) {x = length d / 2 - suc n} {y = length d / 2 - m} (omega (arith, up)))

    pub stepped_all : n ≡ length (take (length d / 2) d) → length room + length d / 2 ≡ length d
        → take n room ≡ lowers_of (drop (length d / 2 - n) (take (length d / 2) d))
        → (p : List ℕ) → p ≡ room → take (length d / 2) (p ++ room) ≡ lowers_of (take (length d / 2) d)
    unfolding points
    stepped_all all long done p is =
        take-append-le (length d / 2) p room (omega (arith, ap length is, long, even_of d good.0 good.1))
        ∙ ap (take (length d / 2)) is
        ∙ ap (λ (i : ℕ). take i room) {x = length d / 2} {y = n} (omega (arith, all, points_length))
        ∙ done
        ∙ ap (λ (i : ℕ). lowers_of (drop i points)) {x = length d / 2 - n} {y = 0} (omega (arith, all, points_length))
