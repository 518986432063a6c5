-- The missing points as they are laid, the last one first, before what stands behind the first N cells.
-- Assumes nothing.
use mathlib.Core.Path.{◌≡◌, refl, sym, ap, ap₂, ◌∙◌}
use mathlib.Core.Bool.{Bool, true, false, cond}
use mathlib.Core.List.{List, ◌∷◌, ◌++◌, append_assoc, append-nil}
use Prim.Native.Nat.{ℕ, zero, suc, ◌+◌, ◌-◌, ◌*◌, ◌<◌, ◌≤◌}
use native.Mathlib.Numerals.{add-one}
use native.Mathlib.Omega.{arith}
use lib.Dec.{eqb}
use lib.ListN.{length, get_or, take, drop, set, replicate, length-drop}
use lib.Seq.{length-take-le, drop-drop}
use Rattle.field.specs.Field.{product, power}
use Rattle.field.specs.Points.{root_of, point_of}
use Rattle.field.proofs.Ring.{power_zero, power_step}
use Rattle.decode_missing.specs.Missing.{unmarked}

-- a number written over the last of so many zeros
over_last : (p v : ℕ) (rest : List ℕ) → set (replicate (suc p) 0 ++ rest) p v ≡ replicate p 0 ++ (v ∷ rest)
over_last zero v rest = refl
over_last (suc p) v rest = ap (0 ∷◌) (over_last p v rest)

pub unmarked_le : (N : ℕ) (marks : List ℕ) (b : ℕ) → length (unmarked N marks b) ≤ b
unfolding unmarked
unmarked_le N marks zero = omega arith
unmarked_le N marks (suc b) = at (eqb (get_or marks b 0) 0) (unmarked_le N marks b)
  where
    at : (t : Bool) → length (unmarked N marks b) ≤ b → length (cond t (point_of N b ∷ unmarked N marks b) (unmarked N marks b)) ≤ suc b
    at true h = omega arith
    at false h = omega arith

module _ (N : ℕ) (marks : List ℕ) where
  -- the first j positions are passed, and the points begin at place
  pub laid : ℕ → ℕ → List ℕ
  laid place j = replicate place 0 ++ unmarked N marks j

  pub laid_none : (s : List ℕ) → s ≡ replicate N 0 → s ≡ laid N 0
  unfolding laid unmarked
  laid_none s zeros = zeros ∙ sym (append-nil (replicate N 0))

  module _ (place j : ℕ) (counted : place + length (unmarked N marks j) ≡ N) where
    pub place_some : j < N → 0 < place
    place_some l = omega (arith, counted, unmarked_le N marks j)

    -- one position more
    pub laid_more : (x p : ℕ) (s : List ℕ) → j < N → x ≡ point_of N j
        → p ≡ cond (eqb (get_or marks j 0) 0) (place - 1) place → s ≡ cond (eqb (get_or marks j 0) 0) (set (laid place j) (place - 1) x) (laid place j)
        → (p + length (unmarked N marks (j + 1)) ≡ N) × (s ≡ laid p (j + 1))
    unfolding laid unmarked
    laid_more x p s l is_x is-p is-s =
        rw add-one (at (eqb (get_or marks j 0) 0) is-p is-s)
      where
        points : List ℕ
        points = unmarked N marks j

        last : ◌≡◌ {A = List ℕ} (replicate place 0) (replicate (suc (place - 1)) 0)
        last = ap (λ (m : ℕ). replicate {A = ℕ} m 0) {x = place} {y = suc (place - 1)} (omega (arith, place_some l))

        at : (t : Bool) → p ≡ cond t (place - 1) place
            → s ≡ cond t (set (replicate place 0 ++ points) (place - 1) x) (replicate place 0 ++ points)
            → (p + length (cond t (point_of N j ∷ points) points) ≡ N) × (s ≡ replicate p 0 ++ cond t (point_of N j ∷ points) points)
        at true is-p is-s = (
          omega (arith, is-p, counted, place_some l),
          is-s
              ∙ ap (λ (z : List ℕ). set (z ++ points) (place - 1) x) last
              ∙ over_last (place - 1) x points
              ∙ ap₂ (λ (q y : ℕ). replicate q 0 ++ (y ∷ points)) (sym is-p) is_x,
        )
        at false is-p is-s = (omega (arith, is-p, counted), is-s ∙ ap (λ (q : ℕ). replicate q 0 ++ points) (sym is-p))

    pub laid_all : (r : ℕ) (rest : List ℕ) → j ≡ N → r ≡ N - place
        → (r ≡ length (unmarked N marks N)) × (laid place j ++ rest ≡ replicate (N - r) 0 ++ (unmarked N marks N ++ rest))
    unfolding laid
    laid_all r rest end is = (
      omega (arith, counted, ap (λ (m : ℕ). length (unmarked N marks m)) end),
      ap₂ (λ (p m : ℕ). (replicate p 0 ++ unmarked N marks m) ++ rest) {x = place} {y = N - r} (omega (arith, counted)) end
          ∙ append_assoc (replicate (N - r) 0) (unmarked N marks N) rest,
    )

-- the points follow each other by the root
pub first_point : (N : ℕ) → 1 ≡ point_of N 0
unfolding point_of
first_point N = sym (power_zero (root_of N))

pub next_point : (N j turn root next : ℕ) → turn ≡ point_of N j → root ≡ root_of N → next ≡ product turn root → next ≡ point_of N (j + 1)
unfolding point_of
next_point N j turn root next is is-root new =
    new ∙ ap₂ product is is-root ∙ sym (power_step (root_of N) j) ∙ ap (power (root_of N)) (sym (add-one j))

-- the marks, lent from what stands behind the first N cells
pub lent_marks : (N : ℕ) (d rest : List ℕ) → rest ≡ drop N d → take (2 * N - N) (drop N rest) ≡ take N (drop (2 * N) d)
lent_marks N d rest is =
    ap₂ (λ (n : ℕ) (s : List ℕ). take n (drop N s)) {x = 2 * N - N} {y = N} (omega arith) is
    ∙ ap (take N) (drop-drop N N d ∙ ap (λ (n : ℕ). drop n d) {x = N + N} {y = 2 * N} (omega arith))

pub lent_length : (N : ℕ) (d rest : List ℕ) → length d ≡ 4 * N → rest ≡ drop N d → length (take (2 * N - N) (drop N rest)) ≡ N
lent_length N d rest long is =
    ap length (lent_marks N d rest is) ∙ length-take-le N (drop (2 * N) d) (omega (arith, length-drop (2 * N) d, long))
