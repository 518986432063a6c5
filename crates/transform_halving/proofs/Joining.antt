-- Joining the transforms of two halves in place: what both hold when j pairs are joined.
-- Assumes nothing.
use mathlib.Core.Path.{◌≡◌, sym, ap, ap₂, ◌∙◌}
use mathlib.Core.List.{List, ◌++◌}
use Prim.Native.Nat.{ℕ, ◌+◌, ◌<◌}
use native.Mathlib.Nat.{zero-add}
use native.Mathlib.Omega.{arith}
use lib.ListN.{length, get_or, set, length-append, get_or-append}
use lib.Seq.{get_or-append-add}
use Rattle.field.specs.Field.{sum, difference, product, power}
use Rattle.field.specs.Symbol.{Symbols}
use Rattle.lists.specs.Tab.{tab}
use Rattle.lists.proofs.Window.{window, window_none, window_store, window_past, window_all}
use Rattle.transform_halving.specs.Halving.{turned, joined}

-- the j-th pair, joined
abbrev pub in_front : ℕ → List ℕ → List ℕ → ℕ → ℕ
in_front r e o j = sum (get_or e j 0) (turned r o j)

abbrev pub behind : ℕ → List ℕ → List ℕ → ℕ → ℕ
behind r e o j = difference (get_or e j 0) (turned r o j)

-- the lists e and o, of which j pairs are joined at the root r
pub record Joining (r : ℕ) (e o front back : List ℕ) (j : ℕ) : Type 0 where
  pub front_is : front ≡ window 0 j (in_front r e o) e
  pub back_is : back ≡ window 0 j (behind r e o) o

pub joining_none : (r : ℕ) (e o : List ℕ) → Joining r e o e o 0
joining_none r e o = record { front_is = window_none 0 _ e; back_is = window_none 0 _ o }

module _ (r : ℕ) (e o front back : List ℕ) (j : ℕ) (held : Joining r e o front back j) where
  -- a pair that is not joined yet is as it was
  pub joining_even : get_or front j 0 ≡ get_or e j 0
  joining_even = ap (λ (l : List ℕ). get_or l j 0) held.front_is ∙ window_past 0 j j _ e (omega arith) (omega arith)

  pub joining_odd : get_or back j 0 ≡ get_or o j 0
  joining_odd = ap (λ (l : List ℕ). get_or l j 0) held.back_is ∙ window_past 0 j j _ o (omega arith) (omega arith)

  -- e and o are the parts of a list d of symbols
  pub joining_small : (d : List ℕ) → Symbols d → d ≡ e ++ o → j < length e → j < length o → (get_or front j 0 < 65537) × (get_or back j 0 < 65537)
  joining_small d small is h h' = (
    rw (joining_even ∙ sym (get_or-append e o 0 j h) ∙ at j) (small j (omega (arith, long))),
    rw (joining_odd ∙ sym (get_or-append-add e o j 0) ∙ at (length e + j)) (small (length e + j) (omega (arith, long))),
  )
    where
      at : (i : ℕ) → get_or (e ++ o) i 0 ≡ get_or d i 0
      at i = ap (λ (l : List ℕ). get_or l i 0) (sym is)

      long : length d ≡ length e + length o
      long = ap length is ∙ length-append e o

  -- a pair joined: w is the power j of the root
  pub joining_more : (w odd u v : ℕ) → j < length e → j < length o → w ≡ power r j → odd ≡ product w (get_or back j 0)
      → u ≡ sum (get_or front j 0) odd → v ≡ difference (get_or front j 0) odd
      → Joining r e o (set front j u) (set back j v) (j + 1)
  joining_more w odd u v inside inside' turn is first second =
      record {
        front_is = window_store 0 j j _ e front u (sym (zero-add j)) inside held.front_is (first ∙ ap₂ sum joining_even odd_is);
        back_is = window_store 0 j j _ o back v (sym (zero-add j)) inside' held.back_is (second ∙ ap₂ difference joining_even odd_is);
      }
    where
      odd_is : odd ≡ turned r o j
      odd_is = is ∙ ap₂ product turn joining_odd

  pub joining_all : j ≡ length e → length o ≡ length e → front ++ back ≡ joined r e o
  unfolding joined
  joining_all end same =
      ap₂ ◌++◌ (held.front_is ∙ window_all j _ e (omega arith)) (held.back_is ∙ window_all j _ o (omega arith))
      ∙ ap (λ (n : ℕ). tab n (in_front r e o) ++ tab n (behind r e o)) end
