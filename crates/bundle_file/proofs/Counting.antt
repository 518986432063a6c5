-- The overflow counts as the writer keeps them in its cells: a block's symbols stand in front, and are counted.
-- Assumes nothing.
use mathlib.Core.Path.{◌≡◌, refl, sym, ap, ap₂, ◌∙◌}
use mathlib.Core.Bool.{Bool, true, false, cond, not}
use mathlib.Core.List.{List, [], ◌∷◌, ◌++◌}
use Prim.Native.Nat.{ℕ, zero, suc, ◌+◌, ◌-◌, ◌*◌, ◌<◌, ◌≤◌}
use native.Mathlib.Decide.{dec_lt}
use native.Mathlib.Omega.{arith}
use borrow.Author.Tests.{eq-eqb, ne_eqb, eqb-true, not-false}
use lib.Dec.{eqb}
use Rattle.std.proofs.Common.{◌↔◌, EachIndex}
use lib.ListN.{length, get_or, take, drop, length-append, length-drop, get_or-append}
use lib.Seq.{length-take-le, get_or-take, get_or-drop, get_or-append-add}
use Rattle.field.specs.Size.{size_of}
use Rattle.field.proofs.Sizes.{size_enough}
use Rattle.lists.proofs.Tab.{tab_at}
use Rattle.code.specs.Code.{code_word}
use Rattle.bundle_layout.specs.Shape.{bad_bundle_shape}
use Rattle.bundle_storage.specs.Storage.{overflows, count_of}
use Rattle.bundle_layout.proofs.Holding.{limits}
use Rattle.bundle_storage.proofs.RisingLaws.{none_found, found_none}
use Rattle.bundle_storage.proofs.Storing.{overflow_count}
use Rattle.bundle_file.specs.File.{message_at, symbol_at}
use Rattle.bundle_file.specs.Counts.{tallied, none_counted, Coded, Counted}

pub n_fits : (k n L : ℕ) → bad_bundle_shape k n L ≡ false → n ≤ size_of n
n_fits k n L shape = size_enough n (omega (arith, limits k n L shape))

pub tallied_over : (count x : ℕ) → x ≡ 65536 → count + 1 ≡ tallied count x
unfolding tallied
tallied_over count x over = rw (eq-eqb x 65536 over)

pub tallied_not : (count x : ℕ) → (x ≡ 65536 → ⊥) → count ≡ tallied count x
unfolding tallied
tallied_not count x low = rw (ne_eqb x 65536 low) (omega arith)

-- two tests of which each tells the other
same_test : (s t : Bool) → (s ≡ true → t ≡ true) → (t ≡ true → s ≡ true) → s ≡ t
same_test true t there back = sym (there refl)
same_test false true there back = back refl
same_test false false there back = refl

-- counts is the n counts as they are lent, and t tells whether each of them is 0
pub all_none : (n size : ℕ) (cells counts : List ℕ) (t : Bool) → size + n ≤ length cells → counts ≡ take (size + n - size) (drop size cells)
    → (t ≡ true ↔ EachIndex counts (λ i. get_or counts i 0 ≡ 0)) → t ≡ none_counted n size cells
unfolding none_counted
all_none n size cells counts t room is told =
    same_test t _ (λ yes. found_none n _ (λ i h. simp (eq-eqb (get_or cells (size + i) 0) 0 (sym (here i h) ∙ told.0 yes i (omega (arith, long))))))
    (λ none. told.1 (λ i h. here i (omega (arith, long)) ∙ eqb-true (get_or cells (size + i) 0) 0 (not-false _ (none_found n _ none i (omega (arith, long))))))
  where
    long : length counts ≡ n
    long = ap length is ∙ length-take-le (size + n - size) (drop size cells) (omega (arith, length-drop size cells)) ∙ omega arith

    here : (i : ℕ) → i < n → get_or counts i 0 ≡ get_or cells (size + i) 0
    here i h = ap (λ (l : List ℕ). get_or l i 0) is ∙ get_or-take (size + n - size) (drop size cells) i 0 (omega arith) ∙ get_or-drop size cells i 0

pub count_next : (e : ℕ → ℕ) (b : ℕ) → count_of (suc b) e ≡ tallied (count_of b e) (e b)
unfolding count_of overflows tallied
count_next e b = length-append (overflows e b) _ ∙ ap (length (overflows e b) +◌) (one (eqb (e b) 65536))
  where
    one : (t : Bool) → length (cond t (b ∷ []) []) ≡ cond t 1 0
    one true = refl
    one false = refl

pub count_up : (e : ℕ → ℕ) (b B : ℕ) → b ≤ B → count_of b e ≤ count_of B e
unfolding tallied
count_up e b zero h = omega (arith, ap (λ (m : ℕ). count_of m e) {x = b} {y = 0} (omega arith))
count_up e b (suc B) h =
    elim (dec_lt B b) [
      | yes same ↦ omega (arith, ap (λ (m : ℕ). count_of m e) {x = b} {y = suc B} (omega arith))
      | no less ↦ omega (arith, count_up e b B (omega arith), count_next e B)
    ]

-- S is N
module _ (n S : ℕ) (cells : List ℕ) (size : (S ≡ size_of n) × (n ≤ S)) where
  module _ (k : ℕ) (file : List ℕ) (b : ℕ) (counted : Counted k n file b cells) where
    -- word is what the first N cells hold after a block is coded there
    pub coded : (word : List ℕ) → length word ≡ length (take (S - 0) cells) → take n word ≡ code_word n (message_at k file b)
        → Coded k n file b (word ++ drop (S - 0) cells)
    unfolding code_word symbol_at
    coded word kept is i h =
        let long : length word ≡ size_of n = kept ∙ length-take-le (S - 0) cells (omega (arith, counted.long, size.0)) ∙ omega (arith, size.0) in
        get_or-append word _ 0 i (omega (arith, size)) ∙ sym (get_or-take n word i 0 h) ∙ ap (λ (l : List ℕ). get_or l i 0) is ∙ tab_at n _ i h

    -- the counts stay
    pub coded_counts : (word : List ℕ) → length word ≡ length (take (S - 0) cells) → Counted k n file b (word ++ drop (S - 0) cells)
    coded_counts word kept =
        record {
          long = omega (arith, length-append word (drop (S - 0) cells), length-drop (S - 0) cells, counted.long, size.0, long);
          counts = λ i h.
              ap (λ (m : ℕ). get_or (word ++ drop (S - 0) cells) (m + i) 0) {x = size_of n} {y = length word} (sym long)
              ∙ get_or-append-add word (drop (S - 0) cells) i 0
              ∙ get_or-drop (S - 0) cells i 0
              ∙ ap (λ (m : ℕ). get_or cells (m + i) 0) {x = S - 0} {y = size_of n} (omega (arith, size.0))
              ∙ counted.counts i h;
        }
      where
        long : length word ≡ size_of n
        long = kept ∙ length-take-le (S - 0) cells (omega (arith, counted.long, size.0)) ∙ omega (arith, size.0)

    pub count_here : (i : ℕ) → i < n → get_or cells (S + i) 0 ≡ count_of b (symbol_at k n file i)
    count_here i h = ap (λ (m : ℕ). get_or cells (m + i) 0) size.0 ∙ counted.counts i h

    -- the n counts as they are lent
    pub counts_length : length (take (S + n - S) (drop S cells)) ≡ n
    counts_length = length-take-le (S + n - S) (drop S cells) (omega (arith, length-drop S cells, counted.long, size)) ∙ omega arith

    pub count_lent : (i : ℕ) → i < length (take (S + n - S) (drop S cells))
        → (i < n) × (get_or (take (S + n - S) (drop S cells)) i 0 ≡ count_of b (symbol_at k n file i))
    count_lent i h =
        let inside : i < n = omega (arith, counts_length) in
        (inside, get_or-take (S + n - S) (drop S cells) i 0 (omega arith) ∙ get_or-drop S cells i 0 ∙ count_here i inside)

    pub none_over : none_counted n S cells ≡ true → (i : ℕ) → i < n → count_of b (symbol_at k n file i) ≡ 0
    unfolding none_counted
    none_over none i h =
        sym (count_here i h) ∙ eqb-true (get_or cells (S + i) 0) 0 (not-false _ (none_found n (λ j. not (eqb (get_or cells (S + j) 0) 0)) none i h))

    pub none_listed : ((i : ℕ) → i < n → count_of b (symbol_at k n file i) ≡ 0) → none_counted n S cells ≡ true
    unfolding none_counted
    none_listed none = found_none n _ (λ i h. simp (eq-eqb (get_or cells (S + i) 0) 0 (count_here i h ∙ none i h)))

    counts_low : b < 65536 → (i : ℕ) → i < n → get_or cells (S + i) 0 < 65536
    counts_low few i h = omega (arith, count_here i h, overflow_count (symbol_at k n file i) b)

    -- what `tally` asks
    pub tally_asked : b < 65536 → (n ≤ S) × (length cells ≡ 2 * S) × ((i : ℕ) → i < n → get_or cells (S + i) 0 < 65536)
    tally_asked few = (size.1, omega (arith, counted.long, size.0), counts_low few)

    -- after is what the cells hold once the symbols are counted
    pub counted_more : (after : List ℕ) → Coded k n file b cells → length after ≡ length cells
        → ((i : ℕ) → i < n → get_or after (S + i) 0 ≡ tallied (get_or cells (S + i) 0) (get_or cells i 0)) → Counted k n file (suc b) after
    counted_more after front kept is =
        record {
          long = kept ∙ counted.long;
          counts = λ i h.
              ap (λ (m : ℕ). get_or after (m + i) 0) (sym size.0)
              ∙ is i h
              ∙ ap₂ tallied (count_here i h) (front i h)
              ∙ sym (count_next (symbol_at k n file i) b);
        }

pub counted_none : (k n : ℕ) (file cells : List ℕ) → length cells ≡ 2 * size_of n → ((i : ℕ) → i < n → get_or cells (size_of n + i) 0 ≡ 0)
    → Counted k n file 0 cells
unfolding count_of overflows
counted_none k n file cells long none = record { long = long; counts = none }

-- the symbols of a block as they are lent

pub symbols_length : (n : ℕ) (cells : List ℕ) → n ≤ length cells → length (take (n - 0) cells) ≡ n
symbols_length n cells room = length-take-le (n - 0) cells (omega arith) ∙ omega arith

pub symbol_lent : (k n : ℕ) (file : List ℕ) (b : ℕ) (cells : List ℕ) → n ≤ length cells → Coded k n file b cells → (i : ℕ)
    → i < length (take (n - 0) cells) → (i < n) × (get_or (take (n - 0) cells) i 0 ≡ symbol_at k n file i b)
symbol_lent k n file b cells room front i h =
    let inside : i < n = omega (arith, symbols_length n cells room) in
    (inside, get_or-take (n - 0) cells i 0 (omega arith) ∙ front i inside)
