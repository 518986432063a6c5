-- The bodies as they are filled: a symbol put into its body is what the bundle holds there, so nothing that stands is lost.
-- Assumes nothing.
use mathlib.Core.Path.{◌≡◌, refl, subst, ap, ◌∙◌}
use mathlib.Core.Bool.{Bool, true, false, cond}
use mathlib.Core.List.{List, [], append-nil}
use Prim.Native.Nat.{ℕ, suc, ◌+◌, ◌*◌, ◌<◌, ◌≤◌}
use native.Mathlib.Decide.{dec_lt}
use native.Mathlib.Omega.{arith}
use borrow.Author.Tests.{eqb-true}
use lib.Dec.{eqb}
use lib.ListN.{length, get_or}
use Rattle.lists.specs.Tab.{tab}
use Rattle.lists.proofs.Tab.{tab_length, tab_at}
use Rattle.bundle_layout.specs.Blocks.{blocks_of}
use Rattle.bundle_layout.specs.Shape.{bad_bundle_shape}
use Rattle.bundle_storage.specs.Bytes.{two, in_bytes, put}
use Rattle.bundle_storage.specs.Storage.{overflows, word_of, count_of, body_of, body_size, stored}
use Rattle.bundle_storage.proofs.BytesLaws.{Alike, alike_on, alike_past, in_bytes_length, in_bytes_there}
use Rattle.bundle_storage.proofs.Storing.{overflow_place}
use Rattle.bundle_file.specs.File.{symbol_at, file_bundle}
use Rattle.bundle_file.specs.Counts.{tallied}
use Rattle.bundle_front.specs.Onward.{Stand, Onward}
use Rattle.bundle_first_pass.specs.Filled.{Filled}
use Rattle.bundle_front.proofs.Bundling.{body_at, body_next, body_up, bundle_end, bundle_offset, bundle_body}
use Rattle.bundle_file.proofs.Counting.{count_next}
use Rattle.bundle_front.proofs.Onward.{onward_none, onward_more, put_stands, put_onward}

-- What a body holds for block b

module _ (B : ℕ) (e : ℕ → ℕ) (b : ℕ) (h : b < B) where
  word_there : Alike 2 (body_of B e) (2 * count_of B e + 2 * b) (two (word_of (e b))) 0
  unfolding body_of count_of
  word_there d l =
      let words = tab B (λ j. word_of (e j)) in
      alike_past 2 (in_bytes (overflows e B)) (in_bytes words) (2 * b) (2 * count_of B e + 2 * b) (omega (arith, in_bytes_length (overflows e B))) d l
      ∙ subst (λ (s : List ℕ). Alike 2 s (2 * b) (two (get_or words b 0)) 0) (append-nil (in_bytes words))
      (in_bytes_there words [] b (omega (arith, tab_length B (λ j. word_of (e j))))) d l
      ∙ ap (λ (x : ℕ). get_or (two x) (0 + d) 0) (tab_at B (λ j. word_of (e j)) b h)

  list_there : e b ≡ 65536 → Alike 2 (body_of B e) (2 * count_of b e) (two b) 0
  unfolding body_of count_of
  list_there over d l =
      let place = overflow_place e B b h over in
      in_bytes_there (overflows e B) _ (count_of b e) place.0 d l
      ∙ ap (λ (x : ℕ). get_or (two x) (0 + d) 0) place.1

pub filled_on : (k n : ℕ) (file : List ℕ) (b i : ℕ) (s t : List ℕ) → Onward (file_bundle k n file) s t → Filled k n file b i s
    → Filled k n file b i t
filled_on k n file b i s t on old =
    record { list = λ p h l. on.keeps p (old.list p h l); words = λ p h l. on.keeps p (old.words p h l) }

pub filled_none : (k n : ℕ) (file : List ℕ) (i : ℕ) (s : List ℕ) → Filled k n file 0 i s
unfolding count_of overflows
filled_none k n file i s =
    record { list = λ p h l. absurd (omega arith); words = λ p h l. absurd (omega arith) }

module _ (k n : ℕ) (file : List ℕ) (shape : bad_bundle_shape k n (length file) ≡ false) where
  module _ (i : ℕ) (h : i < n) where
    pub body_inside : body_at k n file i + body_size (blocks_of k (length file)) (count_of (blocks_of k (length file)) (symbol_at k n file i)) ≤ length (file_bundle k n file)
    body_inside = omega (arith, body_next k n file i h, body_up k n file (suc i) n h (omega arith), bundle_end k n file shape)

    -- a symbol is put into body i
    module _ (b : ℕ) (l : b < blocks_of k (length file)) (out : List ℕ) (room : length (file_bundle k n file) ≤ length out) where
      F : List ℕ
      F = file_bundle k n file

      e : ℕ → ℕ
      e = symbol_at k n file i

      at : ℕ
      at = body_at k n file i

      count : ℕ
      count = count_of (blocks_of k (length file)) e

      done : ℕ
      done = count_of b e

      mid : Bool → List ℕ
      mid t = cond t (put (two b) (at + 2 * done) out) out

      list_same : e b ≡ 65536 → Alike 2 F (at + 2 * done) (two b) 0
      unfolding F e at done body_size
      list_same over d s =
          alike_on (2 * done) 2 _ F at (at + 2 * done) (body_of (blocks_of k (length file)) e) 0 (2 * done) refl (omega arith)
          (omega (arith, (overflow_place e (blocks_of k (length file)) b l over).0)) (bundle_body k n file shape i h) d s
          ∙ list_there (blocks_of k (length file)) e b l over d s

      word_same : Alike 2 F (at + (2 * count + 2 * b)) (two (word_of (e b))) 0
      unfolding F e at count body_size
      word_same d s =
          alike_on (2 * count + 2 * b) 2 _ F at (at + (2 * count + 2 * b)) (body_of (blocks_of k (length file)) e) 0 (2 * count + 2 * b) refl (omega arith)
          (omega arith) (bundle_body k n file shape i h) d s
          ∙ word_there (blocks_of k (length file)) e b l d s

      mid_onward : (t : Bool) → (t ≡ true → e b ≡ 65536) → Onward F out (mid t)
      unfolding mid F e at done two body_size
      mid_onward true over =
          put_onward F (two b) (at + 2 * done) out room
          (omega (arith, body_inside, (overflow_place e (blocks_of k (length file)) b l (over refl)).0)) (list_same (over refl))
      mid_onward false over = onward_none F out

      mid_stands : (t : Bool) → (t ≡ true → e b ≡ 65536) → Stand (at + 2 * done) (at + 2 * (done + cond t 1 0)) F (mid t)
      unfolding mid F e at done two body_size
      mid_stands true over p g s =
          put_stands F (two b) (at + 2 * done) out room
          (omega (arith, body_inside, (overflow_place e (blocks_of k (length file)) b l (over refl)).0)) (list_same (over refl)) p g (omega arith)
      mid_stands false over p g s = absurd (omega arith)

      over_true : eqb (e b) 65536 ≡ true → e b ≡ 65536
      over_true = eqb-true (e b) 65536

      word_onward : Onward F (mid (eqb (e b) 65536)) (stored at count done b (e b) out)
      unfolding mid stored two F e at count body_size
      word_onward =
          put_onward F (two (word_of (e b))) (at + (2 * count + 2 * b)) (mid (eqb (e b) 65536))
          (omega (arith, (mid_onward (eqb (e b) 65536) over_true).long)) (omega (arith, body_inside)) word_same

      word_stands : Stand (at + (2 * count + 2 * b)) (at + (2 * count + 2 * b) + 2) F (stored at count done b (e b) out)
      unfolding mid stored two F e at count body_size
      word_stands =
          put_stands F (two (word_of (e b))) (at + (2 * count + 2 * b)) (mid (eqb (e b) 65536))
          (omega (arith, (mid_onward (eqb (e b) 65536) over_true).long)) (omega (arith, body_inside)) word_same

      stored_onward : Onward (file_bundle k n file) out (stored (body_at k n file i) (count_of (blocks_of k (length file)) (symbol_at k n file i)) (count_of b (symbol_at k n file i)) b (symbol_at k n file i b) out)
      unfolding F e at count done
      stored_onward = onward_more F out _ _ (mid_onward (eqb (e b) 65536) over_true) word_onward

      stored_filled : Filled k n file b i out
          → Filled k n file (suc b) i (stored (body_at k n file i) (count_of (blocks_of k (length file)) (symbol_at k n file i)) (count_of b (symbol_at k n file i)) b (symbol_at k n file i b) out)
      unfolding F e at count done tallied
      stored_filled old =
          let start = bundle_offset k n file shape i h in
          record {
            list = λ p g s.
                elim (dec_lt p (at + 2 * done)) [
                  | yes before ↦ stored_onward.keeps p (old.list p g (omega arith))
                  | no new ↦ word_onward.keeps p (mid_stands (eqb (e b) 65536) over_true p (omega arith) (omega (arith, count_next e b)))
                ];
            words = λ p g s.
                elim (dec_lt p (at + (2 * count + 2 * b))) [
                  | yes before ↦ stored_onward.keeps p (old.words p g (omega arith))
                  | no new ↦ word_stands p (omega arith) (omega arith)
                ];
          }

      -- a turn at shadow i: start is the output before the block, out before the turn, after behind it
      module _ (start after : List ℕ) (on : Onward (file_bundle k n file) start out) (is : after ≡ stored (body_at k n file i) (count_of (blocks_of k (length file)) (symbol_at k n file i)) (count_of b (symbol_at k n file i)) b (symbol_at k n file i b) out) where
        one_on : Onward (file_bundle k n file) out after
        one_on = rw is stored_onward

        pub next_onward : Onward (file_bundle k n file) start after
        next_onward = onward_more (file_bundle k n file) start out after on one_on

        pub next_filled : Filled k n file b i start → ((j : ℕ) → j < i → Filled k n file (suc b) j out) → (j : ℕ) → j < i + 1
            → Filled k n file (suc b) j after
        next_filled before old j g =
            elim (dec_lt j i) [
              | yes less ↦ filled_on k n file (suc b) j out after one_on (old j less)
              | no more ↦ let here : j ≡ i = omega arith in rw (here, is) (stored_filled (filled_on k n file b i start out on before))
            ]
