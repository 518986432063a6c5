-- The first pass: where bodies that list nothing lie, that this is inside the bundle, and that the bundle has them there if no symbol overflows.
-- Assumes nothing.
use mathlib.Core.Path.{◌≡◌, refl, ap, ◌∙◌}
use mathlib.Core.Bool.{false}
use mathlib.Core.List.{List}
use Prim.Native.Nat.{ℕ, zero, suc, ◌+◌, ◌*◌, ◌<◌, ◌≤◌}
use native.Mathlib.Omega.{arith}
use lib.ListN.{length, drop}
use Rattle.field.specs.Size.{size_of}
use Rattle.bundle_layout.specs.Blocks.{blocks_of}
use Rattle.bundle_layout.specs.Shape.{bad_bundle_shape}
use Rattle.bundle_storage.specs.Storage.{count_of, body_size, stored}
use Rattle.bundle_storage.proofs.Placing.{stored_behind}
use Rattle.bundle_storage.proofs.Storing.{body_least}
use Rattle.bundle_layout.specs.Shadows.{first_body}
use Rattle.bundle_file.specs.File.{symbol_at, file_bundle}
use Rattle.bundle_file.specs.Counts.{none_counted, Counted}
use Rattle.bundle_file.proofs.Counting.{count_up, none_listed}
use Rattle.bundle_front.proofs.Bundling.{body_at, body_first, body_next, body_up, bundle_end}
use Rattle.bundle_front.proofs.Onward.{onward_none, onward_more}
use Rattle.bundle_first_pass.specs.Filled.{Filled}
use Rattle.bundle_first_pass.specs.Plain.{NoneOver, Plainly, Plain}
use Rattle.bundle_first_pass.proofs.Filling.{filled_none, next_onward, next_filled}

-- where body i begins if each one lists nothing
unfoldable pub plain_at : ℕ → ℕ → ℕ → ℕ
plain_at n B i = first_body n + i * body_size B 0

module _ (k n : ℕ) (file : List ℕ) where
  pub plainly_none : (s : List ℕ) → Plainly k n file s s
  plainly_none s = record { long = refl; behind = refl; onward = λ none. onward_none (file_bundle k n file) s }

  pub plainly_more : (s t u : List ℕ) → Plainly k n file s t → Plainly k n file t u → Plainly k n file s u
  plainly_more s t u first second =
      record {
        long = second.long ∙ first.long;
        behind = second.behind ∙ first.behind;
        onward = λ none. onward_more (file_bundle k n file) s t u (first.onward none) (second.onward none);
      }

  pub plain_none : (s : List ℕ) → length (file_bundle k n file) ≤ length s → Plain k n file 0 s
  plain_none s room = record { room = room; bodies = λ none i h. filled_none k n file i s }

  plain_le : (i : ℕ) → i ≤ n → plain_at n (blocks_of k (length file)) i ≤ body_at k n file i
  unfolding plain_at
  plain_le zero h = omega (arith, body_first k n file)
  plain_le (suc i) h =
      omega (arith, plain_le i (omega arith), body_next k n file i h, body_least (blocks_of k (length file)) (count_of (blocks_of k (length file)) (symbol_at k n file i)))

  plain_is : NoneOver k n file → (i : ℕ) → i ≤ n → plain_at n (blocks_of k (length file)) i ≡ body_at k n file i
  unfolding plain_at
  plain_is none zero h = omega (arith, body_first k n file)
  plain_is none (suc i) h =
      omega (arith, plain_is none i (omega arith), body_next k n file i h, ap (body_size (blocks_of k (length file))) (none i h))

  -- a turn at shadow i: at is where its body begins, and B what the code has
  module _ (shape : bad_bundle_shape k n (length file) ≡ false) (i : ℕ) (h : i < n) (at B : ℕ) (placed : at ≡ plain_at n (blocks_of k (length file)) i) (blocks : B ≡ blocks_of k (length file)) where
    pub at_next : (size : ℕ) → size ≡ body_size B 0 → at + size ≡ plain_at n (blocks_of k (length file)) (i + 1)
    unfolding plain_at
    at_next size is = omega (arith, ap (λ (m : ℕ). body_size m 0) blocks)

    pub plain_inside : at + body_size B 0 ≤ length (file_bundle k n file)
    unfolding plain_at
    plain_inside =
        omega (arith, plain_le (suc i) h, ap (λ (m : ℕ). body_size m 0) blocks, body_up k n file (suc i) n h (omega arith), bundle_end k n file shape)

    -- start is the output before the block, out before the turn, after behind it
    module _ (b : ℕ) (l : b < blocks_of k (length file)) (start out : List ℕ) (before : Plain k n file b start) (on : Plainly k n file start out) where
      pub still_room : length (file_bundle k n file) ≤ length out
      still_room = omega (arith, before.room, on.long)

      module _ (x : ℕ) (symbol : x ≡ symbol_at k n file i b) (after : List ℕ) (kept : length after ≡ length out) (is : after ≡ stored at 0 0 b x out) where
        put_is : NoneOver k n file
            → after ≡ stored (body_at k n file i) (count_of (blocks_of k (length file)) (symbol_at k n file i)) (count_of b (symbol_at k n file i)) b (symbol_at k n file i b) out
        put_is none =
            let listed : count_of b (symbol_at k n file i) ≡ 0 = omega (arith, none i h, count_up (symbol_at k n file i) b (blocks_of k (length file)) (omega arith)) in
            cc (plain_is none i (omega arith), none i h)

        pub turn_plainly : Plainly k n file start after
        turn_plainly =
            plainly_more start out after on
            (record {
              long = kept;
              behind = ap (drop (length (file_bundle k n file))) is ∙ stored_behind 0 0 b x at B out (length (file_bundle k n file)) (omega arith) (omega arith) plain_inside still_room;
              onward = λ none. next_onward k n file shape i h b l out still_room out after (onward_none (file_bundle k n file) out) (put_is none);
            })

        pub turn_plain : (NoneOver k n file → (j : ℕ) → j < i → Filled k n file (suc b) j out) → NoneOver k n file → (j : ℕ) → j < i + 1
            → Filled k n file (suc b) j after
        turn_plain old none =
            next_filled k n file shape i h b l out still_room start after (on.onward none) (put_is none) (before.bodies none i h) (old none)

  -- a symbol of the first b blocks overflowed, as their counts in the cells say: then what is taken for granted does not hold
  module _ (b : ℕ) (l : b < blocks_of k (length file)) (S : ℕ) (cells : List ℕ) (size : (S ≡ size_of n) × (n ≤ S)) (counted : Counted k n file b cells) (some : none_counted n S cells ≡ false) where
    over : NoneOver k n file → ⊥
    over none =
        let all = none_listed n S cells size k file b counted (λ i h. omega (arith, none i h, count_up (symbol_at k n file i) b (blocks_of k (length file)) (omega arith))) in
        let z : ◌≡◌ {A = ℕ} 0 1 = cc in
        omega arith

    pub plain_over : (out : List ℕ) → Plain k n file b out → Plain k n file (suc b) out
    plain_over out before = record { room = before.room; bodies = λ none. absurd (over none) }
