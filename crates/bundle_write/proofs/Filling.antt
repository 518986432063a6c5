-- The bodies as the second pass fills them, each symbol where the table says; and that all of the bundle stands once they are filled, by this pass
-- or by the first.
-- Assumes nothing.
use mathlib.Core.Path.{◌≡◌, refl, ap, ◌∙◌}
use mathlib.Core.Bool.{false}
use mathlib.Core.List.{List, ◌++◌}
use Prim.Native.Nat.{ℕ, zero, suc, ◌+◌, ◌*◌, ◌<◌, ◌≤◌}
use native.Mathlib.Decide.{dec_lt}
use native.Mathlib.Omega.{arith}
use lib.ListN.{length}
use Rattle.answers.specs.Leaves.{written}
use Rattle.bundle_layout.specs.Blocks.{blocks_of}
use Rattle.bundle_layout.specs.Shape.{bad_bundle_shape}
use Rattle.bundle_layout.specs.Fields.{entry_at, count_in, offset_in}
use Rattle.bundle_layout.specs.Shadows.{header_size, entry_size, first_body}
use Rattle.bundle_storage.specs.Storage.{count_of, body_size, stored}
use Rattle.bundle_storage.proofs.BytesLaws.{two_alike, four_alike}
use Rattle.bundle_file.specs.File.{symbol_at, file_bundle}
use Rattle.bundle_front.specs.Onward.{Stand, Onward}
use Rattle.bundle_first_pass.specs.Filled.{Filled}
use Rattle.bundle_first_pass.specs.Plain.{NoneOver, Plainly, Plain}
use Rattle.bundle_first_pass.proofs.Filling.{filled_on, filled_none, body_inside, next_onward, next_filled}
use Rattle.bundle_write.specs.Writing.{Progress}
use Rattle.bundle_front.proofs.Bundling.{body_at, body_first, body_next, bundle_end, bundle_count, bundle_offset}
use Rattle.bundle_file.proofs.Counting.{count_up}
use Rattle.bundle_front.proofs.Onward.{onward_more, all_written, written_on}

module _ (k n : ℕ) (file : List ℕ) (shape : bad_bundle_shape k n (length file) ≡ false) where
  -- what the table says, once it stands
  module _ (out : List ℕ) (table : Stand 0 (first_body n) (file_bundle k n file) out) (i : ℕ) (h : i < n) where
    entry_stands : (d : ℕ) → d < 8 → entry_at i + d < first_body n
    unfolding first_body entry_at header_size entry_size
    entry_stands d l = omega arith

    count_stands : count_in out i ≡ count_of (blocks_of k (length file)) (symbol_at k n file i)
    unfolding count_in
    count_stands =
        two_alike out (entry_at i + 2) (file_bundle k n file) (entry_at i + 2)
        (λ d l. table (entry_at i + 2 + d) (omega arith) (omega (arith, entry_stands (2 + d) (omega arith))))
        ∙ bundle_count k n file shape i h

    offset_stands : offset_in out i ≡ body_at k n file i
    unfolding offset_in
    offset_stands =
        four_alike out (entry_at i + 4) (file_bundle k n file) (entry_at i + 4)
        (λ d l. table (entry_at i + 4 + d) (omega arith) (omega (arith, entry_stands (4 + d) (omega arith))))
        ∙ bundle_offset k n file shape i h

  -- a turn at shadow i: start is the output before the block, out before the turn
  module _ (b : ℕ) (l : b < blocks_of k (length file)) (start out : List ℕ) (before : Progress k n file b start) (on : Onward (file_bundle k n file) start out) where
    pub still_room : length (file_bundle k n file) ≤ length out
    still_room = omega (arith, before.room, on.long)

    front : Stand 0 (first_body n) (file_bundle k n file) out
    front p g s = on.keeps p (before.front p g s)

    module _ (i : ℕ) (h : i < n) (done : ℕ) (listed : done ≡ count_of b (symbol_at k n file i)) where
      pub turn_inside : (B : ℕ) → B ≡ blocks_of k (length file) → offset_in out i + body_size B (count_in out i) ≤ length out
      unfolding body_size
      turn_inside B is = omega (arith, still_room, body_inside k n file shape i h, count_stands out front i h, offset_stands out front i h)

      pub turn_done : done ≤ count_in out i
      turn_done =
          omega (arith, count_stands out front i h, count_up (symbol_at k n file i) b (blocks_of k (length file)) (omega arith))

      module _ (x : ℕ) (symbol : x ≡ symbol_at k n file i b) (after : List ℕ) (is : after ≡ stored (offset_in out i) (count_in out i) done b x out) where
        put_is : after ≡ stored (body_at k n file i) (count_of (blocks_of k (length file)) (symbol_at k n file i)) (count_of b (symbol_at k n file i)) b (symbol_at k n file i b) out
        put_is = is ∙ rw (offset_stands out front i h, count_stands out front i h, listed, symbol) refl

        pub turn_onward : Onward (file_bundle k n file) start after
        turn_onward = next_onward k n file shape i h b l out still_room start after on put_is

        pub turn_filled : ((j : ℕ) → j < i → Filled k n file (suc b) j out) → (j : ℕ) → j < i + 1 → Filled k n file (suc b) j after
        turn_filled = next_filled k n file shape i h b l out still_room start after on put_is (before.bodies i h)

    -- all shadows are passed
    pub block_done : ((j : ℕ) → j < n → Filled k n file (suc b) j out) → Progress k n file (suc b) out
    block_done each = record { room = still_room; front = front; bodies = each }

  -- once all symbols are put, the bundle stands up to body m
  stands_to : (out : List ℕ) → Progress k n file (blocks_of k (length file)) out → (m : ℕ) → m ≤ n
      → Stand 0 (body_at k n file m) (file_bundle k n file) out
  unfolding body_size
  stands_to out all zero h p g l = all.front p g (omega (arith, body_first k n file))
  stands_to out all (suc m) h p g l =
      let start = bundle_offset k n file shape m h in
      let size = body_next k n file m h in
      let count = count_of (blocks_of k (length file)) (symbol_at k n file m) in
      elim (dec_lt p (body_at k n file m)) [
        | yes before ↦ stands_to out all m (omega arith) p g before
        | no here ↦
            elim (dec_lt p (body_at k n file m + 2 * count)) [
              | yes list ↦ (all.bodies m h).list p (omega arith) (omega arith)
              | no word ↦ (all.bodies m h).words p (omega arith) (omega arith)
            ]
      ]

  pub bundle_stands : (s out : List ℕ) → Onward (file_bundle k n file) s out → Progress k n file (blocks_of k (length file)) out
      → out ≡ written (file_bundle k n file) s
  bundle_stands s out on all =
      all_written (file_bundle k n file) s out (omega (arith, all.room, on.long)) on
      (λ p g l. stands_to out all n (omega arith) p g (omega (arith, bundle_end k n file shape)))

  -- the first pass, then header and table: s is the output before both, t between them, u after them
  module _ (s t u : List ℕ) (first : Plainly k n file s t) (laid : Plain k n file (blocks_of k (length file)) t) (on : Onward (file_bundle k n file) t u) (table : Stand 0 (first_body n) (file_bundle k n file) u) where
    room_left : length (file_bundle k n file) ≤ length u
    room_left = omega (arith, laid.room, on.long)

    pub plain_stands : NoneOver k n file → u ≡ written (file_bundle k n file) s
    plain_stands none =
        bundle_stands s u (onward_more (file_bundle k n file) s t u (first.onward none) on)
        (record {
          room = room_left;
          front = table;
          bodies = λ i h. filled_on k n file (blocks_of k (length file)) i t u on (laid.bodies none i h);
        })

    pub second_begun : Progress k n file 0 u
    second_begun = record { room = room_left; front = table; bodies = λ i h. filled_none k n file i u }

    pub second_written : (v : List ℕ) → v ≡ written (file_bundle k n file) u → v ≡ written (file_bundle k n file) s
    second_written v is = written_on (file_bundle k n file) t u v on is ∙ ap (file_bundle k n file ++◌) first.behind
