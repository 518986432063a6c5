-- What the reader leaves of a bundle in which few symbols of a sent file are altered: the file, or DISAGREE at the first block with such a symbol.
-- Assumes nothing.
use mathlib.Core.Path.{◌≡◌, sym, ap, ap₂, subst, ◌∙◌}
use mathlib.Core.List.{List, [], ◌∷◌, ◌++◌}
use mathlib.Core.Logic.{◌⊎◌, inl, inr}
use mathlib.Core.Option.{Option, some}
use Prim.Native.Nat.{ℕ, zero, suc, ◌+◌, ◌*◌, ◌<◌, ◌≤◌, zero-le}
use native.Mathlib.Decide.{dec_lt}
use native.Mathlib.Omega.{arith}
use borrow.Author.Tests.{ltb-true, ltb-false}
use lib.Dec.{ltb}
use lib.ListN.{length, take, replicate}
use lib.Seq.{take_at}
use Rattle.answers.specs.First.{first}
use Rattle.answers.specs.Leaves.{leaving, written, zeroed}
use Rattle.answers.specs.Refusals.{the_result, refused}
use Rattle.answers.specs.declared.refusal.Refusal.TheVariants.{Disagree}
use Rattle.answers.proofs.First.{first_before, first_holds}
use Rattle.lists.specs.Tab.{tab}
use Rattle.lists.proofs.Tab.{tab_append}
use Rattle.code.specs.Altered.{altered_count}
use Rattle.code.specs.Fits.{Fits}
use Rattle.block.proofs.Altering.{none_fits, fits_none, few_altered}
use Rattle.block.proofs.Theorems.{decodes_fitting, decodes_none}
use Rattle.bundle_layout.specs.Blocks.{blocks_of}
use Rattle.bundle_storage.specs.Bytes.{Bytes, in_bytes, two_at}
use Rattle.bundle_layout.specs.Fields.{k_in, n_in, length_in, held_in, blocks_in}
use Rattle.bundle_layout.specs.Layout.{layout_checks}
use Rattle.bundle_storage.proofs.BytesLaws.{in_bytes_append}
use Rattle.bundle_layout.proofs.Passing.{k_some}
use Rattle.bundle_file.specs.File.{padded, message_at}
use Rattle.bundle_read.specs.Reading.{held_at, decoded_at, block_answer, bytes_of, bytes_before, file_in}
use Rattle.bundle_layout.specs.Rooms.{bundle_work}
use Rattle.bundle.specs.Theorems.{Reads, Refuses, Demand3}
use Rattle.bundle_file.proofs.Padding.{padded_words, message_is}
use Rattle.bundle.proofs.Tails.{word_good, tail_good}
use Rattle.bundle.proofs.Passing.{read_passes}
use Rattle.bundle.proofs.BlockAnswers.{block_taken, block_disagrees}
use Rattle.bundle_read.proofs.HeldBlocks.{held_count_lem, held_decodable}
use Rattle.bundle.proofs.Walking.{all_taken, first_refused, read_leaves_lem}

module _ (file s : List ℕ) (bytes : Bytes file) (of_bytes : Bytes s) (good : layout_checks s ≡ the_result []) (enough : k_in s ≤ held_in s)
    (long : length_in s ≡ length file) where
  -- how many symbols of a block are altered
  abbrev altered : ℕ → ℕ
  altered b = altered_count (n_in s) (message_at (k_in s) file b) (held_at s b)

  decoded : (b : ℕ) → altered b ≡ 0 → decoded_at s b ≡ some (message_at (k_in s) file b)
  unfolding decoded_at
  decoded b all =
      (decodes_fitting (k_in s) (n_in s) (held_at s b) (held_decodable s b of_bytes good enough) (message_at (k_in s) file b)).1
      (none_fits (k_in s) (n_in s) (message_at (k_in s) file b) (held_at s b) (message_is (k_in s) file bytes b) all)

  taken : (b : ℕ) → altered b ≡ 0 → block_answer s b ≡ the_result []
  taken b all =
      block_taken s b (message_at (k_in s) file b) (decoded b all) (word_good (k_in s) file bytes b)
      (rw long (tail_good (k_in s) file bytes b))

  disagrees : (b : ℕ) → altered b + k_in s ≤ held_in s → 0 < altered b → block_answer s b ≡ refused (Disagree b)
  unfolding decoded_at
  disagrees b few any =
      let set = held_decodable s b of_bytes good enough in
      let sent = message_at (k_in s) file b in
      let is = message_is (k_in s) file bytes b in
      block_disagrees s b
      ((decodes_none (k_in s) (n_in s) (held_at s b) set).1
      (λ t fits. omega (arith, fits_none (k_in s) (n_in s) sent (held_at s b) (subst (Fits (k_in s) (n_in s) (held_at s b)) (sym (few_altered (k_in s) (n_in s) sent (held_at s b) set is (omega (arith, held_count_lem s b)) t fits)) fits))))

  -- The file comes back

  word : ℕ → ℕ
  word i = two_at (padded (k_in s) file) (2 * i)

  bytes_before_lem : (b : ℕ) → ((c : ℕ) → c < b → altered c ≡ 0) → bytes_before s b ≡ in_bytes (tab (k_in s * b) word)
  unfolding bytes_before in_bytes tab bytes_of message_at word
  bytes_before_lem zero each = ap (λ (m : ℕ). in_bytes (tab m word)) {x = 0} {y = k_in s * 0} (omega arith)
  bytes_before_lem (suc b) each =
      ap₂ (λ (p : List ℕ) (o : Option (List ℕ)). p ++ bytes_of o) (bytes_before_lem b (λ c h. each c (omega arith))) (decoded b (each b (omega arith)))
      ∙ sym (in_bytes_append (tab (k_in s * b) word) (message_at (k_in s) file b))
      ∙ ap in_bytes (sym (tab_append (k_in s * b) (k_in s) word))
      ∙ ap (λ (m : ℕ). in_bytes (tab m word)) {x = k_in s * b + k_in s} {y = k_in s * suc b} (omega arith)

  file_back : ((b : ℕ) → b < blocks_in s → altered b ≡ 0) → file_in s ≡ file
  unfolding file_in blocks_in word padded
  file_back each =
      ap (take (length_in s))
      (bytes_before_lem (blocks_in s) each
      ∙ ap (λ (L : ℕ). in_bytes (tab (k_in s * blocks_of (k_in s) L) word)) long
      ∙ padded_words (k_in s) file bytes (k_some s good))
      ∙ take_at file _ (length_in s) (sym long)

  -- What is left

  reads : ((b : ℕ) → b < blocks_in s → altered b ≡ 0) → Reads (n_in s) s file
  reads each out work fits room =
      read_leaves_lem s out work (the_result (length_in s ∷ []))
      (read_passes s (length out) (length work) good (omega arith) room enough)
      (all_taken s (blocks_in s) 0 (λ c h l. taken c (each c (omega arith))))
      ∙ ap₂ (λ (L : ℕ) (f : List ℕ). leaving (the_result (L ∷ [])) (written f out) (zeroed (bundle_work (n_in s)) work)) long (file_back each)

  refuses : (b : ℕ) → b < blocks_in s → ((c : ℕ) → c < b → altered c ≡ 0) → altered b + k_in s ≤ held_in s → 0 < altered b
      → Refuses (n_in s) (length file) s (Disagree b)
  refuses b h before few any out work fits room =
      read_leaves_lem s out work (refused (Disagree b))
      (read_passes s (length out) (length work) good (omega arith) room enough)
      (first_refused s 8 b (blocks_in s) 0 b zero-le (omega arith) (λ c h l. taken c (before c l)) (disagrees b few any))
      ∙ ap (λ (L : ℕ). leaving (refused (Disagree b)) (written (replicate L 0) out) (zeroed (bundle_work (n_in s)) work)) long

  pub demand : ((b : ℕ) → b < blocks_in s → altered b + k_in s ≤ held_in s) → Demand3 (k_in s) (n_in s) file s
  demand few = record { never_another = go; none_altered = reads; some_altered = λ b h before any. refuses b h before (few b h) any }
    where
      place : ℕ
      place = first (blocks_in s) (λ b. ltb 0 (altered b))

      sound : (b : ℕ) → b < place → altered b ≡ 0
      sound b h = omega (arith, ltb-false 0 (altered b) (first_before (blocks_in s) (λ b. ltb 0 (altered b)) b h))

      go : Reads (n_in s) s file ⊎ ((b : ℕ) × (b < blocks_in s) × Refuses (n_in s) (length file) s (Disagree b))
      go =
          elim (dec_lt place (blocks_in s)) [
            | yes found ↦ inr (place, found, refuses place found sound (few place found) (ltb-true 0 _ (first_holds (blocks_in s) (λ b. ltb 0 (altered b)) found)))
            | no clean ↦ inl (reads (λ b h. sound b (omega arith)))
          ]
