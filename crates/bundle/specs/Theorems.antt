-- What is proved of the definitions, as statements: proofs/Theorems.antt proves each under the same name in small letters.
use Rattle.std.specs.Prelude.{◌≡◌, false, List, [], ◌∷◌, map, ◌⊎◌, ◌↔◌, ℕ, ◌+◌, ◌<◌, ◌≤◌, length, replicate}
use Rattle.answers.specs.Leaves.{leaving, written, zeroed}
use Rattle.answers.specs.Refusals.{the_result, refused}
use Rattle.answers.specs.declared.refusal.Refusal.{Refusal}
use Rattle.answers.specs.declared.refusal.Refusal.TheVariants.{Disagree}
use Rattle.code.specs.Altered.{altered_count}
use Rattle.code.specs.Fits.{Fits}
use Rattle.bundle_layout.specs.Blocks.{blocks_of}
use Rattle.bundle_layout.specs.Shape.{bad_bundle_shape}
use Rattle.bundle_storage.specs.Bytes.{Bytes}
use Rattle.bundle_layout.specs.Fields.{k_in, n_in, length_in, held_in, blocks_in}
use Rattle.bundle_layout.specs.Held.{IsBundle}
use Rattle.bundle_layout.specs.Layout.{layout_checks}
use Rattle.bundle.specs.Answers.{LengthSettled}
use Rattle.bundle.specs.Calls.{write_leaves, read_leaves}
use Rattle.bundle.specs.Checks.{read_checks}
use Rattle.bundle_file.specs.File.{Rising, message_at, shadow_of, bundle_at, file_bundle}
use Rattle.bundle_read.specs.Reading.{held_at, block_answer}
use Rattle.bundle_layout.specs.Rooms.{write_out, bundle_work}

-- The calls: what they leave, given room

-- the writer leaves this bundle
abbrev pub Writes : ℕ → ℕ → List ℕ → List ℕ → Type 0
Writes k n file bundle =
    (out work : List ℕ) → write_out n (blocks_of k (length file)) ≤ length out → bundle_work n ≤ length work
    → write_leaves k n file out work ≡ leaving (the_result (length bundle ∷ [])) (written bundle out) (zeroed (bundle_work n) work)

-- the reader leaves this file
abbrev pub Reads : ℕ → List ℕ → List ℕ → Type 0
Reads n s file =
    (out work : List ℕ) → length file ≤ length out → bundle_work n ≤ length work
    → read_leaves s out work ≡ leaving (the_result (length file ∷ [])) (written file out) (zeroed (bundle_work n) work)

-- the reader refuses a block, L being the file's length
abbrev pub Refuses : ℕ → ℕ → List ℕ → Refusal → Type 0
Refuses n L s x =
    (out work : List ℕ) → L ≤ length out → bundle_work n ≤ length work
    → read_leaves s out work ≡ leaving (refused x) (written (replicate L 0) out) (zeroed (bundle_work n) work)

-- Demand 2

-- what the writer writes is the layout of the file's shadows; so is what is left of it where shadows are lost
abbrev pub FileIsBundle : Type 0
FileIsBundle =
    (k n : ℕ) (file positions : List ℕ) → bad_bundle_shape k n (length file) ≡ false → Rising n positions
    → IsBundle k n (length file) (map (shadow_of k n file) positions) (bundle_at k n file positions)

-- every file within the limits is written
abbrev pub WritesBundle : Type 0
WritesBundle = (k n : ℕ) (file : List ℕ) → bad_bundle_shape k n (length file) ≡ false → Writes k n file (file_bundle k n file)

-- and read back, from the whole bundle
abbrev pub WriteRead : Type 0
WriteRead =
    (k n : ℕ) (file : List ℕ) → bad_bundle_shape k n (length file) ≡ false → Bytes file → Reads n (file_bundle k n file) file

-- and from any m ≥ k of its shadows
abbrev pub LoseRead : Type 0
LoseRead =
    (k n : ℕ) (file positions : List ℕ) → bad_bundle_shape k n (length file) ≡ false → Bytes file → Rising n positions
    → k ≤ length positions → Reads n (bundle_at k n file positions) file

-- Demand 3

-- DISAGREE, with the block as its place, exactly when the other checks pass, the earlier blocks are taken and no message fits all m
abbrev pub DisagreeExactly : Type 0
DisagreeExactly =
    (s out work : List ℕ) → Bytes s → (b : ℕ)
    → ((read_leaves s out work).answer ≡ refused (Disagree b))
    ↔ ((read_checks s (length out) (length work) ≡ the_result [])
    × (b < blocks_in s)
    × ((c : ℕ) → c < b → block_answer s c ≡ the_result [])
    × ((message : List ℕ) → ¬ Fits (k_in s) (n_in s) (held_at s b) message))

-- a bundle with the file's k, n and L, of which in each block at most m - k symbols are altered
pub record FewAltered (k n : ℕ) (file s : List ℕ) : Type 0 where
  pub k_kept : k_in s ≡ k
  pub n_kept : n_in s ≡ n
  pub length_kept : length_in s ≡ length file
  pub few : (b : ℕ) → b < blocks_in s → altered_count n (message_at k file b) (held_at s b) + k ≤ held_in s

pub record Demand3 (k n : ℕ) (file s : List ℕ) : Type 0 where
  -- the reader's outcome is the file or DISAGREE, never another
  pub never_another : Reads n s file ⊎ ((b : ℕ) × (b < blocks_in s) × Refuses n (length file) s (Disagree b))
  -- with none altered it is the file
  pub none_altered : ((b : ℕ) → b < blocks_in s → altered_count n (message_at k file b) (held_at s b) ≡ 0) → Reads n s file
  -- with some altered it is DISAGREE at the first block that has such a symbol
  pub some_altered : (b : ℕ) → b < blocks_in s → ((c : ℕ) → c < b → altered_count n (message_at k file c) (held_at s c) ≡ 0)
      → 0 < altered_count n (message_at k file b) (held_at s b) → Refuses n (length file) s (Disagree b)

-- L = 0 has no blocks, so that m ≥ k is asked for by itself
abbrev pub NeverAnother : Type 0
NeverAnother =
    (k n : ℕ) (file s : List ℕ) → Bytes file → Bytes s → layout_checks s ≡ the_result [] → k ≤ held_in s → FewAltered k n file s
    → Demand3 k n file s

-- whatever the bytes are: where the reader takes them, and a good layout would be altered in no more than that, it leaves the file
abbrev pub TakenIsSent : Type 0
TakenIsSent =
    (k n : ℕ) (file s out work vs : List ℕ) → Bytes file → Bytes s → (layout_checks s ≡ the_result [] → FewAltered k n file s)
    → (read_leaves s out work).answer ≡ the_result vs
    → read_leaves s out work ≡ leaving (the_result (length file ∷ [])) (written file out) (zeroed (bundle_work n) work)

-- Two outcomes of a call are equal: the answer, every byte of the output and every cell of the working space

abbrev pub WriteSettled : Type 0
WriteSettled = (k n : ℕ) (file out work : List ℕ) → LengthSettled (write_leaves k n file out work)

abbrev pub ReadSettled : Type 0
ReadSettled = (s out work : List ℕ) → LengthSettled (read_leaves s out work)
