-- The numbers of a bundle are bytes, and what the bundle of a file's shadows holds for a block is the block's code word.
-- Assumes nothing.
use mathlib.Core.Path.{◌≡◌, refl, sym, ap, ap₂, subst, ◌∙◌}
use mathlib.Core.Bool.{false}
use mathlib.Core.List.{List, [], ◌∷◌}
use Prim.Native.Nat.{ℕ, ◌+◌, ◌<◌}
use native.Mathlib.Nat.{not-suc-le-zero}
use native.Mathlib.Omega.{arith}
use borrow.Author.Tests.{leb-false}
use lib.Dec.{leb}
use lib.ListN.{length, get_or}
use Rattle.answers.specs.First.{first}
use Rattle.answers.proofs.First.{first_before}
use Rattle.code.specs.Altered.{altered_count}
use Rattle.code.specs.Code.{symbol_of}
use Rattle.block.proofs.Altering.{fits_none}
use Rattle.bundle_layout.specs.Blocks.{blocks_of}
use Rattle.bundle_layout.specs.Shape.{bad_bundle_shape}
use Rattle.bundle_storage.specs.Bytes.{Bytes, two, four}
use Rattle.bundle_layout.specs.Fields.{held_in}
use Rattle.bundle_layout.specs.Held.{AllStored, IsBundle}
use Rattle.bundle_layout.specs.Mark.{mark}
use Rattle.bundle_layout.specs.Shadows.{Shadow, first_body, header, entry, table, bodies, bundle_of}
use Rattle.bundle_storage.specs.Storage.{symbol_in}
use Rattle.bundle_storage.proofs.BytesLaws.{bytes_append, two_bytes, four_bytes}
use Rattle.bundle_layout.proofs.Passing.{bundle_shape_told}
use Rattle.bundle_storage.proofs.Theorems.{body_stores}
use Rattle.bundle_file.specs.File.{Rising, message_at, symbol_at, bundle_at}
use Rattle.bundle_read.specs.Reading.{symbol_held, held_at}
use Rattle.bundle_file.proofs.Padding.{message_is}
use Rattle.bundle_front.proofs.Bundling.{symbol_small, held_all, position_held, count_held, body_held}
use Rattle.bundle_read.proofs.HeldBlocks.{held_count_lem, held_position, held_value}

-- A bundle's numbers are bytes

-- a list all of whose numbers are bytes, by a test
pub all_bytes : (s : List ℕ) → first (length s) (λ i. leb 256 (get_or s i 0)) ≡ length s → Bytes s
all_bytes s all i h = leb-false 256 (get_or s i 0) (first_before (length s) (λ i. leb 256 (get_or s i 0)) i (omega arith))

mark_bytes : Bytes mark
unfolding mark first
mark_bytes = all_bytes mark refl

header_bytes : (k n L m : ℕ) → Bytes (header k n L m)
unfolding header
header_bytes k n L m =
    bytes_append mark _ mark_bytes
    (bytes_append (two k) _ (two_bytes k)
    (bytes_append (two n) _ (two_bytes n)
    (bytes_append (four L) _ (four_bytes L) (bytes_append (two m) (two 0) (two_bytes m) (two_bytes 0)))))

table_bytes : (off : ℕ) (hs : List Shadow) → Bytes (table off hs)
unfolding table entry
table_bytes off [] = λ i h. absurd (not-suc-le-zero h)
table_bytes off (x ∷ hs) =
    bytes_append (entry x off) _
    (bytes_append (two x.position) _ (two_bytes x.position) (bytes_append (two x.count) (four off) (two_bytes x.count) (four_bytes off)))
    (table_bytes (off + length x.body) hs)

bodies_bytes : (B : ℕ) (hs : List Shadow) → AllStored B hs → Bytes (bodies hs)
unfolding bodies AllStored
bodies_bytes B [] all = λ i h. absurd (not-suc-le-zero h)
bodies_bytes B (x ∷ hs) all = bytes_append x.body (bodies hs) all.0.bytes (bodies_bytes B hs all.1)

pub bundle_bytes : (k n L : ℕ) (hs : List Shadow) (s : List ℕ) → IsBundle k n L hs s → Bytes s
unfolding bundle_of
bundle_bytes k n L hs s is =
    subst Bytes (sym is.written)
    (bytes_append (header k n L (length hs)) _ (header_bytes k n L (length hs))
    (bytes_append (table (first_body (length hs)) hs) (bodies hs) (table_bytes (first_body (length hs)) hs) (bodies_bytes (blocks_of k L) hs is.stored)))

-- What the bundle of a file's shadows holds for a block

module _ (k n : ℕ) (file positions : List ℕ) (good : bad_bundle_shape k n (length file) ≡ false) (up : Rising n positions) where
  abbrev s : List ℕ
  s = bundle_at k n file positions

  symbol_held_lem : (b : ℕ) → b < blocks_of k (length file) → (t : ℕ) → t < length positions
      → symbol_held s b t ≡ symbol_at k n file (get_or positions t 0) b
  unfolding symbol_held
  symbol_held_lem b l t h =
      ap₂ (λ (c : ℕ) (body : List ℕ). symbol_in c body b) (count_held k n file positions good up t h) (body_held k n file positions good up t h)
      ∙ (body_stores (blocks_of k (length file)) (symbol_at k n file (get_or positions t 0)) _
      (bundle_shape_told k n (length file) good).2 (λ b h. symbol_small k n file (get_or positions t 0) b)).symbols b l

  -- no symbol is altered
  pub none_altered : Bytes file → (b : ℕ) → b < blocks_of k (length file) → altered_count n (message_at k file b) (held_at s b) ≡ 0
  unfolding symbol_at
  none_altered bytes b l =
      fits_none k n (message_at k file b) (held_at s b)
      record {
        message = message_is k file bytes b;
        at =
            λ j h. let less : j < held_in s = omega (arith, held_count_lem s b) in
            let inside : j < length positions = omega (arith, held_all k n file positions good up) in
            ap (symbol_of n (message_at k file b)) (held_position s b j less ∙ position_held k n file positions good up j inside)
            ∙ sym (held_value s b j less ∙ symbol_held_lem b l j inside);
      }
