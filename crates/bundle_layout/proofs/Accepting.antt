-- Every bundle passes the tests of the layout, and is read as what it was made of.
-- Assumes nothing.
use mathlib.Core.Path.{◌≡◌, refl, sym, ap, ap₂, ◌∙◌}
use mathlib.Core.Bool.{true, false, not}
use mathlib.Core.List.{List, [], ◌++◌, append_assoc}
use Prim.Native.Nat.{ℕ, zero, suc, ◌+◌, ◌*◌, ◌<◌, ◌≤◌}
use native.Mathlib.Omega.{arith}
use borrow.Author.Tests.{le-ltb, eq-eqb}
use lib.Dec.{lit≤}
use lib.ListN.{length, get_or, take, drop, length-append}
use lib.Seq.{take_at}
use Rattle.answers.specs.First.{first}
use Rattle.answers.specs.Refusals.{the_result}
use Rattle.bundle_layout.specs.Blocks.{blocks_of}
use Rattle.bundle_storage.specs.Bytes.{two, four, two_at, four_at}
use Rattle.bundle_layout.specs.Fields.{k_in, n_in, length_in, held_in, last_in, blocks_in, entry_at, position_in, count_in, offset_in}
use Rattle.bundle_layout.specs.Held.{up_to, shadow_in, shadows_in, Stored, IsBundle}
use Rattle.bundle_layout.specs.Layout.{bad_front, start_of, bad_entry, rest_good, layout_checks}
use Rattle.bundle_layout.specs.Mark.{mark, starts_with}
use Rattle.bundle_layout.specs.Shadows.{Shadow, header_size, entry_size, first_body, header, entry, table, bodies, bundle_of}
use Rattle.bundle_storage.specs.Storage.{body_size, body_good}
use Rattle.bundle_storage.proofs.BytesLaws.{Alike, alike_on, alike_past, alike_front, two_alike, four_alike}
use Rattle.bundle_storage.proofs.RisingLaws.{InOrder, rises_in_order, rising_count, rises_same, not_out}
use Rattle.bundle_storage.proofs.Storing.{good_parts, good_moved}
use Rattle.bundle_layout.proofs.Entries.{bad_body, rest_is}
use Rattle.bundle_layout.proofs.Passing.{tests_pass}
use Rattle.bundle_layout.proofs.Holding.{limits, shadow_at, position_at, stored_at, shadows_are, offset_of, offset_next, offset_end, body_there, table_length, entry_there}

-- The header

module _ (k n L m : ℕ) (rest : List ℕ) where
  pub header_length : length (header k n L m) ≡ header_size
  unfolding header mark two four header_size
  header_length = refl

  header_k : k < 65536 → k_in (header k n L m ++ rest) ≡ k
  unfolding k_in two_at header mark two
  header_k h = omega arith

  header_n : n < 65536 → n_in (header k n L m ++ rest) ≡ n
  unfolding n_in two_at header mark two
  header_n h = omega arith

  header_L : L < 4294967296 → length_in (header k n L m ++ rest) ≡ L
  unfolding length_in four_at two_at header mark two four
  header_L h = omega arith

  header_m : m < 65536 → held_in (header k n L m ++ rest) ≡ m
  unfolding held_in two_at header mark two four
  header_m h = omega arith

  header_last : last_in (header k n L m ++ rest) ≡ 0
  unfolding last_in two_at header mark two four
  header_last = refl

  header_mark : starts_with mark (header k n L m ++ rest) ≡ true
  unfolding starts_with first header mark
  header_mark = refl

  header_front : bad_front (header k n L m ++ rest) ≡ false
  unfolding bad_front
  header_front =
      rw (le-ltb (length (header k n L m ++ rest)) header_size (omega (arith, length-append (header k n L m) rest, header_length)), header_mark, header_last)

-- An entry

entry_position : (x : Shadow) (off : ℕ) → x.position < 65536 → two_at (entry x off) 0 ≡ x.position
unfolding two_at entry two
entry_position x off h = omega arith

entry_count : (x : Shadow) (off : ℕ) → x.count < 65536 → two_at (entry x off) 2 ≡ x.count
unfolding two_at entry two
entry_count x off h = omega arith

entry_offset : (x : Shadow) (off : ℕ) → off < 4294967296 → four_at (entry x off) 4 ≡ off
unfolding four_at two_at entry two four
entry_offset x off h = omega arith

module _ (k n L : ℕ) (hs : List Shadow) (s : List ℕ) (is : IsBundle k n L hs s) where
  -- What the limits say of the shadows

  few : length hs ≤ 4096
  few = omega (arith, limits k n L is.shape, rising_count n (length hs) _ is.rising)

  position_lt : (t : ℕ) → t < length hs → (shadow_at hs t).position < 65536
  position_lt t h =
      omega (arith, limits k n L is.shape, (rises_in_order n (length hs) _ is.rising t h).1, position_at hs t h)

  stored_there : (t : ℕ) → t < length hs → Stored (blocks_of k L) (shadow_at hs t)
  stored_there t h = stored_at (blocks_of k L) hs t h is.stored

  count_le : (t : ℕ) → t < length hs → (shadow_at hs t).count ≤ 65535
  count_le t h =
      omega (arith, (limits k n L is.shape).blocks, rising_count _ _ _ (good_parts _ _ _ (stored_there t h).good).1)

  offset_le : (t : ℕ) → t ≤ length hs → offset_of (first_body (length hs)) hs t ≤ first_body (length hs) + 262140 * t
  unfolding offset_of body_size
  offset_le zero h = omega arith
  offset_le (suc t) h =
      omega (arith, offset_le t (omega arith), offset_next (first_body (length hs)) hs t h, (stored_there t h).long, count_le t h, (limits k n L is.shape).blocks)

  offset_lt : (t : ℕ) → t < length hs → offset_of (first_body (length hs)) hs t < 4294967296
  unfolding first_body header_size entry_size
  offset_lt t h = omega (arith, offset_le t (omega arith), few)

  -- What is read

  pub read_k : k_in s ≡ k
  unfolding bundle_of
  read_k = ap k_in is.written ∙ header_k k n L (length hs) _ (omega (arith, limits k n L is.shape))

  pub read_n : n_in s ≡ n
  unfolding bundle_of
  read_n = ap n_in is.written ∙ header_n k n L (length hs) _ (omega (arith, limits k n L is.shape))

  pub read_L : length_in s ≡ L
  unfolding bundle_of
  read_L = ap length_in is.written ∙ header_L k n L (length hs) _ (omega (arith, limits k n L is.shape))

  pub read_m : held_in s ≡ length hs
  unfolding bundle_of
  read_m = ap held_in is.written ∙ header_m k n L (length hs) _ (omega (arith, few))

  pub read_blocks : blocks_in s ≡ blocks_of k L
  unfolding blocks_in
  read_blocks = ap₂ blocks_of read_k read_L

  pub read_entry : (t : ℕ) → t < length hs → Alike 8 s (entry_at t) (entry (shadow_at hs t) (offset_of (first_body (length hs)) hs t)) 0
  unfolding bundle_of entry_at
  read_entry t h =
      λ d l. ap (λ (l : List ℕ). get_or l (entry_at t + d) 0) is.written
      ∙ alike_past 8 (header k n L (length hs)) _ (entry_size * t) (entry_at t) (omega (arith, header_length k n L (length hs) [])) d l
      ∙ entry_there (first_body (length hs)) hs (bodies hs) t h d l

  entry_from : (at m : ℕ) → at + m ≤ 8 → (t : ℕ) → t < length hs
      → Alike m s (entry_at t + at) (entry (shadow_at hs t) (offset_of (first_body (length hs)) hs t)) at
  entry_from at m e t h =
      alike_on at m 8 s (entry_at t) (entry_at t + at) (entry (shadow_at hs t) (offset_of (first_body (length hs)) hs t)) 0 at refl (omega arith) e (read_entry t h)

  pub read_position : (t : ℕ) → t < length hs → position_in s t ≡ (shadow_at hs t).position
  unfolding position_in
  read_position t h =
      two_alike s (entry_at t) _ 0 (λ d l. read_entry t h d (omega arith)) ∙ entry_position (shadow_at hs t) _ (position_lt t h)

  pub read_count : (t : ℕ) → t < length hs → count_in s t ≡ (shadow_at hs t).count
  unfolding count_in
  read_count t h =
      two_alike s (entry_at t + 2) _ 2 (entry_from 2 2 (lit≤ tt) t h) ∙ entry_count (shadow_at hs t) _ (omega (arith, count_le t h))

  pub read_offset : (t : ℕ) → t < length hs → offset_in s t ≡ offset_of (first_body (length hs)) hs t
  unfolding offset_in
  read_offset t h = four_alike s (entry_at t + 4) _ 4 (entry_from 4 4 (lit≤ tt) t h) ∙ entry_offset (shadow_at hs t) _ (offset_lt t h)

  read_start : (t : ℕ) → t ≤ length hs → start_of s t ≡ offset_of (first_body (length hs)) hs t
  unfolding start_of offset_of
  read_start zero h = ap first_body read_m
  read_start (suc t) h =
      ap₂ ◌+◌ (read_start t (omega arith)) (ap₂ body_size read_blocks (read_count t h) ∙ sym (stored_there t h).long)
      ∙ sym (offset_next (first_body (length hs)) hs t h)

  front : List ℕ
  front = header k n L (length hs) ++ table (first_body (length hs)) hs

  front_length : length front ≡ first_body (length hs)
  unfolding front first_body
  front_length = rw length-append (omega (arith, header_length k n L (length hs) [], table_length (first_body (length hs)) hs))

  parts : s ≡ front ++ bodies hs
  unfolding front bundle_of
  parts = is.written ∙ sym (append_assoc (header k n L (length hs)) (table (first_body (length hs)) hs) (bodies hs))

  pub bundle_length : length s ≡ first_body (length hs) + length (bodies hs)
  bundle_length = ap length parts ∙ rw length-append (omega (arith, front_length))

  pub read_body : (t : ℕ) → t < length hs → drop (start_of s t) s ≡ (shadow_at hs t).body ++ bodies (drop (suc t) hs)
  read_body t h = ap₂ drop (read_start t (omega arith)) parts ∙ body_there front (first_body (length hs)) hs t front_length h

  -- It passes

  body_good_lem : (t : ℕ) → t < length hs → body_good (blocks_in s) (count_in s t) (drop (start_of s t) s) ≡ true
  unfolding body_size
  body_good_lem t h =
      let body = (shadow_at hs t).body in
      let behind = bodies (drop (suc t) hs) in
      rw (read_blocks, read_count t h, read_body t h)
      (good_moved _ _ body (body ++ behind) (omega (arith, length-append body behind, (stored_there t h).long))
      (λ d l. sym (alike_front (2 * (shadow_at hs t).count) body behind 0 (omega (arith, (stored_there t h).long)) d l)) (stored_there t h).good)

  in_order : (t : ℕ) → t < length hs → InOrder (n_in s) (position_in s) t
  in_order =
      rw read_n
      (rises_in_order n (length hs) (position_in s) (rises_same n (length hs) _ _ (λ t h. position_at hs t h ∙ sym (read_position t h)) is.rising))

  entry_good : (t : ℕ) → t < length hs → bad_entry s t ≡ false
  entry_good t h =
      bad_body s t (n_in s) refl (offset_in s t) (start_of s t) (not_out (n_in s) (position_in s) t (in_order t h)) refl refl (blocks_in s) (count_in s t)
      (read_offset t h ∙ sym (read_start t (omega arith))) refl refl
      ∙ ap not (body_good_lem t h)

  rest_good_lem : rest_good s ≡ true
  rest_good_lem =
      rest_is s (length hs) (start_of s (length hs)) (sym read_m) refl (omega (arith, bundle_length)) entry_good
      ∙ eq-eqb (start_of s (length hs)) (length s) (read_start (length hs) (omega arith) ∙ offset_end (first_body (length hs)) hs ∙ sym bundle_length)

  front_good : bad_front s ≡ false
  unfolding bundle_of
  front_good = ap bad_front is.written ∙ header_front k n L (length hs) _

  pub passes : layout_checks s ≡ the_result []
  passes = tests_pass s front_good (rw (read_k, read_n, read_L) is.shape) rest_good_lem

  read_shadow : (t : ℕ) → t < length hs → shadow_in s t ≡ shadow_at hs t
  unfolding shadow_in
  read_shadow t h =
      let long = ap₂ body_size read_blocks (read_count t h) ∙ sym (stored_there t h).long in
      let body = ap₂ take long (read_body t h) ∙ take_at (shadow_at hs t).body (bodies (drop (suc t) hs)) _ refl in
      rw (body, read_position t h, read_count t h)

  pub read_shadows : shadows_in s ≡ hs
  unfolding shadows_in up_to
  read_shadows = rw read_m (shadows_are (shadow_in s) (λ t. t) hs read_shadow)
