-- The laws of a table's entries and of what lies behind it: what the test of an entry says and tells, where the bodies begin, and what the test
-- of all says.
-- Assumes nothing.
use mathlib.Core.Path.{◌≡◌, refl}
use mathlib.Core.Bool.{true, false, not}
use mathlib.Core.List.{List}
use Prim.Native.Nat.{ℕ, ◌+◌, ◌<◌, ◌≤◌}
use native.Mathlib.Numerals.{add-one}
use native.Mathlib.Omega.{arith}
use borrow.Author.Tests.{eq-eqb, ne_eqb, lt-leb, le-leb, eqb-true, not-false}
use lib.Dec.{eqb}
use lib.ListN.{length, drop, length-drop}
use Rattle.answers.proofs.Checks.{or_false}
use Rattle.bundle_layout.specs.Fields.{n_in, held_in, blocks_in, entry_at, position_in, count_in, offset_in}
use Rattle.bundle_layout.specs.Layout.{start_of, bad_entry, rest_good}
use Rattle.bundle_storage.specs.Rising.{out_of_order}
use Rattle.bundle_layout.specs.Shadows.{entry_size, first_body}
use Rattle.bundle_storage.specs.Storage.{body_size, body_good}
use Rattle.bundle_storage.proofs.RisingLaws.{InOrder, in_order, found_none, one_bad}
use Rattle.bundle_storage.proofs.Storing.{good_parts}

-- a body that is good lies inside
pub body_inside : (B c at : ℕ) (s : List ℕ) → at ≤ length s → body_good B c (drop at s) ≡ true → at + body_size B c ≤ length s
body_inside B c at s h e = omega (arith, (good_parts B c (drop at s) e).0, length-drop at s)

-- One entry

pub entry_inside : (m t : ℕ) (s : List ℕ) → t < m → first_body m ≤ length s → entry_at t + entry_size ≤ length s
unfolding first_body entry_at entry_size
entry_inside m t s h l = omega arith

pub entry_told : (s : List ℕ) (t : ℕ) → bad_entry s t ≡ false
    → InOrder (n_in s) (position_in s) t × (offset_in s t ≡ start_of s t)
    × (body_good (blocks_in s) (count_in s t) (drop (start_of s t) s) ≡ true)
unfolding bad_entry
entry_told s t e =
    let parts = or_false _ _ e in
    let placed = or_false _ _ parts.1 in
    (in_order (n_in s) (position_in s) t parts.0, eqb-true (offset_in s t) (start_of s t) (not-false _ placed.0), not-false _ placed.1)

-- n, offset, at, B and count as the code has them
module _ (s : List ℕ) (t n : ℕ) (limit : n ≡ n_in s) where
  pub bad_order : out_of_order n (position_in s) t ≡ true → bad_entry s t ≡ true
  unfolding bad_entry
  bad_order e = rw (← limit) (simp e)

  module _ (offset at : ℕ) (good : out_of_order n (position_in s) t ≡ false) (is : offset ≡ offset_in s t) (start : at ≡ start_of s t) where
    pub bad_offset : (offset ≡ at → ⊥) → bad_entry s t ≡ true
    unfolding bad_entry
    bad_offset other = rw (← limit, ← is, ← start) (simp (good, ne_eqb offset at other))

    pub bad_body : (B count : ℕ) → offset ≡ at → B ≡ blocks_in s → count ≡ count_in s t
        → bad_entry s t ≡ not (body_good B count (drop at s))
    unfolding bad_entry
    bad_body B count same blocks listed =
        rw (← limit, ← is, ← start, ← blocks, ← listed) (simp (good, eq-eqb offset at same))

-- All of them

pub start_first : (s : List ℕ) → start_of s 0 ≡ first_body (held_in s)
unfolding start_of
start_first s = refl

start_next : (s : List ℕ) (t : ℕ) → start_of s (t + 1) ≡ start_of s t + body_size (blocks_in s) (count_in s t)
unfolding start_of
start_next s t = rw add-one refl

module _ (s : List ℕ) (t at B count : ℕ) (start : at ≡ start_of s t) (blocks : B ≡ blocks_in s) (listed : count ≡ count_in s t) where
  -- size is that of the body
  module _ (size : ℕ) (is : size ≡ body_size B count) where
    pub start_step : at + size ≡ start_of s (t + 1)
    unfolding body_size
    start_step = omega (arith, is, start_next s t)

    pub end_inside : at ≤ length s → bad_entry s t ≡ false → at + size ≤ length s
    unfolding body_size
    end_inside h e =
        omega (arith, is, body_inside (blocks_in s) (count_in s t) (start_of s t) s (omega arith) (entry_told s t e).2)

pub rest_short : (s : List ℕ) → length s < first_body (held_in s) → rest_good s ≡ false
unfolding rest_good
rest_short s h = simp (lt-leb _ _ h)

pub rest_bad : (s : List ℕ) (t : ℕ) → first_body (held_in s) ≤ length s → t < held_in s → ((k : ℕ) → k < t → bad_entry s k ≡ false)
    → bad_entry s t ≡ true → rest_good s ≡ false
unfolding rest_good
rest_bad s t h l before here = simp (le-leb _ _ h, one_bad _ t (bad_entry s) l before here)

pub rest_is : (s : List ℕ) (t at : ℕ) → t ≡ held_in s → at ≡ start_of s t → first_body t ≤ length s → ((k : ℕ) → k < t → bad_entry s k ≡ false)
    → rest_good s ≡ eqb at (length s)
unfolding rest_good
rest_is s t at all start h fine = rw (← all, ← start) (simp (le-leb (first_body t) (length s) h, found_none t (bad_entry s) fine))
