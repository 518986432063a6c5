-- What the tests of a bundle's layout let through: bytes that they pass have a header of good shape, a table that lies inside, good entries in
-- order, and bodies one behind the other up to the end.
-- Assumes nothing.
use mathlib.Core.Path.{◌≡◌, sym, ◌∙◌}
use mathlib.Core.Bool.{Bool, true, false, not}
use mathlib.Core.List.{List, []}
use Prim.Native.Nat.{ℕ, zero, suc, ◌+◌, ◌*◌, ◌<◌, ◌≤◌}
use native.Mathlib.Nat.{le_trans}
use native.Mathlib.Omega.{arith}
use borrow.Author.Tests.{ltb-false, leb-true, eqb-true, not-false}
use lib.Dec.{ltb, leb}
use lib.ListN.{length, drop}
use Rattle.answers.specs.First.{first}
use Rattle.answers.specs.Refusals.{the_result}
use Rattle.limits.specs.Shape.{longest, bad_shape}
use Rattle.answers.specs.declared.refusal.Refusal.TheVariants.{Shape, Form}
use Rattle.answers.proofs.Checks.{passed, or_false}
use Rattle.limits.proofs.Shape.{shape_good}
use Rattle.bundle_storage.specs.Blocks.{most_blocks}
use Rattle.bundle_layout.specs.Blocks.{blocks_of}
use Rattle.bundle_layout.specs.Shape.{longest_file, bad_bundle_shape}
use Rattle.bundle_storage.specs.Bytes.{Bytes}
use Rattle.bundle_layout.specs.Fields.{k_in, n_in, length_in, held_in, last_in, blocks_in, entry_at, position_in, count_in, offset_in}
use Rattle.bundle_layout.specs.Layout.{bad_front, start_of, bad_entry, rest_good, layout_checks}
use Rattle.bundle_layout.specs.Mark.{mark, starts_with}
use Rattle.bundle_storage.specs.Rising.{rises}
use Rattle.bundle_layout.specs.Shadows.{header_size, entry_size, first_body}
use Rattle.bundle_storage.specs.Storage.{body_size, body_good}
use Rattle.bundle_storage.proofs.BytesLaws.{two_lt}
use Rattle.bundle_storage.proofs.RisingLaws.{none_found, in_order_rises, rising_apart, rising_count}
use Rattle.bundle_storage.proofs.Storing.{both}
use Rattle.bundle_layout.proofs.Entries.{body_inside, entry_inside, entry_told}

-- The three tests, both ways

pub tests_passed : (s : List ℕ) → layout_checks s ≡ the_result []
    → (bad_front s ≡ false) × (bad_bundle_shape (k_in s) (n_in s) (length_in s) ≡ false) × (rest_good s ≡ true)
unfolding layout_checks
tests_passed s e =
    let front = passed (bad_front s) Form _ [] e in
    let shape = passed (bad_bundle_shape (k_in s) (n_in s) (length_in s)) Shape _ [] front.1 in
    let rest = passed (not (rest_good s)) Form (the_result []) [] shape.1 in
    (front.0, shape.0, not-false (rest_good s) rest.0)

pub tests_pass : (s : List ℕ) → bad_front s ≡ false → bad_bundle_shape (k_in s) (n_in s) (length_in s) ≡ false → rest_good s ≡ true
    → layout_checks s ≡ the_result []
unfolding layout_checks
tests_pass s front shape rest = simp (front, shape, rest)

-- What each tells

pub front_told : (s : List ℕ) → bad_front s ≡ false → (header_size ≤ length s) × (starts_with mark s ≡ true) × (last_in s ≡ 0)
unfolding bad_front
front_told s e =
    let short = or_false (ltb (length s) header_size) _ e in
    let marked = or_false (not (starts_with mark s)) _ short.1 in (
      ltb-false (length s) header_size short.0,
      not-false (starts_with mark s) marked.0,
      eqb-true (last_in s) 0 (not-false _ marked.1),
    )

pub bundle_shape_told : (k n L : ℕ) → bad_bundle_shape k n L ≡ false
    → (bad_shape k n ≡ false) × (L ≤ longest_file) × (blocks_of k L ≤ most_blocks)
unfolding bad_bundle_shape
bundle_shape_told k n L e =
    let shape = or_false (bad_shape k n) _ e in
    let limits = or_false (ltb longest_file L) (ltb most_blocks (blocks_of k L)) shape.1 in
    (shape.0, ltb-false longest_file L limits.0, ltb-false most_blocks (blocks_of k L) limits.1)

-- the same as the code asks for it; bad is what the test of the shape gave
module _ (k n L : ℕ) (bad : Bool) (judged : bad ≡ bad_bundle_shape k n L) (good : bad ≡ false) where
  pub countable : (0 < k) × (k ≤ longest) × (L ≤ longest_file)
  countable =
      let told = bundle_shape_told k n L (sym judged ∙ good) in
      let shape = shape_good k n told.0 in (shape.0, omega arith, told.1)

  -- B as the code has it
  pub measurable : (B : ℕ) → B ≡ blocks_of k L → (n ≤ longest) × (B ≤ most_blocks)
  measurable B is =
      let told = bundle_shape_told k n L (sym judged ∙ good) in
      ((shape_good k n told.0).2, omega (arith, told.2))

-- what is proved by those two
pub ruleset measuring = (countable, measurable)

rest_told : (s : List ℕ) → rest_good s ≡ true
    → (first_body (held_in s) ≤ length s) × ((t : ℕ) → t < held_in s → bad_entry s t ≡ false) × (start_of s (held_in s) ≡ length s)
unfolding rest_good
rest_told s e =
    let there = both (leb (first_body (held_in s)) (length s)) _ e in
    let rest = both (leb (held_in s) (first (held_in s) (bad_entry s))) _ there.1 in (
      leb-true (first_body (held_in s)) (length s) there.0,
      none_found (held_in s) (bad_entry s) rest.0,
      eqb-true (start_of s (held_in s)) (length s) rest.1,
    )

-- bodies that are good one after the other lie inside
starts_inside : (s : List ℕ) → first_body (held_in s) ≤ length s → ((t : ℕ) → t < held_in s → bad_entry s t ≡ false) → (t : ℕ)
    → t ≤ held_in s → start_of s t ≤ length s
unfolding start_of
starts_inside s h fine zero l = h
starts_inside s h fine (suc t) l =
    body_inside (blocks_in s) (count_in s t) (start_of s t) s (starts_inside s h fine t (omega arith)) (entry_told s t (fine t l)).2

-- What bytes that pass are

module _ (s : List ℕ) (good : layout_checks s ≡ the_result []) where
  pub header_inside : header_size ≤ length s
  header_inside = (front_told s (tests_passed s good).0).0

  pub begins_with_mark : starts_with mark s ≡ true
  begins_with_mark = (front_told s (tests_passed s good).0).1

  pub ends_header : last_in s ≡ 0
  ends_header = (front_told s (tests_passed s good).0).2

  pub shape_passed : bad_shape (k_in s) (n_in s) ≡ false
  shape_passed = (bundle_shape_told (k_in s) (n_in s) (length_in s) (tests_passed s good).1).0

  pub length_limited : length_in s ≤ longest_file
  length_limited = (bundle_shape_told (k_in s) (n_in s) (length_in s) (tests_passed s good).1).1

  pub blocks_limited : blocks_in s ≤ most_blocks
  unfolding blocks_in
  blocks_limited = (bundle_shape_told (k_in s) (n_in s) (length_in s) (tests_passed s good).1).2

  pub k_some : 0 < k_in s
  k_some = (shape_good (k_in s) (n_in s) shape_passed).0

  k_few : k_in s ≤ n_in s
  k_few = (shape_good (k_in s) (n_in s) shape_passed).1

  pub n_limited : n_in s ≤ longest
  n_limited = (shape_good (k_in s) (n_in s) shape_passed).2

  pub k_limited : k_in s ≤ longest
  k_limited = le_trans k_few n_limited

  pub table_inside : first_body (held_in s) ≤ length s
  table_inside = (rest_told s (tests_passed s good).2).0

  pub bodies_end : start_of s (held_in s) ≡ length s
  bodies_end = (rest_told s (tests_passed s good).2).2

  start_inside : (t : ℕ) → t ≤ held_in s → start_of s t ≤ length s
  start_inside = starts_inside s table_inside (rest_told s (tests_passed s good).2).1

  module _ (t : ℕ) (less : t < held_in s) where
    entry_passed : bad_entry s t ≡ false
    entry_passed = (rest_told s (tests_passed s good).2).1 t less

    pub entry_there : entry_at t + entry_size ≤ length s
    entry_there = entry_inside (held_in s) t s less table_inside

    pub position_below : position_in s t < n_in s
    position_below = (entry_told s t entry_passed).0.1

    pub offset_is_start : offset_in s t ≡ start_of s t
    offset_is_start = (entry_told s t entry_passed).1

    pub body_passed : body_good (blocks_in s) (count_in s t) (drop (start_of s t) s) ≡ true
    body_passed = (entry_told s t entry_passed).2

    pub offset_inside : offset_in s t ≤ length s
    offset_inside = omega (arith, offset_is_start, start_inside t (omega arith))

  pub positions_rise : rises (n_in s) (held_in s) (position_in s) ≡ true
  positions_rise = in_order_rises (n_in s) (held_in s) (position_in s) (λ t less. (entry_told s t (entry_passed t less)).0)

  pub position_after : (i j : ℕ) → i < j → j < held_in s → position_in s i < position_in s j
  position_after = rising_apart (n_in s) (held_in s) (position_in s) positions_rise

  pub held_few : held_in s ≤ n_in s
  held_few = rising_count (n_in s) (held_in s) (position_in s) positions_rise

  -- n bodies of no more than 65535 list entries and 65535 words: an index of the bundle fits in four bytes
  module _ (bytes : Bytes s) where
    body_limited : (t : ℕ) → body_size (blocks_in s) (count_in s t) ≤ 262140
    unfolding body_size count_in most_blocks
    body_limited t = omega (arith, blocks_limited, two_lt s (entry_at t + 2) bytes)

    start_limited : (t : ℕ) → start_of s t ≤ first_body (held_in s) + 262140 * t
    unfolding start_of
    start_limited zero = omega arith
    start_limited (suc t) = omega (arith, start_limited t, body_limited t)

    pub bundle_limited : length s < 4294967296
    unfolding longest first_body header_size entry_size
    bundle_limited = omega (arith, bodies_end, start_limited (held_in s), held_few, n_limited)
