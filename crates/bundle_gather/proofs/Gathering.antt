-- Gathering the values of a block, shadow by shadow: what one shadow brings, and that with the last one the working space is that of the next block.
-- Assumes nothing.
use mathlib.Core.Path.{◌≡◌, refl, subst, sym, ap, ap₂, ◌∙◌}
use mathlib.Core.Bool.{true}
use mathlib.Core.List.{List, [], ◌++◌}
use Prim.Native.Nat.{ℕ, suc, ◌+◌, ◌*◌, ◌-◌, ◌<◌, ◌≤◌}
use native.Mathlib.Decide.{dec_lt}
use native.Mathlib.Nat.{lt_of_le_of_lt}
use native.Mathlib.Numerals.{add-one}
use native.Mathlib.Omega.{arith}
use lib.ListN.{length, get_or, take, drop, set, replicate, length-set, length-append, length-drop, length-replicate, get_or-replicate, get_or-append}
use lib.Seq.{length-take-le, get_or-set_same, get_or-set_other, drop-append-add, drop-drop}
use Rattle.field.specs.Field.{product}
use Rattle.answers.specs.Refusals.{the_result}
use Rattle.field.specs.Size.{size_of}
use Rattle.bundle_storage.specs.Bytes.{Bytes}
use Rattle.bundle_storage.specs.Storage.{body_size, body_good, symbol_in, words_at, Placed}
use Rattle.bundle_storage.proofs.Cursors.{cursor_limited}
use Rattle.decode_missing.specs.Weights.{weights}
use Rattle.bundle_layout.specs.Fields.{n_in, held_in, blocks_in, position_in, count_in, offset_in}
use Rattle.bundle_layout.specs.Layout.{layout_checks}
use Rattle.bundle_layout.specs.Rooms.{bundle_work}
use Rattle.bundle_layout.proofs.Entries.{body_inside}
use Rattle.bundle_layout.proofs.Passing.{position_after, offset_is_start, offset_inside, body_passed, bundle_limited}
use Rattle.bundle_gather.specs.Gathering.{missing_in, words_held, cursor_held, weighted_held, Fixed, Laid, Gathered}
use Rattle.bundle_gather.proofs.Kept.{held_room, fixed_kept, laid_kept}
use Rattle.bundle_gather.proofs.Marking.{position_inside, marks_free}

-- the first t shadows of block b are passed
pub record Passed (s : List ℕ) (b t : ℕ) (cells : List ℕ) : Type 0 where
  pub fixed : Fixed s cells
  pub gathered : Gathered s b t cells
  pub moved : (i : ℕ) → i < t → get_or cells (6 * size_of (n_in s) + i) 0 ≡ cursor_held s (suc b) i
  pub left : (i : ℕ) → t ≤ i → i < held_in s → get_or cells (6 * size_of (n_in s) + i) 0 ≡ cursor_held s b i

module _ (s : List ℕ) (good : layout_checks s ≡ the_result []) where
  module _ (t : ℕ) (h : t < held_in s) where
    body_held : body_good (blocks_in s) (count_in s t) (drop (offset_in s t) s) ≡ true
    body_held = subst (λ (at : ℕ). body_good (blocks_in s) (count_in s t) (drop at s) ≡ true) (sym (offset_is_start s good t h)) (body_passed s good t h)

    placed_held : (b : ℕ) → b < blocks_in s → Placed (offset_in s t) (blocks_in s) (count_in s t) s b (words_held s t) (cursor_held s b t)
    unfolding words_held cursor_held
    placed_held b l = record { good = body_held; inside = l; words_there = refl; cursor_there = refl }

    -- indices of the bundle fit in a cell
    pub words_small : Bytes s → words_held s t < 4294967296
    unfolding words_held words_at body_size
    words_small bytes =
        omega (arith, body_inside (blocks_in s) (count_in s t) (offset_in s t) s (offset_inside s good t h) body_held, bundle_limited s good bytes)

    pub cursor_small : Bytes s → (b : ℕ) → cursor_held s b t < 4294967296
    unfolding words_held cursor_held
    cursor_small bytes b = lt_of_le_of_lt (cursor_limited (offset_in s t) (count_in s t) s b) (words_small bytes)

  pub cells_long : (size : ℕ) (cells : List ℕ) → size ≡ size_of (n_in s) → length cells ≡ bundle_work (n_in s) → length cells ≡ 8 * size
  unfolding bundle_work
  cells_long size cells is long = long ∙ ap (8 *◌) (sym is)

  pub shadow_inside : (size t : ℕ) (cells : List ℕ) → size ≡ size_of (n_in s) → t < held_in s → length cells ≡ bundle_work (n_in s) → (length cells ≡ 8 * size) × (t < size)
  shadow_inside size t cells is h long = (cells_long size cells is long, omega (arith, held_room s good, is, h))

  -- One shadow: what the code has read of the cells

  module _ (b t size : ℕ) (cells : List ℕ) (h : t < held_in s) (is : size ≡ size_of (n_in s)) (fixed : Fixed s cells) (place : ℕ) (read : place ≡ get_or cells (7 * size + t) 0) where
    place_is : place ≡ position_in s t
    place_is = read ∙ ap (λ (N : ℕ). get_or cells (7 * N + t) 0) is ∙ fixed.positions t h

    pub place_inside : place < size
    place_inside = omega (arith, place_is, position_inside s good t h, is)

    module _ (words cursor : ℕ) (first : words ≡ get_or cells (5 * size + t) 0) (second : cursor ≡ get_or cells (6 * size + t) 0) (held : get_or cells (6 * size + t) 0 ≡ cursor_held s b t) (l : b < blocks_in s) where
      pub placed_read : Placed (offset_in s t) (blocks_in s) (count_in s t) s b words cursor
      placed_read =
          subst (λ (w : ℕ). Placed (offset_in s t) (blocks_in s) (count_in s t) s b w cursor)
          (sym (first ∙ ap (λ (N : ℕ). get_or cells (5 * N + t) 0) is ∙ fixed.words t h))
          (subst (Placed (offset_in s t) (blocks_in s) (count_in s t) s b (words_held s t)) (sym (second ∙ held)) (placed_held t h b l))

    pub stored_one : (symbol value next : ℕ) → symbol ≡ symbol_in (count_in s t) (drop (offset_in s t) s) b
        → value ≡ product symbol (get_or cells (4 * size + place) 0) → next ≡ cursor_held s (suc b) t
        → set (set cells place value) (6 * size + t) next ≡ set (set cells (position_in s t) (weighted_held s b t)) (6 * size + t) (cursor_held s (suc b) t)
    unfolding weighted_held
    stored_one symbol value next told worked moved =
        ap (λ (x : ℕ). set (set cells place value) (6 * size + t) x) moved
        ∙ ap (λ (x : ℕ). set (set cells place x) (6 * size + t) (cursor_held s (suc b) t)) {y = weighted_held s b t} (worked ∙ ap₂ product told weight)
        ∙ ap (λ (x : ℕ). set (set cells x (weighted_held s b t)) (6 * size + t) (cursor_held s (suc b) t)) place_is
      where
        weight : get_or cells (4 * size + place) 0 ≡ get_or (weights (size_of (n_in s)) (missing_in s)) (position_in s t) 0
        weight = ap₂ (λ (N x : ℕ). get_or cells (4 * N + x) 0) is place_is ∙ fixed.weighs (position_in s t) (position_inside s good t h)

  -- The shadows in order

  -- nothing is gathered where the first part is cleared
  pub passed_none : (b size : ℕ) (cells part : List ℕ) → size ≡ size_of (n_in s) → Laid s b cells → part ≡ replicate (length (take (size - 0) cells)) 0
      → Passed s b 0 (part ++ drop (size - 0) cells)
  passed_none b size cells part is laid zeroed =
      record {
        fixed = kept.fixed;
        gathered = record { at = λ i h. absurd (nothing h); none = λ j h free. zero j h };
        moved = λ i h. absurd (nothing h);
        left = λ i le h. kept.cursors i h;
      }
    where
      nothing : {i : ℕ} → i < 0 → ⊥
      nothing h = omega arith

      now : List ℕ
      now = part ++ drop (size - 0) cells

      cleared : now ≡ replicate size 0 ++ drop size cells
      cleared =
          ap₂ (λ (p : List ℕ) (m : ℕ). p ++ drop m cells)
          (zeroed ∙ ap (λ (m : ℕ). replicate m 0) (length-take-le (size - 0) cells (omega (arith, cells_long size cells is laid.fixed.long)) ∙ whole))
          whole
        where
          whole : size - 0 ≡ size
          whole = omega arith

      zeros : length (replicate {A = ℕ} size 0) ≡ size
      zeros = length-replicate size 0

      same : length now ≡ length cells
      same = ap length cleared ∙ length-append (replicate size 0) (drop size cells) ∙ omega (arith, zeros, length-drop size cells, cells_long size cells is laid.fixed.long)

      behind : drop (2 * size_of (n_in s)) now ≡ drop (2 * size_of (n_in s)) cells
      behind =
          ap₂ drop {x = 2 * size_of (n_in s)} {y = length (replicate {A = ℕ} size 0) + size} (omega (arith, zeros, is)) cleared
          ∙ drop-append-add (replicate size 0) (drop size cells) size
          ∙ drop-drop size size cells
          ∙ ap (λ (m : ℕ). drop m cells) {x = size + size} {y = 2 * size_of (n_in s)} (omega (arith, is))

      kept : Laid s b now
      kept = laid_kept s good cells now same b behind laid

      zero : (j : ℕ) → j < size_of (n_in s) → get_or now j 0 ≡ 0
      zero j h =
          ap (λ (l : List ℕ). get_or l j 0) cleared
          ∙ get_or-append (replicate size 0) (drop size cells) 0 j (omega (arith, zeros, is, h))
          ∙ get_or-replicate size j 0 0 (omega (arith, is, h))

  module _ (b t : ℕ) (h : t < held_in s) (cells now : List ℕ) (passed : Passed s b t cells)
      (is : now ≡ set (set cells (position_in s t) (weighted_held s b t)) (6 * size_of (n_in s) + t) (cursor_held s (suc b) t)) where
    room : length cells ≡ 8 * size_of (n_in s)
    room = cells_long (size_of (n_in s)) cells refl passed.fixed.long

    middle : List ℕ
    middle = set cells (position_in s t) (weighted_held s b t)

    middle_long : length middle ≡ 8 * size_of (n_in s)
    unfolding middle
    middle_long = length-set cells _ _ ∙ room

    -- at any other place than the two
    other : (i : ℕ) → ¬ (i ≡ position_in s t) → ¬ (i ≡ 6 * size_of (n_in s) + t) → get_or now i 0 ≡ get_or cells i 0
    unfolding middle
    other i front back =
        ap (λ (l : List ℕ). get_or l i 0) is ∙ get_or-set_other middle (6 * size_of (n_in s) + t) i _ 0 back ∙ get_or-set_other cells (position_in s t) i _ 0 front

    new_value : get_or now (position_in s t) 0 ≡ weighted_held s b t
    unfolding middle
    new_value =
        ap (λ (l : List ℕ). get_or l (position_in s t) 0) is
        ∙ get_or-set_other middle (6 * size_of (n_in s) + t) (position_in s t) _ 0 (λ e. omega (arith, e, position_inside s good t h))
        ∙ get_or-set_same cells (position_in s t) _ 0 (omega (arith, room, position_inside s good t h))

    new_cursor : get_or now (6 * size_of (n_in s) + t) 0 ≡ cursor_held s (suc b) t
    unfolding middle
    new_cursor =
        ap (λ (l : List ℕ). get_or l (6 * size_of (n_in s) + t) 0) is
        ∙ get_or-set_same middle (6 * size_of (n_in s) + t) _ 0 (omega (arith, middle_long, h, held_room s good))

    -- the places in front, and the cursors
    front : (j : ℕ) → j < size_of (n_in s) → ¬ (j ≡ position_in s t) → get_or now j 0 ≡ get_or cells j 0
    front j l apart = other j apart (λ e. omega (arith, e, l))

    cursor : (i : ℕ) → ¬ (i ≡ t) → get_or now (6 * size_of (n_in s) + i) 0 ≡ get_or cells (6 * size_of (n_in s) + i) 0
    cursor i apart = other (6 * size_of (n_in s) + i) (λ e. omega (arith, e, position_inside s good t h)) (λ e. apart (omega (arith, e)))

    pub passed_more : Passed s b (t + 1) now
    unfolding middle
    passed_more =
        subst (λ (m : ℕ). Passed s b m now) (sym (add-one t))
        (record {
          fixed = fixed_kept s good cells now (ap length is ∙ length-set middle _ _ ∙ length-set cells _ _)
              (λ i le l. other i (λ e. omega (arith, e, le, position_inside s good t h)) (λ e. omega (arith, e, l)))
              (λ i le. other i (λ e. omega (arith, e, le, position_inside s good t h)) (λ e. omega (arith, e, le, h, held_room s good)))
              passed.fixed;
          gathered = record { at = value; none = λ j l free. front j l (marks_free s good t j h free).0 ∙ passed.gathered.none j l (marks_free s good t j h free).1 };
          moved = step;
          left = λ i le l. cursor i (λ e. omega (arith, e, le)) ∙ passed.left i (omega (arith, le)) l;
        })
      where
        value : (i : ℕ) → i < suc t → get_or now (position_in s i) 0 ≡ weighted_held s b i
        value i l =
            elim (dec_lt i t) [
              | yes less ↦ front (position_in s i) (position_inside s good i (omega (arith, less, h))) (λ e. omega (arith, e, position_after s good i t less h)) ∙ passed.gathered.at i less
              | no more ↦ subst (λ (j : ℕ). get_or now (position_in s j) 0 ≡ weighted_held s b j) {x = t} {y = i} (omega (arith, more, l)) new_value
            ]

        step : (i : ℕ) → i < suc t → get_or now (6 * size_of (n_in s) + i) 0 ≡ cursor_held s (suc b) i
        step i l =
            elim (dec_lt i t) [
              | yes less ↦ cursor i (λ e. omega (arith, e, less)) ∙ passed.moved i less
              | no more ↦ subst (λ (j : ℕ). get_or now (6 * size_of (n_in s) + j) 0 ≡ cursor_held s (suc b) j) {x = t} {y = i} (omega (arith, more, l)) new_cursor
            ]

  pub passed_all : (b m : ℕ) (cells : List ℕ) → m ≡ held_in s → Passed s b m cells → Laid s (suc b) cells × Gathered s b (held_in s) cells
  passed_all b m cells is passed = (
    record { fixed = passed.fixed; cursors = λ t h. passed.moved t (omega (arith, h, is)) },
    subst (λ (t : ℕ). Gathered s b t cells) is passed.gathered,
  )
