-- The working space before the first block: the shadows laid one after the other, and what the preparation leaves.
-- Assumes nothing.
use mathlib.Core.Path.{◌≡◌, subst, sym, ap, ap₂, ◌∙◌}
use mathlib.Core.Bool.{false}
use mathlib.Core.List.{List, [], ◌++◌}
use Prim.Native.Nat.{ℕ, suc, ◌+◌, ◌*◌, ◌-◌, ◌<◌, ◌≤◌}
use native.Mathlib.Decide.{dec_lt}
use native.Mathlib.Nat.{zero-add}
use native.Mathlib.Numerals.{add-one}
use native.Mathlib.Omega.{arith}
use lib.ListN.{length, get_or, take, drop, set, length-set, length-drop}
use lib.Seq.{length-take-le, get_or-set_same, get_or-set_other, get_or-take, get_or-drop, drop-drop, ext_get_or}
use Rattle.field.specs.Congruence.{◌≈◌}
use Rattle.answers.specs.Refusals.{the_result}
use Rattle.limits.specs.Shape.{bad_shape}
use Rattle.field.specs.Size.{size_of}
use Rattle.poly.specs.Products.{vanishing}
use Rattle.lists.specs.Tab.{tab}
use Rattle.poly.specs.Value.{value}
use Rattle.lists.proofs.Tab.{tab_get_or}
use Rattle.lists.proofs.Window.{window, window_length, window_before, window_at, window_past}
use Rattle.decode_between.specs.Between.{between}
use Rattle.decode_between.proofs.Foldable.{power_at}
use Rattle.decode_divide.specs.Quotients.{InversesBetween}
use Rattle.decode_missing.specs.Missing.{missing_points}
use Rattle.decode_missing.specs.Weights.{weights}
use Rattle.decode_prepare.specs.Prepared.{Prepared}
use Rattle.bundle_storage.specs.Storage.{words_at}
use Rattle.bundle_storage.proofs.Cursors.{cursor_first}
use Rattle.bundle_layout.specs.Fields.{k_in, n_in, held_in, position_in, count_in, offset_in}
use Rattle.bundle_layout.specs.Layout.{layout_checks}
use Rattle.bundle_layout.specs.Rooms.{bundle_work}
use Rattle.bundle_layout.proofs.Passing.{shape_passed, k_some}
use Rattle.bundle_gather.specs.Gathering.{marks_in, missing_in, words_held, cursor_held, Shadows, Laid}
use Rattle.bundle_gather.proofs.Kept.{held_room, size_order}
use Rattle.bundle_gather.proofs.Marking.{marks_long, missing_fewer}

-- One shadow, from what the code has read

pub words_laid_lem : (s : List ℕ) (t at count words : ℕ) → at ≡ offset_in s t → count ≡ count_in s t → words ≡ words_at at count → words ≡ words_held s t
unfolding words_held
words_laid_lem s t at count words first second third = third ∙ ap₂ words_at first second

pub cursor_laid : (s : List ℕ) (t at : ℕ) → at ≡ offset_in s t → at ≡ cursor_held s 0 t
unfolding cursor_held
cursor_laid s t at is = is ∙ sym (cursor_first (offset_in s t) (count_in s t) s)

-- The shadows in order

pub shadows_none : (s cells : List ℕ) → Shadows s 0 cells
shadows_none s cells = record { words = λ t h. absurd (none h); cursors = λ t h. absurd (none h); positions = λ t h. absurd (none h) }
  where
    none : {t : ℕ} → t < 0 → ⊥
    none h = omega arith

module _ (s : List ℕ) (good : layout_checks s ≡ the_result []) (t size : ℕ) (h : t < held_in s) (size_is : size ≡ size_of (n_in s)) (cells now : List ℕ) (long : length cells ≡ 8 * size)
    (is : now ≡ set (set (set cells (5 * size + t) (words_held s t)) (6 * size + t) (cursor_held s 0 t)) (7 * size + t) (position_in s t)) where
  first : List ℕ
  first = set cells (5 * size + t) (words_held s t)

  second : List ℕ
  second = set first (6 * size + t) (cursor_held s 0 t)

  inside : t < size
  inside = omega (arith, held_room s good, size_is, h)

  first_long : length first ≡ 8 * size
  unfolding first
  first_long = length-set cells _ _ ∙ long

  second_long : length second ≡ 8 * size
  unfolding second
  second_long = length-set first _ _ ∙ first_long

  pub shadow_long : length now ≡ length cells
  unfolding first second
  shadow_long = ap length is ∙ length-set second _ _ ∙ second_long ∙ sym long

  -- at any other place than the three
  other : (i : ℕ) → ¬ (i ≡ 5 * size + t) → ¬ (i ≡ 6 * size + t) → ¬ (i ≡ 7 * size + t) → get_or now i 0 ≡ get_or cells i 0
  unfolding first second
  other i a b c =
      ap (λ (l : List ℕ). get_or l i 0) is ∙ get_or-set_other second (7 * size + t) i _ 0 c ∙ get_or-set_other first (6 * size + t) i _ 0 b
      ∙ get_or-set_other cells (5 * size + t) i _ 0 a

  new_words : get_or now (5 * size + t) 0 ≡ words_held s t
  unfolding first second
  new_words =
      ap (λ (l : List ℕ). get_or l (5 * size + t) 0) is
      ∙ get_or-set_other second (7 * size + t) (5 * size + t) _ 0 (λ e. omega (arith, e, inside))
      ∙ get_or-set_other first (6 * size + t) (5 * size + t) _ 0 (λ e. omega (arith, e, inside))
      ∙ get_or-set_same cells (5 * size + t) _ 0 (omega (arith, inside, long))

  new_cursor : get_or now (6 * size + t) 0 ≡ cursor_held s 0 t
  unfolding first second
  new_cursor =
      ap (λ (l : List ℕ). get_or l (6 * size + t) 0) is
      ∙ get_or-set_other second (7 * size + t) (6 * size + t) _ 0 (λ e. omega (arith, e, inside))
      ∙ get_or-set_same first (6 * size + t) _ 0 (omega (arith, inside, first_long))

  new_position : get_or now (7 * size + t) 0 ≡ position_in s t
  unfolding first second
  new_position =
      ap (λ (l : List ℕ). get_or l (7 * size + t) 0) is ∙ get_or-set_same second (7 * size + t) _ 0 (omega (arith, inside, second_long))

  -- one number more of a part
  extended : (from : ℕ) (f : ℕ → ℕ) → ((i : ℕ) → i < t → get_or now (from + i) 0 ≡ f i) → get_or now (from + t) 0 ≡ f t
      → (i : ℕ) → i < suc t → get_or now (from + i) 0 ≡ f i
  extended from f before new i l =
      elim (dec_lt i t) [
        | yes less ↦ before i less
        | no more ↦ subst (λ (j : ℕ). get_or now (from + j) 0 ≡ f j) {x = t} {y = i} (omega (arith, more, l)) new
      ]

  pub shadows_more : Shadows s t cells → Shadows s (t + 1) now
  shadows_more laid =
      subst (λ (m : ℕ). Shadows s m now) (sym (add-one t))
      (record {
        words = λ i l. part 5 i ∙ extended (5 * size) (words_held s) (λ j less. other (5 * size + j) (λ e. omega (arith, e, less)) (λ e. omega (arith, e, less, inside)) (λ e. omega (arith, e, less, inside)) ∙ sym (part' 5 j) ∙ laid.words j less) new_words i l;
        cursors = λ i l. part 6 i ∙ extended (6 * size) (cursor_held s 0) (λ j less. other (6 * size + j) (λ e. omega (arith, e, less, inside)) (λ e. omega (arith, e, less)) (λ e. omega (arith, e, less, inside)) ∙ sym (part' 6 j) ∙ laid.cursors j less) new_cursor i l;
        positions = λ i l. part 7 i ∙ extended (7 * size) (position_in s) (λ j less. other (7 * size + j) (λ e. omega (arith, e, less, inside)) (λ e. omega (arith, e, less, inside)) (λ e. omega (arith, e, less)) ∙ sym (part' 7 j) ∙ laid.positions j less) new_position i l;
      })
    where
      part : (a i : ℕ) → get_or now (a * size_of (n_in s) + i) 0 ≡ get_or now (a * size + i) 0
      part a i = ap (λ (N : ℕ). get_or now (a * N + i) 0) (sym size_is)

      part' : (a i : ℕ) → get_or cells (a * size_of (n_in s) + i) 0 ≡ get_or cells (a * size + i) 0
      part' a i = ap (λ (N : ℕ). get_or cells (a * N + i) 0) (sym size_is)

-- What the preparation leaves

-- a part that is replaced by another as long, and one in front

part_window : (at e : ℕ) (l m : List ℕ) → length m ≡ e - at → take at l ++ (m ++ drop (e - at) (drop at l)) ≡ window at (e - at) (λ j. get_or m j 0) l
unfolding window
part_window at e l m long =
    ap₂ (λ (x y : List ℕ). take at l ++ (x ++ y)) (sym (tab_get_or m) ∙ ap (λ (n : ℕ). tab n (λ j. get_or m j 0)) long) (drop-drop (e - at) at l)

front_window : (e : ℕ) (l m : List ℕ) → length m ≡ e → m ++ drop e l ≡ window 0 e (λ j. get_or m j 0) l
unfolding window
front_window e l m long =
    ap₂ (λ (x : List ℕ) (n : ℕ). x ++ drop n l) (sym (tab_get_or m) ∙ ap (λ (n : ℕ). tab n (λ j. get_or m j 0)) long) (sym (zero-add e))

-- the cells with the marks, and with what the preparation leaves

abbrev with_marks : ℕ → List ℕ → List ℕ → List ℕ
with_marks N cells marks = take (2 * N) cells ++ (marks ++ drop (3 * N - 2 * N) (drop (2 * N) cells))

abbrev with_front : ℕ → List ℕ → List ℕ → List ℕ
with_front N cells front = front ++ drop (4 * N - 0) cells

module _ (s : List ℕ) (good : layout_checks s ≡ the_result []) (laid marks : List ℕ) (long : length laid ≡ 8 * size_of (n_in s)) (is_marks : marks ≡ marks_in s (held_in s)) where
  marked_cells : List ℕ
  marked_cells = with_marks (size_of (n_in s)) laid marks

  third : 3 * size_of (n_in s) - 2 * size_of (n_in s) ≡ size_of (n_in s)
  third = omega arith

  marks_size : length marks ≡ 3 * size_of (n_in s) - 2 * size_of (n_in s)
  marks_size = ap length is_marks ∙ marks_long s (held_in s) ∙ sym third

  marked_window : marked_cells ≡ window (2 * size_of (n_in s)) (3 * size_of (n_in s) - 2 * size_of (n_in s)) (λ j. get_or marks j 0) laid
  unfolding marked_cells
  marked_window = part_window (2 * size_of (n_in s)) (3 * size_of (n_in s)) laid marks marks_size

  marked_long : length marked_cells ≡ 8 * size_of (n_in s)
  marked_long = ap length marked_window ∙ window_length (2 * size_of (n_in s)) _ (λ j. get_or marks j 0) laid (omega (arith, third, long)) ∙ long

  marks_there : take (size_of (n_in s)) (drop (2 * size_of (n_in s)) (take (4 * size_of (n_in s) - 0) marked_cells)) ≡ marks_in s (held_in s)
  marks_there = ext_get_or 0 _ _ (size ∙ sym (marks_long s (held_in s))) each
    where
      size : length (take (size_of (n_in s)) (drop (2 * size_of (n_in s)) (take (4 * size_of (n_in s) - 0) marked_cells))) ≡ size_of (n_in s)
      size =
          length-take-le (size_of (n_in s)) _
          (omega (arith, length-drop (2 * size_of (n_in s)) (take (4 * size_of (n_in s) - 0) marked_cells), length-take-le (4 * size_of (n_in s) - 0) marked_cells (omega (arith, marked_long))))

      each : (i : ℕ) → i < length (take (size_of (n_in s)) (drop (2 * size_of (n_in s)) (take (4 * size_of (n_in s) - 0) marked_cells)))
          → get_or (take (size_of (n_in s)) (drop (2 * size_of (n_in s)) (take (4 * size_of (n_in s) - 0) marked_cells))) i 0 ≡ get_or (marks_in s (held_in s)) i 0
      each i h =
          let less : i < size_of (n_in s) = omega (arith, h, size) in
          get_or-take (size_of (n_in s)) _ i 0 less ∙ get_or-drop (2 * size_of (n_in s)) (take (4 * size_of (n_in s) - 0) marked_cells) i 0
          ∙ get_or-take (4 * size_of (n_in s) - 0) marked_cells (2 * size_of (n_in s) + i) 0 (omega (arith, less))
          ∙ ap (λ (l : List ℕ). get_or l (2 * size_of (n_in s) + i) 0) marked_window
          ∙ window_at (2 * size_of (n_in s)) (3 * size_of (n_in s) - 2 * size_of (n_in s)) i (λ j. get_or marks j 0) laid (omega (arith, third, less)) (omega (arith, long))
          ∙ ap (λ (l : List ℕ). get_or l i 0) is_marks

  points : missing_points (size_of (n_in s)) (take (size_of (n_in s)) (drop (2 * size_of (n_in s)) (take (4 * size_of (n_in s) - 0) marked_cells))) ≡ missing_in s
  unfolding missing_in
  points = ap (missing_points (size_of (n_in s))) marks_there

  -- made is what the preparation leaves of its part
  module _ (shadows : Shadows s (held_in s) laid) (made : List ℕ) (same : length made ≡ length (take (4 * size_of (n_in s) - 0) marked_cells)) where
    made_cells : List ℕ
    made_cells = with_front (size_of (n_in s)) marked_cells made

    half : 4 * size_of (n_in s) - 0 ≡ 4 * size_of (n_in s)
    half = omega arith

    made_window : made_cells ≡ window 0 (4 * size_of (n_in s) - 0) (λ j. get_or made j 0) marked_cells
    unfolding made_cells
    made_window = front_window (4 * size_of (n_in s) - 0) marked_cells made (same ∙ length-take-le (4 * size_of (n_in s) - 0) marked_cells (omega (arith, marked_long)))

    made_long : length made_cells ≡ 8 * size_of (n_in s)
    made_long = ap length made_window ∙ window_length 0 _ (λ j. get_or made j 0) marked_cells (omega (arith, half, marked_long)) ∙ marked_long

    -- in front, and behind
    made_front : (i : ℕ) → i < 4 * size_of (n_in s) → get_or made_cells i 0 ≡ get_or made i 0
    made_front i l =
        ap₂ (λ (l : List ℕ) (j : ℕ). get_or l j 0) made_window (sym (zero-add i))
        ∙ window_at 0 (4 * size_of (n_in s) - 0) i (λ j. get_or made j 0) marked_cells (omega (arith, half, l)) (omega arith)

    made_back : (i : ℕ) → 4 * size_of (n_in s) ≤ i → get_or made_cells i 0 ≡ get_or laid i 0
    made_back i l =
        ap (λ (l : List ℕ). get_or l i 0) made_window
        ∙ window_past 0 (4 * size_of (n_in s) - 0) i (λ j. get_or made j 0) marked_cells (omega (arith, half, l)) (omega arith)
        ∙ ap (λ (l : List ℕ). get_or l i 0) marked_window
        ∙ window_past (2 * size_of (n_in s)) (3 * size_of (n_in s) - 2 * size_of (n_in s)) i (λ j. get_or marks j 0) laid (omega (arith, third, l)) (omega (arith, long))

    module _ (count : ℕ) (prepared : Prepared (k_in s) (n_in s) (take (size_of (n_in s)) (drop (2 * size_of (n_in s)) (take (4 * size_of (n_in s) - 0) marked_cells))) count made)
        (now : List ℕ) (is : now ≡ window (4 * size_of (n_in s)) (size_of (n_in s)) (λ j. get_or made_cells j 0) made_cells) where
      count_is : count ≡ length (missing_in s)
      count_is = prepared.counted ∙ ap length points

      front : (i : ℕ) → i < 4 * size_of (n_in s) → get_or now i 0 ≡ get_or made i 0
      front i l =
          ap (λ (l : List ℕ). get_or l i 0) is ∙ window_before (4 * size_of (n_in s)) (size_of (n_in s)) i _ made_cells l (omega (arith, made_long)) ∙ made_front i l

      back : (i : ℕ) → 5 * size_of (n_in s) ≤ i → get_or now i 0 ≡ get_or laid i 0
      back i l =
          ap (λ (l : List ℕ). get_or l i 0) is
          ∙ window_past (4 * size_of (n_in s)) (size_of (n_in s)) i _ made_cells (omega (arith, l)) (omega (arith, made_long)) ∙ made_back i (omega (arith, l))

      weight : (j : ℕ) → j < size_of (n_in s) → get_or now (4 * size_of (n_in s) + j) 0 ≡ get_or (weights (size_of (n_in s)) (missing_in s)) j 0
      weight j l =
          ap (λ (l : List ℕ). get_or l (4 * size_of (n_in s) + j) 0) is
          ∙ window_at (4 * size_of (n_in s)) (size_of (n_in s)) j _ made_cells l (omega (arith, made_long))
          ∙ made_front j (omega (arith, l))
          ∙ sym (get_or-take (size_of (n_in s)) made j 0 l)
          ∙ ap (λ (l : List ℕ). get_or l j 0) (prepared.weighs ∙ ap (weights (size_of (n_in s))) points)

      inverse : 0 < length (missing_in s) → InversesBetween (size_of (n_in s)) (size_of (k_in s)) (missing_in s) (drop (2 * size_of (n_in s)) now)
      inverse lost =
          record {
            at = λ i l. subst (λ (x : ℕ). size_of (n_in s) * size_of (k_in s) * value (vanishing (missing_in s)) (between (size_of (n_in s)) (size_of (k_in s)) i) * x ≈ 1)
                (get_or-drop (2 * size_of (n_in s)) made i 0 ∙ sym (front (2 * size_of (n_in s) + i) (omega (arith, l, size_order s good))) ∙ sym (get_or-drop (2 * size_of (n_in s)) now i 0))
                ((subst (λ (zs : List ℕ). InversesBetween (size_of (n_in s)) (size_of (k_in s)) zs (drop (2 * size_of (n_in s)) made)) points (prepared.inverses (omega (arith, lost, count_is)))).at i l);
          }

      laid_first : (count ≡ length (missing_in s)) × Laid s 0 now
      unfolding bundle_work
      laid_first = (
        count_is,
        record {
          fixed = record {
            long = ap length is ∙ window_length (4 * size_of (n_in s)) (size_of (n_in s)) _ made_cells (omega (arith, made_long)) ∙ made_long;
            inverses = inverse;
            powers = λ j l. front (3 * size_of (n_in s) + j) (omega (arith, l)) ∙ power_at (size_of (n_in s)) made prepared.table j l;
            weighs = weight;
            words = λ t h. back (5 * size_of (n_in s) + t) (omega arith) ∙ shadows.words t h;
            positions = λ t h. back (7 * size_of (n_in s) + t) (omega arith) ∙ shadows.positions t h;
          };
          cursors = λ t h. back (6 * size_of (n_in s) + t) (omega arith) ∙ shadows.cursors t h;
        },
      )

-- The same with k, n and N as the code has them

module _ (s : List ℕ) (good : layout_checks s ≡ the_result []) where
  pub marks_room : (size : ℕ) (cells : List ℕ) → size ≡ size_of (n_in s) → length cells ≡ 8 * size → length (take (3 * size - 2 * size) (drop (2 * size) cells)) ≡ size_of (n_in s)
  marks_room size cells is long = length-take-le (3 * size - 2 * size) (drop (2 * size) cells) (omega (arith, long, length-drop (2 * size) cells)) ∙ omega (arith, is)

  module _ (k n size : ℕ) (first : k ≡ k_in s) (second : n ≡ n_in s) (third : size ≡ size_of n) where
    pub prepare_asked : (cells marks : List ℕ) → length cells ≡ 8 * size → marks ≡ marks_in s (held_in s) → k_in s ≤ held_in s
        → (bad_shape k n ≡ false) × (length (take (4 * size - 0) (with_marks size cells marks)) ≡ 4 * size_of n)
        × (length (missing_points (size_of n) (take (size_of n) (drop (2 * size_of n) (take (4 * size - 0) (with_marks size cells marks))))) < size_of n)
    prepare_asked =
        rw (third, first, second)
        (λ cells marks long is enough.
        (shape_passed s good, front_room cells marks long is, fewer cells marks long is enough))
      where
        front_room : (cells marks : List ℕ) → length cells ≡ 8 * size_of (n_in s) → marks ≡ marks_in s (held_in s)
            → length (take (4 * size_of (n_in s) - 0) (with_marks (size_of (n_in s)) cells marks)) ≡ 4 * size_of (n_in s)
        front_room cells marks long is =
            unfold marked_cells in
            length-take-le (4 * size_of (n_in s) - 0) _ (omega (arith, marked_long s good cells marks long is)) ∙ omega arith

        fewer : (cells marks : List ℕ) → length cells ≡ 8 * size_of (n_in s) → marks ≡ marks_in s (held_in s) → k_in s ≤ held_in s
            → length (missing_points (size_of (n_in s)) (take (size_of (n_in s)) (drop (2 * size_of (n_in s)) (take (4 * size_of (n_in s) - 0) (with_marks (size_of (n_in s)) cells marks))))) < size_of (n_in s)
        fewer cells marks long is enough =
            unfold marked_cells in
            subst (λ (zs : List ℕ). length zs < size_of (n_in s)) (sym (points s good cells marks long is)) (missing_fewer s good (omega (arith, enough, k_some s good)))

    pub marked_room : (cells marks : List ℕ) → length cells ≡ 8 * size → marks ≡ marks_in s (held_in s) → length (with_marks size cells marks) ≡ 8 * size
    unfolding marked_cells
    marked_room = rw (third, second) (λ cells marks long is. marked_long s good cells marks long is)

    pub made_room : (cells marks made : List ℕ) → length cells ≡ 8 * size → marks ≡ marks_in s (held_in s) → Shadows s (held_in s) cells
        → length made ≡ length (take (4 * size - 0) (with_marks size cells marks)) → length (with_front size (with_marks size cells marks) made) ≡ 8 * size
    unfolding marked_cells made_cells
    made_room = rw (third, second) (λ cells marks made long is shadows same. made_long s good cells marks long is shadows made same)

    pub laid_start : (cells marks made : List ℕ) → length cells ≡ 8 * size → marks ≡ marks_in s (held_in s) → Shadows s (held_in s) cells
        → length made ≡ length (take (4 * size - 0) (with_marks size cells marks)) → (count : ℕ)
        → Prepared k n (take (size_of n) (drop (2 * size_of n) (take (4 * size - 0) (with_marks size cells marks)))) count made → (now : List ℕ)
        → now ≡ take (4 * size) (with_front size (with_marks size cells marks) made)
        ++ (tab size (λ j. get_or (with_front size (with_marks size cells marks) made) j 0) ++ drop (4 * size + size) (with_front size (with_marks size cells marks) made))
        → (count ≡ length (missing_in s)) × Laid s 0 now
    unfolding marked_cells made_cells window
    laid_start =
        rw (third, first, second)
        (λ cells marks made long is shadows same count prepared now kept. laid_first s good cells marks long is shadows made same count prepared now kept)
