-- The gathered symbols of a block are what division asks for, and what it finds is the message that fits them.
-- Assumes nothing.
use mathlib.Core.Path.{◌≡◌, refl, subst, sym, ap, ◌∙◌}
use mathlib.Core.Bool.{Bool, true, false, cond}
use mathlib.Core.List.{List, [], ◌++◌}
use mathlib.Core.Option.{some, none}
use Prim.Native.Nat.{ℕ, suc, ◌+◌, ◌*◌, ◌-◌, ◌<◌, ◌≤◌}
use native.Mathlib.Decide.{ℕ_discrete}
use native.Mathlib.Omega.{arith}
use lib.ListN.{length, get_or, take, drop, length-append, length-drop, take-append-drop}
use lib.Seq.{length-take-le, get_or-take, get_or-drop, take-append-le, drop-append-le, ext_get_or}
use Rattle.field.specs.Congruence.{◌≈◌}
use Rattle.field.specs.Field.{power}
use Rattle.answers.specs.Refusals.{the_result}
use Rattle.limits.specs.Shape.{bad_shape}
use Rattle.field.specs.Size.{size_of}
use Rattle.field.specs.Symbol.{Symbols}
use Rattle.field.proofs.Ring.{product_lt}
use Rattle.limits.proofs.Shape.{shape_good, level_twice}
use Rattle.field.proofs.Sizes.{size_size}
use Rattle.poly.specs.Products.{vanishing}
use Rattle.lists.specs.Tab.{tab}
use Rattle.poly.specs.Value.{value}
use Rattle.lists.proofs.Tab.{tab_length, tab_at}
use Rattle.code.specs.Meeting.{message_of}
use Rattle.code.proofs.Decoding.{decodes_fitting}
use Rattle.code.proofs.Meeting.{message_is}
use Rattle.decode_between.specs.Between.{psi, between}
use Rattle.decode_between.specs.Foldable.{Foldable}
use Rattle.decode_between.proofs.Foldable.{room_of}
use Rattle.decode_divide.specs.Dividing.{ZeroAt, Divided}
use Rattle.decode_divide.specs.Quotients.{InversesBetween}
use Rattle.decode_missing.specs.Weights.{Weighted}
use Rattle.decode_missing.proofs.Fitting.{counted, missing_in_lem, decodes}
use Rattle.bundle_storage.specs.Bytes.{Bytes}
use Rattle.bundle_layout.specs.Fields.{k_in, n_in, held_in}
use Rattle.bundle_layout.specs.Layout.{layout_checks}
use Rattle.bundle_layout.proofs.Passing.{shape_passed, n_limited}
use Rattle.bundle_gather.specs.Gathering.{marks_in, missing_in, Laid, Gathered}
use Rattle.bundle_gather.proofs.Gathering.{cells_long}
use Rattle.bundle_gather.proofs.Kept.{n_in_size, size_order, laid_kept}
use Rattle.bundle_read.specs.Reading.{held_at, decoded_at}
use Rattle.bundle_read.proofs.HeldBlocks.{held_decodable, held_marked, weighted}

-- a part in front that is changed only before an index
front_kept : (m e : ℕ) (cells part : List ℕ) → m ≤ e → e ≤ length cells → length part ≡ length (take e cells) → drop m part ≡ drop m (take e cells)
    → drop m (part ++ drop e cells) ≡ drop m cells
front_kept m e cells part le inside same kept =
    drop-append-le m part (drop e cells) (omega (arith, same, length-take-le e cells inside))
    ∙ ap (◌++ drop e cells) kept
    ∙ sym (drop-append-le m (take e cells) (drop e cells) (omega (arith, length-take-le e cells inside)))
    ∙ ap (drop m) (take-append-drop e cells)

module _ (s : List ℕ) (b : ℕ) (cells : List ℕ) (bytes : Bytes s) (good : layout_checks s ≡ the_result []) (enough : k_in s ≤ held_in s)
    (laid : Laid s (suc b) cells) (gathered : Gathered s b (held_in s) cells) where
  -- what is lent to division, and the values in it
  part : List ℕ
  part = take (4 * size_of (n_in s) - 0) cells

  list : List ℕ
  list = take (size_of (n_in s)) part

  room : length cells ≡ 8 * size_of (n_in s)
  room = cells_long s good (size_of (n_in s)) cells refl laid.fixed.long

  part_long : length part ≡ 4 * size_of (n_in s)
  unfolding part
  part_long = length-take-le (4 * size_of (n_in s) - 0) cells (omega (arith, room)) ∙ omega arith

  part_at : (i : ℕ) → i < 4 * size_of (n_in s) → get_or part i 0 ≡ get_or cells i 0
  unfolding part
  part_at i l = get_or-take (4 * size_of (n_in s) - 0) cells i 0 (omega (arith, l))

  list_long : length list ≡ size_of (n_in s)
  unfolding list
  list_long = length-take-le (size_of (n_in s)) part (omega (arith, part_long))

  list_weighted : Weighted (size_of (n_in s)) (marks_in s (held_in s)) (held_at s b) list
  unfolding list
  list_weighted =
      weighted s b good cells gathered list list_long (λ i l. get_or-take (size_of (n_in s)) part i 0 l ∙ part_at i (omega (arith, l)))

  list_symbols : Symbols list
  list_symbols i h =
      elim (ℕ_discrete (get_or (marks_in s (held_in s)) i 0) 0) [
        | yes free ↦ omega (arith, list_weighted.none i inside free)
        | no held ↦ product_there ((held_marked s b good).only i inside held)
      ]
    where
      inside : i < size_of (n_in s)
      inside = omega (arith, h, list_long)

      product_there : ((t : ℕ) × (t < length (held_at s b).positions) × (get_or (held_at s b).positions t 0 ≡ i)) → get_or list i 0 < 65537
      product_there (t, l, is) = subst (λ (j : ℕ). get_or list j 0 < 65537) is (subst (λ (x : ℕ). x < 65537) (sym (list_weighted.at t l)) (product_lt _ _))

  foldable : Foldable (size_of (n_in s)) (size_of (k_in s)) part
  unfolding list
  foldable =
      room_of (k_in s) (n_in s) part (shape_passed s good)
      (record {
        long = part_long;
        N_power = size_size (n_in s);
        N_root = level_twice (n_in s) (n_limited s good);
        powers = ext_get_or 0 _ _ powers_long powers;
      })
      list_symbols
    where
      powers_long : length (drop (3 * size_of (n_in s)) part) ≡ length (tab (size_of (n_in s)) (power (psi (size_of (n_in s)))))
      powers_long = omega (arith, length-drop (3 * size_of (n_in s)) part, part_long, tab_length (size_of (n_in s)) (power (psi (size_of (n_in s)))))

      powers : (i : ℕ) → i < length (drop (3 * size_of (n_in s)) part) → get_or (drop (3 * size_of (n_in s)) part) i 0 ≡ get_or (tab (size_of (n_in s)) (power (psi (size_of (n_in s))))) i 0
      powers i h =
          let inside : i < size_of (n_in s) = omega (arith, h, length-drop (3 * size_of (n_in s)) part, part_long) in
          get_or-drop (3 * size_of (n_in s)) part i 0 ∙ part_at (3 * size_of (n_in s) + i) (omega (arith, inside)) ∙ laid.fixed.powers i inside
          ∙ sym (tab_at (size_of (n_in s)) (power (psi (size_of (n_in s)))) i inside)

  inverses : 0 < length (missing_in s) → InversesBetween (size_of (n_in s)) (size_of (k_in s)) (missing_in s) (drop (2 * size_of (n_in s)) part)
  inverses lost =
      record {
        at = λ i l. subst (λ (x : ℕ). size_of (n_in s) * size_of (k_in s) * value (vanishing (missing_in s)) (between (size_of (n_in s)) (size_of (k_in s)) i) * x ≈ 1)
            (get_or-drop (2 * size_of (n_in s)) cells i 0 ∙ sym (part_at (2 * size_of (n_in s) + i) (omega (arith, l, size_order s good))) ∙ sym (get_or-drop (2 * size_of (n_in s)) part i 0))
            ((laid.fixed.inverses lost).at i l);
      }

  few : length (missing_in s) ≤ size_of (n_in s)
  unfolding missing_in
  few = omega (arith, counted (k_in s) (n_in s) (held_at s b) (held_decodable s b bytes good enough) (marks_in s (held_in s)) (held_marked s b good))

  decoded_there : (found : Bool) (after : List ℕ)
      → ((zs : List ℕ) → length zs ≡ length (missing_in s) → ZeroAt (k_in s) zs list → (0 < length (missing_in s) → InversesBetween (size_of (n_in s)) (size_of (k_in s)) zs (drop (2 * size_of (n_in s)) part)) → Divided found (k_in s) zs list (take (k_in s) after))
      → decoded_at s b ≡ cond found (some (message_of (take (k_in s) after))) none
  unfolding decoded_at
  decoded_there found after told =
      decodes (k_in s) (n_in s) (held_at s b) (held_decodable s b bytes good enough) (marks_in s (held_in s)) (held_marked s b good) list list_weighted found (take (k_in s) after)
      (unfold missing_in in told (missing_in s) refl (missing_in_lem (k_in s) (n_in s) (held_at s b) (held_decodable s b bytes good enough) (marks_in s (held_in s)) (held_marked s b good) list list_weighted) inverses)

  -- k, n, N and how many positions are missing, as the code has them
  module _ (k n size missing : ℕ) (first : k ≡ k_in s) (second : n ≡ n_in s) (third : size ≡ size_of n) (fourth : missing ≡ length (missing_in s)) where
    size_read : size ≡ size_of (n_in s)
    size_read = third ∙ ap size_of second

    pub divide_asked : (bad_shape k n ≡ false) × Foldable (size_of n) (size_of k) (take (4 * size - 0) cells) × (missing ≤ size_of n)
    unfolding part
    divide_asked = rw (third, first, second, fourth) (shape_passed s good, foldable, few)

    pub part_inside : 4 * size ≤ length cells
    part_inside = omega (arith, room, size_read)

    message_inside : k ≤ 4 * size
    message_inside = omega (arith, first, size_read, n_in_size s good, (shape_good (k_in s) (n_in s) (shape_passed s good)).1)

    -- after is what division leaves of its part
    module _ (after : List ℕ) (same : length after ≡ length (take (4 * size - 0) cells)) where
      after_long : length after ≡ 4 * size
      after_long = same ∙ length-take-le (4 * size - 0) cells (omega (arith, room, size_read)) ∙ omega arith

      pub cells_kept : length (after ++ drop (4 * size - 0) cells) ≡ length cells
      cells_kept = length-append after (drop (4 * size - 0) cells) ∙ omega (arith, after_long, length-drop (4 * size - 0) cells, room, size_read)

      pub message_there : k ≤ length (after ++ drop (4 * size - 0) cells)
      message_there = omega (arith, cells_kept, part_inside, message_inside)

      pub laid_after : drop (2 * size_of n) after ≡ drop (2 * size_of n) (take (4 * size - 0) cells) → Laid s (suc b) (after ++ drop (4 * size - 0) cells)
      laid_after kept =
          laid_kept s good cells (after ++ drop (4 * size - 0) cells) cells_kept (suc b)
          (subst (λ (m : ℕ). drop (2 * size_of m) (after ++ drop (4 * size - 0) cells) ≡ drop (2 * size_of m) cells) second
          (front_kept (2 * size_of n) (4 * size - 0) cells after (omega (arith, third)) (omega (arith, room, size_read)) same kept))
          laid

      module _ (found : Bool)
          (told : (zs : List ℕ) → length zs ≡ missing → ZeroAt k zs (take (size_of n) (take (4 * size - 0) cells)) → (0 < missing → InversesBetween (size_of n) (size_of k) zs (drop (2 * size_of n) (take (4 * size - 0) cells))) → Divided found k zs (take (size_of n) (take (4 * size - 0) cells)) (take k after)) where
        decoded : decoded_at s b ≡ cond found (some (message_of (take k after))) none
        unfolding part list
        decoded = rw first (decoded_there found after (rw (third, first, second, fourth) at told))

        pub none_decoded : found ≡ false → decoded_at s b ≡ none
        none_decoded e = decoded ∙ ap (λ (x : Bool). cond x (some (message_of (take k after))) none) e

        pub message_decoded : found ≡ true → decoded_at s b ≡ some (take (k - 0) (after ++ drop (4 * size - 0) cells))
        message_decoded e =
            decoded ∙ ap (λ (x : Bool). cond x (some (message_of (take k after))) none) e
            ∙ ap some (message_is (take k after) ∙ sym (take-append-le k after (drop (4 * size - 0) cells) (omega (arith, after_long, message_inside))) ∙ ap (λ (z : ℕ). take z (after ++ drop (4 * size - 0) cells)) {x = k} {y = k - 0} (omega arith))

        pub message_good : found ≡ true
            → (length (take (k - 0) (after ++ drop (4 * size - 0) cells)) ≡ k_in s) × Symbols (take (k - 0) (after ++ drop (4 * size - 0) cells))
        unfolding decoded_at
        message_good e =
            let fits = (decodes_fitting (k_in s) (n_in s) (held_at s b) (held_decodable s b bytes good enough) (take (k - 0) (after ++ drop (4 * size - 0) cells))).0 (message_decoded e) in
            (fits.message.long, fits.message.symbols)
