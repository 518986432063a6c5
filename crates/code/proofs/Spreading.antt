-- The code word by one transform: the message as the first of N coefficients, transformed, and the first n values kept.
-- Assumes nothing.
use mathlib.Core.Path.{◌≡◌, refl, subst, sym, ap, ap₂, ◌∙◌}
use mathlib.Core.List.{List, ◌++◌, append-nil}
use Prim.Native.Nat.{ℕ, ◌-◌, ◌*◌, ◌^◌, ◌%◌, ◌<◌, ◌≤◌}
use native.Mathlib.Nat.{le_of_eq, le_trans, lt_of_lt_of_le}
use native.Mathlib.Omega.{arith}
use lib.Dec.{lit<}
use lib.ListN.{length, get_or, take, drop, replicate, length-append, length-drop, length-replicate, drop_of_length-le}
use lib.Seq.{length-take-le, take_at, take-append-le, get_or-take, ext_get_or}
use Rattle.answers.specs.Leaves.{written}
use Rattle.field.specs.Points.{point_of}
use Rattle.field.specs.Size.{level_of, size_of}
use Rattle.answers.proofs.Leaves.{lent_length}
use Rattle.limits.proofs.Shape.{shape_good, longest_le}
use Rattle.field.proofs.Sizes.{level_le, size_power, size_enough}
use Rattle.poly.specs.Value.{value}
use Rattle.lists.proofs.Every.{every_replicate}
use Rattle.poly.proofs.Symbols.{symbols_at, append_symbols}
use Rattle.lists.proofs.Tab.{tab_length, tab_at}
use Rattle.poly.proofs.Values.{value_append, value_zeros}
use Rattle.transform_halving.specs.Transformable.{Transformable}
use Rattle.transform_halving.specs.Transform.{transform_of}
use Rattle.transform_halving.proofs.Transformable.{transformable_of}
use Rattle.transform_halving.proofs.Theorems.{transform_is_value, transform_symbols}
use Rattle.code.specs.Code.{symbol_of, code_word}
use Rattle.code.specs.Codable.{Codable}
use Rattle.code.specs.Rooms.{encode_work}
use Rattle.code.proofs.Meeting.{polynomial_is}

-- The message laid out: copied is what the cells hold after it is copied, cleared what the rest of them holds

pub laid : (message cells copied cleared : List ℕ) → length message ≤ length cells → copied ≡ written message cells
    → cleared ≡ replicate (length (take (length copied - length message) (drop (length message) copied))) 0
    → take (length message) copied ++ (cleared ++ drop (length copied - length message) (drop (length message) copied))
    ≡ message ++ replicate (length cells - length message) 0
laid message cells copied cleared enough is zeros =
    ap₂ ◌++◌ front
    (ap₂ ◌++◌ (zeros ∙ ap (λ (m : ℕ). replicate m 0) {x = length (take (length copied - length message) (drop (length message) copied))} {y = length cells - length message} rest)
    (drop_of_length-le (drop (length message) copied) {i = length copied - length message} (omega (arith, length-drop (length message) copied)))
    ∙ append-nil _)
  where
    front : take (length message) copied ≡ message
    front = ap (take (length message)) is ∙ take_at message _ (length message) refl

    long : length copied ≡ length cells
    long =
        ap length is ∙ length-append message (drop (length message) cells)
        ∙ omega (arith, length-drop (length message) cells)

    rest : length (take (length copied - length message) (drop (length message) copied)) ≡ length cells - length message
    rest =
        length-take-le (length copied - length message) (drop (length message) copied) (omega (arith, length-drop (length message) copied))
        ∙ ap (◌- length message) long

-- The transform of it

module _ (n : ℕ) (message : List ℕ) (good : Codable n message) where
  pub n_fits : n ≤ size_of n
  n_fits = size_enough n (le_trans (shape_good _ n good.shape).2 longest_le)

  k_fits : length message ≤ size_of n
  k_fits = le_trans (shape_good _ n good.shape).1 n_fits

  -- the coefficients
  unfoldable pub full : List ℕ
  full = message ++ replicate (size_of n - length message) 0

  full_length : length full ≡ size_of n
  unfolding full
  full_length =
      length-append message (replicate (size_of n - length message) 0)
      ∙ omega (arith, k_fits, length-replicate {A = ℕ} (size_of n - length message) 0)

  pub full_transformable : Transformable full
  unfolding full
  full_transformable =
      transformable_of (level_of n) (level_le n) full (full_length ∙ size_power n)
      (append_symbols message _ good.symbols (symbols_at _ (every_replicate (◌< 65537) (size_of n - length message) 0 (lit< tt))))

  full_value : (x : ℕ) → value full x ≡ value message x
  unfolding full
  full_value x =
      omega (
        arith,
        value_append message (replicate (size_of n - length message) 0) x,
        ap (x ^ length message *◌) (value_zeros (size_of n - length message) x),
      )

  pub kept_front : take n (transform_of full) ≡ code_word n message
  unfolding code_word symbol_of
  kept_front =
      ext_get_or 0 (take n (transform_of full)) (code_word n message) (long ∙ sym (tab_length n _))
      (λ i l. at i (lt_of_lt_of_le l (le_of_eq long)))
    where
      whole : length (transform_of full) ≡ size_of n
      whole = (transform_symbols full).0 ∙ full_length

      long : length (take n (transform_of full)) ≡ n
      long = length-take-le n (transform_of full) (omega (arith, n_fits, whole))

      at : (i : ℕ) → i < n → get_or (take n (transform_of full)) i 0 ≡ get_or (code_word n message) i 0
      at i l =
          get_or-take n (transform_of full) i 0 l
          ∙ transform_is_value full i (omega (arith, n_fits, full_length))
          ∙ ap (◌% 65537)
          (full_value (point_of (length full) i)
          ∙ ap₂ (λ (f : List ℕ) (N : ℕ). value f (point_of N i)) (sym (polynomial_is message)) full_length)
          ∙ sym (tab_at n _ i l)

-- In the cells themselves: S is N, and e and f are what the two parts that are lent hold afterwards

module _ (n S : ℕ) (message cells : List ℕ) (good : Codable n message) (size : S ≡ size_of n) (long : length cells ≡ encode_work n) where
  part_length : length (take (S - 0) cells) ≡ size_of n
  unfolding encode_work
  part_length = lent_length S (size_of n) cells size (omega arith)

  pub message_fits : length message ≤ length (take (S - 0) cells)
  message_fits = omega (arith, part_length, k_fits n message good)

  module _ (e : List ℕ) (laid_out : e ≡ message ++ replicate (length (take (S - 0) cells) - length message) 0) where
    e_full : e ≡ full n message good
    unfolding full
    e_full = laid_out ∙ ap (λ (m : ℕ). message ++ replicate (m - length message) 0) part_length

    e_length : length e ≡ S - 0
    e_length = ap length e_full ∙ full_length n message good ∙ omega arith

    pub still_room : S ≤ length (e ++ drop (S - 0) cells)
    still_room = omega (arith, length-append e (drop (S - 0) cells), e_length)

    part_full : take (S - 0) (e ++ drop (S - 0) cells) ≡ full n message good
    part_full = take_at e _ (S - 0) e_length ∙ e_full

    pub part_transformable : Transformable (take (S - 0) (e ++ drop (S - 0) cells))
    part_transformable = subst Transformable (sym part_full) (full_transformable n message good)

    module _ (f : List ℕ) (is : f ≡ transform_of (take (S - 0) (e ++ drop (S - 0) cells))) where
      f_is : f ≡ transform_of (full n message good)
      f_is = is ∙ ap transform_of part_full

      f_length : length f ≡ size_of n
      f_length = ap length f_is ∙ (transform_symbols (full n message good)).0 ∙ full_length n message good

      pub word : take (n - 0) (f ++ drop (S - 0) (e ++ drop (S - 0) cells)) ≡ code_word n message
      word =
          take-append-le (n - 0) f _ (omega (arith, f_length, n_fits n message good))
          ∙ ap₂ take {x = n - 0} {y = n} (omega arith) f_is
          ∙ kept_front n message good

      pub cells_length : length (f ++ drop (S - 0) (e ++ drop (S - 0) cells)) ≡ encode_work n
      unfolding encode_work
      cells_length =
          length-append f _
          ∙ omega (
            arith,
            f_length,
            length-drop (S - 0) (e ++ drop (S - 0) cells),
            length-append e (drop (S - 0) cells),
            e_length,
            length-drop (S - 0) cells,
            long,
          )

      pub word_inside : n ≤ length (f ++ drop (S - 0) (e ++ drop (S - 0) cells))
      word_inside = omega (arith, length-append f (drop (S - 0) (e ++ drop (S - 0) cells)), f_length, n_fits n message good)

      pub word_fits : (out : List ℕ) → n ≤ length out → length (take (n - 0) (f ++ drop (S - 0) (e ++ drop (S - 0) cells))) ≤ length out
      unfolding code_word
      word_fits out enough = omega (arith, ap length word, tab_length n (symbol_of n message))
