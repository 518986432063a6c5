-- What a bundle of good layout holds for a block: it can be decoded, and is gathered as decoding takes it.
-- Assumes nothing.
use mathlib.Core.Path.{◌≡◌, sym, ap, ap₂, ◌∙◌}
use mathlib.Core.List.{List, []}
use Prim.Native.Nat.{ℕ, ◌<◌, ◌≤◌}
use native.Mathlib.Omega.{arith}
use lib.ListN.{length, get_or, drop}
use Rattle.field.specs.Field.{product}
use Rattle.answers.specs.Refusals.{the_result}
use Rattle.field.specs.Size.{size_of}
use Rattle.poly.proofs.Symbols.{tab_symbols}
use Rattle.lists.proofs.Tab.{tab_length, tab_at}
use Rattle.code.specs.Held.{held}
use Rattle.code.specs.Decodable.{Decodable}
use Rattle.decode_missing.specs.Marks.{Marks}
use Rattle.decode_missing.specs.Missing.{missing_points}
use Rattle.decode_missing.specs.Weights.{weights, Weighted}
use Rattle.bundle_storage.specs.Bytes.{Bytes}
use Rattle.bundle_layout.specs.Fields.{k_in, n_in, held_in, position_in, count_in, offset_in}
use Rattle.bundle_layout.specs.Layout.{layout_checks}
use Rattle.bundle_storage.proofs.BytesLaws.{bytes_drop}
use Rattle.bundle_layout.proofs.Passing.{shape_passed, position_below, position_after}
use Rattle.bundle_storage.proofs.Theorems.{symbols_read}
use Rattle.bundle_gather.specs.Gathering.{marks_in, missing_in, weighted_held, Gathered}
use Rattle.bundle_gather.proofs.Marking.{position_inside, marked}
use Rattle.bundle_read.specs.Reading.{symbol_held, held_at}

module _ (s : List ℕ) (b : ℕ) where
  pub held_count_lem : length (held_at s b).positions ≡ held_in s
  unfolding held_at held
  held_count_lem = tab_length (held_in s) (position_in s)

  pub held_position : (j : ℕ) → j < held_in s → get_or (held_at s b).positions j 0 ≡ position_in s j
  unfolding held_at held
  held_position j h = tab_at (held_in s) (position_in s) j h

  pub held_value : (j : ℕ) → j < held_in s → get_or (held_at s b).values j 0 ≡ symbol_held s b j
  unfolding held_at held
  held_value j h = tab_at (held_in s) (symbol_held s b) j h

  symbol_held_lem : Bytes s → (t : ℕ) → symbol_held s b t < 65537
  unfolding symbol_held
  symbol_held_lem bytes t = symbols_read (count_in s t) b (drop (offset_in s t) s) (bytes_drop (offset_in s t) s bytes)

  pub held_decodable : Bytes s → layout_checks s ≡ the_result [] → k_in s ≤ held_in s → Decodable (k_in s) (n_in s) (held_at s b)
  unfolding held_at held
  held_decodable bytes good enough =
      record {
        shape = shape_passed s good;
        paired = held_count_lem ∙ sym (tab_length (held_in s) (symbol_held s b));
        enough = omega (arith, held_count_lem);
        inside =
            λ i h. let less : i < held_in s = omega (arith, held_count_lem) in omega (arith, held_position i less, position_below s good i less);
        apart =
            λ i j h l e. let less : j < held_in s = omega (arith, held_count_lem) in
            omega (arith, held_position i (omega arith), held_position j less, position_after s good i j h less);
        symbols = tab_symbols (held_in s) (symbol_held s b) (λ i h. symbol_held_lem bytes i);
      }

  pub held_marked : layout_checks s ≡ the_result [] → Marks (size_of (n_in s)) (held_at s b).positions (marks_in s (held_in s))
  unfolding held_at held
  held_marked good = marked s good

  -- list is the front of the cells into which the block is gathered
  pub weighted : layout_checks s ≡ the_result [] → (cells : List ℕ) → Gathered s b (held_in s) cells → (list : List ℕ) → length list ≡ size_of (n_in s)
      → ((i : ℕ) → i < size_of (n_in s) → get_or list i 0 ≡ get_or cells i 0) → Weighted (size_of (n_in s)) (marks_in s (held_in s)) (held_at s b) list
  unfolding missing_in weighted_held symbol_held
  weighted good cells gathered list long same =
      record {
        long = long;
        at = λ t l. let h : t < held_in s = omega (arith, l, held_count_lem) in
            ap (λ (j : ℕ). get_or list j 0) (held_position t h) ∙ same (position_in s t) (position_inside s good t h) ∙ gathered.at t h
            ∙ ap₂ (λ (x j : ℕ). product x (get_or (weights (size_of (n_in s)) (missing_points (size_of (n_in s)) (marks_in s (held_in s)))) j 0)) (sym (held_value t h)) (sym (held_position t h));
        none = λ j l free. same j l ∙ gathered.none j l free;
      }
