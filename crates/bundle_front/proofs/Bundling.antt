-- The bundle that holds a file's shadows at rising positions is a bundle, and what it holds; and where the bodies of the whole one lie.
-- Assumes nothing.
use mathlib.Core.Path.{◌≡◌, refl, sym, ap, ap₂, ◌∙◌}
use mathlib.Core.Bool.{false}
use mathlib.Core.List.{List, [], ◌∷◌, ◌++◌, map, append-nil}
use Prim.Native.Nat.{ℕ, zero, suc, ◌+◌, ◌*◌, ◌<◌, ◌≤◌, zero-le}
use native.Mathlib.Nat.{mod-lt}
use native.Mathlib.Decide.{dec_lt}
use native.Mathlib.Omega.{arith}
use lib.Dec.{lit<}
use lib.ListN.{length, get_or, drop, length-map, get_or-append}
use lib.Seq.{get_or-drop}
use Rattle.code.specs.Code.{symbol_of}
use Rattle.bundle_layout.specs.Blocks.{blocks_of}
use Rattle.bundle_layout.specs.Shape.{bad_bundle_shape}
use Rattle.bundle_storage.specs.Bytes.{two, four}
use Rattle.bundle_layout.specs.Fields.{held_in, entry_at, position_in, count_in, offset_in}
use Rattle.bundle_layout.specs.Held.{up_to, positions_of, Stored, IsBundle}
use Rattle.bundle_storage.specs.Rising.{least}
use Rattle.bundle_layout.specs.Shadows.{Shadow, header_size, first_body, header, entry, bodies, bundle_of}
use Rattle.bundle_storage.specs.Storage.{count_of, body_of, body_size}
use Rattle.bundle_layout.proofs.Accepting.{header_length, passes, read_m, read_position, read_count, read_entry, read_offset, read_body, bundle_length}
use Rattle.bundle_storage.proofs.BytesLaws.{Alike, alike_front}
use Rattle.bundle_layout.proofs.Holding.{shadow_at, made_at, made_stored, all_length, all_at, offset_of, offset_next, offset_end}
use Rattle.bundle_layout.proofs.Passing.{bundle_shape_told, offset_is_start}
use Rattle.bundle_storage.proofs.RisingLaws.{InOrder, in_order_rises, rises_same}
use Rattle.bundle_storage.proofs.Storing.{overflow_count, body_long}
use Rattle.bundle_storage.proofs.Theorems.{body_stores}
use Rattle.bundle_file.specs.File.{Rising, symbol_at, shadow_of, bundle_at, file_bundle}
use Rattle.bundle_layout.specs.Rooms.{write_out}

pub symbol_small : (k n : ℕ) (file : List ℕ) (i b : ℕ) → symbol_at k n file i b < 65537
unfolding symbol_at symbol_of
symbol_small k n file i b = mod-lt _ (lit< tt)

-- The shadows at some positions

module _ (k n : ℕ) (file : List ℕ) where
  positions_are : (positions : List ℕ) → positions_of (map (shadow_of k n file) positions) ≡ positions
  unfolding positions_of shadow_of
  positions_are [] = refl
  positions_are (i ∷ positions) = ap (i ∷◌) (positions_are positions)

  shadow_stored : bad_bundle_shape k n (length file) ≡ false → (i : ℕ) → Stored (blocks_of k (length file)) (shadow_of k n file i)
  unfolding shadow_of
  shadow_stored shape i =
      let few = (bundle_shape_told k n (length file) shape).2 in
      let stores = body_stores (blocks_of k (length file)) (symbol_at k n file i) [] few (λ b h. symbol_small k n file i b) in
      record { long = stores.long; good = rw append-nil at stores.good; bytes = stores.bytes }

  module _ (positions : List ℕ) (shape : bad_bundle_shape k n (length file) ≡ false) (up : Rising n positions) where
    abbrev s : List ℕ
    s = bundle_at k n file positions

    abbrev hs : List Shadow
    hs = map (shadow_of k n file) positions

    pub file_is_bundle : IsBundle k n (length file) hs s
    unfolding bundle_at
    file_is_bundle =
        record {
          shape = shape;
          rising = rw (positions_are positions, length-map positions (shadow_of k n file)) up;
          stored = made_stored (shadow_of k n file) (blocks_of k (length file)) positions (λ t h. shadow_stored shape (get_or positions t 0));
          written = refl;
        }

    pub held_all : held_in s ≡ length positions
    held_all = read_m k n (length file) hs s file_is_bundle ∙ length-map positions (shadow_of k n file)

    module _ (t : ℕ) (h : t < length positions) where
      there : t < length hs
      there = omega (arith, length-map positions (shadow_of k n file))

      here : shadow_at hs t ≡ shadow_of k n file (get_or positions t 0)
      here = made_at (shadow_of k n file) positions t h

      pub position_held : position_in s t ≡ get_or positions t 0
      unfolding shadow_of
      position_held = read_position k n (length file) hs s file_is_bundle t there ∙ ap (λ (x : Shadow). x.position) here

      pub count_held : count_in s t ≡ count_of (blocks_of k (length file)) (symbol_at k n file (get_or positions t 0))
      unfolding shadow_of
      count_held = read_count k n (length file) hs s file_is_bundle t there ∙ ap (λ (x : Shadow). x.count) here

      pub body_held : drop (offset_in s t) s ≡ body_of (blocks_of k (length file)) (symbol_at k n file (get_or positions t 0)) ++ bodies (drop (suc t) hs)
      unfolding shadow_of
      body_held =
          ap (λ (m : ℕ). drop m s) (offset_is_start s (passes k n (length file) hs s file_is_bundle) t (omega (arith, held_all)))
          ∙ read_body k n (length file) hs s file_is_bundle t there
          ∙ ap (λ (x : Shadow). x.body ++ bodies (drop (suc t) hs)) here

-- All n of them

pub all_rise : (n : ℕ) → Rising n (up_to n)
unfolding least
all_rise n = rw (all_length n) (rises_same n n (λ t. t) _ (λ t h. sym (all_at n t h)) (in_order_rises n n (λ t. t) each))
  where
    each : (t : ℕ) → t < n → InOrder n (λ t. t) t
    each zero h = (zero-le, h)
    each (suc t) h = (omega arith, h)

unfoldable pub shadows : ℕ → ℕ → List ℕ → List Shadow
shadows k n file = map (shadow_of k n file) (up_to n)

-- where body i begins
unfoldable pub body_at : ℕ → ℕ → List ℕ → ℕ → ℕ
body_at k n file i = offset_of (first_body n) (shadows k n file) i

module _ (k n : ℕ) (file : List ℕ) where
  shadows_length : length (shadows k n file) ≡ n
  unfolding shadows
  shadows_length = length-map (up_to n) (shadow_of k n file) ∙ all_length n

  shadow_at_lem : (i : ℕ) → i < n → shadow_at (shadows k n file) i ≡ shadow_of k n file i
  unfolding shadows
  shadow_at_lem i h =
      made_at (shadow_of k n file) (up_to n) i (omega (arith, all_length n)) ∙ ap (shadow_of k n file) (all_at n i h)

  pub body_first : body_at k n file 0 ≡ first_body n
  unfolding body_at offset_of
  body_first = refl

  pub body_next : (i : ℕ) → i < n
      → body_at k n file (suc i) ≡ body_at k n file i + body_size (blocks_of k (length file)) (count_of (blocks_of k (length file)) (symbol_at k n file i))
  unfolding body_at shadow_of
  body_next i h =
      offset_next (first_body n) (shadows k n file) i (omega (arith, shadows_length))
      ∙ ap (λ (x : Shadow). body_at k n file i + length x.body) (shadow_at_lem i h)
      ∙ ap (body_at k n file i +◌) (body_long (blocks_of k (length file)) (symbol_at k n file i))

  pub body_le : (i : ℕ) → i ≤ n → body_at k n file i ≤ first_body n + 4 * (i * blocks_of k (length file))
  unfolding body_size
  body_le zero h = omega (arith, body_first)
  body_le (suc i) h = omega (arith, body_le i (omega arith), body_next i h, overflow_count (symbol_at k n file i) (blocks_of k (length file)))

  pub body_up : (i j : ℕ) → i ≤ j → j ≤ n → body_at k n file i ≤ body_at k n file j
  body_up i zero h l = omega (arith, ap (body_at k n file) {x = i} {y = 0} (omega arith))
  body_up i (suc j) h l =
      elim (dec_lt j i) [
        | yes same ↦ omega (arith, ap (body_at k n file) {x = i} {y = suc j} (omega arith))
        | no less ↦ omega (arith, body_up i j (omega arith) (omega arith), body_next j l)
      ]

  module _ (shape : bad_bundle_shape k n (length file) ≡ false) where
    is_bundle : IsBundle k n (length file) (shadows k n file) (file_bundle k n file)
    unfolding shadows file_bundle
    is_bundle = file_is_bundle k n file (up_to n) shape (all_rise n)

    pub bundle_header : Alike header_size (file_bundle k n file) 0 (header k n (length file) n) 0
    unfolding bundle_of
    bundle_header d l =
        ap (λ (s : List ℕ). get_or s (0 + d) 0) is_bundle.written
        ∙ alike_front header_size (header k n (length file) (length (shadows k n file))) _ 0
        (omega (arith, header_length k n (length file) (length (shadows k n file)) [])) d l
        ∙ ap (λ (m : ℕ). get_or (header k n (length file) m) (0 + d) 0) shadows_length

    pub bundle_end : length (file_bundle k n file) ≡ body_at k n file n
    unfolding body_at
    bundle_end =
        bundle_length k n (length file) (shadows k n file) (file_bundle k n file) is_bundle
        ∙ sym (offset_end (first_body (length (shadows k n file))) (shadows k n file))
        ∙ ap (λ (m : ℕ). offset_of (first_body m) (shadows k n file) m) shadows_length

    pub bundle_room : length (file_bundle k n file) ≤ write_out n (blocks_of k (length file))
    unfolding write_out
    bundle_room = omega (arith, bundle_end, body_le n (omega arith))

    module _ (i : ℕ) (h : i < n) where
      inside : i < length (shadows k n file)
      inside = omega (arith, shadows_length)

      pub bundle_count : count_in (file_bundle k n file) i ≡ count_of (blocks_of k (length file)) (symbol_at k n file i)
      unfolding file_bundle
      bundle_count =
          count_held k n file (up_to n) shape (all_rise n) i (omega (arith, all_length n))
          ∙ ap (λ (p : ℕ). count_of (blocks_of k (length file)) (symbol_at k n file p)) (all_at n i h)

      offset_is : offset_of (first_body (length (shadows k n file))) (shadows k n file) i ≡ body_at k n file i
      unfolding body_at
      offset_is = ap (λ (m : ℕ). offset_of (first_body m) (shadows k n file) i) shadows_length

      pub bundle_offset : offset_in (file_bundle k n file) i ≡ body_at k n file i
      bundle_offset = read_offset k n (length file) (shadows k n file) (file_bundle k n file) is_bundle i inside ∙ offset_is

      pub bundle_entry : Alike 8 (file_bundle k n file) (entry_at i)
          (two i ++ (two (count_of (blocks_of k (length file)) (symbol_at k n file i)) ++ four (body_at k n file i))) 0
      unfolding entry shadow_of
      bundle_entry d l =
          read_entry k n (length file) (shadows k n file) (file_bundle k n file) is_bundle i inside d l
          ∙ ap₂ (λ (x : Shadow) (off : ℕ). get_or (entry x off) (0 + d) 0) (shadow_at_lem i h) offset_is

      pub bundle_body : Alike (body_size (blocks_of k (length file)) (count_of (blocks_of k (length file)) (symbol_at k n file i)))
          (file_bundle k n file) (body_at k n file i) (body_of (blocks_of k (length file)) (symbol_at k n file i)) 0
      unfolding file_bundle shadows
      bundle_body d l =
          let B = blocks_of k (length file) in
          let body = body_of B (symbol_at k n file i) in
          let F = file_bundle k n file in
          sym (get_or-drop (body_at k n file i) F d 0)
          ∙ ap (λ (s : List ℕ). get_or s d 0)
          (ap (λ (m : ℕ). drop m F) (sym bundle_offset)
          ∙ body_held k n file (up_to n) shape (all_rise n) i (omega (arith, all_length n))
          ∙ ap (λ (p : ℕ). body_of B (symbol_at k n file p) ++ bodies (drop (suc i) (shadows k n file))) (all_at n i h))
          ∙ get_or-append body _ 0 d (omega (arith, body_long B (symbol_at k n file i)))
          ∙ ap (λ (m : ℕ). get_or body m 0) {x = d} {y = 0 + d} (omega arith)
