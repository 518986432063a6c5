-- The header and the table as they are written: each put is of the bundle's own bytes.
-- Assumes nothing.
use mathlib.Core.Path.{◌≡◌, refl, sym, ap, ap₂, ◌∙◌}
use mathlib.Core.Bool.{false}
use mathlib.Core.List.{List, [], ◌++◌}
use Prim.Native.Nat.{ℕ, ◌+◌, ◌<◌, ◌≤◌, zero-le}
use native.Mathlib.Decide.{dec_lt}
use native.Mathlib.Nat.{mul-le-mul}
use native.Mathlib.Numerals.{add-one}
use native.Mathlib.Omega.{arith}
use lib.ListN.{length, get_or}
use Rattle.bundle_layout.specs.Blocks.{blocks_of}
use Rattle.bundle_layout.specs.Shape.{bad_bundle_shape}
use Rattle.bundle_storage.specs.Bytes.{two, four, put}
use Rattle.bundle_layout.specs.Fields.{entry_at}
use Rattle.bundle_layout.specs.Mark.{mark}
use Rattle.bundle_layout.specs.Shadows.{header_size, entry_size, first_body, header}
use Rattle.bundle_storage.specs.Storage.{count_of, body_size}
use Rattle.bundle_layout.proofs.Accepting.{header_length}
use Rattle.bundle_storage.proofs.BytesLaws.{Alike}
use Rattle.bundle_layout.proofs.Holding.{limits}
use Rattle.bundle_storage.proofs.PutLaws.{put_more}
use Rattle.bundle_storage.proofs.Storing.{overflow_count}
use Rattle.bundle_file.specs.File.{symbol_at, file_bundle}
use Rattle.bundle_front.specs.Onward.{Stand, Onward}
use Rattle.bundle_front.proofs.Bundling.{body_at, body_first, body_next, body_le, body_up, bundle_end, bundle_header, bundle_entry}
use Rattle.bundle_front.proofs.Onward.{onward_more, put_stands, put_onward}

pub header_puts : (k n L : ℕ) (s : List ℕ)
    → put (two 0) 14 (put (two n) 12 (put (four L) 8 (put (two n) 6 (put (two k) 4 (put mark 0 s))))) ≡ put (header k n L n) 0 s
unfolding header mark four two
header_puts k n L s =
    let a = mark in
    let b = a ++ two k in
    let c = b ++ two n in
    let d = c ++ four L in
    ap (λ (t : List ℕ). put (two 0) 14 (put (two n) 12 (put (four L) 8 (put (two n) 6 t)))) (put_more a (two k) 0 4 s refl zero-le)
    ∙ ap (λ (t : List ℕ). put (two 0) 14 (put (two n) 12 (put (four L) 8 t))) (put_more b (two n) 0 6 s refl zero-le)
    ∙ ap (λ (t : List ℕ). put (two 0) 14 (put (two n) 12 t)) (put_more c (four L) 0 8 s refl zero-le)
    ∙ ap (put (two 0) 14) (put_more d (two n) 0 12 s refl zero-le)
    ∙ put_more (d ++ two n) (two 0) 0 14 s refl zero-le

pub entry_puts : (i count offset at : ℕ) (s : List ℕ) → at ≤ length s
    → put (four offset) (at + 4) (put (two count) (at + 2) (put (two i) at s)) ≡ put (two i ++ (two count ++ four offset)) at s
unfolding four two
entry_puts i count offset at s h =
    ap (put (four offset) (at + 4)) (put_more (two i) (two count) at (at + 2) s refl h)
    ∙ put_more (two i ++ two count) (four offset) at (at + 4) s refl h

module _ (k n : ℕ) (file : List ℕ) (shape : bad_bundle_shape k n (length file) ≡ false) where
  pub front_inside : first_body n ≤ length (file_bundle k n file)
  front_inside = omega (arith, body_first k n file, body_up k n file 0 n zero-le (omega arith), bundle_end k n file shape)

  pub body_low : (i : ℕ) → i ≤ n → body_at k n file i < 4294967296
  unfolding first_body header_size entry_size
  body_low i h =
      let limit = limits k n (length file) shape in
      omega (arith, body_le k n file i h, mul-le-mul {n₁ = i} {n₂ = 4096} {m₂ = 65535} (omega arith) limit.blocks)

  module _ (i : ℕ) (h : i < n) (count : ℕ) (counted : count ≡ count_of (blocks_of k (length file)) (symbol_at k n file i)) where
    pub count_low : count < 65536
    count_low = omega (arith, overflow_count (symbol_at k n file i) (blocks_of k (length file)), (limits k n (length file) shape).blocks)

    -- B and size are what the code has
    pub body_after : (offset B size : ℕ) → offset ≡ body_at k n file i → B ≡ blocks_of k (length file) → size ≡ body_size B count
        → offset + size ≡ body_at k n file (i + 1)
    body_after offset B size placed blocks is =
        rw add-one (ap₂ ◌+◌ placed (is ∙ ap₂ body_size blocks counted) ∙ sym (body_next k n file i h))

  -- the header
  module _ (out : List ℕ) (room : length (file_bundle k n file) ≤ length out) where
    header_inside : 0 + length (header k n (length file) n) ≤ length (file_bundle k n file)
    unfolding first_body
    header_inside = omega (arith, front_inside, header_length k n (length file) n [])

    header_same : Alike (length (header k n (length file) n)) (file_bundle k n file) 0 (header k n (length file) n) 0
    header_same d l = bundle_header k n file shape d (omega (arith, header_length k n (length file) n []))

    header_onward : Onward (file_bundle k n file) out (put (header k n (length file) n) 0 out)
    header_onward = put_onward (file_bundle k n file) (header k n (length file) n) 0 out room header_inside header_same

    header_stands : Stand 0 header_size (file_bundle k n file) (put (header k n (length file) n) 0 out)
    header_stands p h l =
        put_stands (file_bundle k n file) (header k n (length file) n) 0 out room header_inside header_same p h
        (omega (arith, header_length k n (length file) n []))

    -- headed is out with the header, after with the table too
    pub front_stands : (headed after : List ℕ) → headed ≡ put (header k n (length file) n) 0 out → Onward (file_bundle k n file) headed after
        → Stand header_size (first_body n) (file_bundle k n file) after
        → Onward (file_bundle k n file) out after × Stand 0 (first_body n) (file_bundle k n file) after
    front_stands headed after is on table = (
      onward_more (file_bundle k n file) out headed after (rw is header_onward) on,
      λ p h l.
          elim (dec_lt p header_size)
          [ yes front ↦ on.keeps p (ap (λ (s : List ℕ). get_or s p 0) is ∙ header_stands p h front) | no back ↦ table p (omega arith) l ],
    )

  -- entry i, once those before it stand
  module _ (i : ℕ) (h : i < n) (out : List ℕ) (room : length (file_bundle k n file) ≤ length out) where
    pub entry_fits : entry_at i + entry_size ≤ length out
    unfolding first_body entry_at entry_size
    entry_fits = omega (arith, front_inside)

    -- count and offset are what the code has, s is out as it was before the table
    module _ (count offset : ℕ) (counted : count ≡ count_of (blocks_of k (length file)) (symbol_at k n file i)) (placed : offset ≡ body_at k n file i) (s after : List ℕ) (on : Onward (file_bundle k n file) s out) (is : after ≡ put (two i ++ (two count ++ four offset)) (entry_at i) out) where
      new : List ℕ
      new = two i ++ (two count ++ four offset)

      new_inside : entry_at i + length new ≤ length (file_bundle k n file)
      unfolding new two four first_body entry_at entry_size
      new_inside = omega (arith, front_inside)

      new_same : Alike (length new) (file_bundle k n file) (entry_at i) new 0
      unfolding new two four
      new_same d l =
          bundle_entry k n file shape i h d l
          ∙ sym (ap₂ (λ (x y : ℕ). get_or (two i ++ (two x ++ four y)) (0 + d) 0) counted placed)

      one_on : Onward (file_bundle k n file) out after
      unfolding new
      one_on = rw is (put_onward (file_bundle k n file) new (entry_at i) out room new_inside new_same)

      pub entry_onward : Onward (file_bundle k n file) s after
      entry_onward = onward_more (file_bundle k n file) s out after on one_on

      pub entry_stands : Stand header_size (entry_at i) (file_bundle k n file) out → Stand header_size (entry_at (i + 1)) (file_bundle k n file) after
      unfolding new entry_at entry_size two four
      entry_stands old p g l =
          elim (dec_lt p (entry_at i)) [
            | yes before ↦ one_on.keeps p (old p g before)
            | no here ↦
                ap (λ (t : List ℕ). get_or t p 0) is
                ∙ put_stands (file_bundle k n file) new (entry_at i) out room new_inside new_same p (omega arith) (omega arith)
          ]
