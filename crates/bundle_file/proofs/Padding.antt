-- The file padded to whole blocks: it is the bytes of its words again.
-- Assumes nothing.
use mathlib.Core.Path.{◌≡◌, refl, sym, ap, ap₂, ◌∙◌}
use mathlib.Core.List.{List, [], ◌∷◌, ◌++◌}
use Prim.Native.Nat.{ℕ, zero, suc, ◌+◌, ◌*◌, ◌-◌, ◌<◌}
use native.Mathlib.Nat.{zero-add}
use native.Mathlib.Omega.{arith}
use lib.ListN.{length, get_or, replicate, length-append, length-replicate}
use lib.Seq.{ext_get_or}
use Rattle.lists.specs.Tab.{tab}
use Rattle.poly.proofs.Symbols.{tab_symbols}
use Rattle.lists.proofs.Tab.{tab_length, tab_at}
use Rattle.code.specs.Message.{IsMessage}
use Rattle.bundle_layout.specs.Blocks.{blocks_of}
use Rattle.bundle_storage.specs.Bytes.{Bytes, two, in_bytes, two_at}
use Rattle.bundle_layout.proofs.BlocksLaws.{blocks_hold}
use Rattle.bundle_storage.proofs.BytesLaws.{in_bytes_length, byte_at, two_lt, bytes_append}
use Rattle.bundle_file.specs.File.{padded, message_at}

-- The bytes of the words that are read of bytes are these bytes

two_at_lem : (s : List ℕ) (at i j : ℕ) → at ≡ i → at + 1 ≡ j → two_at s at ≡ 256 * get_or s i 0 + get_or s j 0
unfolding two_at
two_at_lem s at i j e f = ap₂ (λ (m n : ℕ). 256 * get_or s m 0 + get_or s n 0) e f

words_at_lem : (s : List ℕ) → Bytes s → (m at : ℕ) (f : ℕ → ℕ) → ((j : ℕ) → j < m → f j ≡ two_at s (at + 2 * j)) → (i : ℕ) → i < 2 * m
    → get_or (in_bytes (tab m f)) i 0 ≡ get_or s (at + i) 0
unfolding in_bytes two tab
words_at_lem s bytes zero at f is i h = absurd (omega arith)
words_at_lem s bytes (suc m) at f is zero h =
    omega (arith, is 0 (omega arith), two_at_lem s (at + 2 * 0) (at + 0) (at + 1) (omega arith) (omega arith), byte_at s bytes (at + 0), byte_at s bytes (at + 1))
words_at_lem s bytes (suc m) at f is (suc zero) h =
    omega (arith, is 0 (omega arith), two_at_lem s (at + 2 * 0) at (at + 1) (omega arith) (omega arith), byte_at s bytes (at + 1))
words_at_lem s bytes (suc m) at f is (suc (suc i)) h =
    words_at_lem s bytes m (at + 2) (λ j. f (suc j)) (λ j l. is (suc j) (omega arith) ∙ ap (two_at s) {x = at + 2 * suc j} {y = at + 2 + 2 * j} (omega arith)) i (omega arith)
    ∙ ap (λ (m : ℕ). get_or s m 0) {x = at + 2 + i} {y = at + suc (suc i)} (omega arith)

words_back : (s : List ℕ) → Bytes s → (m : ℕ) → length s ≡ 2 * m → in_bytes (tab m (λ i. two_at s (2 * i))) ≡ s
words_back s bytes m long =
    let size = in_bytes_length (tab m (λ i. two_at s (2 * i))) in
    let count = tab_length m (λ i. two_at s (2 * i)) in
    ext_get_or 0 (in_bytes (tab m (λ i. two_at s (2 * i)))) s (omega arith)
    (λ i h. words_at_lem s bytes m 0 _ (λ j l. ap (two_at s) (sym (zero-add (2 * j)))) i (omega arith) ∙ ap (λ (m : ℕ). get_or s m 0) (zero-add i))

-- Zero bytes: behind the end a list reads as they do

pub zeros_behind : (s : List ℕ) (m p : ℕ) → get_or (s ++ replicate m 0) p 0 ≡ get_or s p 0
zeros_behind [] zero p = refl
zeros_behind [] (suc m) zero = refl
zeros_behind [] (suc m) (suc p) = zeros_behind [] m p
zeros_behind (x ∷ s) m zero = refl
zeros_behind (x ∷ s) m (suc p) = zeros_behind s m p

module _ (k : ℕ) (file : List ℕ) where
  padded_length : 0 < k → length (padded k file) ≡ 2 * (k * blocks_of k (length file))
  unfolding padded
  padded_length some = simp (length-append, length-replicate) (omega (arith, blocks_hold k (length file) some))

  pub padded_at : (i : ℕ) → get_or (padded k file) i 0 ≡ get_or file i 0
  unfolding padded
  padded_at = zeros_behind file (2 * (k * blocks_of k (length file)) - length file)

  pub message_length : (b : ℕ) → length (message_at k file b) ≡ k
  unfolding message_at
  message_length b = tab_length k _

  module _ (bytes : Bytes file) where
    pub padded_bytes : Bytes (padded k file)
    unfolding padded
    padded_bytes = bytes_append file _ bytes (λ i h. omega (arith, zeros_behind [] (2 * (k * blocks_of k (length file)) - length file) i))

    pub padded_words : 0 < k → in_bytes (tab (k * blocks_of k (length file)) (λ i. two_at (padded k file) (2 * i))) ≡ padded k file
    padded_words some = words_back (padded k file) padded_bytes (k * blocks_of k (length file)) (padded_length some)

    -- Each block

    module _ (b : ℕ) where
      pub message_at_lem : (i : ℕ) → i < k → get_or (message_at k file b) i 0 ≡ two_at (padded k file) (2 * (k * b + i))
      unfolding message_at
      message_at_lem i h = tab_at k _ i h

      pub bytes_at : (i : ℕ) → i < 2 * k → get_or (in_bytes (message_at k file b)) i 0 ≡ get_or (padded k file) (2 * (k * b) + i) 0
      unfolding message_at
      bytes_at =
          words_at_lem (padded k file) padded_bytes k (2 * (k * b)) _
          (λ j l. ap (two_at (padded k file)) {x = 2 * (k * b + j)} {y = 2 * (k * b) + 2 * j} (omega arith))

      pub message_is : IsMessage k (message_at k file b)
      unfolding message_at
      message_is =
          record {
            long = message_length b;
            symbols = tab_symbols k _ (λ i h. omega (arith, two_lt (padded k file) (2 * (k * b + i)) padded_bytes));
          }
