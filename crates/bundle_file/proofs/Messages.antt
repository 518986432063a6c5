-- The messages of a file: their words are the file's own, as the padding reads like what is behind the end, and a block's coefficients are its
-- message and zeros.
-- Assumes nothing.
use mathlib.Core.Path.{◌≡◌, sym, subst, ap, ap₂, ◌∙◌}
use mathlib.Core.Bool.{false}
use mathlib.Core.List.{List, ◌++◌}
use Prim.Native.Nat.{ℕ, ◌+◌, ◌-◌, ◌*◌, ◌≤◌}
use native.Mathlib.Omega.{arith}
use lib.ListN.{length, take, drop, replicate}
use lib.Seq.{length-take-le}
use Rattle.limits.specs.Shape.{bad_shape}
use Rattle.field.specs.Size.{size_of}
use Rattle.lists.specs.Tab.{tab}
use Rattle.lists.proofs.Tab.{tab_ext}
use Rattle.transform_halving.specs.Transformable.{Transformable}
use Rattle.transform_halving.specs.Transform.{transform_of}
use Rattle.code.specs.Codable.{Codable}
use Rattle.code.specs.Message.{IsMessage}
use Rattle.code.specs.Code.{code_word}
use Rattle.code.proofs.Spreading.{laid, full, full_transformable, kept_front}
use Rattle.bundle_storage.specs.Bytes.{two_at}
use Rattle.bundle_file.specs.File.{message_at}
use Rattle.bundle_file.proofs.Padding.{padded_at, message_length}

module _ (k : ℕ) (file : List ℕ) (b : ℕ) where
  message_words : message_at k file b ≡ tab k (λ i. two_at file (2 * (k * b) + 2 * i))
  unfolding message_at two_at
  message_words =
      tab_ext k _ _
      (λ i h. ap₂ (λ (x y : ℕ). 256 * x + y) (padded_at k file (2 * (k * b + i))) (padded_at k file (2 * (k * b + i) + 1))
      ∙ ap (two_at file) {x = 2 * (k * b + i)} {y = 2 * (k * b) + 2 * i} (omega arith))

  -- words is what the first k cells hold once the words are laid, cleared what the rest of them holds after
  pub laid_block : (cells words cleared : List ℕ) → k ≤ length cells
      → words ≡ tab (length (take (k - 0) cells)) (λ i. two_at file (2 * (k * b) + 2 * i))
      → cleared ≡ replicate (length (take (length (words ++ drop (k - 0) cells) - k) (drop k (words ++ drop (k - 0) cells)))) 0
      → take k (words ++ drop (k - 0) cells)
      ++ (cleared ++ drop (length (words ++ drop (k - 0) cells) - k) (drop k (words ++ drop (k - 0) cells)))
      ≡ message_at k file b ++ replicate (length cells - k) 0
  laid_block cells words cleared enough is =
      let message = message_at k file b in
      let copied = words ++ drop (k - 0) cells in
      subst (λ (m : ℕ).
      cleared ≡ replicate (length (take (length copied - m) (drop m copied))) 0
      → take m copied ++ (cleared ++ drop (length copied - m) (drop m copied)) ≡ message ++ replicate (length cells - m) 0)
      (message_length k file b)
      (laid message cells copied cleared (omega (arith, message_length k file b))
      (ap₂ ◌++◌ (is ∙ ap (λ (m : ℕ). tab m (λ i. two_at file (2 * (k * b) + 2 * i))) {y = k} (length-take-le (k - 0) cells (omega arith) ∙ omega arith) ∙ sym message_words)
      (ap (λ (m : ℕ). drop m cells) {x = k - 0} {y = length message} (omega (arith, message_length k file b)))))

  -- cells is what they hold once the message is laid out
  module _ (n : ℕ) (cells : List ℕ) (size : ℕ) (message : IsMessage k (message_at k file b)) (shape : bad_shape k n ≡ false) (long : size ≡ size_of n) (is : cells ≡ message_at k file b ++ replicate (size - k) 0) where
    codable : Codable n (message_at k file b)
    codable = record { shape = ap (λ (m : ℕ). bad_shape m n) message.long ∙ shape; symbols = message.symbols }

    coefficients : cells ≡ full n (message_at k file b) codable
    unfolding full
    coefficients = is ∙ ap₂ (λ (N m : ℕ). message_at k file b ++ replicate (N - m) 0) long (sym message.long)

    pub block_transformable : Transformable cells
    block_transformable = subst Transformable (sym coefficients) (full_transformable n (message_at k file b) codable)

    pub block_word : (after : List ℕ) → after ≡ transform_of cells → take n after ≡ code_word n (message_at k file b)
    block_word after turned =
        ap (take n) (turned ∙ ap transform_of coefficients) ∙ kept_front n (message_at k file b) codable
