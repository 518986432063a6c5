-- Each block of a file passes WORD and TAIL: its symbols are words, and its padding is zero.
-- Assumes nothing.
use mathlib.Core.Path.{◌≡◌, ap, ◌∙◌}
use mathlib.Core.Bool.{false, not}
use mathlib.Core.List.{List}
use Prim.Native.Nat.{ℕ, ◌+◌, ◌*◌, ◌-◌}
use native.Mathlib.Omega.{arith}
use borrow.Author.Tests.{eq-eqb, ne_eqb}
use lib.Dec.{eqb}
use lib.ListN.{length, get_or, drop, length-drop, get_or-eq_default}
use lib.Seq.{get_or-drop}
use Rattle.bundle_storage.specs.Bytes.{Bytes, in_bytes}
use Rattle.bundle_storage.proofs.BytesLaws.{in_bytes_length, two_lt}
use Rattle.bundle_file.specs.File.{padded, message_at}
use Rattle.bundle_file.proofs.Padding.{padded_at, padded_bytes, message_at_lem, message_length, bytes_at}
use Rattle.bundle_read.specs.Reading.{bad_word, bad_tail}
use Rattle.bundle_read.proofs.Searching.{meets_none}

module _ (k : ℕ) (file : List ℕ) (bytes : Bytes file) (b : ℕ) where
  pub word_good : bad_word (message_at k file b) ≡ false
  unfolding bad_word
  word_good =
      meets_none (λ x. eqb x 65536) (message_at k file b)
      (λ i h. ne_eqb (get_or (message_at k file b) i 0) 65536
      (λ e. omega (arith, message_at_lem k file bytes b i (omega (arith, message_length k file b)), two_lt (padded k file) (2 * (k * b + i)) (padded_bytes k file bytes))))

  pub tail_good : bad_tail k (length file) b (message_at k file b) ≡ false
  unfolding bad_tail
  tail_good =
      meets_none (λ x. not (eqb x 0)) (drop (length file - 2 * (k * b)) (in_bytes (message_at k file b)))
      (λ i h. ap not (eq-eqb _ 0
      (get_or-drop (length file - 2 * (k * b)) (in_bytes (message_at k file b)) i 0
      ∙ bytes_at k file bytes b (length file - 2 * (k * b) + i)
      (omega (arith, length-drop (length file - 2 * (k * b)) (in_bytes (message_at k file b)), in_bytes_length (message_at k file b), message_length k file b))
      ∙ padded_at k file (2 * (k * b) + (length file - 2 * (k * b) + i))
      ∙ get_or-eq_default file 0 {n = 2 * (k * b) + (length file - 2 * (k * b) + i)} (omega arith))))
