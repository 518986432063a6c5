-- The answer of a block: taken, or refused, by what fits.
-- Assumes nothing.
use mathlib.Core.Path.{◌≡◌, refl, sym}
use mathlib.Core.Bool.{false}
use mathlib.Core.List.{List, []}
use mathlib.Core.Option.{Option, some, none}
use Prim.Native.Nat.{ℕ}
use Rattle.answers.specs.Refusals.{the_result, refused}
use Rattle.answers.specs.declared.refusal.Refusal.TheVariants.{Disagree, Word, Tail}
use Rattle.answers.proofs.Refusals.{result_no_refusal}
use Rattle.block.proofs.Disagreeing.{Before, passing, before_if}
use Rattle.bundle_layout.specs.Fields.{k_in, length_in}
use Rattle.bundle_read.specs.Reading.{decoded_at, bad_word, bad_tail, judged, block_answer}
use Rattle.bundle.proofs.Passing.{before_disagree, before_result}

module _ (s : List ℕ) (b : ℕ) where
  pub block_taken : (message : List ℕ) → decoded_at s b ≡ some message → bad_word message ≡ false
      → bad_tail (k_in s) (length_in s) b message ≡ false → block_answer s b ≡ the_result []
  unfolding block_answer judged
  block_taken message found word tail = rw (found, word, tail)

  pub block_disagrees : decoded_at s b ≡ none → block_answer s b ≡ refused (Disagree b)
  unfolding block_answer judged
  block_disagrees found = rw found

  judged_before : (message : List ℕ) → Before (judged (k_in s) (length_in s) b (some message))
  unfolding judged
  judged_before message =
      before_if (bad_word message) (Word b) refl (before_if (bad_tail (k_in s) (length_in s) b message) (Tail b) refl passing)

  pub block_result : (vs : List ℕ) → block_answer s b ≡ the_result vs → block_answer s b ≡ the_result []
  unfolding block_answer judged
  block_result vs = go (decoded_at s b)
    where
      go : (found : Option (List ℕ)) → judged (k_in s) (length_in s) b found ≡ the_result vs → judged (k_in s) (length_in s) b found ≡ the_result []
      go none e = absurd (result_no_refusal (sym e))
      go (some message) e = before_result (judged_before message) e

  pub disagrees_none : (c : ℕ) → block_answer s b ≡ refused (Disagree c) → (c ≡ b) × (decoded_at s b ≡ none)
  unfolding block_answer judged
  disagrees_none c = go (decoded_at s b)
    where
      go : (found : Option (List ℕ)) → judged (k_in s) (length_in s) b found ≡ refused (Disagree c) → (c ≡ b) × (found ≡ none)
      go none e = (cc, refl)
      go (some message) e = absurd (before_disagree (judged_before message) e)
