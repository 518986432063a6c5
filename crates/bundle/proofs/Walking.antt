-- The blocks one after the other: all are taken, or the first that is not gives the answer; and what the reader leaves then.
-- Assumes nothing.
use mathlib.Core.Path.{◌≡◌, refl, sym, ap, ◌∙◌}
use mathlib.Core.List.{List, [], ◌∷◌}
use mathlib.Core.Option.{none}
use Prim.Native.Nat.{ℕ, zero, suc, ◌+◌, ◌<◌, ◌≤◌}
use native.Mathlib.Decide.{dec_lt}
use native.Mathlib.Omega.{arith}
use lib.ListN.{length}
use Rattle.answers.specs.Leaves.{unless_refused}
use Rattle.answers.specs.Refusals.{Answer, the_result, refusal, refused, after}
use Rattle.answers.specs.declared.refusal.Refusal.TheVariants.{Disagree}
use Rattle.answers.proofs.Leaves.{leaves_done}
use Rattle.answers.proofs.Refusals.{result_no_refusal}
use Rattle.bundle_layout.specs.Fields.{length_in, blocks_in}
use Rattle.bundle.specs.Calls.{blocks_leave, read_leaves}
use Rattle.bundle.specs.Checks.{read_checks}
use Rattle.bundle_read.specs.Reading.{decoded_at, block_answer, blocks_answer}
use Rattle.bundle.proofs.BlockAnswers.{block_result, disagrees_none}

module _ (s : List ℕ) where
  pub all_taken : (left b : ℕ) → ((c : ℕ) → b ≤ c → c < b + left → block_answer s c ≡ the_result [])
      → blocks_answer s b left ≡ the_result (length_in s ∷ [])
  unfolding blocks_answer
  all_taken zero b each = refl
  all_taken (suc left) b each =
      ap (λ (a : Answer). after a (blocks_answer s (suc b) left)) (each b (omega arith) (omega arith))
      ∙ all_taken left (suc b) (λ c h l. each c (omega arith) (omega arith))

  pub first_refused : (number place left b c : ℕ) → b ≤ c → c < b + left → ((d : ℕ) → b ≤ d → d < c → block_answer s d ≡ the_result [])
      → block_answer s c ≡ refusal number place → blocks_answer s b left ≡ refusal number place
  unfolding blocks_answer
  first_refused number place zero b c h l before here = absurd (omega arith)
  first_refused number place (suc left) b c h l before here =
      elim (dec_lt b c) [
        | yes later ↦ ap (λ (a : Answer). after a (blocks_answer s (suc b) left)) (before b (omega arith) later)
            ∙ first_refused number place left (suc b) c later (omega arith) (λ d h l. before d (omega arith) l) here
        | no now ↦ ap (λ (a : Answer). after a (blocks_answer s (suc b) left)) (ap (block_answer s) {x = b} {y = c} (omega arith) ∙ here)
      ]

  -- the block c is the first that is not taken, and none fits it
  abbrev Disagrees : ℕ → ℕ → ℕ → Type 0
  Disagrees left b c = (b ≤ c) × (c < b + left) × ((d : ℕ) → b ≤ d → d < c → block_answer s d ≡ the_result []) × (decoded_at s c ≡ none)

  pub disagree_first : (left b c : ℕ) → blocks_answer s b left ≡ refused (Disagree c) → Disagrees left b c
  unfolding blocks_answer
  disagree_first zero b c e = absurd (result_no_refusal e)
  disagree_first (suc left) b c e = go (block_answer s b) refl e (disagree_first left (suc b) c)
    where
      go : (a : Answer) → block_answer s b ≡ a → after a (blocks_answer s (suc b) left) ≡ refused (Disagree c)
          → (blocks_answer s (suc b) left ≡ refused (Disagree c) → Disagrees left (suc b) c) → Disagrees (suc left) b c
      go (refusal number place) is e later =
          let here = disagrees_none s b c (is ∙ e) in
          (omega arith, omega arith, λ d h l. absurd (omega arith), ap (decoded_at s) here.0 ∙ here.1)
      go (the_result vs) is e later =
          let rest = later e in (
            omega arith,
            omega arith,
            λ d h l. elim (dec_lt b d) [
              | yes past ↦ rest.2 d past l
              | no now ↦ ap (block_answer s) {x = d} {y = b} (omega arith) ∙ block_result s b vs is
            ],
            rest.3,
          )

-- What the reader leaves

module _ (s out work : List ℕ) where
  pub read_leaves_lem : (a : Answer) → read_checks s (length out) (length work) ≡ the_result [] → blocks_answer s 0 (blocks_in s) ≡ a
      → read_leaves s out work ≡ blocks_leave a s out work
  read_leaves_lem a passes is =
      sym (leaves_done (read_checks s (length out) (length work)) out work _ passes) ∙ ap (λ (b : Answer). blocks_leave b s out work) is

  leaves_answer : (a b : Answer) → (unless_refused a out work (blocks_leave b s out work)).answer ≡ after a b
  leaves_answer (refusal number place) b = refl
  leaves_answer (the_result vs) (refusal number place) = refl
  leaves_answer (the_result vs) (the_result ws) = refl

  pub read_answer : (read_leaves s out work).answer ≡ after (read_checks s (length out) (length work)) (blocks_answer s 0 (blocks_in s))
  read_answer = leaves_answer (read_checks s (length out) (length work)) (blocks_answer s 0 (blocks_in s))
