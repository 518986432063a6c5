-- What the writer or the reader leaves is settled by an equation of it.
-- Assumes nothing.
use mathlib.Core.Path.{◌≡◌, sym, ap, ◌∙◌}
use mathlib.Core.List.{[], ◌∷◌}
use Prim.Native.Nat.{ℕ}
use Rattle.std.specs.Prelude.{Result}
use Rattle.answers.specs.Leaves.{Leaves}
use Rattle.answers.specs.declared.refusal.Refusal.{Refusal}
use Rattle.answers.proofs.Refusals.{told_one}
use Rattle.bundle.specs.Answers.{told_length, LengthSettled}

told_length_one : (r s : Result ℕ Refusal) → told_length r ≡ told_length s → r ≡ s
told_length_one = told_one (λ number. number ∷ []) (λ u v e. cc)

pub length_settled : (it : Leaves) → LengthSettled it
length_settled it r s l m w v p q =
    let same = p ∙ sym q in (
      told_length_one r s (ap (λ (x : Leaves). x.answer) same),
      ap (λ (x : Leaves). x.list) same,
      ap (λ (x : Leaves). x.work) same,
    )
