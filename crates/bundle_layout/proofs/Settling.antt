-- Two answers of a call that tell the same on paper are equal.
-- Assumes nothing.
use mathlib.Core.Path.{◌≡◌}
use mathlib.Core.List.{[], ◌∷◌}
use Prim.Native.Nat.{ℕ}
use Rattle.std.specs.Prelude.{Result}
use Rattle.answers.specs.declared.refusal.Refusal.{Refusal}
use Rattle.answers.proofs.Refusals.{told_one}
use Rattle.bundle_layout.specs.Facts.{told_facts, told_entry}
use Rattle.bundle_layout.specs.declared.facts.Entry.{Entry}
use Rattle.bundle_layout.specs.declared.facts.Facts.{Facts}

facts : ℕ → ℕ → ℕ → ℕ → ℕ → Facts
facts k n length held blocks = record { k = k; n = n; length = length; held = held; blocks = blocks }

pub told_facts_one : (a b : Result Facts Refusal) → told_facts a ≡ told_facts b → a ≡ b
unfolding facts
told_facts_one =
    told_one (λ f. f.k ∷ f.n ∷ f.length ∷ f.held ∷ f.blocks ∷ [])
    (λ f g e. let same : facts f.k f.n f.length f.held f.blocks ≡ facts g.k g.n g.length g.held g.blocks = cc in same)

entry : ℕ → ℕ → ℕ → Entry
entry position offset count = record { position = position; offset = offset; count = count }

pub told_entry_one : (a b : Result Entry Refusal) → told_entry a ≡ told_entry b → a ≡ b
unfolding entry
told_entry_one =
    told_one (λ e. e.position ∷ e.offset ∷ e.count ∷ [])
    (λ f g e. let same : entry f.position f.offset f.count ≡ entry g.position g.offset g.count = cc in same)
