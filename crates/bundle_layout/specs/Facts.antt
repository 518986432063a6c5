-- What a bundle's header and table say, after the tests of its layout.
use Rattle.std.specs.Prelude.{List, [], ◌∷◌, ℕ, leb, Result}
use Rattle.answers.specs.Refusals.{Answer, the_result, refuse_if, after, told}
use Rattle.answers.specs.declared.refusal.Refusal.{Refusal}
use Rattle.answers.specs.declared.refusal.Refusal.TheVariants.{Position}
use Rattle.bundle_layout.specs.Fields.{k_in, n_in, length_in, held_in, blocks_in, position_in, count_in, offset_in}
use Rattle.bundle_layout.specs.Layout.{layout_checks}
use Rattle.bundle_layout.specs.declared.facts.Entry.{Entry}
use Rattle.bundle_layout.specs.declared.facts.Facts.{Facts}

-- k, n, L, how many shadows are held, B
unfoldable pub facts_answer : List ℕ → Answer
facts_answer s = after (layout_checks s) (the_result (k_in s ∷ n_in s ∷ length_in s ∷ held_in s ∷ blocks_in s ∷ []))

-- position, offset and overflow count of entry t; an entry that the table has not is refused by POSITION
unfoldable pub entry_answer : List ℕ → ℕ → Answer
entry_answer s t =
    after (layout_checks s)
    (refuse_if (leb (held_in s) t) (Position 0) (the_result (position_in s t ∷ offset_in s t ∷ count_in s t ∷ [])))

-- the answers of the code, on paper

abbrev pub told_facts : Result Facts Refusal → Answer
told_facts = told (λ f. f.k ∷ f.n ∷ f.length ∷ f.held ∷ f.blocks ∷ [])

abbrev pub told_entry : Result Entry Refusal → Answer
told_entry = told (λ e. e.position ∷ e.offset ∷ e.count ∷ [])
