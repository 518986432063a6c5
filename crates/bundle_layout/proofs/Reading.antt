-- What is read of a bundle whose layout is good: that the fields are there, and what is answered of them.
-- Assumes nothing.
use mathlib.Core.Path.{◌≡◌, sym, ap, ap₂, ◌∙◌}
use mathlib.Core.List.{List, [], ◌∷◌}
use Prim.Native.Nat.{ℕ, ◌<◌, ◌≤◌}
use native.Mathlib.Omega.{arith}
use borrow.Author.Tests.{le-leb, lt-leb}
use Rattle.std.specs.Prelude.{Result, Err}
use Rattle.answers.specs.Refusals.{Answer, the_result, refused, after}
use Rattle.answers.specs.declared.refusal.Refusal.{Refusal}
use Rattle.answers.specs.declared.refusal.Refusal.TheVariants.{Position}
use Rattle.limits.specs.Shape.{longest}
use Rattle.bundle_storage.specs.Blocks.{most_blocks}
use Rattle.bundle_layout.specs.Blocks.{blocks_of}
use Rattle.bundle_layout.specs.Facts.{told_facts, told_entry, facts_answer, entry_answer}
use Rattle.bundle_layout.specs.Fields.{k_in, n_in, length_in, held_in, blocks_in, position_in, count_in, offset_in}
use Rattle.bundle_layout.specs.Layout.{layout_checks}
use Rattle.bundle_layout.specs.Shape.{longest_file}
use Rattle.bundle_layout.specs.declared.facts.Entry.{Entry}
use Rattle.bundle_layout.specs.declared.facts.Facts.{Facts}
use Rattle.bundle_layout.proofs.Passing.{header_inside, entry_there, k_some, k_limited, length_limited, blocks_limited}

-- k, L and B are what the code read and worked out
module _ (s : List ℕ) (good : layout_checks s ≡ the_result []) (k L : ℕ) (first : k ≡ k_in s) (third : L ≡ length_in s) where
  pub blocks_countable : (0 < k) × (k ≤ longest) × (L ≤ longest_file)
  blocks_countable = (omega (arith, k_some s good), omega (arith, k_limited s good), omega (arith, length_limited s good))

  pub blocks_counted : (B : ℕ) → B ≡ blocks_of k L → B ≡ blocks_in s
  unfolding blocks_in
  blocks_counted B is = is ∙ ap₂ blocks_of first third

  pub blocks_few : (B : ℕ) → B ≡ blocks_of k L → B ≤ most_blocks
  blocks_few B is = omega (arith, blocks_counted B is, blocks_limited s good)

-- what a function of a good layout is proved by
pub ruleset reading = (header_inside, entry_there, blocks_countable, blocks_counted, blocks_few)

-- an answer of a bundle that is refused
refused_first : (a later : Answer) (x : Refusal) → refused x ≡ a → refused x ≡ after a later
refused_first a later x bad = ap (λ (b : Answer). after b later) bad

-- s is the bundle, and b the same bytes as they passed
module _ (s : List ℕ) where
  pub facts_refused : (r : Result Facts Refusal) (x : Refusal) → r ≡ Err x → refused x ≡ layout_checks s → told_facts r ≡ facts_answer s
  unfolding facts_answer
  facts_refused r x is bad = ap told_facts is ∙ refused_first (layout_checks s) _ x bad

  pub entry_refused : (t : ℕ) (r : Result Entry Refusal) (x : Refusal) → r ≡ Err x → refused x ≡ layout_checks s → told_entry r ≡ entry_answer s t
  unfolding entry_answer
  entry_refused t r x is bad = ap told_entry is ∙ refused_first (layout_checks s) _ x bad

  module _ (b : List ℕ) (same : b ≡ s) (good : layout_checks b ≡ the_result []) where
    passed : layout_checks s ≡ the_result []
    passed = sym (ap layout_checks same) ∙ good

    pub facts_read : (k n L m B : ℕ) → k ≡ k_in b → n ≡ n_in b → L ≡ length_in b → m ≡ held_in b → B ≡ blocks_in b
        → the_result (k ∷ n ∷ L ∷ m ∷ B ∷ []) ≡ facts_answer s
    unfolding facts_answer
    facts_read k n L m B first second third fourth fifth = simp passed (rw (first, second, third, fourth, fifth, same))

    pub entry_none : (t m : ℕ) → m ≡ held_in b → m ≤ t → refused (Position 0) ≡ entry_answer s t
    unfolding entry_answer
    entry_none t m is h = simp (passed, le-leb (held_in s) t (rw (← same, ← is) h))

    pub entry_read : (t m p o c : ℕ) → m ≡ held_in b → t < m → p ≡ position_in b t → o ≡ offset_in b t → c ≡ count_in b t
        → the_result (p ∷ o ∷ c ∷ []) ≡ entry_answer s t
    unfolding entry_answer
    entry_read t m p o c is h first second third = simp (passed, lt-leb (held_in s) t (rw (← same, ← is) h)) (rw (first, second, third, same))

-- what the entry points are proved by
pub ruleset answering = (facts_refused, entry_refused, facts_read, entry_none, entry_read)
