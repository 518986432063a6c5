-- What is proved of the layout, as statements: proofs/Theorems.antt proves each under the same name in small letters.
use Rattle.std.specs.Prelude.{◌≡◌, List, [], ℕ, Result}
use Rattle.answers.specs.Refusals.{the_result}
use Rattle.bundle_storage.specs.Bytes.{Bytes}
use Rattle.bundle_layout.specs.Facts.{told_facts, told_entry, facts_answer, entry_answer}
use Rattle.bundle_layout.specs.Fields.{k_in, n_in, length_in}
use Rattle.bundle_layout.specs.Held.{shadows_in, IsBundle}
use Rattle.bundle_layout.specs.Layout.{layout_checks}
use Rattle.bundle_layout.specs.Shadows.{Shadow}
use Rattle.answers.specs.declared.refusal.Refusal.{Refusal}
use Rattle.bundle_layout.specs.declared.facts.Entry.{Entry}
use Rattle.bundle_layout.specs.declared.facts.Facts.{Facts}

-- The container: what the layout's tests let through is exactly the bundles

-- every bundle passes, and is read as what it was made of
abbrev pub BundleAccepted : Type 0
BundleAccepted =
    (k n L : ℕ) (hs : List Shadow) (s : List ℕ) → IsBundle k n L hs s
    → (layout_checks s ≡ the_result []) × (k_in s ≡ k) × (n_in s ≡ n) × (length_in s ≡ L) × (shadows_in s ≡ hs)

-- and bytes that pass are the bundle of what is read
abbrev pub AcceptedBundle : Type 0
AcceptedBundle =
    (s : List ℕ) → Bytes s → layout_checks s ≡ the_result [] → IsBundle (k_in s) (n_in s) (length_in s) (shadows_in s) s

-- bytes are a bundle in one way only
abbrev pub OneReading : Type 0
OneReading =
    (k n L k' n' L' : ℕ) (hs hs' : List Shadow) (s : List ℕ) → IsBundle k n L hs s → IsBundle k' n' L' hs' s
    → (k ≡ k') × (n ≡ n') × (L ≡ L') × (hs ≡ hs')

-- Two answers of a call are equal

abbrev pub FactsSettled : Type 0
FactsSettled = (s : List ℕ) (a b : Result Facts Refusal) → told_facts a ≡ facts_answer s → told_facts b ≡ facts_answer s → a ≡ b

abbrev pub EntrySettled : Type 0
EntrySettled =
    (s : List ℕ) (t : ℕ) (a b : Result Entry Refusal) → told_entry a ≡ entry_answer s t → told_entry b ≡ entry_answer s t → a ≡ b
