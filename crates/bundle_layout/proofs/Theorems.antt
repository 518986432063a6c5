-- The proofs of specs/Theorems.antt, each under its name there in small letters.
-- Assumes nothing.
use mathlib.Core.Path.{sym, ◌∙◌}
use Rattle.bundle_layout.specs.Theorems.{BundleAccepted, AcceptedBundle, OneReading, FactsSettled, EntrySettled}
use Rattle.bundle_layout.proofs.Accepted as Accepted
use Rattle.bundle_layout.proofs.Accepting as Accepting
use Rattle.bundle_layout.proofs.Settling.{told_facts_one, told_entry_one}

pub bundle_accepted : BundleAccepted
bundle_accepted k n L hs s is = (
  Accepting.passes k n L hs s is,
  Accepting.read_k k n L hs s is,
  Accepting.read_n k n L hs s is,
  Accepting.read_L k n L hs s is,
  Accepting.read_shadows k n L hs s is,
)

pub accepted_bundle : AcceptedBundle
accepted_bundle = Accepted.accepted_bundle

pub one_reading : OneReading
one_reading k n L k' n' L' hs hs' s is is' =
    let one = bundle_accepted k n L hs s is in
    let other = bundle_accepted k' n' L' hs' s is' in
    (sym one.1 ∙ other.1, sym one.2 ∙ other.2, sym one.3 ∙ other.3, sym one.4 ∙ other.4)

pub facts_settled : FactsSettled
facts_settled s a b p q = told_facts_one a b (p ∙ sym q)

pub entry_settled : EntrySettled
entry_settled s t a b p q = told_entry_one a b (p ∙ sym q)
