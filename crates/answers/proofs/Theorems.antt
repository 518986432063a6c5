-- The proofs of specs/Theorems.antt, each under its name there in small letters.
-- Assumes nothing.
use mathlib.Core.Path.{sym, ◌∙◌}
use Rattle.answers.specs.Theorems.{RefusalsTold, NumberSettled, PlaceSettled, TellSettled}
use Rattle.answers.proofs.Refusals as R

pub refusals_told : RefusalsTold
refusals_told = R.refusals_told

pub number_settled : NumberSettled
number_settled x r s p q = p ∙ sym q

pub place_settled : PlaceSettled
place_settled x r s p q = p ∙ sym q

pub tell_settled : TellSettled
tell_settled o r s p q = p ∙ sym q
