-- The proofs of specs/Theorems.antt, each under its name there in small letters.
-- Assumes nothing.
use mathlib.Core.Path.{sym, ◌∙◌}
use Rattle.answers.specs.Refusals.{Answer}
use Rattle.field_calls.specs.Theorems.{SymbolAnswerSettled, SumSettled, DifferenceSettled, ProductSettled, PowerSettled, InverseSettled, PointSettled}
use Rattle.field_calls.proofs.Settling.{told_symbol_one, told_point_one}

symbol_answer_settled : (t : Answer) → SymbolAnswerSettled t
symbol_answer_settled t r s p q = told_symbol_one r s (p ∙ sym q)

pub sum_settled : SumSettled
sum_settled a b = symbol_answer_settled _

pub difference_settled : DifferenceSettled
difference_settled a b = symbol_answer_settled _

pub product_settled : ProductSettled
product_settled a b = symbol_answer_settled _

pub power_settled : PowerSettled
power_settled x n = symbol_answer_settled _

pub inverse_settled : InverseSettled
inverse_settled x = symbol_answer_settled _

pub point_settled : PointSettled
point_settled n i r s p q = told_point_one r s (p ∙ sym q)
