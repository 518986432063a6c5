-- The proofs of specs/Theorems.antt, each under its name there in small letters.
-- Assumes nothing.
use mathlib.Core.Path.{refl}
use Rattle.answers.specs.First.{first}
use Rattle.listing_lines.specs.Text.{places, decimal}
use Rattle.listing_lines.specs.Theorems.{DecimalValue, DecimalExamples}
use Rattle.listing_lines.proofs.Reading as Reading

pub decimal_value : DecimalValue
decimal_value = Reading.decimal_value

pub decimal_examples : DecimalExamples
unfolding decimal places first
decimal_examples =
    record {
      zero = refl;
      nine = refl;
      ten = refl;
      symbol = refl;
      input = refl;
      largest = refl;
    }
