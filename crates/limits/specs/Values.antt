-- VALUE for a list: some value above 65536; place: the first such index.
use Rattle.std.specs.Prelude.{List, ℕ, ltb, length, get_or}
use Rattle.answers.specs.First.{first}
use Rattle.answers.specs.Refusals.{Answer, refuse_if}
use Rattle.answers.specs.declared.refusal.Refusal.TheVariants.{Value}

unfoldable pub first_above : List ℕ → ℕ
first_above values = first (length values) (λ i. ltb 65536 (get_or values i 0))

abbrev pub refuse_above : List ℕ → Answer → Answer
refuse_above values = refuse_if (ltb (first_above values) (length values)) (Value (first_above values))
