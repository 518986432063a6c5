-- How many of the held symbols are altered: those whose value is not the sent message's.
use Rattle.std.specs.Prelude.{cond, List, ℕ, eqb, get_or}
use Rattle.poly.specs.Sum.{total}
use Rattle.code.specs.Code.{symbol_of}
use Rattle.code.specs.Held.{Held, held_count}

unfoldable pub altered_count : ℕ → List ℕ → Held → ℕ
altered_count n sent h =
    total (held_count h) (λ j. cond (eqb (symbol_of n sent (get_or h.positions j 0)) (get_or h.values j 0)) 0 1)
