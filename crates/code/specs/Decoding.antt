-- The message that fits all held symbols, if there is one: it has to be the one through the first k of them, and then all m are compared.
-- Theorems.antt of block says that this is the message that fits, and none where none does (`DecodesFitting`, `DecodesNone`).
use Rattle.std.specs.Prelude.{cond, not, List, ℕ, ltb, eqb, get_or, take}
use Rattle.std.proofs.Math.Option.{Option, some, none}
use Rattle.answers.specs.First.{first}
use Rattle.field.specs.Points.{point_of}
use Rattle.field.specs.Size.{size_of}
use Rattle.poly.specs.Interpolation.{through}
use Rattle.lists.specs.Tab.{tab}
use Rattle.code.specs.Code.{symbol_of}
use Rattle.code.specs.Held.{Held, held_count}
use Rattle.code.specs.Meeting.{message_of}

-- the points of the first m positions
unfoldable pub points_of : ℕ → ℕ → List ℕ → List ℕ
points_of m n positions = tab m (λ j. point_of (size_of n) (get_or positions j 0))

-- the message whose polynomial goes through the first k held symbols
unfoldable pub candidate : ℕ → ℕ → Held → List ℕ
candidate k n h = message_of (through (points_of k n h.positions) (take k h.values))

-- the first index at which a message has another value than is held, m where there is none
unfoldable pub first_wrong : ℕ → Held → List ℕ → ℕ
first_wrong n h s =
    first (held_count h) (λ j. not (eqb (symbol_of n s (get_or h.positions j 0)) (get_or h.values j 0)))

unfoldable pub decode_of : ℕ → ℕ → Held → Option (List ℕ)
decode_of k n h = cond (ltb (first_wrong n h (candidate k n h)) (held_count h)) none (some (candidate k n h))
