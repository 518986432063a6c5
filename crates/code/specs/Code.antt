-- The code word (document 01, "One block"): the values of the message's polynomial at the points of the positions.
use Rattle.std.specs.Prelude.{List, ℕ, ◌%◌}
use Rattle.field.specs.Points.{point_of}
use Rattle.field.specs.Size.{size_of}
use Rattle.lists.specs.Tab.{tab}
use Rattle.poly.specs.Value.{value}
use Rattle.code.specs.Meeting.{polynomial_of}

-- e_i = s(r^i), r being the root of order N, the smallest power of two that is at least n
unfoldable pub symbol_of : ℕ → List ℕ → ℕ → ℕ
symbol_of n message i = value (polynomial_of message) (point_of (size_of n) i) % 65537

-- e_i for i = 0 .. n - 1: "when n is below N the later values are dropped"
unfoldable pub code_word : ℕ → List ℕ → List ℕ
code_word n message = tab n (symbol_of n message)
