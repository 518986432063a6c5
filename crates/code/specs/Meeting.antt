-- How a message and a polynomial meet: the message symbols are the coefficients, s(x) = s_0 + s_1·x + .. + s_(k-1)·x^(k-1).
use Rattle.std.specs.Prelude.{List, ℕ}

unfoldable pub polynomial_of : List ℕ → List ℕ
polynomial_of message = message

-- and back
unfoldable pub message_of : List ℕ → List ℕ
message_of polynomial = polynomial
