-- Message and polynomial lead to each other, k symbols to k symbols: what is used of how they meet.
-- Assumes nothing.
use mathlib.Core.Path.{◌≡◌, refl}
use mathlib.Core.List.{List}
use Prim.Native.Nat.{ℕ}
use lib.ListN.{length}
use Rattle.field.specs.Symbol.{Symbols}
use Rattle.code.specs.Meeting.{polynomial_of, message_of}
use Rattle.code.specs.Message.{IsMessage}

pub polynomial_message : (f : List ℕ) → polynomial_of (message_of f) ≡ f
unfolding polynomial_of message_of
polynomial_message f = refl

pub message_polynomial : (s : List ℕ) → message_of (polynomial_of s) ≡ s
unfolding polynomial_of message_of
message_polynomial s = refl

-- the coefficients are the message itself: encode lays it out and decode hands it over as it stands
pub polynomial_is : (s : List ℕ) → polynomial_of s ≡ s
unfolding polynomial_of
polynomial_is s = refl

pub message_is : (f : List ℕ) → message_of f ≡ f
unfolding message_of
message_is f = refl

pub message_of_lem : (k : ℕ) (f : List ℕ) → length f ≡ k → Symbols f → IsMessage k (message_of f)
unfolding message_of
message_of_lem k f long small = record { long = long; symbols = small }

pub polynomial_long : (k : ℕ) (s : List ℕ) → IsMessage k s → length (polynomial_of s) ≡ k
unfolding polynomial_of
polynomial_long k s is = is.long

pub polynomial_symbols : (k : ℕ) (s : List ℕ) → IsMessage k s → Symbols (polynomial_of s)
unfolding polynomial_of
polynomial_symbols k s is = is.symbols
