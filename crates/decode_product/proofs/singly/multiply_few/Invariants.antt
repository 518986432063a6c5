-- What the loop of `decode_product::singly::multiply_few` keeps true: of the points, so many from the last down are multiplied out in the room.
use mathlib.Core.Path.{◌≡◌}
use Prim.Native.Nat.{◌-◌, ◌/◌}
use lib.ListN.{length, take, drop}
use Rattle.decode_product.specs.Factors.{lowers_of}
use Rattle.decode_product.proofs.singly.multiply_few.Given as goal

abbrev pub invariant-loop-count : goal.invariant-loop-count
invariant-loop-count l =
    take (length l.yielded) l.room ≡ lowers_of (drop (length l.fn.cells / 2 - length l.yielded) (take (length l.fn.cells / 2) l.fn.cells))
