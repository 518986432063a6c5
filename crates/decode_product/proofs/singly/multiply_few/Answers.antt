-- `decode_product::singly::multiply_few` meets its contract: at the loop's head some points from the last down are multiplied out in the room.
-- Assumes nothing.
use mathlib.Core.Path.{◌∙◌}
use Prim.Native.Nat.{◌/◌}
use native.Mathlib.Omega.{arith}
use borrow.Author.Rules.{rules}
use lib.ListN.{length, take}
use Rattle.std.proofs.lemmas.List.{length_push}
use Rattle.cells.proofs.Filled.{copied_all}
use Rattle.decode_product.proofs.Quarters.{even_of}
use Rattle.decode_product.proofs.Stepping.{next_point, no_point, stepped_none, stepped_symbols, stepped_more, stepped_all}
use Rattle.decode_product.proofs.singly.multiply_few.Goals as goal

pub loop-count-init : goal.loop-count-init
loop-count-init c = stepped_none c.args.cells.now c.requires c.split_at_mut-points.result.1.now

pub raise-requires : goal.raise-requires
raise-requires c =
    let d = c.args.cells.now in
    let l = c.loop-count in
    let next = next_point (take (length d / 2) d) c.into_iter-count-iterator.result (search rules) (search rules) l.yielded l.count-iterator c.next.new.self l.yielded_by _ c.next.ensures.steps (c.in-Some.count, c.in-Some.x) c.in-Some.is in
    stepped_symbols d c.requires l.room (length l.yielded) c.in-Some.count _ next.0 (omega (arith, l.auto.room, c.split_at_mut-points.ensures.back_len)) l.invariant next.1 (omega (arith, next.1))

pub loop-count-preserved : goal.loop-count-preserved
loop-count-preserved c =
    let d = c.args.cells.now in
    let l = c.loop-count in
    let next = next_point (take (length d / 2) d) c.into_iter-count-iterator.result (search rules) (search rules) l.yielded l.count-iterator c.next.new.self l.yielded_by _ c.next.ensures.steps (c.in-Some.count, c.in-Some.x) c.in-Some.is in
    stepped_more d c.requires l.room (length l.yielded) c.in-Some.count _ next.0 (omega (arith, l.auto.room, c.split_at_mut-points.ensures.back_len)) l.invariant next.1 (omega (arith, next.1))
    c.raise.new.cells _ c.in-Some.x.now _ c.raise.auto.cells c.raise.ensures next.2 (length_push l.yielded (c.in-Some.count, c.in-Some.x))

pub copy-requires : goal.copy-requires
copy-requires c = omega (arith, even_of c.args.cells.now c.requires.0 c.requires.1)

pub returns : goal.returns
returns c =
    let d = c.args.cells.now in
    let l = c.loop-count in
    stepped_all d c.requires l.room (length l.yielded)
    (no_point (take (length d / 2) d) c.into_iter-count-iterator.result (search rules) (search rules) l.yielded l.count-iterator c.next.new.self l.yielded_by _ c.next.ensures.steps c.in-None.is)
    (omega (arith, l.auto.room, c.split_at_mut-points.ensures.back_len)) l.invariant _ (c.copy.ensures ∙ copied_all _ _ (omega (arith, even_of c.args.cells.now c.requires.0 c.requires.1)))
