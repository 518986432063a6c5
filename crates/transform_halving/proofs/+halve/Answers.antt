-- `transform_halving::halve` meets its contract, by induction on the length: each half is shorter, and what the two calls leave is joined.
-- Assumes nothing.
use mathlib.Core.Path.{◌∙◌}
use native.Mathlib.Omega.{arith}
use Rattle.transform_halving.proofs.Halves.{front_transformable, back_transformable, both_even, both_symbols, both_joined, single_halved}
use Rattle.transform_halving.proofs.+halve.Goals as goal

pub returns-then-list-lt2 : goal.returns-then-list-lt2
returns-then-list-lt2 t c = single_halved _ _ c.requires c.if-list-lt2.true

pub halve-requires : goal.halve-requires
halve-requires t c =
    let s = c.split_at_mut-front.ensures in
    (omega arith, front_transformable _ c.requires c.if-list-lt2.false _ _ s.front s.back)

pub halve-requires-2 : goal.halve-requires-2
halve-requires-2 t c =
    let s = c.split_at_mut-front.ensures in
    (omega arith, back_transformable _ c.requires c.if-list-lt2.false _ _ s.front s.back)

pub join-requires : goal.join-requires
join-requires t c =
    let s = c.split_at_mut-front.ensures in
    let squared = c.product-square.ensures.is in (
      both_even _ c.requires c.if-list-lt2.false _ _ s.front s.back c.args.root _ _ squared squared _ _ c.halve.ensures c.halve-2.ensures,
      both_symbols _ c.requires c.if-list-lt2.false _ _ s.front s.back c.args.root _ _ squared squared _ _ c.halve.ensures c.halve-2.ensures,
    )

pub returns : goal.returns
returns t c =
    let s = c.split_at_mut-front.ensures in
    let squared = c.product-square.ensures.is in
    c.join.ensures
    ∙ both_joined _ c.requires c.if-list-lt2.false _ _ s.front s.back c.args.root _ _ squared squared _ _ c.halve.ensures c.halve-2.ensures
