-- `transform_table::halve_by` meets its contract, by induction on the length: each half is shorter, and what the two calls leave is joined.
-- Assumes nothing.
use mathlib.Core.Path.{refl, ◌∙◌}
use native.Mathlib.Omega.{arith}
use Rattle.transform_halving.proofs.Halves.{single_halved}
use Rattle.transform_table.proofs.Halves.{front_tabled, back_tabled, both_tabled, all_halved}
use Rattle.transform_table.proofs.+halve_by.Goals as goal

pub returns-then-list-lt2 : goal.returns-then-list-lt2
returns-then-list-lt2 t c = single_halved _ _ c.requires.able c.if-list-lt2.true

pub halve_by-requires : goal.halve_by-requires
halve_by-requires t c =
    let s = c.split_at_mut-front.ensures in
    (omega arith, front_tabled _ _ _ c.requires c.if-list-lt2.false _ _ s.front s.back _ _ (refl, refl))

pub halve_by-requires-2 : goal.halve_by-requires-2
halve_by-requires-2 t c =
    let s = c.split_at_mut-front.ensures in
    (omega arith, back_tabled _ _ _ c.requires c.if-list-lt2.false _ _ s.front s.back _ _ (refl, refl))

pub join_by-requires : goal.join_by-requires
join_by-requires t c =
    let s = c.split_at_mut-front.ensures in
    both_tabled _ _ _ c.requires c.if-list-lt2.false _ _ s.front s.back _ _ c.halve_by.ensures c.halve_by-2.ensures

pub returns : goal.returns
returns t c =
    let s = c.split_at_mut-front.ensures in
    c.join_by.ensures ∙ all_halved _ _ _ c.requires c.if-list-lt2.false _ _ s.front s.back _ _ c.halve_by.ensures c.halve_by-2.ensures
