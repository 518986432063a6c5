-- `decode_prepare::prepare` meets its contract, step by step.
-- Assumes nothing.
use native.Mathlib.Omega.{arith}
use borrow.Author.Rules.{rules}
use Rattle.decode_prepare.proofs.Finishing.{power_of_two, root_there, long_N, nothing_missing, product_asked, weigh_asked, something_missing}
use Rattle.decode_prepare.proofs.prepare.Goals as goal

pub begin-missing-requires : goal.begin-missing-requires
begin-missing-requires c =
    let p = c.requires in (
      long_N _ _ _ p.0 p.1 p.2 _ _ c.size-size.ensures c.size-step.ensures,
      power_of_two _ _ _ p.0 p.1 p.2 _ _ c.size-size.ensures c.size-step.ensures,
      root_there _ _ _ p.0 p.1 p.2 _ _ c.size-size.ensures c.size-step.ensures,
    )

pub returns-then-missing-eq0 : goal.returns-then-missing-eq0
returns-then-missing-eq0 c =
    let p = c.requires in
    nothing_missing _ _ _ p.0 p.1 p.2 _ _ c.size-size.ensures c.size-step.ensures _ _ c.begin-missing.auto.cells c.begin-missing.ensures.missing c.begin-missing.ensures.points c.begin-missing.ensures.powers c.if-missing-eq0.true _ (c.fill.ensures.after (search rules))

pub lay_product-requires : goal.lay_product-requires
lay_product-requires c =
    let p = c.requires in
    let asked = product_asked _ _ _ p.0 p.1 p.2 _ _ c.size-size.ensures c.size-step.ensures _ _ c.begin-missing.auto.cells c.begin-missing.ensures.missing c.begin-missing.ensures.points c.begin-missing.ensures.powers (omega (arith, c.if-missing-eq0.false)) in
    record { sizes = asked.0; points = asked.1 }

pub weigh-requires : goal.weigh-requires
weigh-requires c =
    let p = c.requires in
    weigh_asked _ _ _ p.0 p.1 p.2 _ _ c.size-size.ensures c.size-step.ensures _ _ c.begin-missing.auto.cells c.begin-missing.ensures.missing c.begin-missing.ensures.points c.begin-missing.ensures.powers
    _ c.lay_product.auto.cells c.lay_product.ensures.coefficients c.lay_product.ensures.rest

pub returns : goal.returns
returns c =
    let p = c.requires in
    something_missing _ _ _ p.0 p.1 p.2 _ _ c.size-size.ensures c.size-step.ensures _ _ c.begin-missing.auto.cells c.begin-missing.ensures.missing c.begin-missing.ensures.points c.begin-missing.ensures.powers
    _ c.lay_product.auto.cells c.lay_product.ensures.coefficients c.lay_product.ensures.rest
    _ c.weigh.auto.cells c.weigh.ensures.values c.weigh.ensures.inverses c.weigh.ensures.rest
