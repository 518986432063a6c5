-- `bundle_first_pass::store_if_none` meets its contract: where a symbol overflowed before, nothing is promised of the bodies.
-- Assumes nothing.
use mathlib.Core.Path.{sym, ◌∙◌}
use native.Mathlib.Omega.{arith}
use Rattle.bundle_first_pass.proofs.Laying.{plain_over}
use Rattle.bundle_first_pass.proofs.store_if_none.Goals as goal

pub none_counted-requires : goal.none_counted-requires
none_counted-requires c = omega (arith, c.size.ensures, c.requires.begun.2.long)

pub store_plain-requires-clause-begun : goal.store_plain-requires-clause-begun
store_plain-requires-clause-begun c =
    let before = c.requires.begun in
    (before.0, before.1, omega (arith, c.size.ensures, before.2.long))

pub returns-else-none_counted-clause-plain : goal.returns-else-none_counted-clause-plain
returns-else-none_counted-clause-plain c =
    let before = c.requires.begun in
    plain_over _ _ c.args.source.file.now _ before.0 _ c.args.cells.now c.size.ensures before.2 (sym c.none_counted.ensures ∙ c.if-none_counted.false) _ before.1
