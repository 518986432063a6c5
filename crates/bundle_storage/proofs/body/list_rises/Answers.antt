-- `bundle_storage::body::list_rises` meets its contract: the loop has passed only entries in order, and low is the least that the next may be.
-- Assumes nothing.
use mathlib.Core.Path.{sym}
use borrow.Author.Count.{below_none, below_more}
use borrow.Author.Rules.{rules}
use Rattle.bundle_storage.specs.Rising.{rises}
use Rattle.bundle_storage.specs.Storage.{list_at}
use Rattle.bundle_storage.proofs.RisingLaws.{one_bad, none_bad, least_first, least_next, too_low, too_high, between}
use Rattle.bundle_storage.proofs.body.list_rises.Goals as goal

pub loop-j-init : goal.loop-j-init
unfolding rises list_at
loop-j-init c = (least_first _, below_none _)

pub returns-then-here-low : goal.returns-then-here-low
unfolding rises list_at
returns-then-here-low c =
    sym (one_bad _ c.loop-j.j _ (search rules) c.loop-j.invariant.1
    (too_low c.args.limit (list_at c.args.list.now) c.loop-j.j _ _ c.loop-j.invariant.0 c.two_at-here.ensures.0 c.if-here-low.true))

pub returns-then-limit-here : goal.returns-then-limit-here
unfolding rises list_at
returns-then-limit-here c =
    sym (one_bad _ c.loop-j.j _ (search rules) c.loop-j.invariant.1
    (too_high c.args.limit (list_at c.args.list.now) c.loop-j.j _ _ c.loop-j.invariant.0 c.two_at-here.ensures.0 c.if-here-low.false c.if-limit-here.true))

pub loop-j-preserved : goal.loop-j-preserved
unfolding rises list_at
loop-j-preserved c =
    let f = list_at c.args.list.now in
    let here = c.two_at-here.ensures.0 in (
      least_next f c.loop-j.j _ here,
      below_more _ _ c.loop-j.invariant.1
          (between c.args.limit f c.loop-j.j _ _ c.loop-j.invariant.0 here c.if-here-low.false c.if-limit-here.false),
    )

pub returns : goal.returns
unfolding rises list_at
returns c =
    let l = c.loop-j in
    sym (none_bad _ l.j _ (search rules) c.loop-j-test.false l.invariant.1)
