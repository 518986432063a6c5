-- `bundle_layout::checks::rest_good` meets its contract: the loop has passed only good entries, low is the least that the next position may
-- be, and at is where the next body has to begin.
-- Assumes nothing.
use mathlib.Core.Path.{sym, ◌∙◌}
use native.Mathlib.Omega.{arith}
use borrow.Author.Count.{below_none, below_more}
use borrow.Author.Rules.{rules}
use Rattle.bundle_storage.specs.Blocks.{most_blocks}
use Rattle.bundle_layout.specs.Fields.{position_in}
use Rattle.bundle_storage.specs.Storage.{body_size}
use Rattle.bundle_layout.specs.Shadows.{header_size, entry_size, first_body}
use Rattle.bundle_layout.proofs.Entries.{entry_inside, start_first, start_step, end_inside, rest_short, rest_bad, rest_is}
use Rattle.bundle_storage.proofs.RisingLaws.{least_first, least_next}
use Rattle.bundle_layout.proofs.checks.rest_good.Goals as goal

pub returns-then-bundle-at : goal.returns-then-bundle-at
unfolding body_size most_blocks first_body header_size entry_size
returns-then-bundle-at c = sym (rest_short c.args.bundle.now (omega (arith, c.if-bundle-at.true, c.requires.inside.2)))

pub loop-t-init : goal.loop-t-init
unfolding body_size most_blocks first_body header_size entry_size
loop-t-init c = (
  search rules,
  least_first _,
  omega (arith, start_first c.args.bundle.now, c.requires.inside.2),
  c.if-bundle-at.false,
  below_none _,
)

pub bad_entry-requires : goal.bad_entry-requires
unfolding body_size most_blocks first_body header_size entry_size
bad_entry-requires c =
    let l = c.loop-t in
    record { inside = (entry_inside c.args.held l.t c.args.bundle.now (search rules) c.if-bundle-at.false, l.invariant.3); header = (c.requires.inside.1, c.requires.counted.0, c.requires.counted.1); reached = (l.invariant.1, l.invariant.2) }

pub returns-then-bad_entry : goal.returns-then-bad_entry
unfolding body_size most_blocks first_body header_size entry_size
returns-then-bad_entry c =
    let l = c.loop-t in
    let s = c.args.bundle.now in
    sym (rest_bad s l.t (omega (arith, c.if-bundle-at.false, c.requires.inside.2)) (omega (arith, c.loop-t-test.true, c.requires.inside.2))
    l.invariant.4 (sym c.bad_entry.ensures ∙ c.if-bad_entry.true))

pub position_in-low-requires : goal.position_in-low-requires
unfolding body_size most_blocks first_body header_size entry_size
position_in-low-requires c = entry_inside c.args.held c.loop-t.t c.args.bundle.now c.loop-t-test.true c.if-bundle-at.false

pub count_in-requires : goal.count_in-requires
unfolding body_size most_blocks first_body header_size entry_size
count_in-requires c = entry_inside c.args.held c.loop-t.t c.args.bundle.now c.loop-t-test.true c.if-bundle-at.false

pub body_size-at-requires : goal.body_size-at-requires
unfolding body_size most_blocks first_body header_size entry_size
body_size-at-requires c = (search rules, c.count_in.ensures.1)

pub loop-t-preserved : goal.loop-t-preserved
unfolding body_size most_blocks first_body header_size entry_size
loop-t-preserved c =
    let l = c.loop-t in
    let s = c.args.bundle.now in
    let good = sym c.bad_entry.ensures ∙ c.if-bad_entry.false in (
      search rules,
      least_next (position_in s) l.t _ c.position_in-low.ensures.0,
      start_step s l.t l.at _ _ l.invariant.2 c.requires.counted.0 c.count_in.ensures.0 _ c.body_size-at.ensures,
      end_inside s l.t l.at _ _ l.invariant.2 c.requires.counted.0 c.count_in.ensures.0 _ c.body_size-at.ensures l.invariant.3 good,
      below_more _ _ l.invariant.4 good,
    )

pub returns : goal.returns
unfolding body_size most_blocks first_body header_size entry_size
returns c =
    let l = c.loop-t in
    let s = c.args.bundle.now in
    sym (rest_is s l.t l.at (omega (arith, l.invariant.0, c.loop-t-test.false, c.requires.inside.2)) l.invariant.2 (omega (arith, c.if-bundle-at.false, l.invariant.0, c.loop-t-test.false)) l.invariant.4)

pub overflow_add-at-in-loop-t : goal.overflow_add-at-in-loop-t
unfolding body_size most_blocks first_body header_size entry_size
overflow_add-at-in-loop-t c = search rules
