-- `field::orders::level` meets its contract: size is 2 ^ level, and every smaller power of two is below n.
-- Assumes nothing.
use mathlib.Core.Path.{◌≡◌, sym, ◌∙◌}
use Prim.Native.Nat.{◌^◌}
use native.Mathlib.Omega.{arith}
use borrow.Author.Rules.{rules}
use borrow.Author.Tests.{le-leb}
use Rattle.field.specs.Size.{level_of}
use Rattle.answers.proofs.First.{first_here, first_all}
use Rattle.field.proofs.orders.level.Goals as goal

pub returns-then-n-size : goal.returns-then-n-size
unfolding level_of
returns-then-n-size c =
    let l = c.loop-level in
    record {
      is = sym (first_here 16 l.level _ (search rules) l.invariant.1 (le-leb c.args.n (2 ^ l.level) (omega arith)));
      small = search rules;
    }

pub returns : goal.returns
unfolding level_of
returns c =
    let l = c.loop-level in
    let end : 16 ≡ l.level = omega arith in
    record { is = end ∙ sym (first_all 16 l.level _ (search rules) (search rules) l.invariant.1); small = search rules }
