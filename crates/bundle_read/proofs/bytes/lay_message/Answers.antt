-- `bundle_read::bytes::lay_message` meets its contract: the words passed stand in the file, the rest is as it was.
-- Assumes nothing.
use mathlib.Core.Path.{◌≡◌, refl, ap, ◌∙◌}
use mathlib.Core.List.{List, ◌++◌}
use Prim.Native.Nat.{ℕ, ◌+◌, ◌*◌, ◌≤◌}
use native.Mathlib.Omega.{arith}
use borrow.Author.Rules.{rules}
use lib.ListN.{get_or, take, drop}
use Rattle.lists.specs.Tab.{tab}
use Rattle.lists.proofs.Window.{window, window_none}
use Rattle.bundle_storage.specs.Bytes.{in_bytes}
use Rattle.bundle_read.proofs.MessageBytes.{words_more}
use Rattle.bundle_read.proofs.bytes.lay_message.Goals as goal

all : (message file now : List ℕ) (from i count : ℕ) → i ≤ count → count ≤ i → now ≡ window from (2 * i) (λ j. get_or (in_bytes message) j 0) file
    → now ≡ take from file ++ (tab (2 * count) (λ j. get_or (in_bytes message) j 0) ++ drop (from + 2 * count) file)
unfolding window
all message file now from i count le ge is =
    is ∙ ap (λ (m : ℕ). window from (2 * m) (λ j. get_or (in_bytes message) j 0) file) {x = i} {y = count} (omega arith)

pub loop-i-init : goal.loop-i-init
loop-i-init c = (search rules, search rules, window_none _ _ _)

pub put_two-requires : goal.put_two-requires
put_two-requires c =
    let l = c.loop-i in
    (omega (arith, c.loop-i-test.true, c.requires.1, l.invariant.1), omega (arith, c.requires.2 l.i (omega (arith, l.invariant.0, c.requires.0, c.loop-i-test.true))))

pub loop-i-preserved : goal.loop-i-preserved
loop-i-preserved c =
    let l = c.loop-i in (
      search rules,
      c.put_two.auto.bytes ∙ l.invariant.1,
      c.put_two.ensures
          ∙ words_more c.args.message.now c.args.file.now l.file c.args.from l.i _ refl (omega (arith, c.requires.2 l.i (omega (arith, l.invariant.0, c.requires.0, c.loop-i-test.true)))) (omega (arith, c.loop-i-test.true, c.requires.1)) l.invariant.2,
    )

pub shape_of-file : goal.shape_of-file
shape_of-file c = c.loop-i.invariant.1

pub returns : goal.returns
returns c =
    let l = c.loop-i in
    all c.args.message.now c.args.file.now l.file c.args.from l.i c.args.count l.invariant.0 c.loop-i-test.false l.invariant.2
