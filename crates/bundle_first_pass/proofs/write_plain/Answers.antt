-- `bundle_first_pass::write_plain` meets its contract: the blocks passed are counted, and in the bodies if no symbol overflows.
-- Assumes nothing.
use mathlib.Core.Path.{subst, sym}
use Prim.Native.Nat.{ℕ}
use native.Mathlib.Numerals.{add-one}
use native.Mathlib.Omega.{arith}
use Rattle.bundle_file.specs.Counts.{Counted}
use Rattle.bundle_file.proofs.Counting.{n_fits, counted_none}
use Rattle.bundle_first_pass.specs.Plain.{Plain}
use Rattle.bundle_first_pass.proofs.Laying.{plainly_none, plainly_more, plain_none}
use Rattle.bundle_first_pass.proofs.write_plain.Goals as goal

pub clear_counts-requires : goal.clear_counts-requires
clear_counts-requires c = (n_fits _ _ _ c.args.source.shaped, c.requires.1)

pub loop-b-init : goal.loop-b-init
loop-b-init c =
    let s = c.args.source in (
      plainly_none _ _ _ _,
      plain_none _ _ _ c.args.out.now c.requires.0,
      counted_none s.k s.n s.file.now c.clear_counts.new.cells (omega (arith, c.clear_counts.auto.cells, c.requires.1)) c.clear_counts.ensures,
    )

pub loop-b-preserved : goal.loop-b-preserved
loop-b-preserved c =
    let l = c.loop-b in
    let s = c.args.source in (
      plainly_more s.k s.n s.file.now c.args.out.now l.out c.pass_block.new.out l.invariant.0 c.pass_block.ensures.plainly,
      subst (λ (m : ℕ). Plain s.k s.n s.file.now m c.pass_block.new.out) (sym (add-one l.b)) c.pass_block.ensures.plain,
      subst (λ (m : ℕ). Counted s.k s.n s.file.now m c.pass_block.new.cells) (sym (add-one l.b)) c.pass_block.ensures.counted,
    )

pub returns-clause-plain : goal.returns-clause-plain
returns-clause-plain c =
    let l = c.loop-b in
    let s = c.args.source in
    subst (λ (m : ℕ). Plain s.k s.n s.file.now m l.out) (omega arith) l.invariant.1
