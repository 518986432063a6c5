-- `bundle_write::bodies::write_bodies` meets its contract: the blocks passed are in the bodies, and in the end all of the bundle stands.
-- Assumes nothing.
use mathlib.Core.Path.{subst, sym}
use Prim.Native.Nat.{ℕ}
use native.Mathlib.Numerals.{add-one}
use native.Mathlib.Omega.{arith}
use Rattle.bundle_file.specs.File.{file_bundle}
use Rattle.bundle_file.specs.Counts.{Counted}
use Rattle.bundle_write.specs.Writing.{Progress}
use Rattle.bundle_file.proofs.Counting.{n_fits, counted_none}
use Rattle.bundle_write.proofs.Filling.{bundle_stands}
use Rattle.bundle_front.proofs.Onward.{onward_none, onward_more}
use Rattle.bundle_write.proofs.bodies.write_bodies.Goals as goal

pub clear_counts-requires : goal.clear_counts-requires
clear_counts-requires c = (n_fits _ _ _ c.args.source.shaped, c.requires.1)

pub loop-b-init : goal.loop-b-init
loop-b-init c =
    let s = c.args.source in (
      onward_none _ _,
      c.requires.0,
      counted_none s.k s.n s.file.now c.clear_counts.new.cells (omega (arith, c.clear_counts.auto.cells, c.requires.1)) c.clear_counts.ensures,
    )

pub loop-b-preserved : goal.loop-b-preserved
loop-b-preserved c =
    let l = c.loop-b in
    let s = c.args.source in (
      onward_more (file_bundle s.k s.n s.file.now) c.args.out.now l.out c.write_block.new.out l.invariant.0 c.write_block.ensures.onward,
      subst (λ (m : ℕ). Progress s.k s.n s.file.now m c.write_block.new.out) (sym (add-one l.b)) c.write_block.ensures.progress,
      subst (λ (m : ℕ). Counted s.k s.n s.file.now m c.write_block.new.cells) (sym (add-one l.b)) c.write_block.ensures.counted,
    )

pub returns : goal.returns
returns c =
    let l = c.loop-b in
    let s = c.args.source in
    bundle_stands s.k s.n s.file.now s.shaped c.args.out.now l.out l.invariant.0
    (subst (λ (m : ℕ). Progress s.k s.n s.file.now m l.out) (omega arith) l.invariant.1)
