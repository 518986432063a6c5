-- `bundle_read::blocks::read_blocks` meets its contract: at the loop's head the first b blocks are taken.
-- Assumes nothing.
use mathlib.Core.Path.{◌≡◌, refl, sym, ap, ◌∙◌}
use mathlib.Core.List.{[], ◌∷◌}
use Prim.Native.Nat.{ℕ, ◌≤◌}
use native.Mathlib.Omega.{arith}
use borrow.Author.Rules.{rules}
use lib.ListN.{take}
use Rattle.std.specs.Prelude.{⊤, Result, Err}
use Rattle.answers.specs.Refusals.{the_result, told_outcome, after}
use Rattle.answers.specs.declared.refusal.Refusal.{Refusal}
use Rattle.bundle_layout.specs.Fields.{length_in, blocks_in}
use Rattle.bundle_read.specs.Reading.{file_in}
use Rattle.bundle_read.proofs.BlockReading.{answer_stops, answer_ends, file_whole, taken_none, taken_more}
use Rattle.bundle_read.proofs.blocks.read_blocks.Goals as goal

pub loop-b-init : goal.loop-b-init
loop-b-init c = (refl, taken_none c.args.bundle.bytes.now c.args.file.now c.args.cells.now c.requires.prepared.1 c.requires.readable.1)

pub read_block-requires : goal.read_block-requires
read_block-requires c =
    let l = c.loop-b in
    record {
      readable = (omega (arith, c.loop-b-test.true, c.blocks-b-end.ensures.0), c.requires.readable.0);
      prepared = (c.requires.prepared.0, l.invariant.1.laid);
    }

pub loop-b-preserved : goal.loop-b-preserved
loop-b-preserved c =
    let l = c.loop-b in
    let told = c.in_ok-read_block.ensures in (
      c.read_block.auto.file ∙ l.invariant.0,
      taken_more c.args.bundle.bytes.now l.b l.file l.cells c.read_block.new.file c.read_block.new.cells c.args.bundle.good
          (omega (arith, c.loop-b-test.true, c.blocks-b-end.ensures.0)) l.invariant.1 told.answer told.laid c.read_block.auto.file (told.file refl),
    )

pub returns-in_err-read_block-clause-answer : goal.returns-in_err-read_block-clause-answer
returns-in_err-read_block-clause-answer c =
    let l = c.loop-b in
    let s = c.args.bundle.bytes.now in
    let x = c.in_err-read_block.field-0.0 in
    let same : c.from_residual.result ≡ Err x = search rules in
    ap (λ (r : Result ⊤ Refusal). after (told_outcome r) (the_result (length_in s ∷ []))) same
    ∙ answer_stops s c.args.bundle.good l.b x (omega (arith, c.loop-b-test.true, c.blocks-b-end.ensures.0)) l.invariant.1.left
    (sym c.in_err-read_block.ensures.answer)

pub returns : goal.returns
returns c =
    let l = c.loop-b in
    let s = c.args.bundle.bytes.now in
    let le : l.b ≤ blocks_in s = omega (arith, l.auto.b-end, c.blocks-b-end.ensures.0) in
    let ge : blocks_in s ≤ l.b = omega (arith, c.loop-b-test.false, c.blocks-b-end.ensures.0) in
    record {
      answer = answer_ends s c.args.bundle.good l.b le ge l.invariant.1.left;
      file = λ done. file_whole s c.args.bundle.good l.b l.file l.invariant.1.long le ge l.invariant.1.so_far
          ∙ ap (λ (m : ℕ). take m (file_in s)) l.invariant.0;
    }
