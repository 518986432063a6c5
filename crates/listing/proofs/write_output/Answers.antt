-- `listing::write_output`: a write takes what stands behind what was written before.
-- Assumes nothing.
use Rattle.std.proofs.Common.{rules, take, sym, ap, ◌∙◌, subst, ◌++◌}
use Rattle.std.proofs.Math.Seq.{take-add}
use Rattle.std.proofs.lemmas.List.{take_rest}
use Rattle.std.specs.Io.KnownBytes.{Appends}
use Rattle.std.proofs.KnownBytes.{Appends-trans}
use Rattle.listing.proofs.write_output.Goals as goal

pub loop-done-preserved : goal.loop-done-preserved
loop-done-preserved g c =
    let text = c.args.text.now in
    let at = c.loop-done.done in
    let n = c.in-Ok.more in
    let joined = ap (λ l. take at text ++ take n l) (take_rest text at) ∙ sym (take-add at n text) in
    (search rules, subst (Appends _ _) joined (Appends-trans _ _ _ _ _ c.loop-done.invariant.1 c.in-Ok.ensures.bytes))
