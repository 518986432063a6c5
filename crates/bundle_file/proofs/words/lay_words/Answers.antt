-- `bundle_file::words::lay_words` meets its contract: what has the entries of a table is the table.
-- Assumes nothing.
use mathlib.Core.Path.{sym, ◌∙◌}
use Prim.Native.Nat.{ℕ, ◌+◌, ◌*◌}
use native.Mathlib.Omega.{arith}
use lib.ListN.{length}
use lib.Seq.{ext_get_or}
use Rattle.lists.specs.Tab.{tab}
use Rattle.lists.proofs.Tab.{tab_length, tab_at}
use Rattle.bundle_storage.specs.Bytes.{two_at}
use Rattle.bundle_file.proofs.words.lay_words.Goals as goal

pub returns : goal.returns
returns c =
    let l = c.loop-i in
    let n = length c.args.words.now in
    let f : ℕ → ℕ = λ i. two_at c.args.file.now (c.args.from + 2 * i) in
    ext_get_or 0 l.words (tab n f) (omega (arith, l.auto.words, tab_length n f))
    (λ i h. l.invariant i (omega (arith, l.auto.words)) ∙ sym (tab_at n f i (omega (arith, l.auto.words))))
