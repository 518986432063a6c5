-- `bundle_gather::once::keep_weights` meets its contract: the first N numbers stand from 4N on too.
-- Assumes nothing.
use mathlib.Core.Path.{◌≡◌, sym, ap, ◌∙◌}
use mathlib.Core.List.{List, ◌++◌, append_assoc}
use Prim.Native.Nat.{ℕ, ◌+◌, ◌*◌, ◌-◌, ◌≤◌}
use native.Mathlib.Omega.{arith}
use lib.ListN.{length, get_or, take, drop}
use lib.Seq.{length-take-le, get_or-take}
use Rattle.lists.specs.Tab.{tab}
use Rattle.std.specs.List.{copy_within}
use Rattle.lists.proofs.Tab.{tab_ext, tab_get_or}
use Rattle.bundle_gather.specs.Gathering.{with_weights}
use Rattle.bundle_gather.proofs.once.keep_weights.Goals as goal

front : (n : ℕ) (s : List ℕ) → n ≤ length s → take n s ≡ tab n (λ i. get_or s i 0)
front n s h =
    sym (
    tab_ext n _ _ (λ i l. sym (get_or-take n s i 0 l))
    ∙ ap (λ (m : ℕ). tab m (λ i. get_or (take n s) i 0)) (sym (length-take-le n s h))
    ∙ tab_get_or (take n s))

copied : (size : ℕ) (cells : List ℕ) → size ≤ length cells → copy_within cells 0 size (4 * size) ≡ with_weights size cells
copied size cells h =
    append_assoc (take (4 * size) cells) (take (size - 0) cells) (drop (4 * size + (size - 0)) cells)
    ∙ ap (λ (m : ℕ). take (4 * size) cells ++ (take m cells ++ drop (4 * size + m) cells)) {x = size - 0} {y = size} (omega arith)
    ∙ ap (λ (new : List ℕ). take (4 * size) cells ++ (new ++ drop (4 * size + size) cells)) (front size cells h)

pub returns : goal.returns
returns c = c.copy_within.ensures.after ∙ copied c.args.size c.args.cells.now (omega arith)
