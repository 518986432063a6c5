-- A front of a list and the part behind it: what the pieces of an input and of a text come to.
-- Assumes nothing.
use Rattle.std.proofs.Common.{◌≡◌, ℕ, ◌+◌, ◌≤◌, List, ◌++◌, length, take, drop, sym, ap, ◌∙◌, le_refl, length-take-le, drop_at}
use Rattle.std.proofs.Math.Seq.{take-add, take-append-le}
use Rattle.std.proofs.lemmas.Slice.{take-put_mid_below}
use borrow.Rule.Slice.PartMut.{put_mid, post_of}

-- the front up to the end of what was put behind it
pub front_put : (at room n : ℕ) (xs ys : List ℕ) → at ≤ length xs → n ≤ length ys
    → take at xs ++ take n ys ≡ take (at + n) (put_mid at room xs ys)
front_put at room n xs ys within fits =
    let all = put_mid at room xs ys in
    let behind = post_of at room xs in
    let front : take at all ≡ take at xs = take-put_mid_below _ _ _ _ _ (le_refl _) within in
    let part : take n (drop at all) ≡ take n ys =
    ap (take n) (drop_at (take at xs) (ys ++ behind) at (length-take-le at xs within)) ∙ take-append-le n ys behind fits in
    ap (λ l. take at xs ++ l) (sym part) ∙ ap (λ l. l ++ take n (drop at all)) (sym front) ∙ sym (take-add at n all)
