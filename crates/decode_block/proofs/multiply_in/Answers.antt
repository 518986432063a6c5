-- `decode_block::multiply_in` meets its contract: at the loop's head the numbers at the positions passed are multiplied.
-- Assumes nothing.
use mathlib.Core.Path.{◌≡◌, sym, ap, ◌∙◌}
use mathlib.Core.List.{List}
use Prim.Native.Nat.{ℕ, ◌+◌, ◌<◌}
use native.Mathlib.Decide.{ℕ_discrete}
use native.Mathlib.Omega.{arith}
use borrow.Author.Rules.{rules}
use lib.ListN.{length, get_or, set, length-set}
use Rattle.std.proofs.lemmas.List.{length_push}
use Rattle.std.proofs.lemmas.Slice.Zip.{zip_turn}
use lib.Seq.{get_or-set_same, get_or-set_other}
use Rattle.field.specs.Field.{product}
use Rattle.code.specs.Positions.{Inside}
use Rattle.code.specs.Repeats.{Apart}
use Rattle.decode_block.specs.Multiplied.{Multiplied}
use Rattle.decode_block.proofs.multiply_in.Goals as goal

module _ (positions values d list : List ℕ) (t : ℕ) (apart : Apart positions) (inside : Inside (length d) positions) (m : Multiplied t positions values d list) where
  more : (p v : ℕ) → t < length positions → p ≡ get_or positions t 0 → v ≡ product (get_or values t 0) (get_or list p 0) → Multiplied (t + 1) positions values d (set list p v)
  more p v l is new =
      record {
        long = length-set list p v ∙ m.long;
        at = λ i k. at i k (ℕ_discrete i t);
        other = λ j free.
            get_or-set_other list p j v 0 (λ same. free t (omega arith) (sym is ∙ sym same)) ∙ m.other j (λ i k. free i (omega arith));
      }
    where
      at : (i : ℕ) → i < t + 1 → Dec (i ≡ t) → get_or (set list p v) (get_or positions i 0) 0 ≡ product (get_or values i 0) (get_or d (get_or positions i 0) 0)
      at i k (yes last) =
          ap (λ (x : ℕ). get_or (set list p v) (get_or positions x 0) 0) last
          ∙ ap (λ (x : ℕ). get_or (set list p v) x 0) (sym is)
          ∙ get_or-set_same list p v 0 (omega (arith, m.long, inside t l, is))
          ∙ new
          ∙ ap (product (get_or values t 0)) (ap (λ (x : ℕ). get_or list x 0) is ∙ m.other (get_or positions t 0) (λ j k same. apart j t k l same))
          ∙ ap (λ (x : ℕ). product (get_or values x 0) (get_or d (get_or positions x 0) 0)) (sym last)
      at i k (no before) =
          get_or-set_other list p (get_or positions i 0) v 0 (λ same. apart i t (omega arith) l (same ∙ is)) ∙ m.at i (omega arith)

pub loop-position-preserved : goal.loop-position-preserved
loop-position-preserved c =
    let l = c.loop-position in
    let turn = zip_turn c.args.positions.now c.args.values.now l.yielded c.into_iter-position-iterator.result l.position-iterator c.next.new.self _ (search rules) (search rules) l.yielded_by (c.in-Some.position, c.in-Some.value) c.in-Some.is c.next.ensures.steps in
    rw (length_push l.yielded (c.in-Some.position, c.in-Some.value))
    (more _ _ _ l.list (length l.yielded) c.requires.2 c.requires.1 l.invariant _ _ turn.0 (turn.2 0)
    (c.product.ensures.is ∙ ap (λ (x : ℕ). product x (get_or l.list c.in-Some.position.now 0)) (turn.3 0)))
