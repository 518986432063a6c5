-- `decode_divide::zero_from` meets its contract: what stands from the index on, or from the end, is 0 throughout.
-- Assumes nothing.
use Rattle.std.proofs.Common.{rules, arith, ◌≡◌, ◌↔◌, ℕ, ◌+◌, ◌-◌, Bool, true, false, List, length, take, drop, get_or, min, IsTrue, EachIndex, refl, sym, ap, ◌∙◌, length-drop}
use Rattle.std.proofs.Math.Seq.{take_all, get_or-drop}
use Rattle.decode_divide.specs.Tests.{Decides, ZeroFrom}
use Rattle.decode_divide.proofs.zero_from.Goals as goal

decided : (r : Bool) (P Q : Type 0) → IsTrue r ↔ P → (P → Q) → (Q → P) → Decides r Q
decided true P Q iff there back = there (iff.0 refl)
decided false P Q iff there back = λ q. let no : false ≡ true = iff.1 (back q) in cc

module _ (from begin : ℕ) (list : List ℕ) (least : begin ≡ min from (length list)) where
  rest : List ℕ
  rest = take (length list - begin) (drop begin list)

  rest_is : rest ≡ drop begin list
  unfolding rest
  rest_is = take_all (length list - begin) (drop begin list) (omega (arith, length-drop begin list))

  entry : (k : ℕ) → get_or rest k 0 ≡ get_or list (begin + k) 0
  entry k = ap (λ (s : List ℕ). get_or s k 0) rest_is ∙ get_or-drop begin list k 0

  tested : (r : Bool) → IsTrue r ↔ EachIndex (take (length list - begin) (drop begin list)) (λ k. get_or (take (length list - begin) (drop begin list)) k 0 ≡ 0)
      → Decides r (ZeroFrom from list)
  unfolding rest
  tested r iff =
      decided r _ (ZeroFrom from list) iff
      (λ each i l less.
      ap (λ (n : ℕ). get_or list n 0) {x = i} {y = begin + (i - begin)} (omega (arith, least)) ∙ sym (entry (i - begin))
      ∙ each (i - begin) (omega (arith, ap length rest_is, length-drop begin list, least)))
      (λ all k less. entry k ∙ all (begin + k) (omega (arith, ap length rest_is, length-drop begin list, least)) (omega (arith, ap length rest_is, length-drop begin list)))

pub returns : goal.returns
returns c = tested c.args.from c.min-begin.result c.args.list.now (search rules) c.all.result (search rules)
