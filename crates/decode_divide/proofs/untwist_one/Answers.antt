-- `decode_divide::untwist_one` meets its contract: at 0 nothing is divided, elsewhere the table has the power.
-- Assumes nothing.
use mathlib.Core.Path.{◌≡◌, refl, sym, ap, ◌∙◌}
use mathlib.Core.List.{List}
use Prim.Native.Nat.{ℕ, ◌-◌, ◌*◌, ◌^◌, ◌<◌}
use native.Mathlib.Nat.{pow-zero, le_of_eq}
use native.Mathlib.Omega.{arith}
use lib.ListN.{length}
use Rattle.field.specs.Congruence.{◌≈◌}
use Rattle.field.specs.Field.{difference, product, power}
use Rattle.field.proofs.Congruence.{≈-of, reduced}
use Rattle.field.proofs.Ring.{difference_lt}
use Rattle.field.specs.Size.{level_of}
use Rattle.field.proofs.Sizes.{size_power}
use Rattle.decode_between.specs.Between.{psi}
use Rattle.decode_between.specs.Foldable.{PsiPowers}
use Rattle.decode_between.proofs.Foldable.{power_there}
use Rattle.decode_divide.proofs.Untwisting.{untwist}
use Rattle.decode_divide.proofs.untwist_one.Goals as goal

module _ (i x : ℕ) (powers : List ℕ) (table : PsiPowers powers) where
  N : ℕ
  N = length powers

  at_zero : i < length powers → i ≡ 0 → x < 65537 → x ≡ difference 0 (product x (power (psi (length powers)) (length powers - i)))
  unfolding N
  at_zero inside none small =
      sym (reduced
      (untwist N N _ _ size refl size refl (le_of_eq refl) table.root x x i (omega arith) same)
      (difference_lt 0 _) small)
    where
      size : N ≡ 2 ^ level_of N
      size = table.size ∙ size_power N

      same : x ≈ x * psi N ^ i
      same = rw none (≈-of (omega (arith, ap (x *◌) (pow-zero (psi N)))))

pub returns-then-i-eq0 : goal.returns-then-i-eq0
returns-then-i-eq0 c = at_zero _ _ _ c.requires.0 c.requires.1 c.if-i-eq0.true (c.requires.2 c.if-i-eq0.true)

pub returns : goal.returns
returns c =
    c.difference.ensures.is
    ∙ ap (difference 0) (c.product.ensures.is ∙ ap (product c.args.coefficient) (power_there c.args.powers.now c.requires.0 (length c.args.powers.now - c.args.i) (omega (arith, c.if-i-eq0.false, c.requires.1))))
