-- The proofs of specs/Theorems.antt, each under its name there in small letters.
-- Assumes nothing.
use mathlib.Core.Path.{◌≡◌, refl, sym, ap, ◌∙◌}
use mathlib.Core.List.{List, [], ◌∷◌}
use Prim.Native.Nat.{ℕ, ◌^◌, ◌≤◌}
use native.Mathlib.Nat.{mod-lt}
use native.Mathlib.Omega.{arith}
use lib.Dec.{lit<, lit≤}
use lib.ListN.{length, get_or}
use Rattle.answers.specs.First.{first}
use Rattle.field.specs.Field.{power, inverse}
use Rattle.field.specs.Points.{root_of, point_of}
use Rattle.field.specs.Roots.{roots, root}
use Rattle.field.specs.Size.{level_of}
use Rattle.field.specs.Symbol.{Symbols}
use Rattle.field.proofs.Congruence.{≈-sym, mod-≈}
use Rattle.field.proofs.Ring.{product_lt}
use Rattle.field.proofs.Sizes.{level_power}
use Rattle.lists.specs.Every.{Every}
use Rattle.poly.specs.Sum.{total}
use Rattle.lists.specs.Tab.{tab}
use Rattle.poly.specs.Value.{value}
use Rattle.poly.proofs.Symbols.{symbols_at}
use Rattle.lists.proofs.Tab.{tab_at}
use Rattle.poly.proofs.Values.{value-≈}
use Rattle.transform_halving.specs.Theorems.{HalvingIsSum, HalvedIsHalving, TransformIsValue, TransformSymbols, InverseUndoes, TransformUndoes, WorkedNumbers}
use Rattle.transform_halving.specs.Transform.{sums, transform_of, inverse_of}
use Rattle.transform_halving.proofs.Order.{arranged_in_order, halved_is}
use Rattle.transform_halving.proofs.Transformable.{transformable_of}
use Rattle.transform_halving.proofs.Steps.{root_halfway}
use Rattle.transform_halving.proofs.Sums.{values, values_at, halving_values}
use Rattle.transform_halving.proofs.Undo as Undo

-- the root of a list's length, for a length that is a power of two
root_of_lem : (e : ℕ) → e ≤ 16 → (a : List ℕ) → length a ≡ 2 ^ e → root_of (length a) ≡ root e
unfolding root_of
root_of_lem e h a long = ap root (ap level_of long ∙ level_power e h)

pub halving_is_sum : HalvingIsSum
halving_is_sum e h a long small =
    halving_values e (root e) a long small (root_halfway e h)
    ∙ ap (λ (n : ℕ). values (root e) n a) (sym long)
    ∙ ap (λ (r : ℕ). values r (length a) a) (sym (root_of_lem e h a long))
    ∙ sym (Undo.transform_values a)

pub halved_is_halving : HalvedIsHalving
halved_is_halving e h r a long = rw (arranged_in_order e h a long) (halved_is e r a long)

pub transform_is_value : TransformIsValue
unfolding point_of power
transform_is_value a j h =
    rw (Undo.transform_values a) (values_at (root_of (length a)) (length a) a j h ∙ (value-≈ a (≈-sym (mod-≈ (root_of (length a) ^ j)))).mods)

pub transform_symbols : TransformSymbols
transform_symbols a = (
  Undo.transform_length a,
  λ i h.
      rw (Undo.transform_values a, values_at (root_of (length a)) (length a) a i (omega (arith, Undo.transform_length a)))
      (mod-lt (value a (root_of (length a) ^ i)) (lit< tt)),
  Undo.inverse_length a,
  λ i h.
      rw (Undo.inverse_values a, tab_at (length a) _ i (omega (arith, Undo.inverse_length a)))
      (product_lt (inverse (length a)) (get_or (values (inverse (root_of (length a))) (length a) a) i 0)),
)

pub inverse_undoes : InverseUndoes
inverse_undoes e h a long small = Undo.inverse_undoes a (transformable_of e h a long small)

pub transform_undoes : TransformUndoes
transform_undoes e h a long small = Undo.transform_undoes a (transformable_of e h a long small)

four : Symbols (1 ∷ 2 ∷ 0 ∷ 0 ∷ [])
unfolding Every
four = symbols_at (1 ∷ 2 ∷ 0 ∷ 0 ∷ []) (lit< tt, (lit< tt, (lit< tt, (lit< tt, tt))))

third : transform_of (1 ∷ 2 ∷ 0 ∷ 0 ∷ []) ≡ 3 ∷ 65026 ∷ 65536 ∷ 513 ∷ []
unfolding transform_of sums tab total root_of root roots level_of first
third = refl

pub worked_numbers : WorkedNumbers
unfolding transform_of sums tab total root_of root roots level_of first
worked_numbers =
    record {
      p1 = refl;
      p2 = refl;
      p3 = third;
      p4 = ap inverse_of (sym third) ∙ inverse_undoes 2 (lit≤ tt) (1 ∷ 2 ∷ 0 ∷ 0 ∷ []) refl four;
    }
