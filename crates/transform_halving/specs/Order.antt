-- The order in which halving ends: all even places before all odd ones, at every size. In it the halves lie side by side in one list.
use Rattle.std.specs.Prelude.{◌≡◌, cond, List, ℕ, zero, suc, ◌+◌, ◌*◌, ◌^◌, ◌/◌, ◌%◌, ltb, length, get_or, set}
use Rattle.field.specs.Size.{level_of}
use Rattle.lists.specs.Tab.{tab}

-- i with its `level` binary digits in reverse
unfoldable pub reversed : ℕ → ℕ → ℕ
reversed zero i = 0
reversed (suc level) i = i % 2 * 2 ^ level + reversed level (i / 2)

-- r is the place after `place` in the order of reversed digits, in a list of `size` numbers
pub record IsNext (r place size : ℕ) : Type 0 where
  pub next : (k i : ℕ) → size ≡ 2 ^ k → place ≡ reversed k i → r ≡ reversed k (i + 1)

-- the list in that order
unfoldable pub arranged : List ℕ → List ℕ
arranged a = tab (length a) (λ i. get_or a (reversed (level_of (length a)) i) 0)

-- the numbers at i and j change places where i is the lower one
unfoldable pub exchanged : List ℕ → ℕ → ℕ → List ℕ
exchanged a i j = cond (ltb i j) (set (set a i (get_or a j 0)) j (get_or a i 0)) a
