-- The first index at which a test holds: the place of a refusal that speaks of a list.
use Rattle.std.specs.Prelude.{Bool, cond, ℕ, zero, suc, ltb, Option, Some, None}

-- the first index below n at which the test holds, n where it holds at none
unfoldable pub first : ℕ → (ℕ → Bool) → ℕ
first zero test = 0
first (suc n) test = cond (test 0) 0 (suc (first n (λ i. test (suc i))))

-- such an index below n, as a search answers it: none where it is n
abbrev pub found : ℕ → ℕ → Option ℕ
found n i = cond (ltb i n) (Some i) None
