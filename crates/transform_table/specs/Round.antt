-- A list turned round: entry j and entry N - j change places, and entry 0 stays.
use Rattle.std.specs.Prelude.{List, ℕ, ◌-◌, ◌%◌, length, get_or}
use Rattle.lists.specs.Tab.{tab}

-- the place that place j of n changes with
unfoldable pub mirror : ℕ → ℕ → ℕ
mirror n j = (n - j) % n

unfoldable pub turned_round : List ℕ → List ℕ
turned_round a = tab (length a) (λ j. get_or a (mirror (length a) j) 0)
