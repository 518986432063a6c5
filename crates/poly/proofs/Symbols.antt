-- Lists of symbols: what is put together of symbols, given by symbols or changed to a symbol is a list of symbols.
-- Assumes nothing.
use mathlib.Core.List.{List, ◌++◌}
use Prim.Native.Nat.{ℕ, ◌<◌}
use native.Mathlib.Decide.{ℕ_discrete}
use native.Mathlib.Omega.{arith}
use lib.ListN.{set, length-set}
use lib.Seq.{get_or-set_same, get_or-set_other}
use Rattle.field.specs.Symbol.{Symbols}
use Rattle.lists.specs.Every.{Every}
use Rattle.lists.specs.Tab.{tab}
use Rattle.lists.proofs.Every.{every_append, every_at, every_of, every_tab}

-- by index, and by the list's own shape
pub symbols_at : (s : List ℕ) → Every (◌< 65537) s → Symbols s
symbols_at = every_at (◌< 65537)

pub symbols_every : (s : List ℕ) → Symbols s → Every (◌< 65537) s
symbols_every = every_of (◌< 65537)

pub append_symbols : (s t : List ℕ) → Symbols s → Symbols t → Symbols (s ++ t)
append_symbols s t hs ht = symbols_at (s ++ t) (every_append (◌< 65537) s t (symbols_every s hs) (symbols_every t ht))

pub tab_symbols : (n : ℕ) (f : ℕ → ℕ) → ((i : ℕ) → i < n → f i < 65537) → Symbols (tab n f)
tab_symbols n f small = symbols_at (tab n f) (every_tab (◌< 65537) n f small)

pub set_symbols : (s : List ℕ) (i v : ℕ) → Symbols s → v < 65537 → Symbols (set s i v)
set_symbols s i v small new x h =
    elim (ℕ_discrete x i) [
      | yes e ↦ rw (e, get_or-set_same s i v 0 (omega (arith, length-set s i v))) new
      | no other ↦ rw (get_or-set_other s i x v 0 other) (small x (omega (arith, length-set s i v)))
    ]
