-- What it means that a message fits: at each held position the code word has the held value.
use Rattle.std.specs.Prelude.{◌≡◌, List, ℕ, ◌<◌, get_or}
use Rattle.code.specs.Code.{symbol_of}
use Rattle.code.specs.Held.{Held, held_count}
use Rattle.code.specs.Message.{IsMessage}

pub record Fits (k n : ℕ) (h : Held) (s : List ℕ) : Type 0 where
  pub message : IsMessage k s
  pub at : (j : ℕ) → j < held_count h → symbol_of n s (get_or h.positions j 0) ≡ get_or h.values j 0
