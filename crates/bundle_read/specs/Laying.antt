-- A message's bytes in what is lent for the file, which may be shorter than the file.
use Rattle.std.specs.Prelude.{List, ℕ, ◌*◌, ◌-◌, length, get_or, take}
use Rattle.lists.specs.Part.{replaced}
use Rattle.lists.specs.Tab.{tab}
use Rattle.bundle_storage.specs.Bytes.{in_bytes}

-- the first words of the message, so many, from an index on
abbrev pub words_laid : List ℕ → ℕ → ℕ → List ℕ → List ℕ
words_laid message count from file = replaced from (2 * count) file (tab (2 * count) (λ j. get_or (in_bytes message) j 0))

-- all of its bytes from an index on, as many as there is room for
abbrev pub bytes_laid : List ℕ → ℕ → List ℕ → List ℕ
bytes_laid message from file = replaced from (2 * length message) file (take (length file - from) (in_bytes message))
