-- The reader's working space, eight parts of N cells. What depends on the positions alone is worked out once for a bundle and stays for all its
-- blocks; and each held shadow has a cursor, so that no overflow list is searched twice.
use Rattle.std.specs.Prelude.{◌≡◌, List, ℕ, zero, suc, ◌+◌, ◌*◌, ◌<◌, length, get_or, drop, replicate, set}
use Rattle.field.specs.Field.{product, power}
use Rattle.field.specs.Size.{size_of}
use Rattle.lists.specs.Part.{replaced}
use Rattle.lists.specs.Tab.{tab}
use Rattle.decode_between.specs.Between.{psi}
use Rattle.decode_divide.specs.Quotients.{InversesBetween}
use Rattle.decode_missing.specs.Missing.{missing_points}
use Rattle.decode_missing.specs.Weights.{weights}
use Rattle.bundle_storage.specs.Storage.{symbol_in, words_at, cursor_at}
use Rattle.bundle_layout.specs.Fields.{k_in, n_in, held_in, position_in, count_in, offset_in}
use Rattle.bundle_layout.specs.Rooms.{bundle_work}

-- a mark for each of the N positions: 1 at those of the first t shadows
unfoldable pub marks_in : List ℕ → ℕ → List ℕ
marks_in s zero = replicate (size_of (n_in s)) 0
marks_in s (suc t) = set (marks_in s t) (position_in s t) 1

-- the points of the positions that no shadow has
unfoldable pub missing_in : List ℕ → List ℕ
missing_in s = missing_points (size_of (n_in s)) (marks_in s (held_in s))

-- where the words of shadow t begin
unfoldable pub words_held : List ℕ → ℕ → ℕ
words_held s t = words_at (offset_in s t) (count_in s t)

-- its cursor at block b
unfoldable pub cursor_held : List ℕ → ℕ → ℕ → ℕ
cursor_held s b t = cursor_at (offset_in s t) (count_in s t) s b

-- what it holds for block b, times the weight of its position
unfoldable pub weighted_held : List ℕ → ℕ → ℕ → ℕ
weighted_held s b t =
    product (symbol_in (count_in s t) (drop (offset_in s t) s) b) (get_or (weights (size_of (n_in s)) (missing_in s)) (position_in s t) 0)

-- the first m shadows are laid, at the front of their lists
pub record Shadows (s : List ℕ) (m : ℕ) (cells : List ℕ) : Type 0 where
  pub words : (t : ℕ) → t < m → get_or cells (5 * size_of (n_in s) + t) 0 ≡ words_held s t
  pub cursors : (t : ℕ) → t < m → get_or cells (6 * size_of (n_in s) + t) 0 ≡ cursor_held s 0 t
  pub positions : (t : ℕ) → t < m → get_or cells (7 * size_of (n_in s) + t) 0 ≡ position_in s t

-- the cells with shadow t laid, N being the size
abbrev pub with_shadow : List ℕ → ℕ → ℕ → List ℕ → List ℕ
with_shadow s N t cells = set (set (set cells (5 * N + t) (words_held s t)) (6 * N + t) (cursor_held s 0 t)) (7 * N + t) (position_in s t)

-- with the first N numbers standing from 4N on too: the weights
abbrev pub with_weights : ℕ → List ℕ → List ℕ
with_weights N cells = replaced (4 * N) N cells (tab N (λ j. get_or cells j 0))

-- with what shadow t holds for block b at its position, and its cursor at the next block
abbrev pub with_symbol : List ℕ → ℕ → ℕ → ℕ → List ℕ → List ℕ
with_symbol s N b t cells = set (set cells (position_in s t) (weighted_held s b t)) (6 * N + t) (cursor_held s (suc b) t)

-- what stays
pub record Fixed (s cells : List ℕ) : Type 0 where
  pub long : length cells ≡ bundle_work (n_in s)
  pub inverses : 0 < length (missing_in s) → InversesBetween (size_of (n_in s)) (size_of (k_in s)) (missing_in s) (drop (2 * size_of (n_in s)) cells)
  pub powers : (j : ℕ) → j < size_of (n_in s) → get_or cells (3 * size_of (n_in s) + j) 0 ≡ power (psi (size_of (n_in s))) j
  pub weighs : (j : ℕ) → j < size_of (n_in s) → get_or cells (4 * size_of (n_in s) + j) 0 ≡ get_or (weights (size_of (n_in s)) (missing_in s)) j 0
  pub words : (t : ℕ) → t < held_in s → get_or cells (5 * size_of (n_in s) + t) 0 ≡ words_held s t
  pub positions : (t : ℕ) → t < held_in s → get_or cells (7 * size_of (n_in s) + t) 0 ≡ position_in s t

-- the first b blocks are passed
pub record Laid (s : List ℕ) (b : ℕ) (cells : List ℕ) : Type 0 where
  pub fixed : Fixed s cells
  pub cursors : (t : ℕ) → t < held_in s → get_or cells (6 * size_of (n_in s) + t) 0 ≡ cursor_held s b t

-- the first t shadows of block b are gathered, and where there is no mark there is 0
pub record Gathered (s : List ℕ) (b t : ℕ) (cells : List ℕ) : Type 0 where
  pub at : (i : ℕ) → i < t → get_or cells (position_in s i) 0 ≡ weighted_held s b i
  pub none : (j : ℕ) → j < size_of (n_in s) → get_or (marks_in s t) j 0 ≡ 0 → get_or cells j 0 ≡ 0
