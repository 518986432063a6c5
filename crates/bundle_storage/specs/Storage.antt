-- How a body stores B symbols (document 01, "The bundle"): "A body is c block numbers of 2 bytes, rising strictly, each below B; then B words of
-- 2 bytes, one for each block." How a symbol is stored is said here.
use Rattle.std.specs.Prelude.{◌≡◌, Bool, true, cond, ◌&&◌, List, [], ◌∷◌, ◌++◌, ℕ, zero, suc, ◌+◌, ◌*◌, ◌<◌, leb, ltb, eqb, length, drop}
use Rattle.answers.specs.First.{first}
use Rattle.lists.specs.Tab.{tab}
use Rattle.bundle_storage.specs.Bytes.{two, in_bytes, two_at, put}
use Rattle.bundle_storage.specs.Rising.{rises}

-- As it is written: e b is the symbol of block b

-- the blocks below B whose symbol is 65536: "The value 65536 is stored by listing b in that shadow's overflow list"
unfoldable pub overflows : (ℕ → ℕ) → ℕ → List ℕ
overflows e zero = []
overflows e (suc b) = overflows e b ++ cond (eqb (e b) 65536) (b ∷ []) []

-- "The writer stores 00 00 in its word ... Every other value is its own word."
unfoldable pub word_of : ℕ → ℕ
word_of x = cond (eqb x 65536) 0 x

-- c
unfoldable pub count_of : ℕ → (ℕ → ℕ) → ℕ
count_of B e = length (overflows e B)

unfoldable pub body_of : ℕ → (ℕ → ℕ) → List ℕ
body_of B e = in_bytes (overflows e B) ++ in_bytes (tab B (λ b. word_of (e b)))

-- bytes with the symbol x of block b put into the body that begins at an index, done block numbers being listed in it
unfoldable pub stored : ℕ → ℕ → ℕ → ℕ → ℕ → List ℕ → List ℕ
stored at count done b x s =
    put (two (word_of x)) (at + (2 * count + 2 * b)) (cond (eqb x 65536) (put (two b) (at + 2 * done) s) s)

-- As it is read: s begins with the body, c being its overflow count

unfoldable pub body_size : ℕ → ℕ → ℕ
body_size B c = 2 * c + 2 * B

-- entry j of the overflow list
unfoldable pub list_at : List ℕ → ℕ → ℕ
list_at s j = two_at s (2 * j)

-- the whole body is there, and its list rises strictly, each entry below B
unfoldable pub body_good : ℕ → ℕ → List ℕ → Bool
body_good B c s = leb (body_size B c) (length s) && rises B c (list_at s)

-- block b stands in the overflow list
unfoldable pub listed : ℕ → List ℕ → ℕ → Bool
listed c s b = ltb (first c (λ j. eqb (list_at s j) b)) c

-- "the reader doesn't use the word of a listed block"
unfoldable pub symbol_in : ℕ → List ℕ → ℕ → ℕ
symbol_in c s b = cond (listed c s b) 65536 (two_at s (2 * c + 2 * b))

-- how many entries of an overflow list are below b
unfoldable pub cursor_in : ℕ → List ℕ → ℕ → ℕ
cursor_in c body b = first c (λ j. leb b (list_at body j))

-- As it is read by index: the body begins at an index of s

-- where its words begin, and its overflow list ends
unfoldable pub words_at : ℕ → ℕ → ℕ
words_at at c = at + 2 * c

-- where the entry stands that is next at block b
unfoldable pub cursor_at : ℕ → ℕ → List ℕ → ℕ → ℕ
cursor_at at c s b = at + 2 * cursor_in c (drop at s) b

-- a good body, and these two indices of it at block b
pub record Placed (at B c : ℕ) (s : List ℕ) (b words cursor : ℕ) : Type 0 where
  pub good : body_good B c (drop at s) ≡ true
  pub inside : b < B
  pub words_there : words ≡ words_at at c
  pub cursor_there : cursor ≡ cursor_at at c s b
