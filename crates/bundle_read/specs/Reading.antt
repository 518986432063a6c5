-- What the reader makes of a bundle whose layout is good, block by block.
use Rattle.std.specs.Prelude.{◌≡◌, Bool, not, List, [], ◌∷◌, ◌++◌, ℕ, zero, suc, ◌*◌, ◌-◌, ltb, eqb, length, get_or, take, drop}
use Rattle.std.proofs.Math.Option.{Option, some, none}
use Rattle.answers.specs.First.{first}
use Rattle.answers.specs.Refusals.{Answer, the_result, refused, refuse_if, after}
use Rattle.answers.specs.declared.refusal.Refusal.TheVariants.{Disagree, Word, Tail}
use Rattle.lists.specs.Tab.{tab}
use Rattle.code.specs.Decoding.{decode_of}
use Rattle.code.specs.Held.{Held, held}
use Rattle.bundle_storage.specs.Bytes.{in_bytes}
use Rattle.bundle_layout.specs.Fields.{k_in, n_in, length_in, held_in, blocks_in, position_in, count_in, offset_in}
use Rattle.bundle_storage.specs.Storage.{symbol_in}

-- the symbol that shadow t of the table holds for block b
unfoldable pub symbol_held : List ℕ → ℕ → ℕ → ℕ
symbol_held s b t = symbol_in (count_in s t) (drop (offset_in s t) s) b

-- all m shadows, in table order
unfoldable pub held_at : List ℕ → ℕ → Held
held_at s b = held (tab (held_in s) (position_in s)) (tab (held_in s) (symbol_held s b))

-- the message of block b, if one fits all m
unfoldable pub decoded_at : List ℕ → ℕ → Option (List ℕ)
decoded_at s b = decode_of (k_in s) (n_in s) (held_at s b)

-- some number of a list meets a test
unfoldable pub some_meets : (ℕ → Bool) → List ℕ → Bool
some_meets test vs = ltb (first (length vs) (λ i. test (get_or vs i 0))) (length vs)

-- WORD: "a decoded symbol is 65536"
unfoldable pub bad_word : List ℕ → Bool
bad_word message = some_meets (λ x. eqb x 65536) message

-- TAIL: "a padding byte of the last block isn't zero": of block b the bytes from index L of the file on are padding, which only the last block has
unfoldable pub bad_tail : ℕ → ℕ → ℕ → List ℕ → Bool
bad_tail k L b message = some_meets (λ x. not (eqb x 0)) (drop (L - 2 * (k * b)) (in_bytes message))

-- "block by block DISAGREE, WORD, TAIL", with the block as the place
unfoldable pub judged : ℕ → ℕ → ℕ → Option (List ℕ) → Answer
judged k L b none = refused (Disagree b)
judged k L b (some message) = refuse_if (bad_word message) (Word b) (refuse_if (bad_tail k L b message) (Tail b) (the_result []))

unfoldable pub block_answer : List ℕ → ℕ → Answer
block_answer s b = judged (k_in s) (length_in s) b (decoded_at s b)

-- the blocks from b on, so many: the first that is refused, else L, which the reader returns
unfoldable pub blocks_answer : List ℕ → ℕ → ℕ → Answer
blocks_answer s b zero = the_result (length_in s ∷ [])
blocks_answer s b (suc left) = after (block_answer s b) (blocks_answer s (suc b) left)

-- the bytes of a block's message
unfoldable pub bytes_of : Option (List ℕ) → List ℕ
bytes_of none = []
bytes_of (some message) = in_bytes message

-- the bytes of the first b blocks
unfoldable pub bytes_before : List ℕ → ℕ → List ℕ
bytes_before s zero = []
bytes_before s (suc b) = bytes_before s b ++ bytes_of (decoded_at s b)

-- they stand at the front of what is lent for the file, as far as there is room
abbrev pub BlocksLaid : List ℕ → ℕ → ℕ → List ℕ → Type 0
BlocksLaid s b room file = take (2 * (k_in s * b)) file ≡ take room (bytes_before s b)

-- "returns the L bytes"
unfoldable pub file_in : List ℕ → List ℕ
file_in s = take (length_in s) (bytes_before s (blocks_in s))
