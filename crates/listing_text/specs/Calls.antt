-- What the work of the program leaves: where the text ends, the text at the front of the bytes lent for it, and the working space cleared.
use Rattle.std.specs.Prelude.{List, [], ◌∷◌, ℕ, length, replicate}
use Rattle.answers.specs.Leaves.{Leaves, leaving, written}
use Rattle.answers.specs.Refusals.{the_result}
use Rattle.listing_text.specs.Listing.{printed}

-- room for the longest text: a first line of at most 128 bytes, 256 lines of at most 63, a last line of at most 50
unfoldable pub text_room : ℕ
text_room = 16384

abbrev pub list_leaves : List ℕ → List ℕ → List ℕ → Leaves
list_leaves s text work = leaving (the_result (length (printed s) ∷ [])) (written (printed s) text) (replicate (length work) 0)
