-- What is proved of the program's answer and of what it prints, as statements: proofs/Theorems.antt proves each under the same name in small letters.
use Rattle.std.specs.Prelude.{◌≡◌, List, [], ◌∷◌, ◌++◌, ◌⊎◌, ◌↔◌, ℕ, ◌*◌, ◌<◌, ◌≤◌, length}
use Rattle.answers.specs.Leaves.{leaving}
use Rattle.answers.specs.Refusals.{the_result, refusal, refused}
use Rattle.answers.specs.declared.refusal.Refusal.TheVariants.{Room}
use Rattle.bundle_layout.specs.Fields.{n_in, length_in}
use Rattle.bundle_layout.specs.Layout.{layout_checks}
use Rattle.bundle.specs.Calls.{read_leaves}
use Rattle.bundle.specs.Worked.{bundle11}
use Rattle.listing_lines.specs.Lines.{last_line}
use Rattle.listing_lines.specs.Text.{ascii}
use Rattle.listing_text.specs.Answers.{most_input, most_n, most_length, program_answer}
use Rattle.listing_text.specs.Calls.{list_leaves}
use Rattle.listing_text.specs.Listing.{listing, printed}

-- "It serves n up to 256 and L up to 24,576; a larger n or L is answered ROOM where the reader tests ROOM": the program answers what the
-- reader answers that is lent an output of 24,576 bytes and a working space of 8 * 256 numbers
abbrev pub ReaderAnswers : Type 0
ReaderAnswers =
    (s out work : List ℕ) → length s ≤ most_input → length out ≡ most_length → length work ≡ 8 * most_n
    → program_answer s ≡ (read_leaves s out work).answer

-- ROOM exactly when it has to be: "a longer input is answered ROOM before anything else is tested", "a larger n or L is answered ROOM where
-- the reader tests ROOM", which is once the layout is good
abbrev pub ServesExactly : Type 0
ServesExactly =
    (s : List ℕ)
    → (program_answer s ≡ refused Room)
    ↔ ((most_input < length s) ⊎ ((layout_checks s ≡ the_result []) × ((most_n < n_in s) ⊎ (most_length < length_in s))))

-- "The last line is OK after a full read", which is one of all L bytes
abbrev pub ListedWhole : Type 0
ListedWhole =
    (s vs : List ℕ) → program_answer s ≡ the_result vs → (vs ≡ length_in s ∷ []) × (printed s ≡ listing s ++ ascii "OK\n")

-- number is one of these
abbrev pub OneOf : ℕ → List ℕ → Type 0
OneOf number [] = ⊥
OneOf number (x ∷ xs) = (number ≡ x) ⊎ OneOf number xs

-- "else REFUSED, the number and the place .. Refusals 1, 3 and 11 print that line alone; 4, 8, 9 and 10 follow the listing": and no other
-- refusal is answered
abbrev pub ListedAfter : Type 0
ListedAfter =
    (s : List ℕ) (number place : ℕ) → program_answer s ≡ refusal number place
    → (OneOf number (1 ∷ 3 ∷ 11 ∷ []) × (printed s ≡ last_line (refusal number place)))
    ⊎ (OneOf number (4 ∷ 8 ∷ 9 ∷ 10 ∷ []) × (printed s ≡ listing s ++ last_line (refusal number place)))

-- "The listing program reads P11's bundle from standard input and prints exactly"
abbrev pub P11Listed : Type 0
P11Listed = printed bundle11 ≡ ascii "k 2 n 4 length 4 held 4 blocks 1\n0 48 0\n1 50 0\n2 52 1\n3 56 0\nOK\n"

-- "as `REFUSED 11 0` for empty input"
abbrev pub EmptyListed : Type 0
EmptyListed = printed [] ≡ ascii "REFUSED 11 0\n"

-- two outcomes of the work are equal: where the text ends, every byte of the memory lent for it, every cell of the working space
abbrev pub ListSettled : Type 0
ListSettled =
    (s text work : List ℕ) (e f : ℕ) (t u w v : List ℕ) → leaving (the_result (e ∷ [])) t w ≡ list_leaves s text work
    → leaving (the_result (f ∷ [])) u v ≡ list_leaves s text work → (e ≡ f) × (t ≡ u) × (w ≡ v)
