-- What is printed of P11's bundle and of empty input: the text is computed, the reading of P11 is taken from the worked numbers.
-- Assumes nothing.
use mathlib.Core.Path.{◌≡◌, refl, sym, ap, ◌∙◌}
use mathlib.Core.Bool.{cond}
use mathlib.Core.List.{List, [], ◌∷◌, ◌++◌}
use Prim.Native.Nat.{ℕ, ◌*◌}
use native.Mathlib.Omega.{arith}
use lib.Dec.{lit≤}
use lib.ListN.{length, replicate, length-replicate}
use Rattle.answers.specs.First.{first}
use Rattle.answers.specs.Leaves.{Leaves}
use Rattle.answers.specs.Refusals.{Answer, the_result}
use Rattle.field.specs.Size.{level_of, size_of}
use Rattle.bundle_layout.specs.Blocks.{blocks_of}
use Rattle.bundle_storage.specs.Bytes.{two_at, four_at}
use Rattle.bundle_layout.specs.Fields.{k_in, n_in, length_in, held_in, blocks_in, entry_at, position_in, count_in, offset_in}
use Rattle.bundle_layout.specs.Layout.{bad_front, layout_checks}
use Rattle.bundle_layout.specs.Rooms.{bundle_work}
use Rattle.bundle_layout.specs.Shadows.{header_size, entry_size}
use Rattle.bundle.specs.Worked.{file11, bundle11}
use Rattle.bundle.proofs.Theorems.{worked_table}
use Rattle.listing_lines.specs.Lines.{header_line, entry_line, last_line}
use Rattle.listing_lines.specs.Text.{places, decimal}
use Rattle.listing_text.specs.Answers.{most_input, most_n, most_length, program_answer}
use Rattle.listing_text.specs.Listing.{entry_lines, listing, alone, prints_alone, printed}
use Rattle.listing_text.specs.Theorems.{P11Listed, EmptyListed}
use Rattle.listing_text.proofs.Answering.{read_answers}

-- it is read, with as much output and working space as the program has
p11_read : (out work : List ℕ) → length out ≡ most_length → length work ≡ 8 * most_n → program_answer bundle11 ≡ the_result (4 ∷ [])
unfolding most_input most_n most_length file11 bundle11 bundle_work size_of level_of first
p11_read out work o w =
    sym (read_answers bundle11 out work (lit≤ tt) o w)
    ∙ ap {A = Leaves} {B = Answer} (λ l. l.answer) (worked_table.p11.1 out work (omega arith) (omega arith))

p11_answer : program_answer bundle11 ≡ the_result (4 ∷ [])
p11_answer = p11_read (replicate {A = ℕ} most_length 0) (replicate {A = ℕ} (8 * most_n) 0) (length-replicate most_length 0) (length-replicate (8 * most_n) 0)

p11_listing : (a : Answer) → program_answer bundle11 ≡ a → printed bundle11 ≡ cond (prints_alone a) [] (listing bundle11) ++ last_line a
unfolding printed
p11_listing a is = rw is refl

pub p11_listed : P11Listed
unfolding prints_alone listing header_line entry_lines entry_line last_line decimal places first k_in n_in length_in held_in blocks_in blocks_of entry_at header_size entry_size position_in count_in offset_in two_at four_at bundle11
p11_listed = p11_listing (the_result (4 ∷ [])) p11_answer

pub empty_listed : EmptyListed
unfolding printed program_answer most_input layout_checks bad_front header_size prints_alone alone last_line decimal places first
empty_listed = refl
