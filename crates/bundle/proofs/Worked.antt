-- The worked numbers as one table. P11 and P12 are here: the bundle of the file, and what the reader makes of it with another L.
-- Assumes nothing.
use mathlib.Core.Path.{◌≡◌, refl, ap, subst}
use mathlib.Core.Bool.{false}
use mathlib.Core.List.{List, [], ◌∷◌}
use Prim.Native.Nat.{ℕ, zero-le}
use native.Mathlib.Omega.{arith}
use lib.Dec.{lit<, lit≤}
use lib.ListN.{length}
use Rattle.field.specs.Field.{power}
use Rattle.answers.specs.First.{first}
use Rattle.answers.specs.Leaves.{leaving, unless_refused}
use Rattle.field.specs.Points.{root_of, point_of}
use Rattle.answers.specs.Refusals.{Answer, the_result, refused, after}
use Rattle.field.specs.Roots.{roots, root}
use Rattle.limits.specs.Shape.{longest, bad_shape}
use Rattle.field.specs.Size.{level_of, size_of}
use Rattle.answers.specs.declared.refusal.Refusal.TheVariants.{Tail, Form}
use Rattle.poly.specs.Sum.{total}
use Rattle.lists.specs.Tab.{tab}
use Rattle.poly.specs.Value.{value}
use Rattle.transform_halving.proofs.Theorems as Transform
use Rattle.code.specs.Altered.{altered_count}
use Rattle.code.specs.Code.{symbol_of}
use Rattle.code.specs.Held.{held}
use Rattle.code.specs.Meeting.{polynomial_of}
use Rattle.code.specs.Message.{IsMessage}
use Rattle.block.proofs.Altering.{none_fits}
use Rattle.block.proofs.Theorems.{decodes_fitting, worked_numbers}
use Rattle.bundle_storage.specs.Blocks.{most_blocks}
use Rattle.bundle_layout.specs.Blocks.{blocks_of}
use Rattle.bundle_layout.specs.Shape.{longest_file, bad_bundle_shape}
use Rattle.bundle_storage.specs.Bytes.{Bytes, two, four, in_bytes, two_at, four_at}
use Rattle.bundle_layout.specs.Fields.{k_in, n_in, length_in, held_in, last_in, blocks_in, entry_at, position_in, count_in, offset_in}
use Rattle.bundle_layout.specs.Held.{up_to}
use Rattle.bundle_layout.specs.Layout.{bad_front, start_of, bad_entry, rest_good, layout_checks}
use Rattle.bundle_layout.specs.Mark.{mark, starts_with}
use Rattle.bundle_storage.specs.Rising.{least, out_of_order, rises}
use Rattle.bundle_layout.specs.Shadows.{header_size, entry_size, first_body, header, entry, table, bodies, bundle_of}
use Rattle.bundle_storage.specs.Storage.{overflows, word_of, count_of, body_of, body_size, list_at, body_good, listed, symbol_in}
use Rattle.bundle.specs.Calls.{blocks_leave, read_leaves}
use Rattle.bundle.specs.Checks.{room_checks, read_checks}
use Rattle.bundle_file.specs.File.{padded, message_at, symbol_at, shadow_of, bundle_at, file_bundle}
use Rattle.bundle_read.specs.Reading.{symbol_held, held_at, decoded_at, some_meets, bad_word, bad_tail, judged, block_answer, blocks_answer}
use Rattle.bundle.specs.Theorems.{Writes, Reads, Refuses}
use Rattle.bundle.specs.Worked.{file11, bundle11, bundle12, WorkedTable}
use Rattle.bundle.proofs.Demands.{writes_bundle, write_read}
use Rattle.bundle_read.proofs.HeldBlocks.{held_decodable}
use Rattle.bundle_file.proofs.Padding.{message_is}
use Rattle.bundle.proofs.Passing.{read_passes}
use Rattle.bundle.proofs.Shadowing.{all_bytes}
use Rattle.bundle.proofs.Walking.{first_refused, read_leaves_lem}

file_bytes : Bytes file11
unfolding file11 first
file_bytes = all_bytes file11 refl

file_bundle_lem : file_bundle 2 4 file11 ≡ bundle11
unfolding file_bundle bundle_at shadow_of symbol_at message_at padded blocks_of up_to tab bundle_of header mark two four first_body header_size entry_size table entry bodies count_of body_of overflows word_of in_bytes symbol_of polynomial_of value point_of power root_of root roots size_of level_of first two_at file11 bundle11
file_bundle_lem = refl

good_shape : bad_bundle_shape 2 4 (length file11) ≡ false
unfolding bad_bundle_shape bad_shape longest longest_file most_blocks blocks_of file11
good_shape = refl

-- L = 5: B is 2, and the bodies are too short

longer_layout : layout_checks (bundle12 5) ≡ refused Form
unfolding layout_checks bad_front header_size starts_with mark first last_in two_at bad_bundle_shape bad_shape longest longest_file most_blocks blocks_of k_in n_in length_in four_at rest_good first_body entry_size held_in bad_entry out_of_order least position_in entry_at offset_in start_of body_size blocks_in count_in body_good rises bundle12 bundle11
longer_layout = refl

-- L = 3: the one block is (1, 2), whose last byte is padding

shorter_layout : layout_checks (bundle12 3) ≡ the_result []
unfolding layout_checks bad_front header_size starts_with mark first last_in two_at bad_bundle_shape bad_shape longest longest_file most_blocks blocks_of k_in n_in length_in four_at rest_good first_body entry_size held_in bad_entry out_of_order least position_in entry_at offset_in start_of body_size blocks_in count_in body_good rises list_at bundle12 bundle11
shorter_layout = refl

shorter_bytes : Bytes (bundle12 3)
unfolding bundle12 bundle11 first
shorter_bytes = all_bytes (bundle12 3) refl

one_two : IsMessage 2 (1 ∷ 2 ∷ [])
unfolding message_at tab two_at padded file11
one_two = message_is 2 file11 file_bytes 0

none_altered : altered_count 4 (1 ∷ 2 ∷ []) (held_at (bundle12 3) 0) ≡ 0
unfolding altered_count total held_at held tab held_in two_at position_in entry_at header_size entry_size symbol_held symbol_in listed list_at first count_in offset_in four_at symbol_of polynomial_of value point_of power root_of root roots size_of level_of bundle12 bundle11
none_altered = refl

shorter_block : block_answer (bundle12 3) 0 ≡ refused (Tail 0)
unfolding block_answer judged decoded_at bad_word bad_tail some_meets first in_bytes two k_in n_in length_in held_in two_at four_at bundle12 bundle11
shorter_block =
    ap (judged 2 3 0)
    ((decodes_fitting 2 4 (held_at (bundle12 3) 0) (held_decodable (bundle12 3) 0 shorter_bytes shorter_layout (lit≤ tt)) (1 ∷ 2 ∷ [])).1
    (none_fits 2 4 (1 ∷ 2 ∷ []) (held_at (bundle12 3) 0) one_two none_altered))

shorter : Refuses 4 3 (bundle12 3) (Tail 0)
unfolding k_in n_in length_in held_in blocks_in blocks_of two_at four_at bundle12 bundle11
shorter out work fits room =
    read_leaves_lem (bundle12 3) out work (refused (Tail 0))
    (read_passes (bundle12 3) (length out) (length work) shorter_layout fits room (lit≤ tt))
    (first_refused (bundle12 3) 10 0 1 0 0 zero-le (lit< tt) (λ d h l. absurd (omega arith)) shorter_block)

longer_blocks : blocks_in (bundle12 5) ≡ 2
unfolding blocks_in blocks_of k_in length_in two_at four_at bundle12 bundle11
longer_blocks = refl

longer : (out work : List ℕ) → read_leaves (bundle12 5) out work ≡ leaving (refused Form) out work
unfolding read_checks
longer out work =
    ap
    (λ (a : Answer). unless_refused (after a (room_checks (bundle12 5) (length out) (length work))) out work
    (blocks_leave (blocks_answer (bundle12 5) 0 (blocks_in (bundle12 5))) (bundle12 5) out work))
    longer_layout

pub worked_table : WorkedTable
worked_table =
    record {
      p1 = (Transform.worked_numbers).p1;
      p2 = (Transform.worked_numbers).p2;
      p3 = (Transform.worked_numbers).p3;
      p4 = (Transform.worked_numbers).p4;
      p5 = worked_numbers.p5;
      p6 = worked_numbers.p6;
      p7 = worked_numbers.p7;
      p8 = worked_numbers.p8;
      p9 = worked_numbers.p9;
      p10 = worked_numbers.p10;
      p11 = (
        subst (Writes 2 4 file11) file_bundle_lem (writes_bundle 2 4 file11 good_shape),
        subst (λ (s : List ℕ). Reads 4 s file11) file_bundle_lem (write_read 2 4 file11 good_shape file_bytes),
      );
      p12 = (shorter, (longer_blocks, longer));
    }
