-- The five useless coders: each call is made twice, on inputs that leave another number at one place, once 0 and once 1.
-- Assumes nothing.
use mathlib.Core.Path.{◌≡◌, refl, sym, ap, subst, ◌∙◌}
use mathlib.Core.Bool.{false}
use mathlib.Core.List.{List, [], ◌∷◌, ◌++◌}
use Prim.Native.Nat.{ℕ, zero, suc, ◌+◌, ◌<◌, ◌≤◌}
use native.Mathlib.Nat.{le_of_eq}
use native.Mathlib.Omega.{arith}
use lib.Dec.{lit<, lit≤}
use lib.ListN.{length, get_or, replicate, length-replicate}
use Rattle.field.specs.Field.{power}
use Rattle.answers.specs.First.{first}
use Rattle.answers.specs.Leaves.{Leaves, leaving}
use Rattle.field.specs.Points.{root_of, point_of}
use Rattle.answers.specs.Refusals.{the_result}
use Rattle.field.specs.Roots.{roots, root}
use Rattle.limits.specs.Shape.{longest, bad_shape}
use Rattle.field.specs.Size.{level_of, size_of}
use Rattle.answers.proofs.Refusals.{result_no_refusal}
use Rattle.lists.specs.Tab.{tab}
use Rattle.poly.specs.Value.{value}
use Rattle.code.specs.Code.{symbol_of, code_word}
use Rattle.code.specs.Meeting.{polynomial_of}
use Rattle.code.specs.Message.{IsMessage}
use Rattle.code.specs.Rooms.{encode_work, decode_work}
use Rattle.block.specs.Theorems.{Encodes, Decodes}
use Rattle.block.proofs.Theorems.{encodes_word, encode_decode}
use Rattle.bundle_storage.specs.Blocks.{most_blocks}
use Rattle.bundle_layout.specs.Blocks.{blocks_of}
use Rattle.bundle_layout.specs.Shape.{longest_file, bad_bundle_shape}
use Rattle.bundle_storage.specs.Bytes.{Bytes, two, four, in_bytes, two_at}
use Rattle.bundle_layout.specs.Fields.{length_in, entry_at, count_in}
use Rattle.bundle_layout.specs.Held.{up_to}
use Rattle.bundle_layout.specs.Mark.{mark}
use Rattle.bundle_layout.specs.Shadows.{header_size, entry_size, first_body, header, entry, table, bodies, bundle_of}
use Rattle.bundle_storage.specs.Storage.{overflows, word_of, body_of}
use Rattle.bundle_layout.proofs.Accepting.{passes, read_L, bundle_length}
use Rattle.bundle_storage.proofs.BytesLaws.{two_alike, four_alike, alike_front}
use Rattle.bundle_layout.proofs.Holding.{all_length}
use Rattle.bundle_layout.proofs.Passing.{entry_there}
use Rattle.bundle_file.specs.File.{padded, message_at, symbol_at, count_at, shadow_of, bundle_at, file_bundle}
use Rattle.bundle_layout.specs.Rooms.{write_out, bundle_work}
use Rattle.bundle.specs.Useless.{Coder, KeepsEncode, KeepsDecode, KeepsWrite, KeepsRead, Refused, AnswersSome, NotConstant, WritesSomething, CodesLaterBlocks, InventsNothing, Useless}
use Rattle.bundle_front.proofs.Bundling.{file_is_bundle, held_all, all_rise, bundle_count}
use Rattle.bundle.proofs.Demands.{writes_bundle, write_read}
use Rattle.bundle.proofs.Shadowing.{bundle_bytes}
use Rattle.bundle_file.proofs.Padding.{zeros_behind}

-- a call left a result, and x at a place of the list that takes it
record Told (it : Leaves) (place x : ℕ) : Type 0 where
  results : List ℕ
  answer : it.answer ≡ the_result results
  there : get_or it.list place 0 ≡ x

told : {it : Leaves} (place x : ℕ) (vs l w : List ℕ) → it ≡ leaving (the_result vs) l w → get_or l place 0 ≡ x → Told it place x
told place x vs l w e there =
    record {
      results = vs;
      answer = ap (λ (it : Leaves). it.answer) e;
      there = ap (λ (it : Leaves). get_or it.list place 0) e ∙ there;
    }

answers : {it : Leaves} {place x : ℕ} → Told it place x → ¬ Refused it
answers told refuses = result_no_refusal (sym told.answer ∙ refuses.1.1)

differ : {it other : Leaves} {place : ℕ} → Told it place 0 → Told other place 1 → it ≡ other → ⊥
differ {place = place} told tells e =
    omega (arith, told.there, tells.there, ap (λ (l : Leaves). get_or l.list place 0) e)

writes : {it : Leaves} {place : ℕ} (out : List ℕ) → get_or out place 0 ≡ 0 → Told it place 1 → it.list ≡ out → ⊥
writes {place = place} out before told e = omega (arith, before, told.there, ap (λ (l : List ℕ). get_or l place 0) e)

-- The calls on small inputs

abbrev zeros : ℕ → List ℕ
zeros n = replicate n 0

room : (n : ℕ) → n ≤ length (zeros n)
room n = le_of_eq (sym (length-replicate n 0))

one_small : (x : ℕ) → x < 2 → (i : ℕ) → i < length (x ∷ []) → get_or (x ∷ []) i 0 < 65537
one_small x h zero l = omega arith
one_small x h (suc j) l = absurd (omega arith)

one_symbol : (x : ℕ) → x < 2 → IsMessage 1 (x ∷ [])
one_symbol x h = record { long = refl; symbols = one_small x h }

word_of_lem : (x : ℕ) → x < 2 → code_word 1 (x ∷ []) ≡ x ∷ []
unfolding code_word tab symbol_of polynomial_of value
word_of_lem x h = ap (◌∷ []) (omega arith)

code_shape : bad_shape 1 1 ≡ false
unfolding bad_shape longest
code_shape = refl

encodes : (x : ℕ) → x < 2 → Encodes 1 1 (x ∷ []) (x ∷ [])
encodes x h = subst (Encodes 1 1 (x ∷ [])) (word_of_lem x h) (encodes_word 1 1 (x ∷ []) code_shape (one_symbol x h))

inside_one : (i : ℕ) → i < length {A = ℕ} (0 ∷ []) → get_or {A = ℕ} (0 ∷ []) i 0 < 1
inside_one zero l = lit< tt
inside_one (suc j) l = absurd (omega arith)

decodes : (x : ℕ) → x < 2 → Decodes 1 1 (0 ∷ []) (x ∷ []) (x ∷ [])
unfolding tab
decodes x h =
    subst (λ (word : List ℕ). Decodes 1 1 (0 ∷ []) (get_or word 0 0 ∷ []) (x ∷ [])) (word_of_lem x h)
    (encode_decode 1 1 (x ∷ []) (0 ∷ []) code_shape (one_symbol x h) (lit≤ tt)
    inside_one (λ i j l m. absurd (omega arith)))

-- four bytes, two blocks of one word
file : ℕ → List ℕ
file x = 0 ∷ 0 ∷ 0 ∷ x ∷ []

file_bytes : (x : ℕ) → x < 2 → Bytes (file x)
unfolding file
file_bytes x h zero l = lit< tt
file_bytes x h (suc zero) l = lit< tt
file_bytes x h (suc (suc zero)) l = lit< tt
file_bytes x h (suc (suc (suc zero))) l = omega arith
file_bytes x h (suc (suc (suc (suc i)))) l = absurd (omega arith)

file_shape : (x : ℕ) → bad_bundle_shape 1 1 (length (file x)) ≡ false
unfolding file bad_bundle_shape bad_shape longest longest_file most_blocks blocks_of
file_shape x = refl

file_bundle_bytes : (x : ℕ) → Bytes (file_bundle 1 1 (file x))
unfolding file_bundle
file_bundle_bytes x = bundle_bytes 1 1 _ _ _ (file_is_bundle 1 1 (file x) (up_to 1) (file_shape x) (all_rise 1))

-- the last byte of its bundle
last_byte : (x : ℕ) → x < 2 → (rest : List ℕ) → get_or (file_bundle 1 1 (file x) ++ rest) 27 0 ≡ x
unfolding file file_bundle bundle_at shadow_of symbol_at message_at padded blocks_of up_to tab bundle_of header mark two four table entry bodies body_of overflows word_of in_bytes symbol_of polynomial_of value point_of power root_of root roots size_of level_of first two_at
last_byte zero h rest = refl
last_byte (suc zero) h rest = refl
last_byte (suc (suc x)) h rest = absurd (omega arith)

module _ (c : Coder) (x : ℕ) (h : x < 2) where
  encoded : KeepsEncode c → Told (c.encode 1 1 (x ∷ []) (0 ∷ []) (zeros (encode_work 1))) 0 x
  encoded keeps = told 0 x [] (x ∷ []) _ (keeps 1 1 _ _ _ ∙ encodes x h (0 ∷ []) (zeros (encode_work 1)) (lit≤ tt) (room (encode_work 1))) refl

  decoded : KeepsDecode c → Told (c.decode 1 1 (0 ∷ []) (x ∷ []) (0 ∷ []) (zeros (decode_work 1))) 0 x
  decoded keeps = told 0 x [] (x ∷ []) _ (keeps 1 1 _ _ _ _ ∙ decodes x h (0 ∷ []) (zeros (decode_work 1)) (lit≤ tt) (room (decode_work 1))) refl

  wrote : KeepsWrite c → Told (c.write 1 1 (file x) (zeros (write_out 1 2)) (zeros (bundle_work 1))) 27 x
  unfolding file blocks_of
  wrote keeps =
      told 27 x _ _ _
      (keeps 1 1 _ _ _ ∙ writes_bundle 1 1 (file x) (file_shape x) (zeros (write_out 1 2)) (zeros (bundle_work 1)) (room (write_out 1 2)) (room (bundle_work 1)))
      (last_byte x h _)

  read : KeepsRead c → Told (c.read (file_bundle 1 1 (file x)) (zeros 4) (zeros (bundle_work 1))) 3 x
  unfolding file
  read keeps =
      told 3 x _ _ _
      (keeps _ _ _ ∙ write_read 1 1 (file x) (file_shape x) (file_bytes x h) (zeros 4) (zeros (bundle_work 1)) (lit≤ tt) (room (bundle_work 1)))
      refl

-- The counts in the table of what is written

count_written : (k n : ℕ) (file rest : List ℕ) → bad_bundle_shape k n (length file) ≡ false → (i : ℕ) → i < n
    → count_in (file_bundle k n file ++ rest) i ≡ count_at k n file i
unfolding file_bundle count_in entry_size
count_written k n file rest good i h =
    let is = file_is_bundle k n file (up_to n) good (all_rise n) in
    let long = all_length n in
    let there = entry_there (bundle_at k n file (up_to n)) (passes k n (length file) _ _ is) i (omega (arith, held_all k n file (up_to n) good (all_rise n))) in
    two_alike _ (entry_at i + 2) (bundle_at k n file (up_to n)) (entry_at i + 2)
    (alike_front 2 (bundle_at k n file (up_to n)) rest (entry_at i + 2) (omega arith))
    ∙ bundle_count k n file good i h

-- and the length in the header

length_written : (k n : ℕ) (file rest : List ℕ) → bad_bundle_shape k n (length file) ≡ false
    → length_in (file_bundle k n file ++ rest) ≡ length file
unfolding file_bundle length_in first_body header_size
length_written k n file rest good =
    let is = file_is_bundle k n file (up_to n) good (all_rise n) in
    four_alike _ 8 (bundle_at k n file (up_to n)) 8
    (alike_front 4 (bundle_at k n file (up_to n)) rest 8 (omega (arith, bundle_length k n (length file) _ _ is)))
    ∙ read_L k n (length file) _ _ is

-- The five

module _ (c : Coder) where
  answers_some : AnswersSome c
  answers_some =
      record {
        encode = λ keeps all. answers (encoded c 0 (lit< tt) keeps) (all 1 1 _ _ _);
        decode = λ keeps all. answers (decoded c 0 (lit< tt) keeps) (all 1 1 _ _ _ _);
        write = λ keeps all. answers (wrote c 0 (lit< tt) keeps) (all 1 1 (file 0) _ _ (file_bytes 0 (lit< tt)));
        read = λ keeps all. answers (read c 0 (lit< tt) keeps) (all (file_bundle 1 1 (file 0)) _ _ (file_bundle_bytes 0));
      }

  not_constant : NotConstant c
  not_constant =
      record {
        encode =
            λ keeps all. let zero_in = encoded c 0 (lit< tt) keeps in
            let one_in = encoded c 1 (lit< tt) keeps in differ zero_in one_in (all 1 1 _ _ _ _ (answers zero_in) (answers one_in));
        decode =
            λ keeps all. let zero_in = decoded c 0 (lit< tt) keeps in
            let one_in = decoded c 1 (lit< tt) keeps in differ zero_in one_in (all 1 1 _ _ _ _ _ (answers zero_in) (answers one_in));
        write =
            λ keeps all. let zero_in = wrote c 0 (lit< tt) keeps in
            let one_in = wrote c 1 (lit< tt) keeps in
            differ zero_in one_in
            (all 1 1 (file 0) (file 1) _ _ (file_bytes 0 (lit< tt)) (file_bytes 1 (lit< tt)) (answers zero_in) (answers one_in));
        read =
            λ keeps all. let zero_in = read c 0 (lit< tt) keeps in
            let one_in = read c 1 (lit< tt) keeps in
            differ zero_in one_in
            (all (file_bundle 1 1 (file 0)) (file_bundle 1 1 (file 1)) _ _ (file_bundle_bytes 0) (file_bundle_bytes 1) (answers zero_in) (answers one_in));
      }

  writes_something : WritesSomething c
  writes_something =
      record {
        encode = λ keeps all. let one_in = encoded c 1 (lit< tt) keeps in writes (0 ∷ []) refl one_in (all 1 1 _ _ _ (answers one_in));
        decode = λ keeps all. let one_in = decoded c 1 (lit< tt) keeps in writes (0 ∷ []) refl one_in (all 1 1 _ _ _ _ (answers one_in));
        write =
            λ keeps all. let one_in = wrote c 1 (lit< tt) keeps in
            writes (zeros (write_out 1 2)) (zeros_behind [] (write_out 1 2) 27) one_in (all 1 1 (file 1) _ _ (file_bytes 1 (lit< tt)) (answers one_in));
        read =
            λ keeps all. let one_in = read c 1 (lit< tt) keeps in
            writes (zeros 4) refl one_in (all (file_bundle 1 1 (file 1)) _ _ (file_bundle_bytes 1) (answers one_in));
      }

  codes_later : CodesLaterBlocks c
  unfolding file message_at tab two_at padded
  codes_later keeps all =
      let zero_in = wrote c 0 (lit< tt) keeps in
      let one_in = wrote c 1 (lit< tt) keeps in
      differ zero_in one_in
      (all 1 1 (file 0) (file 1) _ _ (file_bytes 0 (lit< tt)) (file_bytes 1 (lit< tt)) refl refl (answers zero_in) (answers one_in))

  invents_nothing : InventsNothing c
  invents_nothing keeps k n file out work good enough spare =
      let is = keeps k n file out work ∙ writes_bundle k n file good out work enough spare in (
        ap (λ (it : Leaves). it.answer) is,
        λ i h. ap (λ (it : Leaves). count_in it.list i) is ∙ count_written k n file _ good i h,
        ap (λ (it : Leaves). length_in it.list) is ∙ length_written k n file _ good,
      )

pub useless : Useless
useless =
    record {
      refuses_everything = answers_some;
      constant_answer = not_constant;
      writes_nothing = writes_something;
      first_block_only = codes_later;
      invents = invents_nothing;
    }
