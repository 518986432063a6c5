-- What the reader makes of one block, and of the blocks in order: its message's bytes in the file, and the answers one after the other.
-- Assumes nothing.
use mathlib.Core.Path.{◌≡◌, refl, subst, sym, ap, ◌∙◌}
use mathlib.Core.Bool.{true, false, not}
use mathlib.Core.List.{List, [], ◌∷◌, ◌++◌, append_assoc, append-nil}
use mathlib.Core.Option.{Option, some, none}
use Prim.Native.Nat.{ℕ, zero, suc, ◌+◌, ◌*◌, ◌-◌, ◌<◌, ◌≤◌}
use native.Mathlib.Decide.{dec_le}
use native.Mathlib.Nat.{le_refl, min-le_left}
use native.Mathlib.Numerals.{add-one}
use native.Mathlib.Omega.{arith}
use borrow.Author.Tests.{ltb-false, eqb-false}
use lib.Dec.{eqb}
use lib.ListN.{length, get_or, take, drop, length-append, length-take, drop_of_length-le}
use lib.Seq.{length-take-le, take_at, take_all, take-length, take-append-le, take-take}
use Rattle.answers.specs.First.{first}
use Rattle.answers.specs.Refusals.{Answer, the_result, refused, after}
use Rattle.field.specs.Symbol.{Symbols}
use Rattle.answers.specs.declared.refusal.Refusal.{Refusal}
use Rattle.answers.specs.declared.refusal.Refusal.TheVariants.{Disagree, Word, Tail}
use Rattle.answers.proofs.Checks.{stops, goes_on}
use Rattle.answers.proofs.First.{first_before}
use Rattle.answers.proofs.Refusals.{result_no_refusal}
use Rattle.bundle_layout.specs.Blocks.{blocks_of}
use Rattle.bundle_storage.specs.Bytes.{in_bytes}
use Rattle.bundle_layout.specs.Fields.{k_in, length_in, blocks_in}
use Rattle.bundle_layout.specs.Layout.{layout_checks}
use Rattle.bundle_storage.proofs.BytesLaws.{in_bytes_length}
use Rattle.bundle_layout.proofs.Passing.{k_some}
use Rattle.bundle_read.proofs.MessageBytes.{laid_past}
use Rattle.bundle_gather.specs.Gathering.{Laid}
use Rattle.bundle_read.specs.Reading.{some_meets, decoded_at, bad_word, bad_tail, judged, block_answer, blocks_answer, bytes_of, bytes_before, file_in}
use Rattle.bundle_layout.proofs.BlocksLaws.{block_inside, blocks_hold}

-- One message

-- symbols of which none is 65536 are words
pub words_low : (message : List ℕ) → Symbols message → bad_word message ≡ false → (j : ℕ) → j < length message → get_or message j 0 < 65536
unfolding bad_word some_meets
words_low message symbols good j h =
    omega (arith, symbols j h, eqb-false (get_or message j 0) 65536 (first_before (length message) (λ i. eqb (get_or message i 0) 65536) j (omega (arith, h, ltb-false _ (length message) good))))

-- a refusal takes nothing
pub refused_none : {A : Type 0} (x : Refusal) → refused x ≡ the_result [] → A
refused_none x e = absurd (result_no_refusal (sym e))

module _ (k L b : ℕ) (message : List ℕ) where
  pub word_told : bad_word message ≡ true → refused (Word b) ≡ judged k L b (some message)
  unfolding judged
  word_told bad = stops (Word b) _ bad

  -- rest is how many bytes of the file are left where the block begins
  module _ (rest : ℕ) (is : rest ≡ L - 2 * (k * b)) (good : bad_word message ≡ false) where
    pub tail_told : some_meets (λ x. not (eqb x 0)) (drop rest (in_bytes message)) ≡ true → refused (Tail b) ≡ judged k L b (some message)
    unfolding judged bad_tail
    tail_told bad =
        goes_on (Word b) _ good
        (stops (Tail b) (the_result []) (ap (λ (z : ℕ). some_meets (λ x. not (eqb x 0)) (drop z (in_bytes message))) (sym is) ∙ bad))

    pub taken_told : some_meets (λ x. not (eqb x 0)) (drop rest (in_bytes message)) ≡ false → the_result [] ≡ judged k L b (some message)
    unfolding judged bad_tail
    taken_told fine =
        goes_on (Word b) _ good
        (goes_on (Tail b) (the_result []) (ap (λ (z : ℕ). some_meets (λ x. not (eqb x 0)) (drop z (in_bytes message))) (sym is) ∙ fine) refl)

-- Its bytes in the file

take_more : (n : ℕ) (p q : List ℕ) → length p ≤ n → take n (p ++ q) ≡ p ++ take (n - length p) q
take_more n [] q h = ap (λ (z : ℕ). take z q) {x = n} {y = n - 0} (omega arith)
take_more zero (x ∷ p) q h = absurd (let l : suc (length p) ≤ 0 = h in omega arith)
take_more (suc n) (x ∷ p) q h =
    ap (x ∷◌) (take_more n p q (let l : suc (length p) ≤ suc n = h in omega arith) ∙ ap (λ (z : ℕ). p ++ take z q) {x = n - length p} {y = suc n - suc (length p)} (omega arith))

-- what is cut off before more is put behind it would be cut off anyway
take_front : (n : ℕ) (p q : List ℕ) → take n (take n p ++ q) ≡ take n (p ++ q)
take_front zero p q = refl
take_front (suc n) [] q = refl
take_front (suc n) (x ∷ p) q = ap (x ∷◌) (take_front n p q)

bytes_laid_inside : (k b from : ℕ) (message file after : List ℕ) → length message ≡ k → from ≡ 2 * (k * b) → from ≤ length file
    → after ≡ take from file ++ (take (length file - from) (in_bytes message) ++ drop (from + 2 * length message) file)
    → take (2 * (k * suc b)) after ≡ take (length file) (take (2 * (k * b)) file ++ in_bytes message)
bytes_laid_inside k b from message file after long first inside is =
    ap (take (2 * (k * suc b))) is
    ∙ elim (dec_le (from + 2 * k) (length file)) [
      | yes le ↦ ap (λ (s : List ℕ). take (2 * (k * suc b)) (take from file ++ (s ++ rest))) (take_all (length file - from) (in_bytes message) (omega (arith, bytes, le)))
          ∙ ap (take (2 * (k * suc b))) (sym (append_assoc (take from file) (in_bytes message) rest))
          ∙ take_at (take from file ++ in_bytes message) rest (2 * (k * suc b)) (omega (arith, front, bytes, length-append (take from file) (in_bytes message)))
          ∙ sym (take_all (length file) (take from file ++ in_bytes message) (omega (arith, front, bytes, length-append (take from file) (in_bytes message), le)))
      | no gt ↦ ap (λ (s : List ℕ). take (2 * (k * suc b)) (take from file ++ (take (length file - from) (in_bytes message) ++ s))) (drop_of_length-le file {i = from + 2 * length message} (omega (arith, gt, long)))
          ∙ ap (λ (s : List ℕ). take (2 * (k * suc b)) (take from file ++ s)) (append-nil (take (length file - from) (in_bytes message)))
          ∙ take_all (2 * (k * suc b)) (take from file ++ take (length file - from) (in_bytes message)) (omega (arith, front, bytes, length-append (take from file) (take (length file - from) (in_bytes message)), length-take (length file - from) (in_bytes message), min-le_left (length file - from) (length (in_bytes message)), gt))
          ∙ ap (λ (z : ℕ). take from file ++ take (length file - z) (in_bytes message)) (sym front)
          ∙ sym (take_more (length file) (take from file) (in_bytes message) (omega (arith, front)))
    ]
    ∙ ap (λ (z : ℕ). take (length file) (take z file ++ in_bytes message)) first
  where
    rest : List ℕ
    rest = drop (from + 2 * length message) file

    bytes : length (in_bytes message) ≡ 2 * k
    bytes = in_bytes_length message ∙ ap (2 *◌) long

    front : length (take from file) ≡ from
    front = length-take-le from file inside

-- the same wherever the block begins
pub bytes_laid_lem : (k b from : ℕ) (message file after : List ℕ) → length message ≡ k → from ≡ 2 * (k * b)
    → after ≡ take from file ++ (take (length file - from) (in_bytes message) ++ drop (from + 2 * length message) file)
    → take (2 * (k * suc b)) after ≡ take (length file) (take (2 * (k * b)) file ++ in_bytes message)
bytes_laid_lem k b from message file after long first is =
    elim (dec_le from (length file)) [
      | yes inside ↦ bytes_laid_inside k b from message file after long first inside is
      | no past ↦ ap (take (2 * (k * suc b))) (is ∙ sym (laid_past (in_bytes message) file from (2 * length message) (omega (arith, past))))
          ∙ take_all (2 * (k * suc b)) file (omega (arith, past, first))
          ∙ sym (take-length file) ∙ sym (take-append-le (length file) file (in_bytes message) (le_refl (length file)))
          ∙ ap (λ (s : List ℕ). take (length file) (s ++ in_bytes message)) (sym (take_all (2 * (k * b)) file (omega (arith, past, first))))
    ]

-- One block

-- the block's answer, from what became of its message

pub block_message : (s : List ℕ) (b : ℕ) (message : List ℕ) (a : Answer) → decoded_at s b ≡ some message → a ≡ judged (k_in s) (length_in s) b (some message)
    → a ≡ block_answer s b
unfolding block_answer
block_message s b message a decoded is = is ∙ ap (judged (k_in s) (length_in s) b) (sym decoded)

pub block_none : (s : List ℕ) (b : ℕ) → decoded_at s b ≡ none → refused (Disagree b) ≡ block_answer s b
unfolding block_answer judged
block_none s b decoded = ap (judged (k_in s) (length_in s) b) (sym decoded)

-- the file with one block more
pub bytes_more : (s : List ℕ) (b n : ℕ) (message file now : List ℕ) → decoded_at s b ≡ some message
    → now ≡ take n (file ++ in_bytes message) → file ≡ take n (bytes_before s b) → now ≡ take n (bytes_before s (suc b))
unfolding bytes_before bytes_of
bytes_more s b n message file now decoded is before =
    is ∙ ap (λ (l : List ℕ). take n (l ++ in_bytes message)) before ∙ take_front n (bytes_before s b) (in_bytes message)
    ∙ ap (λ (o : Option (List ℕ)). take n (bytes_before s b ++ bytes_of o)) (sym decoded)

-- The blocks in order

module _ (s : List ℕ) (good : layout_checks s ≡ the_result []) where
  next_left : (b : ℕ) → b < blocks_in s → blocks_answer s b (blocks_in s - b) ≡ after (block_answer s b) (blocks_answer s (suc b) (blocks_in s - suc b))
  unfolding blocks_answer
  next_left b h = ap (blocks_answer s b) {x = blocks_in s - b} {y = suc (blocks_in s - suc b)} (omega arith)

  answer_on : (b : ℕ) → b < blocks_in s → blocks_answer s 0 (blocks_in s) ≡ blocks_answer s b (blocks_in s - b) → block_answer s b ≡ the_result []
      → blocks_answer s 0 (blocks_in s) ≡ blocks_answer s (b + 1) (blocks_in s - (b + 1))
  answer_on b h so_far taken =
      so_far ∙ next_left b h ∙ ap (λ (a : Answer). after a (blocks_answer s (suc b) (blocks_in s - suc b))) taken
      ∙ ap (λ (z : ℕ). blocks_answer s z (blocks_in s - z)) {x = suc b} {y = b + 1} (omega arith)

  pub answer_stops : (b : ℕ) (x : Refusal) → b < blocks_in s → blocks_answer s 0 (blocks_in s) ≡ blocks_answer s b (blocks_in s - b) → block_answer s b ≡ refused x
      → refused x ≡ blocks_answer s 0 (blocks_in s)
  answer_stops b x h so_far bad =
      sym (so_far ∙ next_left b h ∙ ap (λ (a : Answer). after a (blocks_answer s (suc b) (blocks_in s - suc b))) bad)

  pub answer_ends : (b : ℕ) → b ≤ blocks_in s → blocks_in s ≤ b → blocks_answer s 0 (blocks_in s) ≡ blocks_answer s b (blocks_in s - b)
      → the_result (length_in s ∷ []) ≡ blocks_answer s 0 (blocks_in s)
  unfolding blocks_answer
  answer_ends b le ge so_far = sym (so_far ∙ ap (blocks_answer s b) {x = blocks_in s - b} {y = 0} (omega arith))

  -- every block begins inside the file, and with the last one the file is whole
  pub begins_inside : (b : ℕ) → b < blocks_in s → 2 * (k_in s * b) < length_in s
  unfolding blocks_in
  begins_inside b h = block_inside (k_in s) (length_in s) b (k_some s good) h

  pub file_whole : (b : ℕ) (file : List ℕ) → length file ≤ length_in s → b ≤ blocks_in s → blocks_in s ≤ b
      → take (2 * (k_in s * b)) file ≡ take (length file) (bytes_before s b) → file ≡ take (length file) (file_in s)
  unfolding file_in blocks_in
  file_whole b file long le ge so_far =
      sym (take_all (2 * (k_in s * b)) file (omega (arith, long, blocks_hold (k_in s) (length_in s) (k_some s good), ap (k_in s *◌) {x = b} {y = blocks_of (k_in s) (length_in s)} (omega arith))))
      ∙ so_far ∙ ap (λ (z : ℕ). take (length file) (bytes_before s z)) {x = b} {y = blocks_of (k_in s) (length_in s)} (omega arith)
      ∙ sym (take-take (length file) (length_in s) (bytes_before s (blocks_of (k_in s) (length_in s))) long)

-- b blocks are taken: the working space, the answer still to come, the file so far
pub record Taken (s : List ℕ) (b : ℕ) (file cells : List ℕ) : Type 0 where
  pub laid : Laid s b cells
  pub long : length file ≤ length_in s
  pub left : blocks_answer s 0 (blocks_in s) ≡ blocks_answer s b (blocks_in s - b)
  pub so_far : take (2 * (k_in s * b)) file ≡ take (length file) (bytes_before s b)

pub taken_none : (s file cells : List ℕ) → Laid s 0 cells → length file ≤ length_in s → Taken s 0 file cells
unfolding bytes_before
taken_none s file cells laid long =
    record {
      laid = laid;
      long = long;
      left = ap (blocks_answer s 0) {x = blocks_in s} {y = blocks_in s - 0} (omega arith);
      so_far = ap (λ (z : ℕ). take z file) {x = 2 * (k_in s * 0)} {y = 0} (omega arith) ∙ sym (take_all (length file) [] (omega arith));
    }

-- after and room are what the file and the cells hold once block b was taken
pub taken_more : (s : List ℕ) (b : ℕ) (file cells after room : List ℕ) → layout_checks s ≡ the_result [] → b < blocks_in s → Taken s b file cells
    → the_result [] ≡ block_answer s b → Laid s (suc b) room → length after ≡ length file
    → (take (2 * (k_in s * b)) file ≡ take (length file) (bytes_before s b) → take (2 * (k_in s * suc b)) after ≡ take (length file) (bytes_before s (suc b)))
    → Taken s (b + 1) after room
taken_more s b file cells after room good h taken told laid same more =
    record {
      laid = subst (λ (z : ℕ). Laid s z room) (sym (add-one b)) laid;
      long = omega (arith, same, taken.long);
      left = answer_on s good b h taken.left (sym told);
      so_far = subst (λ (z : ℕ). take (2 * (k_in s * z)) after ≡ take (length after) (bytes_before s z)) (sym (add-one b))
          (more taken.so_far ∙ ap (λ (m : ℕ). take m (bytes_before s (suc b))) (sym same));
    }
