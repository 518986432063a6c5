-- The proofs of specs/Theorems.antt, each under its name there in small letters.
-- Assumes nothing.
use mathlib.Core.Path.{◌≡◌, refl, sym, ap, subst, ◌∙◌}
use mathlib.Core.List.{List, [], ◌∷◌}
use mathlib.Core.Logic.{inl, inr}
use mathlib.Core.Option.{Option, some, none}
use Prim.Native.Nat.{ℕ, ◌+◌, ◌<◌, ◌≤◌, zero-le}
use native.Mathlib.Nat.{eq-or-lt_of_le, le_of_eq, mod-lt}
use native.Mathlib.Omega.{arith}
use lib.Dec.{lit<, lit≤}
use lib.ListN.{length, get_or}
use Rattle.field.specs.Field.{power}
use Rattle.answers.specs.First.{first}
use Rattle.answers.specs.Leaves.{Leaves}
use Rattle.field.specs.Points.{root_of, point_of}
use Rattle.answers.specs.Refusals.{the_result, refused}
use Rattle.field.specs.Roots.{roots, root}
use Rattle.limits.specs.Shape.{longest, bad_shape}
use Rattle.field.specs.Size.{level_of, size_of}
use Rattle.limits.specs.Values.{first_above}
use Rattle.answers.specs.declared.refusal.Refusal.TheVariants.{Disagree}
use Rattle.answers.proofs.Leaves.{leaves_done, outcome_settled}
use Rattle.limits.proofs.Values.{all_symbols}
use Rattle.poly.specs.Sum.{total}
use Rattle.lists.specs.Tab.{tab}
use Rattle.poly.specs.Value.{value}
use Rattle.poly.proofs.Symbols.{tab_symbols}
use Rattle.lists.proofs.Tab.{tab_length, tab_at}
use Rattle.code.specs.Altered.{altered_count}
use Rattle.block.specs.Calls.{decode_leaves}
use Rattle.code.specs.Decoded.{decoded}
use Rattle.block.specs.Checks.{encode_checks, decode_checks}
use Rattle.code.specs.Code.{symbol_of, code_word}
use Rattle.code.specs.Decoding.{decode_of}
use Rattle.code.specs.Fits.{Fits}
use Rattle.code.specs.Held.{held}
use Rattle.code.specs.Meeting.{polynomial_of}
use Rattle.code.specs.Message.{IsMessage}
use Rattle.code.specs.Positions.{first_outside}
use Rattle.code.specs.Decodable.{Decodable}
use Rattle.code.specs.Repeats.{stands_earlier, first_repeat}
use Rattle.code.specs.Rooms.{decode_work}
use Rattle.block.specs.Theorems.{CodeWordSymbols, NeverAgree, FitsOne, DecodesFitting, DecodesNone, EncodeChecksPass, DecodeChecksPass, Decodes, Disagrees, EncodesWord, EncodeDecode, DisagreeExactly, Demand3, NeverAnother, WorkedNumbers, EncodeSettled, DecodeSettled}
use Rattle.block.proofs.Agreement as Agreement
use Rattle.block.proofs.Altering.{none_fits, fits_none, few_altered}
use Rattle.code.proofs.Decoding as Decoding
use Rattle.block.proofs.Disagreeing.{checks_before, disagree_none}
use Rattle.block.proofs.Passing.{encode_passed, encode_passes, decode_passed, decode_passes}

-- The code

symbol_lt : (n : ℕ) (message : List ℕ) (i : ℕ) → symbol_of n message i < 65537
unfolding symbol_of
symbol_lt n message i = mod-lt _ (lit< tt)

pub code_word_symbols : CodeWordSymbols
unfolding code_word
code_word_symbols n message = (tab_length n _, tab_symbols n _ (λ i h. symbol_lt n message i))

code_word_at : (n : ℕ) (message : List ℕ) (i : ℕ) → i < n → get_or (code_word n message) i 0 ≡ symbol_of n message i
unfolding code_word
code_word_at n message i h = tab_at n _ i h

pub never_agree : NeverAgree
never_agree k n s t positions short is it enough inside apart =
    Agreement.never_agree k n s t positions short is it inside apart enough

-- The message that fits

pub fits_one : FitsOne
fits_one = Decoding.fits_one

pub decodes_fitting : DecodesFitting
decodes_fitting = Decoding.decodes_fitting

pub decodes_none : DecodesNone
decodes_none = Decoding.decodes_none

-- The calls: what the checks let through

pub encode_checks_pass : EncodeChecksPass
encode_checks_pass k n message out work = (
  encode_passed k n message out work,
  λ p. encode_passes k n message out work p.0 p.1 p.2 p.3,
)

pub decode_checks_pass : DecodeChecksPass
decode_checks_pass k n positions values out work = (
  decode_passed k n positions values out work,
  λ p. decode_passes k n positions values out work p.0 p.1 p.2,
)

-- The calls: what they leave, given room

pub encodes_word : EncodesWord
encodes_word k n message good is out work enough room =
    sym (leaves_done (encode_checks k n message (length out) (length work)) out work _
    (encode_passes k n message (length out) (length work)
    record { shape = rw is.long good; symbols = is.symbols }
    is.long enough room))

module _ (k n : ℕ) (positions values : List ℕ) (able : Decodable k n (held positions values)) where
  decode_leaves_lem : (found : Option (List ℕ)) → decode_of k n (held positions values) ≡ found → (out work : List ℕ) → k ≤ length out
      → decode_work n ≤ length work → decode_leaves k n positions values out work ≡ decoded found n out work
  decode_leaves_lem found is out work enough room =
      sym (leaves_done (decode_checks k n positions values (length out) (length work)) out work _
      (decode_passes k n positions values (length out) (length work) able enough room))
      ∙ ap (λ (o : Option (List ℕ)). decoded o n out work) is

  fitting_decodes : (s : List ℕ) → Fits k n (held positions values) s → Decodes k n positions values s
  fitting_decodes s fits = decode_leaves_lem (some s) ((decodes_fitting k n _ able s).1 fits)

  none_disagrees : ((s : List ℕ) → ¬ Fits k n (held positions values) s) → Disagrees k n positions values
  none_disagrees never = decode_leaves_lem none ((decodes_none k n _ able).1 never)

pub encode_decode : EncodeDecode
unfolding held
encode_decode k n message positions good is enough inside apart =
    fitting_decodes k n positions _ able message record { message = is; at = λ j l. sym (at j l) }
  where
    sent : ℕ → ℕ
    sent j = get_or (code_word n message) (get_or positions j 0) 0

    at : (j : ℕ) → j < length positions → get_or (tab (length positions) sent) j 0 ≡ symbol_of n message (get_or positions j 0)
    at j l = tab_at (length positions) sent j l ∙ code_word_at n message _ (inside j l)

    able : Decodable k n (held positions (tab (length positions) sent))
    able =
        record {
          shape = good;
          paired = sym (tab_length (length positions) sent);
          enough = enough;
          inside = inside;
          apart = apart;
          symbols = tab_symbols (length positions) sent (λ j l. rw (code_word_at n message _ (inside j l)) (symbol_lt n message _));
        }

pub disagree_exactly : DisagreeExactly
disagree_exactly k n positions values out work = (forth, back)
  where
    forth : (decode_leaves k n positions values out work).answer ≡ refused (Disagree 0)
        → (decode_checks k n positions values (length out) (length work) ≡ the_result []) × ((s : List ℕ) → ¬ Fits k n (held positions values) s)
    forth e =
        let found = disagree_none _ _ n out work (checks_before k n positions values (length out) (length work)) e in
        let able = (decode_passed k n positions values (length out) (length work) found.0).0 in
        (found.0, (decodes_none k n _ able).0 found.1)

    back : (decode_checks k n positions values (length out) (length work) ≡ the_result []) × ((s : List ℕ) → ¬ Fits k n (held positions values) s)
        → (decode_leaves k n positions values out work).answer ≡ refused (Disagree 0)
    back p =
        let passed = decode_passed k n positions values (length out) (length work) p.0 in
        ap (λ (l : Leaves). l.answer) (none_disagrees k n positions values passed.0 p.1 out work passed.1 passed.2)

-- Demand 3

pub never_another : NeverAnother
unfolding held
never_another k n sent positions values able is few =
    record {
      never_another =
          elim (eq-or-lt_of_le {m = altered_count n sent (held positions values)} zero-le)
          [ inl all ↦ inl (sound (sym all)) | inr any ↦ inr (broken any) ];
      none_altered = sound;
      some_altered = broken;
    }
  where
    sound : altered_count n sent (held positions values) ≡ 0 → Decodes k n positions values sent
    sound all = fitting_decodes k n positions values able sent (none_fits k n sent _ is all)

    -- a message that fits would be the sent one
    broken : 0 < altered_count n sent (held positions values) → Disagrees k n positions values
    broken any =
        none_disagrees k n positions values able
        (λ t fits. omega (arith, fits_none k n sent _ (subst (Fits k n _) (sym (few_altered k n sent _ able is few t fits)) fits)))

-- The worked numbers: decoding is compared with a sent message, so that no inverse is computed

is_message : (s : List ℕ) → first_above s ≡ length s → IsMessage (length s) s
is_message s all = record { long = refl; symbols = all_symbols s (sym all) (le_of_eq refl) }

one_two : IsMessage 2 (1 ∷ 2 ∷ [])
unfolding first_above first
one_two = is_message (1 ∷ 2 ∷ []) refl

-- the only message with the value 3 at position 0 and 0 at position 2
twice : IsMessage 2 (32770 ∷ 32770 ∷ [])
unfolding first_above first
twice = is_message (32770 ∷ 32770 ∷ []) refl

greatest : IsMessage 1 (65536 ∷ [])
unfolding first_above first
greatest = is_message (65536 ∷ []) refl

worked : {sent : List ℕ} → IsMessage 2 sent → (positions values : List ℕ) → decode_checks 2 4 positions values 2 (decode_work 4) ≡ the_result []
    → altered_count 4 sent (held positions values) + 2 ≤ length positions → Demand3 2 4 sent positions values
unfolding held
worked is positions values passes =
    never_another 2 4 _ positions values (decode_passed 2 4 positions values 2 (decode_work 4) passes).0 is

pub worked_numbers : WorkedNumbers
unfolding decode_checks bad_shape longest decode_work held first_outside first_repeat stands_earlier first_above first code_word tab symbol_of polynomial_of value point_of power root_of root roots size_of level_of altered_count total
worked_numbers =
    record {
      p5 = encodes_word 2 3 (1 ∷ 2 ∷ []) refl one_two;
      p6 = encodes_word 1 4 (65536 ∷ []) refl greatest;
      p7 = (worked one_two (3 ∷ 1 ∷ []) (513 ∷ 65026 ∷ []) refl (lit≤ tt)).none_altered refl;
      p8 = (worked twice (0 ∷ 2 ∷ []) (3 ∷ 0 ∷ []) refl (lit≤ tt)).none_altered refl;
      p9 = (worked twice (0 ∷ 2 ∷ 1 ∷ []) (3 ∷ 0 ∷ 65026 ∷ []) refl (lit≤ tt)).some_altered (lit< tt);
      p10 = (worked one_two (0 ∷ 1 ∷ 2 ∷ 3 ∷ []) (3 ∷ 65026 ∷ 65536 ∷ 513 ∷ []) refl (lit≤ tt)).none_altered refl;
    }

pub encode_settled : EncodeSettled
encode_settled k n message out work = outcome_settled _

pub decode_settled : DecodeSettled
decode_settled k n positions values out work = outcome_settled _
