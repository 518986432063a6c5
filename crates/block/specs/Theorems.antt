-- What is proved of the definitions, as statements: proofs/Theorems.antt proves each under the same name in small letters.
use Rattle.std.specs.Prelude.{◌≡◌, false, List, [], ◌∷◌, ◌⊎◌, ◌↔◌, ℕ, ◌+◌, ◌<◌, ◌≤◌, length, get_or}
use Rattle.std.proofs.Math.Option.{some, none}
use Rattle.answers.specs.Leaves.{OutcomeSettled, leaving, written, zeroed}
use Rattle.answers.specs.Refusals.{the_result, refused}
use Rattle.limits.specs.Shape.{longest, bad_shape}
use Rattle.field.specs.Symbol.{Symbols}
use Rattle.answers.specs.declared.refusal.Refusal.TheVariants.{Disagree}
use Rattle.lists.specs.Tab.{tab}
use Rattle.code.specs.Altered.{altered_count}
use Rattle.block.specs.Calls.{encode_leaves, decode_leaves}
use Rattle.block.specs.Checks.{encode_checks, decode_checks}
use Rattle.code.specs.Code.{symbol_of, code_word}
use Rattle.code.specs.Decoding.{decode_of}
use Rattle.code.specs.Fits.{Fits}
use Rattle.code.specs.Held.{Held, held, held_count}
use Rattle.code.specs.Message.{IsMessage}
use Rattle.code.specs.Positions.{Inside}
use Rattle.code.specs.Codable.{Codable}
use Rattle.code.specs.Decodable.{Decodable}
use Rattle.code.specs.Repeats.{Apart}
use Rattle.code.specs.Rooms.{encode_work, decode_work}

-- The code

abbrev pub CodeWordSymbols : Type 0
CodeWordSymbols = (n : ℕ) (message : List ℕ) → (length (code_word n message) ≡ n) × Symbols (code_word n message)

-- two messages that agree in k or more positions are the same
abbrev pub NeverAgree : Type 0
NeverAgree =
    (k n : ℕ) (s t positions : List ℕ) → n ≤ longest → IsMessage k s → IsMessage k t → k ≤ length positions → Inside n positions
    → Apart positions
    → ((j : ℕ) → j < length positions → symbol_of n s (get_or positions j 0) ≡ symbol_of n t (get_or positions j 0)) → s ≡ t

-- The message that fits

abbrev pub FitsOne : Type 0
FitsOne = (k n : ℕ) (h : Held) → Decodable k n h → (s t : List ℕ) → Fits k n h s → Fits k n h t → s ≡ t

-- decoding gives a message exactly if it fits
abbrev pub DecodesFitting : Type 0
DecodesFitting = (k n : ℕ) (h : Held) → Decodable k n h → (s : List ℕ) → (decode_of k n h ≡ some s) ↔ Fits k n h s

-- and none exactly if none fits
abbrev pub DecodesNone : Type 0
DecodesNone = (k n : ℕ) (h : Held) → Decodable k n h → (decode_of k n h ≡ none) ↔ ((s : List ℕ) → ¬ Fits k n h s)

-- The calls: what the checks let through

abbrev pub EncodeChecksPass : Type 0
EncodeChecksPass =
    (k n : ℕ) (message : List ℕ) (out work : ℕ)
    → (encode_checks k n message out work ≡ the_result [])
    ↔ (Codable n message × (length message ≡ k) × (n ≤ out) × (encode_work n ≤ work))

abbrev pub DecodeChecksPass : Type 0
DecodeChecksPass =
    (k n : ℕ) (positions values : List ℕ) (out work : ℕ)
    → (decode_checks k n positions values out work ≡ the_result [])
    ↔ (Decodable k n (held positions values) × (k ≤ out) × (decode_work n ≤ work))

-- The calls: what they leave, given room

-- encode leaves this code word
abbrev pub Encodes : ℕ → ℕ → List ℕ → List ℕ → Type 0
Encodes k n message word =
    (out work : List ℕ) → n ≤ length out → encode_work n ≤ length work
    → encode_leaves k n message out work ≡ leaving (the_result []) (written word out) (zeroed (encode_work n) work)

-- decode leaves this message
abbrev pub Decodes : ℕ → ℕ → List ℕ → List ℕ → List ℕ → Type 0
Decodes k n positions values message =
    (out work : List ℕ) → k ≤ length out → decode_work n ≤ length work
    → decode_leaves k n positions values out work ≡ leaving (the_result []) (written message out) (zeroed (decode_work n) work)

-- decode answers DISAGREE
abbrev pub Disagrees : ℕ → ℕ → List ℕ → List ℕ → Type 0
Disagrees k n positions values =
    (out work : List ℕ) → k ≤ length out → decode_work n ≤ length work
    → decode_leaves k n positions values out work ≡ leaving (refused (Disagree 0)) out (zeroed (decode_work n) work)

-- demand 2: every good message is coded
abbrev pub EncodesWord : Type 0
EncodesWord =
    (k n : ℕ) (message : List ℕ) → bad_shape k n ≡ false → IsMessage k message → Encodes k n message (code_word n message)

-- demand 2: any m ≥ k symbols of its code word, in any order, bring the message back
abbrev pub EncodeDecode : Type 0
EncodeDecode =
    (k n : ℕ) (message positions : List ℕ) → bad_shape k n ≡ false → IsMessage k message → k ≤ length positions
    → Inside n positions → Apart positions
    → Decodes k n positions (tab (length positions) (λ j. get_or (code_word n message) (get_or positions j 0) 0)) message

-- demand 3, "exact DISAGREE": it is answered exactly when the other checks pass and no message fits
abbrev pub DisagreeExactly : Type 0
DisagreeExactly =
    (k n : ℕ) (positions values out work : List ℕ)
    → ((decode_leaves k n positions values out work).answer ≡ refused (Disagree 0))
    ↔ ((decode_checks k n positions values (length out) (length work) ≡ the_result [])
    × ((s : List ℕ) → ¬ Fits k n (held positions values) s))

-- Demand 3: m ≥ k symbols at true, distinct positions, of which at most m - k are altered to other field values

pub record Demand3 (k n : ℕ) (sent positions values : List ℕ) : Type 0 where
  -- decode's outcome is the sent message or DISAGREE, never another
  pub never_another : Decodes k n positions values sent ⊎ Disagrees k n positions values
  -- with none altered it is the message
  pub none_altered : altered_count n sent (held positions values) ≡ 0 → Decodes k n positions values sent
  -- with some altered it is DISAGREE
  pub some_altered : 0 < altered_count n sent (held positions values) → Disagrees k n positions values

abbrev pub NeverAnother : Type 0
NeverAnother =
    (k n : ℕ) (sent positions values : List ℕ) → Decodable k n (held positions values) → IsMessage k sent
    → altered_count n sent (held positions values) + k ≤ held_count (held positions values) → Demand3 k n sent positions values

-- The worked numbers P5 to P10

pub record WorkedNumbers : Type 0 where
  pub p5 : Encodes 2 3 (1 ∷ 2 ∷ []) (3 ∷ 65026 ∷ 65536 ∷ [])
  pub p6 : Encodes 1 4 (65536 ∷ []) (65536 ∷ 65536 ∷ 65536 ∷ 65536 ∷ [])
  pub p7 : Decodes 2 4 (3 ∷ 1 ∷ []) (513 ∷ 65026 ∷ []) (1 ∷ 2 ∷ [])
  pub p8 : Decodes 2 4 (0 ∷ 2 ∷ []) (3 ∷ 0 ∷ []) (32770 ∷ 32770 ∷ [])
  pub p9 : Disagrees 2 4 (0 ∷ 2 ∷ 1 ∷ []) (3 ∷ 0 ∷ 65026 ∷ [])
  pub p10 : Decodes 2 4 (0 ∷ 1 ∷ 2 ∷ 3 ∷ []) (3 ∷ 65026 ∷ 65536 ∷ 513 ∷ []) (1 ∷ 2 ∷ [])

-- Two outcomes of a call are equal: the answer, every cell of the output and of the working space

abbrev pub EncodeSettled : Type 0
EncodeSettled = (k n : ℕ) (message out work : List ℕ) → OutcomeSettled (encode_leaves k n message out work)

abbrev pub DecodeSettled : Type 0
DecodeSettled = (k n : ℕ) (positions values out work : List ℕ) → OutcomeSettled (decode_leaves k n positions values out work)
