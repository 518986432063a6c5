-- The reader, lent what the program has, answers what the program has to answer, and what is printed then.
-- Assumes nothing.
use mathlib.Core.Path.{◌≡◌, refl, sym, ap, ap₂, ◌∙◌}
use mathlib.Core.Bool.{Bool, true, false, true≢false, ◌||◌, not}
use mathlib.Core.List.{List, [], ◌∷◌, ◌++◌}
use Prim.Native.Nat.{ℕ, ◌+◌, ◌*◌, ◌<◌, ◌≤◌}
use native.Mathlib.Decide.{dec_le}
use native.Mathlib.Omega.{arith}
use borrow.Author.Tests.{lt-ltb, le-ltb, ltb-false}
use lib.Dec.{ltb}
use lib.ListN.{length, get_or, drop, replicate, length-append}
use Rattle.answers.specs.Leaves.{Leaves, leaving, written}
use Rattle.answers.specs.Refusals.{Answer, the_result, refusal, number_of, refused, refuse_if, told_outcome, after}
use Rattle.limits.specs.Shape.{longest}
use Rattle.field.specs.Size.{size_of}
use Rattle.std.specs.Prelude.{⊤, Result, Ok, Err}
use Rattle.answers.specs.declared.refusal.Refusal.{Refusal}
use Rattle.answers.specs.declared.refusal.Refusal.TheVariants.{Shape, Room, Few, Form}
use Rattle.answers.proofs.Checks.{or_false}
use Rattle.field.proofs.Sizes.{size_enough, size_least}
use Rattle.bundle_layout.specs.Fields.{k_in, n_in, length_in, held_in, blocks_in}
use Rattle.bundle_layout.specs.Layout.{bad_front, rest_good, layout_checks}
use Rattle.bundle_layout.specs.Rooms.{bundle_work}
use Rattle.bundle_layout.proofs.Passing.{n_limited, held_few}
use Rattle.bundle_read.specs.Reading.{blocks_answer}
use Rattle.bundle_layout.specs.Shape.{bad_bundle_shape}
use Rattle.bundle.specs.Calls.{read_leaves}
use Rattle.bundle.specs.Checks.{room_checks, read_checks}
use Rattle.bundle.proofs.Walking.{read_answer}
use Rattle.listing_lines.specs.Lines.{last_line}
use Rattle.listing_lines.specs.Puts.{Puts}
use Rattle.listing_lines.proofs.Putting.{puts_written}
use Rattle.listing_text.specs.Answers.{most_input, most_n, most_length, served_answer, program_answer}
use Rattle.listing_text.specs.Calls.{list_leaves}
use Rattle.listing_text.specs.Listing.{listing, alone, prints_alone, printed}

-- With an output of 24,576 bytes and a working space of 8 * 256 numbers

or_turned : (a b : Bool) → (a || b) ≡ (b || a)
or_turned true true = refl
or_turned true false = refl
or_turned false true = refl
or_turned false false = refl

-- 8N is above 8 * 256 exactly where n is above 256
n_served : (n : ℕ) → n ≤ longest → ltb (8 * most_n) (bundle_work n) ≡ ltb most_n n
unfolding most_n bundle_work longest
n_served n limit =
    elim (dec_le n 256) [
      | yes few ↦ le-ltb 2048 (8 * size_of n) (omega (arith, size_least n 8 few)) ∙ sym (le-ltb 256 n few)
      | no many ↦ lt-ltb 2048 (8 * size_of n) (omega (arith, size_enough n (omega arith))) ∙ sym (lt-ltb 256 n (omega arith))
    ]

-- the checks of room and of FEW, and the blocks behind them
after_two : (a b : Bool) (later : Answer) → after (refuse_if a Room (refuse_if b Few (the_result []))) later ≡ refuse_if a Room (refuse_if b Few later)
after_two true b later = refl
after_two false true later = refl
after_two false false later = refl

after_after : (a b later : Answer) → after (after a b) later ≡ after a (after b later)
after_after (the_result vs) b later = refl
after_after (refusal number place) b later = refl

-- The tests of the layout: what follows them counts only where all pass, and where none of 1, 3 and 11 is answered, they did

abbrev tests : Bool → Bool → Bool → Answer
tests front shape rest = refuse_if front Form (refuse_if shape Shape (refuse_if rest Form (the_result [])))

tests_same : (front shape rest : Bool) (x y : Answer) → (tests front shape rest ≡ the_result [] → x ≡ y) → after (tests front shape rest) x ≡ after (tests front shape rest) y
tests_same true shape rest x y same = refl
tests_same false true rest x y same = refl
tests_same false false true x y same = refl
tests_same false false false x y same = same refl

tests_follow : (front shape rest : Bool) (later : Answer) → prints_alone (after (tests front shape rest) later) ≡ false → tests front shape rest ≡ the_result []
unfolding prints_alone alone
tests_follow true shape rest later e = absurd (true≢false e)
tests_follow false true rest later e = absurd (true≢false e)
tests_follow false false true later e = absurd (true≢false e)
tests_follow false false false later e = refl

layout_same : (s : List ℕ) (x y : Answer) → (layout_checks s ≡ the_result [] → x ≡ y) → after (layout_checks s) x ≡ after (layout_checks s) y
unfolding layout_checks
layout_same s = tests_same (bad_front s) (bad_bundle_shape (k_in s) (n_in s) (length_in s)) (not (rest_good s))

layout_follow : (s : List ℕ) (later : Answer) → prints_alone (after (layout_checks s) later) ≡ false → layout_checks s ≡ the_result []
unfolding layout_checks
layout_follow s = tests_follow (bad_front s) (bad_bundle_shape (k_in s) (n_in s) (length_in s)) (not (rest_good s))

served_checks : (s : List ℕ) → layout_checks s ≡ the_result []
    → after (room_checks s most_length (8 * most_n)) (blocks_answer s 0 (blocks_in s)) ≡ served_answer s
unfolding room_checks served_answer
served_checks s good =
    after_two (ltb most_length (length_in s) || ltb (8 * most_n) (bundle_work (n_in s))) (ltb (held_in s) (k_in s)) _
    ∙ ap (λ (bad : Bool). refuse_if bad Room (refuse_if (ltb (held_in s) (k_in s)) Few (blocks_answer s 0 (blocks_in s))))
    (ap (ltb most_length (length_in s) ||◌) (n_served (n_in s) (n_limited s good)) ∙ or_turned (ltb most_length (length_in s)) (ltb most_n (n_in s)))

short_program : (s : List ℕ) → length s ≤ most_input → after (layout_checks s) (served_answer s) ≡ program_answer s
unfolding program_answer
short_program s short = ap (λ (bad : Bool). refuse_if bad Room (after (layout_checks s) (served_answer s))) (sym (le-ltb most_input (length s) short))

pub read_answers : (s out work : List ℕ) → length s ≤ most_input → length out ≡ most_length → length work ≡ 8 * most_n
    → (read_leaves s out work).answer ≡ program_answer s
unfolding read_checks
read_answers s out work short o w =
    read_answer s out work
    ∙ ap₂ (λ (room cells : ℕ). after (after (layout_checks s) (room_checks s room cells)) (blocks_answer s 0 (blocks_in s))) o w
    ∙ after_after (layout_checks s) (room_checks s most_length (8 * most_n)) (blocks_answer s 0 (blocks_in s))
    ∙ layout_same s _ _ (served_checks s)
    ∙ short_program s short

-- The program's own checks, as the code makes them: n, L, m and k are what it has read

module _ (s : List ℕ) (n L m k : ℕ) (is_n : n ≡ n_in s) (is_L : L ≡ length_in s) (is_m : m ≡ held_in s) (is_k : k ≡ k_in s) where
  pub n_refused : most_n < n → refused Room ≡ served_answer s
  unfolding served_answer
  n_refused large = rw (lt-ltb most_n (n_in s) (omega (arith, is_n))) refl

  pub length_refused : most_length < L → refused Room ≡ served_answer s
  unfolding served_answer
  length_refused large = rw (lt-ltb most_length (length_in s) (omega (arith, is_L)), or_turned (ltb most_n (n_in s)) true) refl

  pub held_refused : n ≤ most_n → L ≤ most_length → m < k → refused Few ≡ served_answer s
  unfolding served_answer
  held_refused some-n some-L few =
      rw (le-ltb most_n (n_in s) (omega (arith, is_n)), le-ltb most_length (length_in s) (omega (arith, is_L)), lt-ltb (held_in s) (k_in s) (omega (arith, is_m, is_k))) refl

  pub blocks_judged : n ≤ most_n → L ≤ most_length → k ≤ m → blocks_answer s 0 (blocks_in s) ≡ served_answer s
  unfolding served_answer
  blocks_judged some-n some-L enough =
      rw (le-ltb most_n (n_in s) (omega (arith, is_n)), le-ltb most_length (length_in s) (omega (arith, is_L)), le-ltb (held_in s) (k_in s) (omega (arith, is_m, is_k))) refl

-- the cells that decoding takes are there
pub cells_enough : (n stated : ℕ) → n ≤ most_n → stated ≡ bundle_work n → stated ≤ 8 * most_n
unfolding most_n bundle_work
cells_enough n stated few is = omega (arith, size_least n 8 few)

pub long_refused : (s : List ℕ) → most_input < length s → refused Room ≡ program_answer s
unfolding program_answer
long_refused s long = rw (lt-ltb most_input (length s) long) refl

pub layout_refused : (s : List ℕ) (r : Result ⊤ Refusal) (x : Refusal) (later : Answer) → length s ≤ most_input → r ≡ Err x
    → refused x ≡ layout_checks s → after (told_outcome r) later ≡ program_answer s
layout_refused s r x later short is bad =
    ap (λ (p : Result ⊤ Refusal). after (told_outcome p) later) is
    ∙ ap (λ (a : Answer). after a (served_answer s)) bad
    ∙ short_program s short

pub layout_served : (s : List ℕ) → length s ≤ most_input → layout_checks s ≡ the_result [] → served_answer s ≡ program_answer s
layout_served s short good = sym (ap (λ (a : Answer). after a (served_answer s)) good) ∙ short_program s short

-- b is the input as its layout passed
pub layout_passed : (s b : List ℕ) (r : Result ⊤ Refusal) → b ≡ s → layout_checks b ≡ the_result [] → length s ≤ most_input
    → after (told_outcome r) (the_result (length_in b ∷ [])) ≡ served_answer b
    → after (told_outcome r) (the_result (length_in s ∷ [])) ≡ program_answer s
layout_passed s b r same good short served =
    ap (λ (t : List ℕ). after (told_outcome r) (the_result (length_in t ∷ []))) (sym same)
    ∙ served
    ∙ ap served_answer same
    ∙ layout_served s short (ap layout_checks (sym same) ∙ good)

-- what `program_answer` is proved by
pub ruleset programmed = (long_refused, layout_refused, layout_passed)

-- and `served_answer`
pub ruleset served = (n_refused, length_refused, held_refused)

-- Where the listing is printed, the layout is good and the table short

served_follow : (bad : Bool) (later : Answer) → prints_alone (refuse_if bad Room later) ≡ false → bad ≡ false
unfolding prints_alone alone
served_follow true later e = absurd (true≢false e)
served_follow false later e = refl

served_few : (s : List ℕ) → prints_alone (served_answer s) ≡ false → n_in s ≤ most_n
unfolding served_answer
served_few s e = ltb-false most_n (n_in s) (or_false (ltb most_n (n_in s)) (ltb most_length (length_in s)) (served_follow _ _ e)).0

program_follow : (s : List ℕ) → prints_alone (program_answer s) ≡ false → ltb most_input (length s) ≡ false
unfolding program_answer
program_follow s e = served_follow (ltb most_input (length s)) _ e

pub follows_good : (s : List ℕ) → prints_alone (program_answer s) ≡ false → (layout_checks s ≡ the_result []) × (128 + 63 * held_in s ≤ 16256)
unfolding most_n
follows_good s e =
    let short = ltb-false most_input (length s) (program_follow s e) in
    let told = ap prints_alone (short_program s short) ∙ e in
    let good = layout_follow s (served_answer s) told in
    let few = served_few s (sym (ap prints_alone (ap (λ (a : Answer). after a (served_answer s)) good)) ∙ told) in
    (good, omega (arith, few, held_few s good))

-- What is printed

follows_printed : (s : List ℕ) (a : Answer) → program_answer s ≡ a → prints_alone a ≡ false → listing s ++ last_line a ≡ printed s
unfolding printed
follows_printed s a is e = rw (is, e) refl

alone_printed : (s : List ℕ) (a : Answer) → program_answer s ≡ a → prints_alone a ≡ true → last_line a ≡ printed s
unfolding printed
alone_printed s a is e = rw (is, e) refl

-- and what is left: text and work are what was lent, w what the working space holds, o the answer of the code
module _ (s text work w : List ℕ) (m : ℕ) (same : m ≡ length work) (cleared : w ≡ replicate m 0) (o : Result ⊤ Refusal) (answers : after (told_outcome o) (the_result (length_in s ∷ [])) ≡ program_answer s) where
  leaves_text : (t new : List ℕ) {most e : ℕ} → t ≡ printed s → Puts t most 0 text e new → leaving (the_result (e ∷ [])) new w ≡ list_leaves s text work
  leaves_text t new is puts =
      let it = puts_written puts in
      cc (it.0, it.1, is, cleared, same)

  -- the file can be read
  module _ (u : ⊤) (is : o ≡ Ok u) where
    whole : program_answer s ≡ the_result (length_in s ∷ [])
    whole = sym answers ∙ ap (λ (p : Result ⊤ Refusal). after (told_outcome p) (the_result (length_in s ∷ []))) is

    pub whole_good : (layout_checks s ≡ the_result []) × (128 + 63 * held_in s ≤ 16256)
    unfolding prints_alone
    whole_good = follows_good s (ap prints_alone whole)

    pub whole_leaves : (new : List ℕ) {most e : ℕ} → Puts (listing s ++ last_line (the_result [])) most 0 text e new → leaving (the_result (e ∷ [])) new w ≡ list_leaves s text work
    unfolding prints_alone last_line
    whole_leaves new puts = leaves_text (listing s ++ last_line (the_result [])) new (follows_printed s (the_result (length_in s ∷ [])) whole refl) puts

  -- or is refused; only is whether that line stands alone
  module _ (x : Refusal) (only : Bool) (is : o ≡ Err x) (tested : only ≡ alone (number_of x)) where
    partly : program_answer s ≡ refused x
    partly = sym answers ∙ ap (λ (p : Result ⊤ Refusal). after (told_outcome p) (the_result (length_in s ∷ []))) is

    lone : prints_alone (refused x) ≡ only
    unfolding prints_alone
    lone = sym tested

    pub partly_good : only ≡ false → (layout_checks s ≡ the_result []) × (128 + 63 * held_in s ≤ 16256)
    partly_good follows = follows_good s (ap prints_alone partly ∙ lone ∙ follows)

    pub partly_leaves : (new : List ℕ) {most e : ℕ} → only ≡ false → Puts (listing s ++ last_line (refused x)) most 0 text e new → leaving (the_result (e ∷ [])) new w ≡ list_leaves s text work
    partly_leaves new follows puts = leaves_text (listing s ++ last_line (refused x)) new (follows_printed s (refused x) partly (lone ∙ follows)) puts

    pub alone_leaves : (new : List ℕ) {most e : ℕ} → only ≡ true → Puts (last_line (refused x)) most 0 text e new → leaving (the_result (e ∷ [])) new w ≡ list_leaves s text work
    alone_leaves new stands puts = leaves_text (last_line (refused x)) new (alone_printed s (refused x) partly (lone ∙ stands)) puts

-- the text lies inside what it is put into

abbrev pub shown : Answer → ℕ
shown (the_result vs) = get_or vs 0 0
shown (refusal number place) = 0

pub text_inside : (s text t w v : List ℕ) (e : ℕ) → leaving (the_result (e ∷ [])) t w ≡ leaving (the_result (length (printed s) ∷ [])) (written (printed s) text) v → e ≤ length t
text_inside s text t w v e leaves =
    let lists = ap {A = Leaves} {B = List ℕ} (λ l. l.list) leaves in
    let answers = ap {A = Leaves} {B = ℕ} (λ l. shown l.answer) leaves in
    omega (arith, answers, ap {A = List ℕ} {B = ℕ} length lists, length-append (printed s) (drop (length (printed s)) text))
