-- Which refusals the program answers, when ROOM, and what is printed with each.
-- Assumes nothing.
use mathlib.Core.Path.{◌≡◌, refl, sym, ap, subst, ◌∙◌}
use mathlib.Core.Bool.{Bool, true, false, true≢false, cond, ◌||◌, not}
use mathlib.Core.List.{List, [], ◌∷◌, ◌++◌}
use mathlib.Core.Logic.{◌⊎◌, inl, inr}
use mathlib.Core.Option.{Option, some, none}
use Prim.Native.Nat.{ℕ, zero, suc, ◌<◌}
use borrow.Author.Tests.{lt-ltb, ltb-true, eqb-true}
use lib.Dec.{ltb, eqb}
use lib.ListN.{length}
use Rattle.answers.specs.Refusals.{Answer, the_result, refusal, number_of, refused, refuse_if, after}
use Rattle.answers.specs.declared.refusal.Refusal.{Refusal}
use Rattle.answers.specs.declared.refusal.Refusal.TheVariants.{Shape, Room, Few, Word, Tail, Form}
use Rattle.bundle_layout.specs.Fields.{k_in, n_in, length_in, held_in, blocks_in}
use Rattle.bundle_layout.specs.Layout.{bad_front, rest_good, layout_checks}
use Rattle.bundle_read.specs.Reading.{decoded_at, bad_word, bad_tail, judged, block_answer, blocks_answer}
use Rattle.bundle_layout.specs.Shape.{bad_bundle_shape}
use Rattle.listing_lines.specs.Lines.{last_line}
use Rattle.listing_text.specs.Answers.{most_input, most_n, most_length, served_answer, program_answer}
use Rattle.listing_text.specs.Listing.{listing, alone, prints_alone, printed}
use Rattle.listing_text.specs.Theorems.{OneOf, ServesExactly, ListedWhole, ListedAfter}

or_true : (a b : Bool) → (a || b) ≡ true → (a ≡ true) ⊎ (b ≡ true)
or_true true b e = inl refl
or_true false b e = inr e

-- Numbers listed, as a computed test

abbrev among : ℕ → List ℕ → Bool
among number [] = false
among number (x ∷ xs) = eqb number x || among number xs

one_of : (number : ℕ) (ns : List ℕ) → among number ns ≡ true → OneOf number ns
one_of number [] e = absurd (true≢false (sym e))
one_of number (x ∷ xs) e =
    elim (or_true (eqb number x) (among number xs) e) [
      | inl same ↦ inl (eqb-true number x same)
      | inr later ↦ inr (one_of number xs later)
    ]

one_of_either : (number : ℕ) (ms ns : List ℕ) → among number (ms ++ ns) ≡ true → OneOf number ms ⊎ OneOf number ns
one_of_either number [] ns e = inr (one_of number ns e)
one_of_either number (x ∷ xs) ns e =
    elim (or_true (eqb number x) (among number (xs ++ ns)) e) [
      | inl same ↦ inl (inl (eqb-true number x same))
      | inr later ↦
          elim (one_of_either number xs ns later) [
            | inl first ↦ inl (inr first)
            | inr second ↦ inr second
          ]
    ]

-- An answer whose result is vs, or whose refusal is among ns

abbrev Gives : List ℕ → List ℕ → Answer → Type 0
Gives vs ns (the_result ws) = ws ≡ vs
Gives vs ns (refusal number place) = among number ns ≡ true

module _ (vs ns : List ℕ) where
  gives_if : (bad : Bool) (x : Refusal) (later : Answer) → among (number_of x) ns ≡ true → Gives vs ns later → Gives vs ns (refuse_if bad x later)
  gives_if true x later is rest = is
  gives_if false x later is rest = rest

  gives_after : (us : List ℕ) (a later : Answer) → Gives us ns a → Gives vs ns later → Gives vs ns (after a later)
  gives_after us (the_result ws) later told rest = rest
  gives_after us (refusal number place) later told rest = told

module _ (ns : List ℕ) where
  layout_gives : (s : List ℕ) → among 1 ns ≡ true → among 11 ns ≡ true → Gives [] ns (layout_checks s)
  unfolding layout_checks
  layout_gives s shape form =
      gives_if [] ns (bad_front s) Form _ form
      (gives_if [] ns (bad_bundle_shape (k_in s) (n_in s) (length_in s)) Shape _ shape (gives_if [] ns (not (rest_good s)) Form (the_result []) form refl))

  module _ (disagree : among 8 ns ≡ true) (word : among 9 ns ≡ true) (tail : among 10 ns ≡ true) where
    judged_gives : (k L b : ℕ) (message : Option (List ℕ)) → Gives [] ns (judged k L b message)
    unfolding judged
    judged_gives k L b none = disagree
    judged_gives k L b (some message) =
        gives_if [] ns (bad_word message) (Word b) _ word (gives_if [] ns (bad_tail k L b message) (Tail b) (the_result []) tail refl)

    blocks_give : (s : List ℕ) (b left : ℕ) → Gives (length_in s ∷ []) ns (blocks_answer s b left)
    unfolding blocks_answer block_answer
    blocks_give s b zero = refl
    blocks_give s b (suc left) =
        gives_after (length_in s ∷ []) ns [] (block_answer s b) _ (judged_gives (k_in s) (length_in s) b (decoded_at s b)) (blocks_give s (suc b) left)

-- All that the program answers, and what is printed with it

abbrev lone : List ℕ
lone = 1 ∷ 3 ∷ 11 ∷ []

abbrev following : List ℕ
following = 4 ∷ 8 ∷ 9 ∷ 10 ∷ []

program_gives : (s : List ℕ) → Gives (length_in s ∷ []) (lone ++ following) (program_answer s)
unfolding program_answer served_answer
program_gives s =
    let vs = length_in s ∷ [] in
    let ns = lone ++ following in
    gives_if vs ns (ltb most_input (length s)) Room _ refl
    (gives_after vs ns [] (layout_checks s) _ (layout_gives ns s refl refl)
    (gives_if vs ns (ltb most_n (n_in s) || ltb most_length (length_in s)) Room _ refl
    (gives_if vs ns (ltb (held_in s) (k_in s)) Few _ refl (blocks_give ns refl refl refl s 0 (blocks_in s)))))

told : (s : List ℕ) (a : Answer) → program_answer s ≡ a → Gives (length_in s ∷ []) (lone ++ following) a
told s a is = subst (Gives (length_in s ∷ []) (lone ++ following)) is (program_gives s)

shown : (s : List ℕ) (a : Answer) (only : Bool) → program_answer s ≡ a → prints_alone a ≡ only → printed s ≡ cond only [] (listing s) ++ last_line a
unfolding printed
shown s a only is e = rw (is, e) refl

pub listed_whole : ListedWhole
unfolding prints_alone last_line
listed_whole s vs is = (told s (the_result vs) is, shown s (the_result vs) false is refl)

lone_alone : (number : ℕ) → OneOf number lone → alone number ≡ true
unfolding alone
lone_alone number (inl e) = ap alone e
lone_alone number (inr (inl e)) = ap alone e
lone_alone number (inr (inr (inl e))) = ap alone e
lone_alone number (inr (inr (inr nothing))) = elim nothing [ ]

following_alone : (number : ℕ) → OneOf number following → alone number ≡ false
unfolding alone
following_alone number (inl e) = ap alone e
following_alone number (inr (inl e)) = ap alone e
following_alone number (inr (inr (inl e))) = ap alone e
following_alone number (inr (inr (inr (inl e)))) = ap alone e
following_alone number (inr (inr (inr (inr nothing)))) = elim nothing [ ]

pub listed_after : ListedAfter
unfolding prints_alone
listed_after s number place is =
    elim (one_of_either number lone following (told s (refusal number place) is)) [
      | inl first ↦ inl (first, shown s (refusal number place) true is (lone_alone number first))
      | inr second ↦ inr (second, shown s (refusal number place) false is (following_alone number second))
    ]

-- When ROOM

room_or_later : (bad : Bool) (later : Answer) → refuse_if bad Room later ≡ refused Room → (bad ≡ true) ⊎ (later ≡ refused Room)
room_or_later true later e = inl refl
room_or_later false later e = inr e

-- a refusal by ROOM is among those that are given
never_room : (vs ns : List ℕ) (a : Answer) → among 3 ns ≡ false → Gives vs ns a → a ≡ refused Room → ⊥
never_room vs ns a out gives is = true≢false (sym (subst (Gives vs ns) is gives) ∙ out)

after_room : (ns : List ℕ) (a later : Answer) → among 3 ns ≡ false → Gives [] ns a → after a later ≡ refused Room
    → (a ≡ the_result []) × (later ≡ refused Room)
after_room ns (the_result vs) later out gives e = (ap the_result gives, e)
after_room ns (refusal number place) later out gives e = absurd (never_room [] ns (refusal number place) out gives e)

served_room : (s : List ℕ) → served_answer s ≡ refused Room → (most_n < n_in s) ⊎ (most_length < length_in s)
unfolding served_answer
served_room s e =
    elim (room_or_later (ltb most_n (n_in s) || ltb most_length (length_in s)) _ e) [
      | inl large ↦
          elim (or_true (ltb most_n (n_in s)) (ltb most_length (length_in s)) large) [
            | inl n ↦ inl (ltb-true most_n (n_in s) n)
            | inr l ↦ inr (ltb-true most_length (length_in s) l)
          ]
      | inr later ↦
          let vs = length_in s ∷ [] in
          absurd
          (never_room vs following _ refl (gives_if vs following (ltb (held_in s) (k_in s)) Few _ refl (blocks_give following refl refl refl s 0 (blocks_in s))) later)
    ]

room_needed : (s : List ℕ) → program_answer s ≡ refused Room
    → (most_input < length s) ⊎ ((layout_checks s ≡ the_result []) × ((most_n < n_in s) ⊎ (most_length < length_in s)))
unfolding program_answer
room_needed s e =
    elim (room_or_later (ltb most_input (length s)) _ e) [
      | inl long ↦ inl (ltb-true most_input (length s) long)
      | inr later ↦
          let both = after_room (1 ∷ 11 ∷ []) (layout_checks s) (served_answer s) refl (layout_gives (1 ∷ 11 ∷ []) s refl refl) later in
          inr (both.0, served_room s both.1)
    ]

-- and where it is, ROOM is answered, whether the input is too long besides or not

twice : (bad : Bool) (later : Answer) → later ≡ refused Room → refuse_if bad Room later ≡ refused Room
twice true later e = refl
twice false later e = e

large_room : (n l : Bool) (later : Answer) → (n ≡ true) ⊎ (l ≡ true) → refuse_if (n || l) Room later ≡ refused Room
large_room true l later e = refl
large_room false true later e = refl
large_room false false later (inl e) = absurd (true≢false (sym e))
large_room false false later (inr e) = absurd (true≢false (sym e))

large : (s : List ℕ) → (most_n < n_in s) ⊎ (most_length < length_in s) → served_answer s ≡ refused Room
unfolding served_answer
large s (inl n) = large_room (ltb most_n (n_in s)) (ltb most_length (length_in s)) _ (inl (lt-ltb most_n (n_in s) n))
large s (inr l) = large_room (ltb most_n (n_in s)) (ltb most_length (length_in s)) _ (inr (lt-ltb most_length (length_in s) l))

room_told : (s : List ℕ) → (most_input < length s) ⊎ ((layout_checks s ≡ the_result []) × ((most_n < n_in s) ⊎ (most_length < length_in s)))
    → program_answer s ≡ refused Room
unfolding program_answer
room_told s (inl long) = ap (λ (bad : Bool). refuse_if bad Room (after (layout_checks s) (served_answer s))) (lt-ltb most_input (length s) long)
room_told s (inr served) =
    twice (ltb most_input (length s)) (after (layout_checks s) (served_answer s))
    (ap (λ (a : Answer). after a (served_answer s)) served.0 ∙ large s served.1)

pub serves_exactly : ServesExactly
serves_exactly s = (room_needed s, room_told s)
