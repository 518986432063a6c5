-- Status and number are the answer's, so the face tells what the functions behind it answer.
-- Assumes nothing.
use mathlib.Core.Path.{◌≡◌, refl, sym, ap, ◌∙◌}
use mathlib.Core.Bool.{Bool, true, false}
use mathlib.Core.List.{List, [], ◌∷◌}
use Prim.Native.Nat.{ℕ}
use Rattle.std.specs.Prelude.{⊤, Result, Ok, Err}
use Rattle.answers.specs.Leaves.{Leaves, leaving}
use Rattle.answers.specs.Refusals.{Answer, the_result, refused, refuse_if, told_outcome}
use Rattle.answers.specs.declared.refusal.Refusal.{Refusal}
use Rattle.answers.specs.declared.refusal.Refusal.TheVariants.{Shape}
use Rattle.transform.specs.Lengths.{bad_length}
use Rattle.bundle_layout.specs.Facts.{told_facts, told_entry}
use Rattle.bundle_layout.specs.declared.facts.Entry.{Entry}
use Rattle.bundle_layout.specs.declared.facts.Facts.{Facts}
use Rattle.bundle.specs.Answers.{told_length}
use Rattle.room_calls.specs.Rooms.{told_room, transform_room_answer}
use Rattle.room_calls.specs.declared.space.Space.{Space}
use Rattle.answers.specs.Telling.{Returned, status_number, returned}
use Rattle.sulmirejo.specs.Face.{returned_number, with_point, point_returned, with_lists, lists_returned, lists_returned_number, with_facts, facts_returned, with_entry, entry_returned, RoomReturned, with_room, room_returned}

pub point_found : (a : Answer) (before v s p : ℕ) → the_result (v ∷ []) ≡ a → status_number s p ≡ returned (the_result [])
    → with_point (status_number s p) v ≡ point_returned a before
point_found a before v s p is told =
    ap (λ (r : Returned). with_point r v) told ∙ ap (λ (a : Answer). point_returned a before) is

pub point_refused : (a : Answer) (x : Refusal) (before s p : ℕ) → refused x ≡ a → status_number s p ≡ returned (refused x)
    → with_point (status_number s p) before ≡ point_returned a before
point_refused a x before s p is told =
    ap (λ (r : Returned). with_point r before) told ∙ ap (λ (a : Answer). point_returned a before) is

pub lists_told : (it : Leaves) (o : Result ⊤ Refusal) (l w : List ℕ) (s p : ℕ) → leaving (told_outcome o) l w ≡ it
    → status_number s p ≡ returned (told_outcome o) → with_lists (status_number s p) l w ≡ lists_returned it
lists_told it o l w s p is told = ap (λ (r : Returned). with_lists r l w) told ∙ ap lists_returned is

pub lists_told_number : (it : Leaves) (a : Result ℕ Refusal) (l w : List ℕ) (s p : ℕ) → leaving (told_length a) l w ≡ it
    → status_number s p ≡ returned_number (told_length a) → with_lists (status_number s p) l w ≡ lists_returned_number it
lists_told_number it a l w s p is told = ap (λ (r : Returned). with_lists r l w) told ∙ ap lists_returned_number is

-- k, n, L, m and B are what the numbers held before
module _ (a : Answer) (k n L m B s p : ℕ) where
  pub facts_found : (f : Facts) → told_facts (Ok f) ≡ a → status_number s p ≡ returned (the_result [])
      → with_facts (status_number s p) f.k f.n f.length f.held f.blocks ≡ facts_returned a k n L m B
  facts_found f is told =
      ap (λ (r : Returned). with_facts r f.k f.n f.length f.held f.blocks) told
      ∙ ap (λ (a : Answer). facts_returned a k n L m B) is

  pub facts_refused : (x : Refusal) → refused x ≡ a → status_number s p ≡ returned (refused x)
      → with_facts (status_number s p) k n L m B ≡ facts_returned a k n L m B
  facts_refused x is told =
      ap (λ (r : Returned). with_facts r k n L m B) told ∙ ap (λ (a : Answer). facts_returned a k n L m B) is

-- t, o and c are what the numbers held before
module _ (a : Answer) (t o c s p : ℕ) where
  pub entry_found : (e : Entry) → told_entry (Ok e) ≡ a → status_number s p ≡ returned (the_result [])
      → with_entry (status_number s p) e.position e.offset e.count ≡ entry_returned a t o c
  entry_found e is told =
      ap (λ (r : Returned). with_entry r e.position e.offset e.count) told ∙ ap (λ (a : Answer). entry_returned a t o c) is

  pub entry_refused : (x : Refusal) → refused x ≡ a → status_number s p ≡ returned (refused x)
      → with_entry (status_number s p) t o c ≡ entry_returned a t o c
  entry_refused x is told = ap (λ (r : Returned). with_entry r t o c) told ∙ ap (λ (a : Answer). entry_returned a t o c) is

-- o and w are what the numbers held before
module _ (a : Result Space Refusal) (o w s p : ℕ) where
  pub room_found : (r : Space) → a ≡ Ok r → status_number s p ≡ returned (the_result [])
      → with_room (status_number s p) r.out r.work ≡ room_returned (told_room a) o w
  room_found r is told =
      ap (λ (x : Returned). with_room x r.out r.work) told ∙ ap (λ (a : Result Space Refusal). room_returned (told_room a) o w) (sym is)

  pub room_refused : (x : Refusal) → a ≡ Err x → status_number s p ≡ returned (refused x)
      → with_room (status_number s p) o w ≡ room_returned (told_room a) o w
  room_refused x is told =
      ap (λ (r : Returned). with_room r o w) told ∙ ap (λ (a : Result Space Refusal). room_returned (told_room a) o w) (sym is)

-- what the face tells of a room is what the call behind it answers
pub room_told : (a : Answer) (r : Result Space Refusal) (o w : ℕ) {it : RoomReturned} → told_room r ≡ a → it ≡ room_returned (told_room r) o w
    → it ≡ room_returned a o w
room_told a r o w is told = told ∙ ap (λ (a : Answer). room_returned a o w) is

-- the transform's room has no output: 0 stays 0
no_output : (bad : Bool) (N w : ℕ) → (room_returned (refuse_if bad Shape (the_result (0 ∷ N ∷ []))) 0 w).out ≡ 0
no_output true N w = refl
no_output false N w = refl

pub room_told_alone : (N o v w s p : ℕ) → with_room (status_number s p) o v ≡ room_returned (transform_room_answer N) 0 w
    → with_room (status_number s p) 0 v ≡ room_returned (transform_room_answer N) 0 w
unfolding transform_room_answer
room_told_alone N o v w s p told =
    ap (λ (x : ℕ). with_room (status_number s p) x v) (sym (ap (λ (r : RoomReturned). r.out) told ∙ no_output (bad_length N) N w)) ∙ told
