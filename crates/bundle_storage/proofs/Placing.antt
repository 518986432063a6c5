-- A symbol put into its body: the two cases of it, and that what is put into the part of a list which is the body is put into the list.
-- Assumes nothing.
use mathlib.Core.Path.{◌≡◌, refl, sym, ap, ◌∙◌}
use mathlib.Core.Bool.{Bool, true, false, cond}
use mathlib.Core.List.{List, ◌++◌, append_assoc}
use Prim.Native.Nat.{ℕ, ◌+◌, ◌-◌, ◌*◌, ◌<◌, ◌≤◌}
use native.Mathlib.Nat.{zero-add}
use native.Mathlib.Omega.{arith}
use borrow.Author.Tests.{eq-eqb, ne_eqb}
use lib.Dec.{eqb}
use lib.ListN.{length, take, drop, length-append, length-drop, take-append-drop}
use lib.Seq.{length-take-le}
use Rattle.bundle_storage.specs.Bytes.{two, put}
use Rattle.bundle_storage.specs.Storage.{word_of, stored, body_size}
use Rattle.bundle_storage.proofs.BytesLaws.{two_length}
use Rattle.bundle_storage.proofs.PutLaws.{put_at, put_length, put_behind, parted}

-- s, t and u are a body before, between and after the puts
module _ (count done b x : ℕ) (s : List ℕ) where
  pub stored_listed : (t u : List ℕ) → x ≡ 65536 → t ≡ put (two b) (2 * done) s → u ≡ put (two 0) (2 * count + 2 * b) t
      → u ≡ stored 0 count done b x s
  unfolding stored word_of
  stored_listed t u over first second =
      rw (eq-eqb x 65536 over, zero-add (2 * count + 2 * b), zero-add (2 * done)) (second ∙ ap (put (two 0) (2 * count + 2 * b)) first)

  pub stored_word : (u : List ℕ) → (x ≡ 65536 → ⊥) → u ≡ put (two x) (2 * count + 2 * b) s → u ≡ stored 0 count done b x s
  unfolding stored word_of
  stored_word u low is = rw (ne_eqb x 65536 low, zero-add) is

-- p, body and q are what stands before, in and behind the body
put_inner : (bytes p body q : List ℕ) (at i : ℕ) → length p ≡ at → i + length bytes ≤ length body
    → put bytes (at + i) (p ++ (body ++ q)) ≡ p ++ (put bytes i body ++ q)
unfolding put
put_inner bytes p body q at i e h =
    ap (λ (l : List ℕ). put bytes (at + i) (p ++ (l ++ q))) (parted (length bytes) i body)
    ∙ ap (put bytes (at + i)) (simp append_assoc)
    ∙ put_at bytes (p ++ take i body) (take (length bytes) (drop i body)) (drop (i + length bytes) body ++ q) (at + i)
    (omega (arith, length-append p (take i body), length-take-le i body (omega arith)))
    (length-take-le (length bytes) (drop i body) (omega (arith, length-drop i body)))
    ∙ simp append_assoc

-- so many bytes of a list from an index on, as they are lent
pub lent_bytes_length : (at size : ℕ) (s : List ℕ) → at + size ≤ length s → length (take (at + size - at) (drop at s)) ≡ size
lent_bytes_length at size s inside =
    length-take-le (at + size - at) (drop at s) (omega (arith, length-drop at s)) ∙ omega arith

module _ (count done b x : ℕ) where
  listed_inner : (t : Bool) (p body q : List ℕ) (at : ℕ) → length p ≡ at → 2 * done + 2 ≤ length body
      → cond t (put (two b) (at + 2 * done) (p ++ (body ++ q))) (p ++ (body ++ q)) ≡ p ++ (cond t (put (two b) (2 * done) body) body ++ q)
  listed_inner true p body q at e h = put_inner (two b) p body q at (2 * done) e (omega (arith, two_length b))
  listed_inner false p body q at e h = refl

  listed_length : (t : Bool) (i : ℕ) (s : List ℕ) → i + 2 ≤ length s → length (cond t (put (two b) i s) s) ≡ length s
  listed_length true i s h = put_length (two b) i s (omega (arith, two_length b))
  listed_length false i s h = refl

  listed_behind : (t : Bool) (i : ℕ) (s : List ℕ) (m : ℕ) → i + 2 ≤ m → i ≤ length s → drop m (cond t (put (two b) i s) s) ≡ drop m s
  listed_behind true i s m inside h = put_behind (two b) i s m (omega (arith, two_length b)) h
  listed_behind false i s m inside h = refl

  stored_inner : (p body q : List ℕ) (at : ℕ) → length p ≡ at → 2 * done + 2 ≤ length body → 2 * count + 2 * b + 2 ≤ length body
      → stored at count done b x (p ++ (body ++ q)) ≡ p ++ (stored 0 count done b x body ++ q)
  unfolding stored
  stored_inner p body q at e h l =
      let listed = cond (eqb x 65536) (put (two b) (2 * done) body) body in
      rw (zero-add (2 * count + 2 * b), zero-add (2 * done))
      (ap (put (two (word_of x)) (at + (2 * count + 2 * b))) (listed_inner (eqb x 65536) p body q at e h)
      ∙ put_inner (two (word_of x)) p listed q at (2 * count + 2 * b) e (omega (arith, two_length (word_of x), listed_length (eqb x 65536) (2 * done) body h)))

  -- the body is lent, and after is what it holds once the symbol is stored
  pub stored_part : (at size : ℕ) (s after : List ℕ) → at + size ≤ length s → 2 * done + 2 ≤ size → 2 * count + 2 * b + 2 ≤ size
      → after ≡ stored 0 count done b x (take (at + size - at) (drop at s))
      → take at s ++ (after ++ drop (at + size - at) (drop at s)) ≡ stored at count done b x s
  stored_part at size s after inside h l is =
      let m = at + size - at in
      let long = lent_bytes_length at size s inside in
      ap (λ (body : List ℕ). take at s ++ (body ++ drop m (drop at s))) is
      ∙ sym (stored_inner (take at s) (take m (drop at s)) (drop m (drop at s)) at (length-take-le at s (omega arith)) (omega arith) (omega arith))
      ∙ ap (stored at count done b x) (ap (take at s ++◌) (take-append-drop m (drop at s)) ∙ take-append-drop at s)

  -- behind the body, of so many blocks, all is as it was
  pub stored_behind : (at B : ℕ) (s : List ℕ) (m : ℕ) → b < B → done ≤ count → at + body_size B count ≤ m → m ≤ length s
      → drop m (stored at count done b x s) ≡ drop m s
  unfolding stored body_size
  stored_behind at B s m h listed inside room =
      let long = listed_length (eqb x 65536) (at + 2 * done) s (omega arith) in
      put_behind (two (word_of x)) (at + (2 * count + 2 * b)) _ m (omega (arith, two_length (word_of x))) (omega arith)
      ∙ listed_behind (eqb x 65536) (at + 2 * done) s m (omega arith) (omega arith)
