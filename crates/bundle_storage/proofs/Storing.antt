-- A body holds the symbols that it was made of, whatever stands behind it; and what is read of bytes is a symbol.
-- Assumes nothing.
use mathlib.Core.Path.{◌≡◌, refl, sym, ap, ◌∙◌}
use mathlib.Core.Bool.{Bool, true, false, cond, ◌&&◌}
use mathlib.Core.List.{List, [], ◌∷◌, ◌++◌, append_assoc, append-nil}
use Prim.Native.Nat.{ℕ, zero, suc, ◌+◌, ◌*◌, ◌<◌, ◌≤◌, zero-le}
use native.Mathlib.Nat.{not-suc-le-zero}
use native.Mathlib.Decide.{dec_lt}
use native.Mathlib.Omega.{arith}
use borrow.Author.Tests.{le-ltb, le-leb, eq-eqb, ne_eqb, eqb-true, eqb-false, leb-true}
use lib.Dec.{leb, eqb, lit<}
use lib.ListN.{length, get_or, length-append, get_or-append}
use lib.Seq.{get_or_at}
use Rattle.answers.proofs.First.{first_none}
use Rattle.lists.specs.Tab.{tab}
use Rattle.lists.proofs.Tab.{tab_length, tab_at}
use Rattle.bundle_storage.specs.Blocks.{most_blocks}
use Rattle.bundle_storage.specs.Bytes.{Bytes, in_bytes, two_at}
use Rattle.bundle_storage.specs.Rising.{least, rises}
use Rattle.bundle_storage.specs.Storage.{overflows, word_of, count_of, body_of, body_size, list_at, body_good, listed, symbol_in}
use Rattle.bundle_storage.specs.Theorems.{Stores}
use Rattle.bundle_storage.proofs.BytesLaws.{Alike, alike_on, Each, each_append, in_bytes_length, in_bytes_at, in_bytes_bytes, bytes_append, two_alike, alike_past, two_lt}
use Rattle.bundle_storage.proofs.RisingLaws.{InOrder, some_found, in_order_rises, rising_count, rises_same}

-- The overflow list: each of its numbers is a block that overflows, they rise strictly, and every block that overflows is there

-- a list with one number more or none, as the overflow list grows
abbrev grown : Bool → List ℕ → ℕ → List ℕ
grown t o b = o ++ cond t (b ∷ []) []

each_one : (P : ℕ → Type 0) (b : ℕ) → P b → Each P (b ∷ [])
each_one P b new zero h = new
each_one P b new (suc i) h = absurd (omega arith)

each_grown : (P : ℕ → Type 0) (t : Bool) (o : List ℕ) (b : ℕ) → Each P o → (t ≡ true → P b) → Each P (grown t o b)
each_grown P true o b each new = each_append P o (b ∷ []) each (each_one P b (new refl))
each_grown P false o b each new = each_append P o [] each (λ i h. absurd (not-suc-le-zero h))

overflow_is : (e : ℕ → ℕ) (B : ℕ) → Each (λ b. e b ≡ 65536) (overflows e B)
unfolding overflows
overflow_is e zero = λ i h. absurd (not-suc-le-zero h)
overflow_is e (suc b) =
    each_grown (λ x. e x ≡ 65536) (eqb (e b) 65536) (overflows e b) b (overflow_is e b) (eqb-true (e b) 65536)

overflow_lt : (e : ℕ → ℕ) (B : ℕ) → Each (◌< B) (overflows e B)
unfolding overflows
overflow_lt e zero = λ i h. absurd (not-suc-le-zero h)
overflow_lt e (suc b) =
    each_grown (◌< suc b) (eqb (e b) 65536) (overflows e b) b (λ i h. omega (arith, overflow_lt e b i h)) (λ new. omega arith)

abbrev Rise : List ℕ → Type 0
Rise o = (j : ℕ) → suc j < length o → get_or o j 0 < get_or o (suc j) 0

rise_grown : (t : Bool) (o : List ℕ) (b : ℕ) → Each (◌< b) o → Rise o → Rise (grown t o b)
rise_grown true o b low up j h =
    let long = length-append o (b ∷ []) in
    let before = get_or-append o (b ∷ []) 0 j (omega arith) in
    elim (dec_lt (suc j) (length o)) [
      | yes old ↦ omega (arith, up j old, before, get_or-append o (b ∷ []) 0 (suc j) old)
      | no new ↦ omega (arith, low j (omega arith), before, get_or_at o b [] 0 (suc j) (omega arith))
    ]
rise_grown false o b low up j h = let same : Rise (o ++ []) = rw (append-nil o) up in same j h

rise_overflows : (e : ℕ → ℕ) (B : ℕ) → Rise (overflows e B)
unfolding overflows
rise_overflows e zero = λ j h. absurd (not-suc-le-zero h)
rise_overflows e (suc b) = rise_grown (eqb (e b) 65536) (overflows e b) b (overflow_lt e b) (rise_overflows e b)

overflows_rise : (e : ℕ → ℕ) (B : ℕ) → rises B (count_of B e) (λ j. get_or (overflows e B) j 0) ≡ true
unfolding count_of least
overflows_rise e B = in_order_rises B (length (overflows e B)) (λ j. get_or (overflows e B) j 0) each
  where
    each : (j : ℕ) → j < length (overflows e B) → InOrder B (λ i. get_or (overflows e B) i 0) j
    each zero h = (zero-le, overflow_lt e B 0 h)
    each (suc j) h = (rise_overflows e B j h, overflow_lt e B (suc j) h)

pub overflow_count : (e : ℕ → ℕ) (B : ℕ) → count_of B e ≤ B
overflow_count e B = rising_count B (count_of B e) _ (overflows_rise e B)

-- a block that overflows stands there, behind those of the blocks before it
pub overflow_place : (e : ℕ → ℕ) (B b : ℕ) → b < B → e b ≡ 65536 → (count_of b e < count_of B e) × (get_or (overflows e B) (count_of b e) 0 ≡ b)
unfolding count_of overflows
overflow_place e zero b h over = absurd (not-suc-le-zero h)
overflow_place e (suc B) b h over =
    elim (dec_lt b B) [
      | yes less ↦
          let here = overflow_place e B b less over in
          let next = cond (eqb (e B) 65536) (B ∷ []) [] in
          (omega (arith, length-append (overflows e B) next, here.0), get_or-append (overflows e B) next 0 (count_of b e) here.0 ∙ here.1)
      | no more ↦
          let last : b ≡ B = omega arith in
          rw (← last, eq-eqb (e b) 65536 over)
          (omega (arith, length-append (overflows e b) (b ∷ [])), get_or_at (overflows e b) b [] 0 (length (overflows e b)) refl)
    ]

-- What is read of a body

pub both : (a b : Bool) → (a && b) ≡ true → (a ≡ true) × (b ≡ true)
both true b e = (refl, e)
both false b e = absurd (let z : ◌≡◌ {A = ℕ} 0 1 = cc in omega arith)

pub good_parts : (B c : ℕ) (s : List ℕ) → body_good B c s ≡ true → (body_size B c ≤ length s) × (rises B c (list_at s) ≡ true)
unfolding body_good
good_parts B c s good =
    let parts = both (leb (body_size B c) (length s)) (rises B c (list_at s)) good in
    (leb-true (body_size B c) (length s) parts.0, parts.1)

parts_good : (B c : ℕ) (s : List ℕ) → body_size B c ≤ length s → rises B c (list_at s) ≡ true → body_good B c s ≡ true
unfolding body_good
parts_good B c s long up = rw (le-leb (body_size B c) (length s) long) up

-- a good body is good wherever its bytes stand
pub good_moved : (B c : ℕ) (s t : List ℕ) → body_size B c ≤ length t → Alike (2 * c) s 0 t 0 → body_good B c s ≡ true
    → body_good B c t ≡ true
unfolding list_at
good_moved B c s t long same good =
    parts_good B c t long
    (rises_same B c (list_at s) (list_at t)
    (λ j h. two_alike s (2 * j) t (2 * j) (alike_on (2 * j) 2 (2 * c) s 0 (2 * j) t 0 (2 * j) (omega arith) (omega arith) (omega arith) same))
    (good_parts B c s good).1)

pub listed_true : (c : ℕ) (s : List ℕ) (b j : ℕ) → j < c → list_at s j ≡ b → listed c s b ≡ true
unfolding listed
listed_true c s b j h here = some_found c (λ i. eqb (list_at s i) b) j h (eq-eqb (list_at s j) b here)

pub listed_false : (c : ℕ) (s : List ℕ) (b : ℕ) → ((j : ℕ) → j < c → list_at s j ≡ b → ⊥) → listed c s b ≡ false
unfolding listed
listed_false c s b none =
    le-ltb _ c (omega (arith, first_none c (λ i. eqb (list_at s i) b) (λ j h. ne_eqb (list_at s j) b (none j h))))

word_lt : (x : ℕ) → x < 65537 → word_of x < 65536
unfolding word_of
word_lt x h = go (eqb x 65536) refl
  where
    go : (t : Bool) → eqb x 65536 ≡ t → cond t 0 x < 65536
    go true is = lit< tt
    go false is = omega (arith, eqb-false x 65536 is)

pub body_long : (B : ℕ) (e : ℕ → ℕ) → length (body_of B e) ≡ body_size B (count_of B e)
unfolding body_of body_size count_of
body_long B e = simp (length-append, in_bytes_length, tab_length)

-- the shortest body is one that lists nothing
pub body_least : (B c : ℕ) → body_size B 0 ≤ body_size B c
unfolding body_size
body_least B c = omega arith

body_bytes : (B : ℕ) (e : ℕ → ℕ) → Bytes (body_of B e)
unfolding body_of
body_bytes B e =
    let list = overflows e B in
    let words = tab B (λ b. word_of (e b)) in
    bytes_append (in_bytes list) (in_bytes words) (in_bytes_bytes list) (in_bytes_bytes words)

module _ (B : ℕ) (e : ℕ → ℕ) (behind : List ℕ) (few : B ≤ most_blocks) (symbol : (b : ℕ) → b < B → e b < 65537) where
  list_at_lem : (j : ℕ) → j < count_of B e → list_at (body_of B e ++ behind) j ≡ get_or (overflows e B) j 0
  unfolding body_of count_of list_at most_blocks
  list_at_lem j h =
      rw (append_assoc (in_bytes (overflows e B)) (in_bytes (tab B (λ b. word_of (e b)))) behind)
      (in_bytes_at (overflows e B) _ j h (omega (arith, overflow_lt e B j h)))

  word_at : (b : ℕ) → b < B → two_at (body_of B e ++ behind) (2 * count_of B e + 2 * b) ≡ word_of (e b)
  unfolding body_of count_of
  word_at b h =
      let words = tab B (λ b. word_of (e b)) in
      let here = tab_at B (λ b. word_of (e b)) b h in
      rw (append_assoc (in_bytes (overflows e B)) (in_bytes words) behind)
      (two_alike _ _ _ (2 * b) (alike_past 2 (in_bytes (overflows e B)) (in_bytes words ++ behind) (2 * b) _ (omega (arith, in_bytes_length (overflows e B))))
      ∙ in_bytes_at words behind b (omega (arith, tab_length B (λ b. word_of (e b)))) (omega (arith, here, word_lt (e b) (symbol b h)))
      ∙ here)

  pub body_good_lem : body_good B (count_of B e) (body_of B e ++ behind) ≡ true
  body_good_lem =
      parts_good B (count_of B e) (body_of B e ++ behind) (omega (arith, length-append (body_of B e) behind, body_long B e))
      (rises_same B (count_of B e) _ _ (λ j h. sym (list_at_lem j h)) (overflows_rise e B))

  body_symbols : (b : ℕ) → b < B → symbol_in (count_of B e) (body_of B e ++ behind) b ≡ e b
  unfolding symbol_in count_of word_of
  body_symbols b h = go (eqb (e b) 65536) refl
    where
      go : (t : Bool) → eqb (e b) 65536 ≡ t → symbol_in (count_of B e) (body_of B e ++ behind) b ≡ e b
      go true is =
          let over = eqb-true (e b) 65536 is in
          let here = overflow_place e B b h over in
          rw (listed_true (count_of B e) (body_of B e ++ behind) b (count_of b e) here.0 (list_at_lem (count_of b e) here.0 ∙ here.1)) (sym over)
      go false is =
          rw (listed_false (count_of B e) (body_of B e ++ behind) b (λ j l same. eqb-false (e b) 65536 is (ap e (sym same ∙ list_at_lem j l) ∙ overflow_is e B j l)))
          (word_at b h ∙ rw is)

pub body_stores : (B : ℕ) (e : ℕ → ℕ) (behind : List ℕ) → B ≤ most_blocks → ((b : ℕ) → b < B → e b < 65537) → Stores B e behind
body_stores B e behind few symbol =
    record {
      long = body_long B e;
      bytes = body_bytes B e;
      good = body_good_lem B e behind few symbol;
      symbols = body_symbols B e behind few symbol;
    }

-- what is read of bytes is a symbol
pub symbols_read : (c b : ℕ) (s : List ℕ) → Bytes s → symbol_in c s b < 65537
unfolding symbol_in
symbols_read c b s bytes = go (listed c s b)
  where
    go : (t : Bool) → cond t 65536 (two_at s (2 * c + 2 * b)) < 65537
    go true = lit< tt
    go false = omega (arith, two_lt s (2 * c + 2 * b) bytes)
