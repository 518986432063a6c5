-- The shadows of a bundle, one by one: what the table says of each, where its body begins, and what the bundle's limits say of them.
-- Assumes nothing.
use mathlib.Core.Path.{◌≡◌, refl, ◌∙◌}
use mathlib.Core.Bool.{false}
use mathlib.Core.List.{List, [], ◌∷◌, ◌++◌, map, append_assoc}
use Prim.Native.Nat.{ℕ, zero, suc, ◌+◌, ◌*◌, ◌<◌, ◌≤◌, suc-le-suc}
use native.Mathlib.Nat.{not-suc-le-zero, le_of_suc-le-suc, zero-lt-suc}
use native.Mathlib.Omega.{arith}
use lib.ListN.{length, get_or, drop, length-append}
use lib.Seq.{drop_at}
use Rattle.limits.specs.Shape.{longest}
use Rattle.limits.proofs.Shape.{shape_good}
use Rattle.lists.specs.Tab.{tab}
use Rattle.lists.proofs.Tab.{tab_length, tab_at}
use Rattle.bundle_storage.specs.Blocks.{most_blocks}
use Rattle.bundle_layout.specs.Blocks.{blocks_of}
use Rattle.bundle_layout.specs.Shape.{longest_file, bad_bundle_shape}
use Rattle.bundle_storage.specs.Bytes.{two, four}
use Rattle.bundle_layout.specs.Held.{up_to, positions_of, Stored, AllStored}
use Rattle.bundle_layout.specs.Shadows.{Shadow, entry_size, entry, table, bodies}
use Rattle.bundle_storage.proofs.BytesLaws.{Alike, alike_past, alike_front}
use Rattle.bundle_layout.proofs.Passing.{bundle_shape_told}

pub record Limits (k n L : ℕ) : Type 0 where
  pub some : 0 < k
  pub code : k ≤ n
  pub long : n ≤ 4096
  pub file : L ≤ 1048576
  pub blocks : blocks_of k L ≤ 65535

pub limits : (k n L : ℕ) → bad_bundle_shape k n L ≡ false → Limits k n L
unfolding longest longest_file most_blocks
limits k n L e =
    let told = bundle_shape_told k n L e in
    let code = shape_good k n told.0 in
    record {
      some = code.0;
      code = code.1;
      long = code.2;
      file = told.1;
      blocks = told.2;
    }

-- Shadow t of a list

pub blank : Shadow
blank = record { position = 0; count = 0; body = [] }

abbrev pub shadow_at : List Shadow → ℕ → Shadow
shadow_at hs t = get_or hs t blank

pub position_at : (hs : List Shadow) (t : ℕ) → t < length hs → get_or (positions_of hs) t 0 ≡ (shadow_at hs t).position
unfolding positions_of
position_at [] t h = absurd (not-suc-le-zero h)
position_at (x ∷ hs) zero h = refl
position_at (x ∷ hs) (suc t) h = position_at hs t (le_of_suc-le-suc h)

pub stored_at : (B : ℕ) (hs : List Shadow) (t : ℕ) → t < length hs → AllStored B hs → Stored B (shadow_at hs t)
unfolding AllStored
stored_at B [] t h all = absurd (not-suc-le-zero h)
stored_at B (x ∷ hs) zero h all = all.0
stored_at B (x ∷ hs) (suc t) h all = stored_at B hs t (le_of_suc-le-suc h) all.1

-- the shadows that f gives for a list's numbers

module _ (f : ℕ → Shadow) where
  pub made_at : (xs : List ℕ) (t : ℕ) → t < length xs → shadow_at (map f xs) t ≡ f (get_or xs t 0)
  made_at [] t h = absurd (not-suc-le-zero h)
  made_at (x ∷ xs) zero h = refl
  made_at (x ∷ xs) (suc t) h = made_at xs t (le_of_suc-le-suc h)

  pub made_stored : (B : ℕ) (xs : List ℕ) → ((t : ℕ) → t < length xs → Stored B (f (get_or xs t 0))) → AllStored B (map f xs)
  unfolding AllStored
  made_stored B [] each = tt
  made_stored B (x ∷ xs) each =
      (each 0 (zero-lt-suc (length xs)), made_stored B xs (λ t h. each (suc t) (suc-le-suc h)))

-- the numbers 0 to n - 1

pub all_length : (n : ℕ) → length (up_to n) ≡ n
unfolding up_to
all_length n = tab_length n (λ t. t)

pub all_at : (n t : ℕ) → t < n → get_or (up_to n) t 0 ≡ t
unfolding up_to
all_at n t h = tab_at n (λ t. t) t h

-- a list of shadows that is given one by one

pub shadows_are : (f : ℕ → Shadow) (g : ℕ → ℕ) (hs : List Shadow) → ((t : ℕ) → t < length hs → f (g t) ≡ shadow_at hs t)
    → map f (tab (length hs) g) ≡ hs
unfolding tab
shadows_are f g [] each = refl
shadows_are f g (x ∷ hs) each =
    cc (each 0 (zero-lt-suc (length hs)), shadows_are f (λ i. g (suc i)) hs (λ t h. each (suc t) (suc-le-suc h)))

-- Where body t begins, the first being at an offset

unfoldable pub offset_of : ℕ → List Shadow → ℕ → ℕ
offset_of off hs zero = off
offset_of off [] (suc t) = off
offset_of off (x ∷ hs) (suc t) = offset_of (off + length x.body) hs t

pub offset_next : (off : ℕ) (hs : List Shadow) (t : ℕ) → t < length hs
    → offset_of off hs (suc t) ≡ offset_of off hs t + length (shadow_at hs t).body
unfolding offset_of
offset_next off [] t h = absurd (not-suc-le-zero h)
offset_next off (x ∷ hs) zero h = refl
offset_next off (x ∷ hs) (suc t) h = offset_next (off + length x.body) hs t (le_of_suc-le-suc h)

pub offset_end : (off : ℕ) (hs : List Shadow) → offset_of off hs (length hs) ≡ off + length (bodies hs)
unfolding offset_of bodies
offset_end off [] = omega arith
offset_end off (x ∷ hs) = offset_end (off + length x.body) hs ∙ omega (arith, length-append x.body (bodies hs))

pub body_there : (p : List ℕ) (off : ℕ) (hs : List Shadow) (t : ℕ) → length p ≡ off → t < length hs
    → drop (offset_of off hs t) (p ++ bodies hs) ≡ (shadow_at hs t).body ++ bodies (drop (suc t) hs)
unfolding offset_of bodies
body_there p off [] t e h = absurd (not-suc-le-zero h)
body_there p off (x ∷ hs) zero e h = drop_at p (x.body ++ bodies hs) off e
body_there p off (x ∷ hs) (suc t) e h =
    rw (← append_assoc p x.body (bodies hs))
    (body_there (p ++ x.body) (off + length x.body) hs t (omega (arith, length-append p x.body)) (le_of_suc-le-suc h))

-- The table

entry_length : (x : Shadow) (off : ℕ) → length (entry x off) ≡ entry_size
unfolding entry two four entry_size
entry_length x off = refl

pub table_length : (off : ℕ) (hs : List Shadow) → length (table off hs) ≡ entry_size * length hs
unfolding table entry_size
table_length off [] = refl
table_length off (x ∷ hs) =
    simp length-append (omega (arith, entry_length x off, table_length (off + length x.body) hs))

pub entry_there : (off : ℕ) (hs : List Shadow) (q : List ℕ) (t : ℕ) → t < length hs
    → Alike 8 (table off hs ++ q) (entry_size * t) (entry (shadow_at hs t) (offset_of off hs t)) 0
unfolding table offset_of entry_size
entry_there off [] q t h = absurd (not-suc-le-zero h)
entry_there off (x ∷ hs) q zero h =
    rw (append_assoc (entry x off) (table (off + length x.body) hs) q)
    (alike_front 8 (entry x off) _ 0 (omega (arith, entry_length x off)))
entry_there off (x ∷ hs) q (suc t) h =
    rw (append_assoc (entry x off) (table (off + length x.body) hs) q)
    (λ d l. alike_past 8 (entry x off) _ (8 * t) (8 * suc t) (omega (arith, entry_length x off)) d l
    ∙ entry_there (off + length x.body) hs q t (le_of_suc-le-suc h) d l)
