-- What the reader leaves: of the file's bytes and the stated cells, and then of all that it was lent.
-- Assumes nothing.
use mathlib.Core.Path.{◌≡◌, refl, sym, ap, ap₂, ◌∙◌}
use mathlib.Core.Bool.{Bool, true, false, ◌||◌}
use mathlib.Core.List.{List, [], ◌∷◌, ◌++◌, append_assoc, append-nil}
use Prim.Native.Nat.{ℕ, ◌-◌, ◌<◌, ◌≤◌}
use native.Mathlib.Nat.{min-le_left}
use native.Mathlib.Omega.{arith}
use borrow.Author.Tests.{lt-ltb, le-ltb}
use lib.Dec.{ltb}
use lib.ListN.{length, take, drop, replicate, length-take, length-replicate, take-append-drop, drop_of_length-le}
use lib.Seq.{length-take-le, take_all, drop-append-le}
use Rattle.answers.specs.Leaves.{Leaves, leaving, written, zeroed}
use Rattle.answers.specs.Refusals.{Answer, the_result, refusal, refused, told, after}
use Rattle.std.specs.Prelude.{Result, Err}
use Rattle.answers.specs.declared.refusal.Refusal.{Refusal}
use Rattle.answers.proofs.Checks.{stops, goes_on}
use Rattle.answers.proofs.Leaves.{leaves_done, lent_length, zeroed_all, zeroed_again}
use Rattle.answers.specs.declared.refusal.Refusal.TheVariants.{Room, Few}
use Rattle.bundle_layout.specs.Layout.{layout_checks}
use Rattle.bundle_layout.specs.Fields.{k_in, n_in, length_in, held_in, blocks_in}
use Rattle.bundle.specs.Calls.{blocks_leave, read_all_leaves, read_leaves}
use Rattle.bundle.specs.Checks.{room_checks, read_checks}
use Rattle.bundle.proofs.Passing.{read_passed}
use Rattle.bundle_read.specs.Reading.{blocks_answer, bytes_before, file_in}
use Rattle.bundle_layout.specs.Rooms.{bundle_work}

-- all there is is written
written_all : (vs list : List ℕ) → length list ≤ length vs → written vs list ≡ vs
written_all vs list le = ap (vs ++◌) (drop_of_length-le list {i = length vs} le) ∙ append-nil vs

file_short : (s : List ℕ) → length (file_in s) ≤ length_in s
unfolding file_in
file_short s =
    omega (arith, length-take (length_in s) (bytes_before s (blocks_in s)), min-le_left (length_in s) (length (bytes_before s (blocks_in s))))

-- The work: file and cells are what was lent of the output and of the working space, f and c what they hold at the end

module _ (s file cells f c : List ℕ) (long : length file ≡ length_in s) (room : length cells ≡ bundle_work (n_in s)) (m : ℕ) (same : m ≡ length cells) (cleared : c ≡ replicate m 0) where
  zero : c ≡ zeroed (bundle_work (n_in s)) cells
  zero = cleared ∙ ap (λ (z : ℕ). replicate z 0) (same ∙ room) ∙ sym (zeroed_all (bundle_work (n_in s)) cells room)

  pub leaves_file : the_result (length_in s ∷ []) ≡ blocks_answer s 0 (blocks_in s) → (L : ℕ) → L ≡ length_in s → length f ≡ length file
      → f ≡ take (length file) (file_in s) → leaving (the_result (L ∷ [])) f c ≡ read_all_leaves s file cells
  leaves_file told L is kept file-is =
      ap₂ (leaving (the_result (L ∷ []))) (whole ∙ ap (λ (t : List ℕ). written t file) (file-is ∙ take_all (length file) (file_in s) (omega (arith, long, file_short s)))) zero
      ∙ ap (λ (z : ℕ). leaving (the_result (z ∷ [])) (written (file_in s) file) (zeroed (bundle_work (n_in s)) cells)) is
      ∙ ap (λ (a : Answer). blocks_leave a s file cells) told
    where
      whole : f ≡ written f file
      whole = sym (written_all f file (omega (arith, kept)))

  pub leaves_refusal : (x : Refusal) → refused x ≡ blocks_answer s 0 (blocks_in s) → (L : ℕ) → L ≡ length file → f ≡ replicate L 0
      → leaving (refused x) f c ≡ read_all_leaves s file cells
  leaves_refusal x told L is zeros =
      ap₂ (leaving (refused x))
      (zeros ∙ ap (λ (z : ℕ). replicate z 0) (is ∙ long)
      ∙ sym (written_all (replicate (length_in s) 0) file (omega (arith, length-replicate {A = ℕ} (length_in s) 0, long)))) zero
      ∙ ap (λ (a : Answer). blocks_leave a s file cells) told

-- what reading all blocks is proved by
pub ruleset whole = (leaves_file, leaves_refusal)

-- The call: stated parts of the output and of the working space were lent

again_written : (vs out : List ℕ) (L stated : ℕ) → stated ≡ L → L ≤ length out → length vs ≤ L
    → written vs (take (stated - 0) out) ++ drop (stated - 0) out ≡ written vs out
again_written vs out L stated is enough fits =
    append_assoc vs _ _
    ∙ ap (vs ++◌)
    (sym (drop-append-le (length vs) (take (stated - 0) out) (drop (stated - 0) out) (omega (arith, length-take-le (stated - 0) out (omega arith)))) ∙ ap (drop (length vs)) (take-append-drop (stated - 0) out))

-- with what lies behind the stated parts put back
extended : List ℕ → List ℕ → Leaves → Leaves
extended rest behind it = leaving it.answer (it.list ++ rest) (it.work ++ behind)

pub blocks_whole : (s : List ℕ) (answer a : Answer) (L room : ℕ) (out work f c : List ℕ) → L ≡ length_in s → room ≡ bundle_work (n_in s)
    → length_in s ≤ length out → bundle_work (n_in s) ≤ length work → leaving a f c ≡ blocks_leave answer s (take (L - 0) out) (take (room - 0) work)
    → leaving a (f ++ drop (L - 0) out) (c ++ drop (room - 0) work) ≡ blocks_leave answer s out work
unfolding extended
blocks_whole s (refusal number place) a L room out work f c first second enough space leaves =
    ap (extended (drop (L - 0) out) (drop (room - 0) work)) leaves
    ∙ ap₂ (leaving (refusal number place))
    (again_written (replicate (length_in s) 0) out (length_in s) L first enough (omega (arith, length-replicate {A = ℕ} (length_in s) 0)))
    (zeroed_again room (bundle_work (n_in s)) work second space)
blocks_whole s (the_result vs) a L room out work f c first second enough space leaves =
    ap (extended (drop (L - 0) out) (drop (room - 0) work)) leaves
    ∙ ap₂ (leaving (the_result vs))
    (again_written (file_in s) out (length_in s) L first enough (file_short s))
    (zeroed_again room (bundle_work (n_in s)) work second space)

-- The checks: b is the bundle s as its layout passed, L, n and room are what was read of it and worked out, and short what the comparison gave

module _ (s b : List ℕ) (out work : ℕ) (same : b ≡ s) (good : layout_checks b ≡ the_result []) where
  layout_passed : layout_checks s ≡ the_result []
  layout_passed = ap layout_checks (sym same) ∙ good

  past_layout : {a : Answer} → a ≡ room_checks s out work → a ≡ read_checks s out work
  unfolding read_checks
  past_layout rest = rest ∙ ap (λ (a : Answer). after a (room_checks s out work)) (sym layout_passed)

  module _ (L n room : ℕ) (short : Bool) (first : L ≡ length_in b) (second : n ≡ n_in b) (is : room ≡ bundle_work n)
      (compared : short ≡ ltb out L || ltb work room) where
    measured : (ltb out (length_in s) || ltb work (bundle_work (n_in s))) ≡ short
    measured = cc

    pub read_scarce : short ≡ true → refused Room ≡ read_checks s out work
    unfolding room_checks
    read_scarce e = past_layout (stops Room _ (measured ∙ e))

    -- m and k as the code has them
    module _ (roomy : short ≡ false) (m k : ℕ) (third : m ≡ held_in b) (fourth : k ≡ k_in b) where
      counted : ltb (held_in s) (k_in s) ≡ ltb m k
      counted = cc

      pub read_few : m < k → refused Few ≡ read_checks s out work
      unfolding room_checks
      read_few h = past_layout (goes_on Room _ (measured ∙ roomy) (stops Few _ (counted ∙ lt-ltb m k h)))

      pub read_taken : k ≤ m → the_result [] ≡ read_checks s out work
      unfolding room_checks
      read_taken h = past_layout (goes_on Room _ (measured ∙ roomy) (goes_on Few _ (counted ∙ le-ltb m k h) refl))

pub read_untaken : {T : Type 0} (s : List ℕ) (out work : ℕ) (r : Result T Refusal) (x : Refusal) → r ≡ Err x → refused x ≡ layout_checks s
    → told (λ layout. []) r ≡ read_checks s out work
unfolding read_checks
read_untaken s out work r x is bad = ap (told (λ layout. [])) is ∙ ap (λ (a : Answer). after a (room_checks s out work)) bad

pub ruleset in_order = (read_scarce, read_few, read_taken, read_untaken)

-- The call, b being the bundle s as it passed

module _ (s b out work : List ℕ) (same : b ≡ s) (good : the_result [] ≡ read_checks s (length out) (length work)) where
  checks_passed : (layout_checks s ≡ the_result []) × (length_in s ≤ length out) × (bundle_work (n_in s) ≤ length work) × (k_in s ≤ held_in s)
  checks_passed = read_passed s (length out) (length work) (sym good)

  pub read_enough : k_in b ≤ held_in b
  read_enough = rw same checks_passed.3

  pub read_fits : (L : ℕ) → L ≡ length_in b → L ≤ length out
  read_fits L is = rw (is, same) checks_passed.1

  pub read_space : (n stated : ℕ) → n ≡ n_in b → stated ≡ bundle_work n → stated ≤ length work
  read_space n stated second is = rw (is, second, same) checks_passed.2

  pub read_lent : (L : ℕ) → L ≡ length_in b → length (take (L - 0) out) ≡ length_in b
  read_lent L is = rw same (lent_length L (length_in s) out (is ∙ ap length_in same) checks_passed.1)

  pub read_work_lent : (n stated : ℕ) → n ≡ n_in b → stated ≡ bundle_work n → length (take (stated - 0) work) ≡ bundle_work (n_in b)
  read_work_lent n stated second is =
      rw same (lent_length stated (bundle_work (n_in s)) work (is ∙ ap bundle_work (second ∙ ap n_in same)) checks_passed.2)

  pub read_left : (a : Answer) (L n stated : ℕ) (f c : List ℕ) → L ≡ length_in b → n ≡ n_in b → stated ≡ bundle_work n
      → leaving a f c ≡ read_all_leaves b (take (L - 0) out) (take (stated - 0) work)
      → leaving a (f ++ drop (L - 0) out) (c ++ drop (stated - 0) work) ≡ read_leaves s out work
  read_left a L n stated f c first second is leaves =
      blocks_whole s (blocks_answer s 0 (blocks_in s)) a L stated out work f c (first ∙ ap length_in same)
      (is ∙ ap bundle_work (second ∙ ap n_in same)) checks_passed.1 checks_passed.2
      (leaves ∙ ap (λ (t : List ℕ). read_all_leaves t (take (L - 0) out) (take (stated - 0) work)) same)
      ∙ leaves_done (read_checks s (length out) (length work)) out work _ (sym good)

pub ruleset reading = (read_enough, read_fits, read_space, read_lent, read_work_lent, read_left)
