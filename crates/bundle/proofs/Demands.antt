-- Demands 2 and 3: what the writer writes is read back, whole or in part, and an altered bundle is never read as another file.
-- Assumes nothing.
use mathlib.Core.Path.{◌≡◌, sym, ap, ◌∙◌}
use mathlib.Core.List.{List, map}
use mathlib.Core.Logic.{inl, inr}
use Prim.Native.Nat.{ℕ, ◌<◌, zero-le}
use native.Mathlib.Omega.{arith}
use lib.ListN.{length}
use Rattle.answers.specs.Leaves.{Leaves}
use Rattle.answers.specs.Refusals.{refused}
use Rattle.answers.specs.declared.refusal.Refusal.TheVariants.{Disagree}
use Rattle.answers.proofs.Leaves.{leaves_done}
use Rattle.answers.proofs.Refusals.{result_no_refusal}
use Rattle.code.specs.Altered.{altered_count}
use Rattle.block.proofs.Theorems.{decodes_none}
use Rattle.bundle_layout.specs.Fields.{k_in, n_in, held_in, blocks_in}
use Rattle.bundle_layout.specs.Held.{up_to, IsBundle}
use Rattle.bundle_layout.specs.Shadows.{Shadow}
use Rattle.bundle_layout.proofs.Accepting.{passes, read_k, read_n, read_L, read_blocks}
use Rattle.bundle_layout.proofs.Holding.{limits, all_length}
use Rattle.bundle.specs.Checks.{write_checks}
use Rattle.bundle_file.specs.File.{message_at, shadow_of, bundle_at, file_bundle}
use Rattle.bundle_read.specs.Reading.{held_at, decoded_at}
use Rattle.bundle.specs.Theorems.{WritesBundle, WriteRead, LoseRead, DisagreeExactly, NeverAnother, TakenIsSent}
use Rattle.bundle.proofs.BlockAnswers.{block_disagrees}
use Rattle.bundle_read.proofs.HeldBlocks.{held_decodable}
use Rattle.bundle.proofs.Passing.{write_passes, after_passed, after_disagree, read_before, read_passed}
use Rattle.bundle_front.proofs.Bundling.{file_is_bundle, held_all, all_rise}
use Rattle.bundle.proofs.Shadowing.{bundle_bytes, none_altered}
use Rattle.bundle.proofs.Taking.{demand}
use Rattle.bundle.proofs.Walking.{first_refused, disagree_first, read_leaves_lem, read_answer}

-- Demand 3

pub never_another : NeverAnother
never_another k n file s bytes of_bytes good enough few =
    rw (few.k_kept, few.n_kept) at
    (demand file s bytes of_bytes good (omega arith) few.length_kept (rw (few.k_kept, few.n_kept) few.few))

pub taken_is_sent : TakenIsSent
taken_is_sent k n file s out work vs bytes of_bytes few e =
    let passed = (after_passed (read_before s (length out) (length work)) _ (sym (read_answer s out work) ∙ e)).0 in
    let rooms = read_passed s (length out) (length work) passed in
    let kept = few rooms.0 in
    let room = rw kept.n_kept at rooms.2 in
    elim (never_another k n file s bytes of_bytes rooms.0 (omega (arith, kept.k_kept)) kept).never_another [
      | inl reads ↦ reads out work (omega (arith, kept.length_kept)) room
      | inr other ↦ absurd (result_no_refusal (sym e ∙ ap (λ (l : Leaves). l.answer) (other.2 out work (omega (arith, kept.length_kept)) room)))
    ]

pub disagree_exactly : DisagreeExactly
unfolding decoded_at
disagree_exactly s out work bytes b = (
  λ e. let found = after_disagree (read_before s (length out) (length work)) _ (sym (read_answer s out work) ∙ e) in
      let rooms = read_passed s (length out) (length work) found.0 in
      let here = disagree_first s (blocks_in s) 0 b found.1 in (
        found.0,
        omega arith,
        λ c h. here.2 c zero-le h,
        (decodes_none (k_in s) (n_in s) (held_at s b) (held_decodable s b bytes rooms.0 rooms.3)).0 here.3,
      ),
  λ p. let rooms = read_passed s (length out) (length work) p.0 in
      let never = (decodes_none (k_in s) (n_in s) (held_at s b) (held_decodable s b bytes rooms.0 rooms.3)).1 p.3 in
      ap (λ (l : Leaves). l.answer)
      (read_leaves_lem s out work (refused (Disagree b)) p.0
      (first_refused s 8 b (blocks_in s) 0 b zero-le (omega arith) (λ c h l. p.2 c l) (block_disagrees s b never))),
)

-- Demand 2

pub writes_bundle : WritesBundle
writes_bundle k n file good out work enough room =
    sym (leaves_done (write_checks k n (length file) (length out) (length work)) out work _
    (write_passes k n (length file) (length out) (length work) good enough room))

pub lose_read : LoseRead
lose_read k n file positions good bytes up enough =
    (never_another k n file s bytes (bundle_bytes k n (length file) hs s is) (passes k n (length file) hs s is) (omega (arith, held))
    record {
      k_kept = read_k k n (length file) hs s is;
      n_kept = read_n k n (length file) hs s is;
      length_kept = read_L k n (length file) hs s is;
      few = λ b h. omega (arith, sound b h, held);
    }
    ).none_altered sound
  where
    s : List ℕ
    s = bundle_at k n file positions

    hs : List Shadow
    hs = map (shadow_of k n file) positions

    is : IsBundle k n (length file) hs s
    is = file_is_bundle k n file positions good up

    held : held_in s ≡ length positions
    held = held_all k n file positions good up

    sound : (b : ℕ) → b < blocks_in s → altered_count n (message_at k file b) (held_at s b) ≡ 0
    sound b h = none_altered k n file positions good up bytes b (omega (arith, read_blocks k n (length file) hs s is))

pub write_read : WriteRead
unfolding file_bundle
write_read k n file good bytes =
    lose_read k n file (up_to n) good bytes (all_rise n) (omega (arith, all_length n, (limits k n (length file) good).code))
