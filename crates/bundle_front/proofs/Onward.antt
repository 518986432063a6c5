-- What writing may do to the output: a put of the bundle's own bytes keeps each byte of the bundle that stands, and leaves all behind its end.
-- Assumes nothing.
use mathlib.Core.Path.{◌≡◌, refl, sym, ap, ap₂, ◌∙◌}
use mathlib.Core.List.{List, ◌++◌}
use Prim.Native.Nat.{ℕ, ◌+◌, ◌-◌, ◌<◌, ◌≤◌}
use native.Mathlib.Decide.{dec_lt}
use native.Mathlib.Omega.{arith}
use lib.Dec.{lit<}
use lib.ListN.{length, get_or, take, take-append-drop}
use lib.Seq.{ext_get_or, get_or-take, length-take-le}
use Rattle.answers.specs.Leaves.{written}
use Rattle.bundle_storage.specs.Bytes.{put}
use Rattle.bundle_storage.proofs.BytesLaws.{Alike}
use Rattle.bundle_storage.proofs.PutLaws.{put_length, put_behind, put_here, put_before, put_past}
use Rattle.bundle_front.specs.Onward.{Stand, Onward}

module _ (bundle : List ℕ) where
  pub onward_none : (s : List ℕ) → Onward bundle s s
  onward_none s = record { long = refl; keeps = λ p is. is; behind = refl }

  pub onward_more : (s t u : List ℕ) → Onward bundle s t → Onward bundle t u → Onward bundle s u
  onward_more s t u first second =
      record {
        long = second.long ∙ first.long;
        keeps = λ p is. second.keeps p (first.keeps p is);
        behind = second.behind ∙ first.behind;
      }

  -- all of it stands
  pub all_written : (s t : List ℕ) → length bundle ≤ length s → Onward bundle s t → Stand 0 (length bundle) bundle t → t ≡ written bundle s
  all_written s t room on stands =
      sym (take-append-drop (length bundle) t)
      ∙ ap₂ ◌++◌ (ext_get_or 0 (take (length bundle) t) bundle long each) on.behind
    where
      long : length (take (length bundle) t) ≡ length bundle
      long = length-take-le (length bundle) t (omega (arith, on.long))

      each : (i : ℕ) → i < length (take (length bundle) t) → get_or (take (length bundle) t) i 0 ≡ get_or bundle i 0
      each i h = get_or-take (length bundle) t i 0 (omega (arith, long)) ∙ stands i (omega arith) (omega (arith, long))

  -- where it is written after that, it is written all the same
  pub written_on : (s t u : List ℕ) → Onward bundle s t → u ≡ written bundle t → u ≡ written bundle s
  written_on s t u on is = is ∙ ap (bundle ++◌) on.behind

  module _ (bytes : List ℕ) (at : ℕ) (s : List ℕ) (room : length bundle ≤ length s) (inside : at + length bytes ≤ length bundle) (same : Alike (length bytes) bundle at bytes 0) where
    pub put_stands : Stand at (at + length bytes) bundle (put bytes at s)
    put_stands p h l =
        ap (λ (m : ℕ). get_or (put bytes at s) m 0) {x = p} {y = at + (p - at)} (omega arith)
        ∙ put_here bytes at s (omega arith) (p - at) (omega arith)
        ∙ sym (same (p - at) (omega arith))
        ∙ ap (λ (m : ℕ). get_or bundle m 0) {x = at + (p - at)} {y = p} (omega arith)

    there : (p : ℕ) → Alike 1 (put bytes at s) p s p → get_or (put bytes at s) p 0 ≡ get_or s p 0
    there p alike =
        ap (λ (m : ℕ). get_or (put bytes at s) m 0) {x = p} {y = p + 0} (omega arith)
        ∙ alike 0 (lit< tt)
        ∙ ap (λ (m : ℕ). get_or s m 0) {x = p + 0} {y = p} (omega arith)

    pub put_onward : Onward bundle s (put bytes at s)
    put_onward =
        record {
          long = put_length bytes at s (omega arith);
          keeps = λ p is.
              elim (dec_lt p at) [
                | yes less ↦ there p (put_before 1 bytes at s p (omega arith) (omega arith)) ∙ is
                | no more ↦
                    elim (dec_lt p (at + length bytes)) [
                      | yes new ↦ put_stands p (omega arith) new
                      | no past ↦ there p (put_past 1 bytes at s p (omega arith) (omega arith)) ∙ is
                    ]
              ];
          behind = put_behind bytes at s (length bundle) inside (omega arith);
        }
