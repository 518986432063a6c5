-- Text that is put one piece behind another.
-- Assumes nothing.
use mathlib.Core.Path.{◌≡◌, refl, sym, ap, ◌∙◌}
use mathlib.Core.List.{List, [], ◌++◌, append_assoc}
use Prim.Native.Nat.{ℕ, ◌+◌, ◌-◌, ◌≤◌}
use native.Mathlib.Nat.{le_refl}
use native.Mathlib.Omega.{arith}
use lib.ListN.{length, take, drop, length-append, length-take, length-drop, take-append-drop}
use lib.Seq.{drop-drop, drop-append-le}
use Rattle.answers.specs.Leaves.{written}
use Rattle.bundle_storage.specs.Bytes.{put}
use Rattle.bundle_storage.proofs.PutLaws.{put_front, put_more}
use Rattle.listing_lines.specs.Puts.{Puts}

-- text at the front of what lies behind an index: e is what that part holds afterwards
pub puts_behind : (text s e : List ℕ) (at : ℕ) → at + length text ≤ length s → e ≡ written text (take (length s - at) (drop at s))
    → Puts text (length text) at s (at + length text) (take at s ++ (e ++ drop (length s - at) (drop at s)))
unfolding put
puts_behind text s e at room h =
    let rest = drop at s in
    let part = take (length s - at) rest in
    record {
      is = ap (take at s ++◌) (ap (◌++ drop (length s - at) rest) h ∙ append_assoc text (drop (length text) part) _
          ∙ ap (text ++◌) (sym (drop-append-le (length text) part _ (omega (arith, length-drop at s, length-take (length s - at) rest)))
          ∙ ap (drop (length text)) (take-append-drop (length s - at) rest) ∙ drop-drop (length text) at s));
      ends = refl;
      short = le_refl (length text);
    }

-- nothing
pub puts_nothing : (s : List ℕ) (at : ℕ) → Puts [] 0 at s at s
unfolding put
puts_nothing s at =
    record {
      is = sym (take-append-drop at s) ∙ ap (λ (m : ℕ). take at s ++ drop m s) {x = at} {y = at + 0} (omega arith);
      ends = omega arith;
      short = le_refl 0;
    }

-- the same text by another name, no longer than is said
pub puts_as : {p q s t : List ℕ} {m l at e : ℕ} → p ≡ q → m ≤ l → Puts p m at s e t → Puts q l at s e t
puts_as {s = s} {at = at} same le it =
    record {
      is = it.is ∙ ap (λ (text : List ℕ). put text at s) same;
      ends = it.ends ∙ ap (λ (text : List ℕ). at + length text) same;
      short = omega (arith, it.short, ap {A = List ℕ} {B = ℕ} length same);
    }

pub puts_more : {p q s t u : List ℕ} {m l at e f : ℕ} → at ≤ length s → Puts p m at s e t → Puts q l e t f u → Puts (p ++ q) (m + l) at s f u
puts_more {p = p} {q = q} {s = s} {m = m} {l = l} {at = at} {e = e} {f = f} h first then =
    record {
      is = then.is ∙ ap (put q e) first.is ∙ put_more p q at e s first.ends h;
      ends = omega (arith, first.ends, then.ends, length-append p q);
      short = omega (arith, first.short, then.short, length-append p q);
    }

-- at the front
pub puts_written : {text s t : List ℕ} {most e : ℕ} → Puts text most 0 s e t → (t ≡ written text s) × (e ≡ length text)
puts_written {text = text} {s = s} it = (it.is ∙ sym (put_front text s), omega (arith, it.ends))

-- six pieces: the first ends at a, the second at b, and so on
pub put_six : (p q r t u v : List ℕ) (at a b c d e : ℕ) (s : List ℕ) → a ≡ at + length p → b ≡ a + length q → c ≡ b + length r → d ≡ c + length t
    → e ≡ d + length u → at ≤ length s
    → put v e (put u d (put t c (put r b (put q a (put p at s))))) ≡ put (p ++ (q ++ (r ++ (t ++ (u ++ v))))) at s
put_six p q r t u v at a b c d e s i j k l m h = grind (arith, put_more, length-append, append_assoc)

-- what functions are proved by that put two pieces and more, and six
pub ruleset putting = (put_more, length-append, append_assoc)

pub ruleset putting_six = (put_six, length-append)
