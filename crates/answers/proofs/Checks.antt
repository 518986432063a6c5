-- The laws of a chain of checks: what one tells that did not refuse, and what the chain answers where one refuses or all pass.
-- Assumes nothing.
use mathlib.Core.Path.{◌≡◌, refl, sym, ap, ◌∙◌}
use mathlib.Core.Bool.{Bool, true, false, ◌||◌}
use mathlib.Core.List.{List, []}
use Prim.Native.Nat.{ℕ, ◌<◌, ◌≤◌}
use native.Mathlib.Omega.{arith}
use borrow.Author.Tests.{lt-ltb, le-ltb}
use lib.Dec.{ltb}
use Rattle.answers.specs.Refusals.{Answer, the_result, refused, refuse_if}
use Rattle.answers.specs.declared.refusal.Refusal.{Refusal}
use Rattle.std.specs.Prelude.{Some, None}
use Rattle.answers.specs.First.{found}
use Rattle.answers.proofs.First.{found_some, found_none}
use Rattle.answers.proofs.Refusals.{result_no_refusal}

-- a check that did not refuse
pub passed : (bad : Bool) (x : Refusal) (later : Answer) (vs : List ℕ) → refuse_if bad x later ≡ the_result vs → (bad ≡ false) × (later ≡ the_result vs)
passed true x later vs e = absurd (result_no_refusal (sym e))
passed false x later vs e = (refl, e)

-- a check in a chain: it refuses, or what the later ones answer is the answer

pub stops : (x : Refusal) (later : Answer) {bad : Bool} → bad ≡ true → refused x ≡ refuse_if bad x later
stops x later e = ap (λ (b : Bool). refuse_if b x later) (sym e)

pub goes_on : (x : Refusal) (later : Answer) {a : Answer} {bad : Bool} → bad ≡ false → a ≡ later → a ≡ refuse_if bad x later
goes_on x later e rest = rest ∙ ap (λ (b : Bool). refuse_if b x later) (sym e)

-- the same for a check over a list, whose place is the first index that a search found; bound is the list's length

pub stops_at : (make : ℕ → Refusal) (place bound : ℕ) (later : Answer) {x : ℕ} → x ≡ place → x < bound
    → refused (make x) ≡ refuse_if (ltb place bound) (make place) later
stops_at make place bound later {x} e h = rw (← e) (stops (make x) later (lt-ltb x bound h))

pub passes_all : (make : ℕ → Refusal) (place bound : ℕ) (later : Answer) {a : Answer} {x : ℕ} → x ≡ place → bound ≤ x → a ≡ later
    → a ≡ refuse_if (ltb place bound) (make place) later
passes_all make place bound later {x = x} e h rest = goes_on (make place) later (le-ltb place bound (omega arith)) rest

pub or_false : (a b : Bool) → a || b ≡ false → (a ≡ false) × (b ≡ false)
or_false true b e = absurd (let z : ◌≡◌ {A = ℕ} 0 1 = cc in omega arith)
or_false false b e = (refl, e)

-- the same where a search answers whether there is such an index

pub stops_found : (make : ℕ → Refusal) (place bound : ℕ) (later : Answer) (i : ℕ) → Some i ≡ found bound place
    → refused (make i) ≡ refuse_if (ltb place bound) (make place) later
stops_found make place bound later i is = let here = found_some bound place (sym is) in stops_at make place bound later here.0 (omega (arith, here))

pub passes_found : (make : ℕ → Refusal) (place bound : ℕ) (later : Answer) {a : Answer} → None ≡ found bound place → a ≡ later
    → a ≡ refuse_if (ltb place bound) (make place) later
passes_found make place bound later is rest = passes_all make place bound later refl (found_none bound place (sym is)) rest

-- a check that a function of its own makes, before the later ones

module _ (bad : Bool) (r : Refusal) where
  pub check_passed : the_result [] ≡ refuse_if bad r (the_result []) → bad ≡ false
  check_passed is = (passed bad r (the_result []) [] (sym is)).0

  pub check_goes_on : (later : Answer) {a : Answer} → the_result [] ≡ refuse_if bad r (the_result []) → a ≡ later → a ≡ refuse_if bad r later
  check_goes_on later is rest = goes_on r later (check_passed is) rest

pub check_stops : (bad : Bool) (r x : Refusal) (later : Answer) → refused x ≡ refuse_if bad r (the_result []) → refused x ≡ refuse_if bad r later
check_stops true r x later is = is
check_stops false r x later is = absurd (result_no_refusal (sym is))

-- what a function is proved by that makes its checks in their order
pub ruleset in_order = (stops, goes_on, stops_found, passes_found)
