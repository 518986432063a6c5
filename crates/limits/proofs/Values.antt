-- What the search for a value above 65536 tells: a refusal by VALUE where it found one, symbols throughout where it found none.
-- Assumes nothing.
use mathlib.Core.Path.{◌≡◌, refl, sym, ap, ◌∙◌}
use mathlib.Core.List.{List, [], ◌∷◌}
use Prim.Native.Nat.{ℕ, ◌<◌, ◌≤◌, suc-le-suc}
use native.Mathlib.Nat.{le_of_eq, le_of_suc-le-suc, le_trans, lt_of_lt_of_le}
use native.Mathlib.Omega.{arith}
use borrow.Author.Tests.{ltb-false, le-ltb}
use lib.Dec.{ltb, lit<}
use lib.ListN.{length, get_or}
use Rattle.std.specs.List.{position}
use Rattle.std.specs.Prelude.{Some, None}
use Rattle.answers.specs.First.{found}
use Rattle.answers.specs.Refusals.{Answer, the_result, refused}
use Rattle.field.specs.Symbol.{Symbols}
use Rattle.limits.specs.Values.{first_above, refuse_above}
use Rattle.answers.specs.declared.refusal.Refusal.TheVariants.{Value}
use Rattle.answers.proofs.First.{first_before, first_none, first_position, found_none, found_some}
use Rattle.answers.proofs.Checks.{stops_at, passes_all, check_passed}

-- what the library's search finds is refused, or there is nothing to refuse

found_above : (values : List ℕ) → position (ltb 65536) values ≡ found (length values) (first_above values)
unfolding first_above
found_above values = first_position (ltb 65536) values

pub above_found : (values : List ℕ) (later : Answer) {i : ℕ} → Some i ≡ position (ltb 65536) values → refused (Value i) ≡ refuse_above values later
above_found values later is =
    let here = found_some (length values) (first_above values) (sym (is ∙ found_above values)) in
    stops_at Value (first_above values) (length values) later here.0 (omega (arith, here))

pub above_none : (values : List ℕ) (later : Answer) → None ≡ position (ltb 65536) values → later ≡ refuse_above values later
above_none values later is =
    passes_all Value (first_above values) (length values) later refl
    (found_none (length values) (first_above values) (sym (is ∙ found_above values)))
    refl

-- the same by the place of the first

pub first_refused : (values : List ℕ) (later : Answer) {x : ℕ} → x ≡ first_above values → x < length values
    → refused (Value x) ≡ refuse_above values later
first_refused values later e h = stops_at Value (first_above values) (length values) later e h

pub none_refused : (values : List ℕ) (later : Answer) {x : ℕ} → x ≡ first_above values → length values ≤ x
    → later ≡ refuse_above values later
none_refused values later e h = passes_all Value (first_above values) (length values) later e h refl

-- the same where the result is one number
pub above_none_value : (values : List ℕ) {x r v : ℕ} → x ≡ first_above values → length values ≤ x → r ≡ v
    → the_result (r ∷ []) ≡ refuse_above values (the_result (v ∷ []))
above_none_value values e h is = ap (λ (v : ℕ). the_result (v ∷ [])) is ∙ none_refused values _ e h

pub all_symbols : (values : List ℕ) {x : ℕ} → x ≡ first_above values → length values ≤ x → (i : ℕ) → i < length values
    → get_or values i 0 < 65537
unfolding first_above
all_symbols values e h i l =
    suc-le-suc (ltb-false 65536 (get_or values i 0)
    (first_before (length values) (λ j. ltb 65536 (get_or values j 0)) i (lt_of_lt_of_le l (le_trans h (le_of_eq e)))))

-- and where all are symbols it finds none
pub none_above : (values : List ℕ) → Symbols values → first_above values ≡ length values
unfolding first_above
none_above values small = first_none (length values) _ (λ i l. le-ltb 65536 _ (le_of_suc-le-suc (small i l)))

pub two_symbols : (a b : ℕ) {x : ℕ} → x ≡ first_above (a ∷ b ∷ []) → 2 ≤ x → (a < 65537) × (b < 65537)
two_symbols a b e h = (all_symbols (a ∷ b ∷ []) e h 0 (lit< tt), all_symbols (a ∷ b ∷ []) e h 1 (lit< tt))

-- what a check lets through

pub symbols_passed : (values : List ℕ) → the_result [] ≡ refuse_above values (the_result []) → Symbols values
symbols_passed values is =
    all_symbols values refl (ltb-false _ _ (check_passed (ltb (first_above values) (length values)) (Value (first_above values)) is))

pub both_symbols : (a b : ℕ) → the_result [] ≡ refuse_above (a ∷ b ∷ []) (the_result []) → (a < 65537) × (b < 65537)
both_symbols a b is = let all = symbols_passed (a ∷ b ∷ []) is in (all 0 (lit< tt), all 1 (lit< tt))
