-- `decode_divide::untwist` meets its contract: at the loop's head i coefficients stand in front.
-- Assumes nothing.
use mathlib.Core.Path.{◌≡◌, sym, ap, ap₂, subst, ◌∙◌}
use mathlib.Core.List.{List, ◌++◌, append_assoc}
use Prim.Native.Nat.{ℕ, ◌+◌, ◌-◌, ◌*◌, ◌<◌, ◌≤◌}
use native.Mathlib.Nat.{zero-add}
use native.Mathlib.Omega.{arith}
use lib.ListN.{length, get_or, take, drop, length-take}
use lib.Seq.{length-take-le, get_or-take, get_or-drop, drop-append-le}
use Rattle.field.specs.Field.{difference, product, power}
use Rattle.lists.specs.Tab.{tab}
use Rattle.lists.proofs.Tab.{tab_ext}
use Rattle.lists.proofs.Window.{window_none, window_store, window_done}
use Rattle.decode_divide.specs.Quotients.{untwisted}
use Rattle.decode_between.specs.Between.{psi}
use Rattle.decode_between.specs.Foldable.{PsiTable, PsiPowers}
use Rattle.decode_between.proofs.Foldable.{lent_powers}
use Rattle.decode_divide.proofs.untwist.Goals as goal

pub loop-i-init : goal.loop-i-init
loop-i-init c = window_none 0 _ _

module _ (N k : ℕ) (d front room twisted powers : List ℕ) (table : PsiTable N d) (fits : k ≤ N)
    (front_is : front ≡ take (3 * N) d) (back_is : powers ≡ drop (3 * N) d) (value : d ≡ front ++ powers)
    (value' : front ≡ room ++ twisted) (twisted_is : twisted ≡ drop N front) (room_long : length room ≡ N) where
  lent : PsiPowers powers × (length powers ≡ N)
  lent = lent_powers N d table powers back_is

  entry : (i : ℕ) → i < N → get_or twisted i 0 ≡ get_or d (N + i) 0
  entry i l =
      ap (λ (s : List ℕ). get_or s i 0) twisted_is
      ∙ get_or-drop N front i 0
      ∙ ap (λ (s : List ℕ). get_or s (N + i) 0) front_is
      ∙ get_or-take (3 * N) d (N + i) 0 (omega arith)

  asked : (i : ℕ) → i < k → get_or d N 0 < 65537 → PsiPowers powers × (i < length powers) × (i ≡ 0 → get_or twisted i 0 < 65537)
  asked i l small = (
    lent.0,
    omega (arith, lent.1, fits),
    λ none. rw (entry i (omega (arith, fits))) (subst (λ (n : ℕ). get_or d n 0 < 65537) {x = N} {y = N + i} (omega arith) small),
  )

  all : tab k (untwisted (length powers) twisted) ≡ tab k (untwisted N (drop N d))
  unfolding untwisted
  all =
      tab_ext k _ _ (λ i l.
      ap₂ (λ (n x : ℕ). difference 0 (product x (power (psi n) (n - i)))) lent.1 (entry i (omega (arith, fits)) ∙ sym (get_or-drop N d i 0)))

  returned : (new : List ℕ) → ((new ++ drop (k - 0) room) ++ twisted) ++ powers ≡ new ++ drop k d
  returned new =
      append_assoc (new ++ drop (k - 0) room) twisted powers
      ∙ append_assoc new (drop (k - 0) room) (twisted ++ powers)
      ∙ ap (new ++◌)
      (ap (λ (n : ℕ). drop n room ++ (twisted ++ powers)) {x = k - 0} {y = k} (omega arith)
      ∙ sym (drop-append-le k room (twisted ++ powers) (omega (arith, room_long, fits)))
      ∙ ap (drop k) (sym (value ∙ ap (◌++ powers) value' ∙ append_assoc room twisted powers)))

pub untwist_one-requires : goal.untwist_one-requires
untwist_one-requires c =
    let split = c.split_at_mut-front in
    let parts = c.split_at_mut-room in
    asked c.args.size c.args.k c.args.cells.now _ _ _ _ c.requires.0 c.requires.1 split.ensures.front split.ensures.back split.ensures.value parts.ensures.value parts.ensures.back parts.ensures.front_len
    c.loop-i.i (omega (arith, c.loop-i-test.true, length-take (c.args.k - 0) parts.result.0.now)) c.requires.2

pub loop-i-preserved : goal.loop-i-preserved
unfolding untwisted
loop-i-preserved c =
    let l = c.loop-i in
    window_store 0 l.i l.i _ _ l.coefficient-items _ (sym (zero-add l.i)) (omega arith) l.invariant c.untwist_one.ensures

pub returns : goal.returns
returns c =
    let split = c.split_at_mut-front in
    let parts = c.split_at_mut-room in
    let l = c.loop-i in
    let long : length (take (c.args.k - 0) parts.result.0.now) ≡ c.args.k = length-take-le (c.args.k - 0) parts.result.0.now (omega (arith, parts.ensures.front_len, c.requires.1)) ∙ omega arith in
    returned c.args.size c.args.k c.args.cells.now _ _ _ _ c.requires.0 c.requires.1 split.ensures.front split.ensures.back split.ensures.value parts.ensures.value parts.ensures.back parts.ensures.front_len l.coefficient-items
    ∙ ap (◌++ drop c.args.k c.args.cells.now)
    (window_done c.args.k l.i _ _ _ long (omega (arith, l.auto.i-end)) (omega (arith, c.loop-i-test.false)) l.invariant
    ∙ all c.args.size c.args.k c.args.cells.now _ _ _ _ c.requires.0 c.requires.1 split.ensures.front split.ensures.back split.ensures.value parts.ensures.value parts.ensures.back parts.ensures.front_len)
