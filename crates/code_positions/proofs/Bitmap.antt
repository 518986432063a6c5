-- The laws of the bitmap: a bit that is set reads as set, and no other bit changes.
-- Assumes nothing.
use mathlib.Core.Path.{◌≡◌, refl, ap, ◌∙◌}
use mathlib.Core.Bool.{true, false}
use mathlib.Core.List.{List}
use Prim.Native.Nat.{ℕ, zero, suc, ◌+◌, ◌-◌, ◌*◌, ◌/◌, ◌%◌, ◌^◌, ◌<◌}
use native.Mathlib.Decide.{dec_lt, ℕ_discrete}
use native.Mathlib.Nat.{mod-lt, add-div_right, add-mul-div_right, zero-div}
use native.Mathlib.Numerals.{add-one}
use native.Mathlib.Omega.{arith}
use borrow.Author.Tests.{eq-eqb, eqb-false}
use lib.Arith.{digits_lt}
use lib.Dec.{eqb}
use lib.ListN.{length, get_or, replicate}
use lib.Pow.{pow_pos, pow-add, split, shr_lt, high, field, mod-mod-pow}
use lib.Seq.{get_or-set_same, get_or-set_other}
use Rattle.code_positions.specs.Bitmap.{seen, with_seen}

-- Bit b of w is w / 2 ^ b % 2. To set it where it is 0 is to add 2 ^ b.

-- nothing is carried past the bit
no_carry : (w b d : ℕ) → w < 2 ^ (suc d + b) → w / 2 ^ b % 2 ≡ 0 → w + 2 ^ b < 2 ^ (suc d + b)
no_carry w b d h e =
    let q : w / 2 ^ b < 2 ^ suc d = shr_lt (suc d) b h in
    let more : w / 2 ^ b + 1 < 2 ^ suc d = omega arith in
    let all : (w / 2 ^ b + 1) * 2 ^ b + w % 2 ^ b < 2 ^ suc d * 2 ^ b = digits_lt more (mod-lt w (pow_pos b)) in
    rw (pow-add 2 (suc d) b) (omega (arith, split w b))

bit_same : (w b : ℕ) → w / 2 ^ b % 2 ≡ 0 → (w + 2 ^ b) / 2 ^ b % 2 ≡ 1
bit_same w b e = rw (add-div_right w (pow_pos b)) (omega arith)

bit_below : (w c d : ℕ) → (w + 2 ^ (suc d + c)) / 2 ^ c % 2 ≡ w / 2 ^ c % 2
bit_below w c d = rw (pow-add 2 (suc d) c, add-mul-div_right w (2 ^ suc d) (pow_pos c)) (omega arith)

bit_above : (w b d : ℕ) → w / 2 ^ b % 2 ≡ 0 → (w + 2 ^ b) / 2 ^ (suc d + b) ≡ w / 2 ^ (suc d + b)
bit_above w b d e =
    ap (◌/ 2 ^ (suc d + b)) whole ∙ high (w / 2 ^ (suc d + b)) (suc d + b) (no_carry (w % 2 ^ (suc d + b)) b d (mod-lt w (pow_pos (suc d + b))) low_bit)
  where
    whole : w + 2 ^ b ≡ w / 2 ^ (suc d + b) * 2 ^ (suc d + b) + (w % 2 ^ (suc d + b) + 2 ^ b)
    whole = omega (arith, split w (suc d + b))

    low_bit : w % 2 ^ (suc d + b) / 2 ^ b % 2 ≡ 0
    low_bit = rw (field w (suc d) b, ← add-one d) (mod-mod-pow (w / 2 ^ b) d 1 ∙ e)

-- two bits that differ, as the laws above have them
distance : {b c : ℕ} → b < c → suc (c - suc b) + b ≡ c
distance h = omega arith

bit_other : (w b c : ℕ) → w / 2 ^ b % 2 ≡ 0 → ¬ (b ≡ c) → (w + 2 ^ b) / 2 ^ c % 2 ≡ w / 2 ^ c % 2
bit_other w b c e other =
    elim (dec_lt b c) [
      | yes h ↦ rw (distance h) at (ap (◌% 2) (bit_above w b (c - suc b) e))
      | no h ↦
          let less : c < b = omega arith in
          rw (distance less) at (bit_below w c (b - suc c))
    ]

module _ (map : List ℕ) (p : ℕ) (free : seen map p ≡ false) where
  zero_bit : get_or map (p / 32) 0 / 2 ^ (p % 32) % 2 ≡ 0
  unfolding seen
  zero_bit = omega (arith, eqb-false (get_or map (p / 32) 0 / 2 ^ (p % 32) % 2) 1 free)

  pub seen_fits : get_or map (p / 32) 0 < 2 ^ 32 → get_or map (p / 32) 0 + 2 ^ (p % 32) < 2 ^ 32
  seen_fits h =
      let less : p % 32 < 32 = omega arith in
      rw (distance less) at (no_carry (get_or map (p / 32) 0) (p % 32) (32 - suc (p % 32)) (rw (distance less) h) zero_bit)

  module _ (inside : p / 32 < length map) where
    cell_same : get_or (with_seen map p) (p / 32) 0 ≡ get_or map (p / 32) 0 + 2 ^ (p % 32)
    unfolding with_seen
    cell_same = get_or-set_same map (p / 32) _ 0 inside

    cell_other : (q : ℕ) → ¬ (q / 32 ≡ p / 32) → get_or (with_seen map p) (q / 32) 0 ≡ get_or map (q / 32) 0
    unfolding with_seen
    cell_other q apart = get_or-set_other map (p / 32) (q / 32) _ 0 apart

    pub seen_same : seen (with_seen map p) p ≡ true
    unfolding seen
    seen_same = rw cell_same (eq-eqb _ 1 (bit_same _ (p % 32) zero_bit))

    same_bit : (q : ℕ) → ¬ (p ≡ q) → get_or (with_seen map p) (q / 32) 0 / 2 ^ (q % 32) % 2 ≡ get_or map (q / 32) 0 / 2 ^ (q % 32) % 2
    same_bit q other =
        elim (ℕ_discrete (q / 32) (p / 32)) [
          | yes e ↦ rw (e, cell_same) (bit_other (get_or map (p / 32) 0) (p % 32) (q % 32) zero_bit (λ same. other (omega arith)))
          | no apart ↦ ap (λ (x : ℕ). x / 2 ^ (q % 32) % 2) (cell_other q apart)
        ]

    pub seen_other : (q : ℕ) → ¬ (p ≡ q) → seen (with_seen map p) q ≡ seen map q
    unfolding seen
    seen_other q other = ap (λ (x : ℕ). eqb x 1) (same_bit q other)

-- an empty map

zeros : (n i : ℕ) → ◌≡◌ {A = ℕ} (get_or (replicate n 0) i 0) 0
zeros zero i = refl
zeros (suc n) zero = refl
zeros (suc n) (suc i) = zeros n i

pub none_seen : (n p : ℕ) → seen (replicate n 0) p ≡ false
unfolding seen
none_seen n p = rw (zeros n (p / 32), zero-div (2 ^ (p % 32)))
