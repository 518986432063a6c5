-- `bundle_read::blocks::take_message` meets its contract: WORD before TAIL, and the bytes of a message that passes both.
-- Assumes nothing.
use mathlib.Core.Path.{◌≡◌, sym, ap, ap₂, ◌∙◌}
use mathlib.Core.List.{List, []}
use Prim.Native.Nat.{ℕ, ◌*◌, ◌-◌, ◌<◌}
use native.Mathlib.Omega.{arith}
use Rattle.answers.specs.Refusals.{the_result}
use Rattle.answers.specs.declared.refusal.Refusal.TheVariants.{Word, Tail}
use Rattle.bundle_layout.specs.Shape.{longest_file}
use Rattle.bundle_layout.specs.Fields.{k_in, length_in, blocks_in}
use Rattle.bundle_layout.specs.Layout.{layout_checks}
use Rattle.bundle_layout.proofs.Passing.{length_limited}
use Rattle.bundle_read.proofs.BlockReading.{words_low, refused_none, word_told, tail_told, taken_told, bytes_laid_lem, begins_inside}
use Rattle.bundle_read.proofs.blocks.take_message.Goals as goal

-- where the block begins, k being what the code has read
begins : (s : List ℕ) (b k : ℕ) → k ≡ k_in s → 2 * (k * b) ≡ 2 * (k_in s * b)
begins s b k is = ap (λ (z : ℕ). 2 * (z * b)) is

inside : (s : List ℕ) (b k : ℕ) → layout_checks s ≡ the_result [] → b < blocks_in s → k ≡ k_in s → 2 * (k * b) < length_in s
inside s b k good h is = omega (arith, begins s b k is, begins_inside s good b h)

rest : (s : List ℕ) (b k L : ℕ) → k ≡ k_in s → L ≡ length_in s → L - 2 * (k * b) ≡ length_in s - 2 * (k_in s * b)
rest s b k L first second = ap₂ ◌-◌ second (begins s b k first)

pub overflow_mul-from : goal.overflow_mul-from
unfolding longest_file
overflow_mul-from c = omega (arith, inside c.args.bundle.bytes.now c.args.b _ c.args.bundle.good c.requires.block c.k.ensures.0, length_limited c.args.bundle.bytes.now c.args.bundle.good)

pub overflow_mul-from-2 : goal.overflow_mul-from-2
unfolding longest_file
overflow_mul-from-2 c = omega (arith, inside c.args.bundle.bytes.now c.args.b _ c.args.bundle.good c.requires.block c.k.ensures.0, length_limited c.args.bundle.bytes.now c.args.bundle.good)

pub returns-then-bad_word : goal.returns-then-bad_word
unfolding longest_file
returns-then-bad_word c = record { answer = word_told (k_in c.args.bundle.bytes.now) (length_in c.args.bundle.bytes.now) c.args.b c.args.message.now (sym c.bad_word.ensures ∙ c.if-bad_word.true); laid = refused_none (Word c.args.b) }

pub overflow_sub-length : goal.overflow_sub-length
unfolding longest_file
overflow_sub-length c = omega (arith, inside c.args.bundle.bytes.now c.args.b _ c.args.bundle.good c.requires.block c.k.ensures.0, c.length.ensures.0)

pub bad_bytes-requires : goal.bad_bytes-requires
unfolding longest_file
bad_bytes-requires c = (words_low c.args.message.now c.requires.a_message.1 (sym c.bad_word.ensures ∙ c.if-bad_word.false))

pub returns-then-bad_bytes : goal.returns-then-bad_bytes
unfolding longest_file
returns-then-bad_bytes c = record { answer = tail_told (k_in c.args.bundle.bytes.now) (length_in c.args.bundle.bytes.now) c.args.b c.args.message.now _ (rest c.args.bundle.bytes.now c.args.b _ _ c.k.ensures.0 c.length.ensures.0) (sym c.bad_word.ensures ∙ c.if-bad_word.false) (sym c.bad_bytes.ensures ∙ c.if-bad_bytes.true); laid = refused_none (Tail c.args.b) }

pub lay_bytes-requires : goal.lay_bytes-requires
unfolding longest_file
lay_bytes-requires c = words_low c.args.message.now c.requires.a_message.1 (sym c.bad_word.ensures ∙ c.if-bad_word.false)

pub returns : goal.returns
unfolding longest_file
returns c =
    record {
      answer = taken_told (k_in c.args.bundle.bytes.now) (length_in c.args.bundle.bytes.now) c.args.b c.args.message.now _ (rest c.args.bundle.bytes.now c.args.b _ _ c.k.ensures.0 c.length.ensures.0) (sym c.bad_word.ensures ∙ c.if-bad_word.false) (sym c.bad_bytes.ensures ∙ c.if-bad_bytes.false);
      laid = λ done.
          bytes_laid_lem (k_in c.args.bundle.bytes.now) c.args.b _ c.args.message.now c.args.file.now c.lay_bytes.new.file c.requires.a_message.0 (begins c.args.bundle.bytes.now c.args.b _ c.k.ensures.0) c.lay_bytes.ensures;
    }
