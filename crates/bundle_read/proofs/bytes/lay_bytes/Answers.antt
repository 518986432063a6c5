-- `bundle_read::bytes::lay_bytes` meets its contract: whole words are laid while there is room, and then a last byte where there is room for it.
-- Assumes nothing.
use mathlib.Core.Path.{◌≡◌, refl, ap, ◌∙◌}
use mathlib.Core.List.{List, ◌++◌}
use Prim.Native.Nat.{ℕ, ◌+◌, ◌*◌, ◌-◌, ◌/◌}
use native.Mathlib.Omega.{arith}
use borrow.Author.Rules.{rules}
use lib.ListN.{length, take, drop, length-set}
use Rattle.lists.proofs.Window.{window, window_store}
use Rattle.bundle_storage.specs.Bytes.{in_bytes}
use Rattle.bundle_storage.proofs.BytesLaws.{in_bytes_length}
use Rattle.bundle_read.proofs.MessageBytes.{laid_all, laid_full, laid_past}
use Rattle.bundle_read.proofs.bytes.lay_bytes.Goals as goal

-- the bytes are twice as many as the words
twice : (message file : List ℕ) (from : ℕ) (t : List ℕ) → t ≡ take from file ++ (take (length file - from) (in_bytes message) ++ drop (from + length (in_bytes message)) file)
    → t ≡ take from file ++ (take (length file - from) (in_bytes message) ++ drop (from + 2 * length message) file)
twice message file from t is =
    is ∙ ap (λ (m : ℕ). take from file ++ (take (length file - from) (in_bytes message) ++ drop (from + m) file)) (in_bytes_length message)

pub returns-then-file-from : goal.returns-then-file-from
unfolding window
returns-then-file-from c = laid_past (in_bytes c.args.message.now) c.args.file.now c.args.from (2 * length c.args.message.now) c.if-file-from.true

pub lay_message-requires : goal.lay_message-requires
unfolding window
lay_message-requires c = (search rules, omega (arith, c.if-message-whole.true, c.if-file-from.false), c.requires)

pub shape_of-file-then-message-whole : goal.shape_of-file-then-message-whole
unfolding window
shape_of-file-then-message-whole c = c.lay_message.auto.file

pub returns-then-message-whole : goal.returns-then-message-whole
unfolding window
returns-then-message-whole c =
    twice c.args.message.now c.args.file.now c.args.from _
    (c.lay_message.ensures ∙ laid_all (in_bytes c.args.message.now) c.args.file.now c.args.from (2 * length c.args.message.now) (omega (arith, c.if-message-whole.true, c.if-file-from.false)) (omega (arith, in_bytes_length c.args.message.now)) (omega (arith, in_bytes_length c.args.message.now)))

pub lay_message-requires-2 : goal.lay_message-requires-2
unfolding window
lay_message-requires-2 c = (omega (arith, c.if-message-whole.false), omega (arith, c.if-file-from.false), c.requires)

pub overflow_mul-end : goal.overflow_mul-end
unfolding window
overflow_mul-end c = omega (arith, c.if-file-from.false)

pub overflow_add-end : goal.overflow_add-end
unfolding window
overflow_add-end c = omega (arith, c.if-file-from.false)

pub shape_of-file-then-file-end : goal.shape_of-file-then-file-end
unfolding window
shape_of-file-then-file-end c = c.lay_message-2.auto.file

pub returns-then-file-end : goal.returns-then-file-end
unfolding window
returns-then-file-end c =
    twice c.args.message.now c.args.file.now c.args.from _
    (c.lay_message-2.ensures ∙ laid_full (in_bytes c.args.message.now) c.args.file.now c.args.from (2 * ((length c.args.file.now - c.args.from) / 2)) (omega (arith, c.if-file-from.false)) (omega (arith, in_bytes_length c.args.message.now, c.if-message-whole.false)) (omega (arith, c.if-file-end.true, c.lay_message-2.auto.file)))

pub byte_of-requires : goal.byte_of-requires
unfolding window
byte_of-requires c = (omega (arith, c.if-message-whole.false), c.requires)

pub bounds-file-end : goal.bounds-file-end
unfolding window
bounds-file-end c = omega (arith, c.if-file-end.false)

pub shape_of-file : goal.shape_of-file
unfolding window
shape_of-file c = length-set c.lay_message-2.new.file _ _ ∙ c.lay_message-2.auto.file

pub returns : goal.returns
unfolding window
returns c =
    twice c.args.message.now c.args.file.now c.args.from _
    (window_store c.args.from (2 * ((length c.args.file.now - c.args.from) / 2)) _ _ c.args.file.now c.lay_message-2.new.file _ refl (omega (arith, c.if-file-end.false, c.lay_message-2.auto.file)) c.lay_message-2.ensures c.byte_of.ensures.0
    ∙ laid_full (in_bytes c.args.message.now) c.args.file.now c.args.from (2 * ((length c.args.file.now - c.args.from) / 2) + 1) (omega (arith, c.if-file-end.false, c.lay_message-2.auto.file)) (omega (arith, in_bytes_length c.args.message.now, c.if-message-whole.false)) (omega (arith, c.if-file-from.false)))
