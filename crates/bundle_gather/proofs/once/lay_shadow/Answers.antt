-- `bundle_gather::once::lay_shadow` meets its contract: its entry of the table says where its body begins.
-- Assumes nothing.
use mathlib.Core.Path.{◌≡◌, ap, ap₂, ◌∙◌}
use mathlib.Core.List.{List}
use Prim.Native.Nat.{ℕ, ◌+◌, ◌*◌}
use native.Mathlib.Omega.{arith}
use lib.ListN.{set}
use Rattle.bundle_gather.proofs.Gathering.{words_small}
use Rattle.bundle_gather.proofs.Starting.{words_laid_lem, cursor_laid}
use Rattle.bundle_gather.proofs.once.lay_shadow.Goals as goal

laid : (cells : List ℕ) (a b c : ℕ) {u v w x y z : ℕ} → u ≡ x → v ≡ y → w ≡ z → set (set (set cells a u) b v) c w ≡ set (set (set cells a x) b y) c z
laid cells a b c {u} {v} {w} {x} {y} {z} first second third =
    ap₂ (λ (i j : ℕ). set (set (set cells a i) b j) c w) first second ∙ ap (set (set (set cells a x) b y) c) third

pub overflow_cast-cells : goal.overflow_cast-cells
overflow_cast-cells c =
    let bundle = c.args.bundle in
    omega (
      arith,
      words_laid_lem bundle.bytes.now c.args.t _ _ _ c.entry-entry.ensures.offset.0 c.entry-entry.ensures.count.0 c.words_at.ensures,
      words_small bundle.bytes.now bundle.good c.args.t c.requires.0 c.known_as_bytes.ensures,
    )

pub returns : goal.returns
returns c =
    let s = c.args.bundle.bytes.now in
    laid c.args.cells.now (5 * c.args.size + c.args.t) (6 * c.args.size + c.args.t) (7 * c.args.size + c.args.t)
    (words_laid_lem s c.args.t _ _ _ c.entry-entry.ensures.offset.0 c.entry-entry.ensures.count.0 c.words_at.ensures)
    (cursor_laid s c.args.t _ c.entry-entry.ensures.offset.0) c.entry-entry.ensures.position.0
