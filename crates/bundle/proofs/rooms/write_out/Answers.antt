-- `bundle::rooms::write_out` meets its contract: all fits, since n and B have limits.
-- Assumes nothing.
use native.Mathlib.Nat.{mul-le-mul}
use native.Mathlib.Omega.{arith}
use borrow.Author.Rules.{rules}
use Rattle.limits.specs.Shape.{longest}
use Rattle.bundle_storage.specs.Blocks.{most_blocks}
use Rattle.bundle_layout.specs.Shadows.{header_size, entry_size, first_body}
use Rattle.bundle_layout.specs.Rooms.{write_out}
use Rattle.bundle.proofs.rooms.write_out.Goals as goal

pub overflow_mul-result-2 : goal.overflow_mul-result-2
unfolding write_out first_body header_size entry_size longest most_blocks
overflow_mul-result-2 c = omega (arith, mul-le-mul {n₂ = 4096} {m₂ = 65535} c.requires.0 c.requires.1)

pub overflow_mul-result-3 : goal.overflow_mul-result-3
unfolding write_out first_body header_size entry_size longest most_blocks
overflow_mul-result-3 c = omega (arith, mul-le-mul {n₂ = 4096} {m₂ = 65535} c.requires.0 c.requires.1)

pub overflow_add-result-2 : goal.overflow_add-result-2
unfolding write_out first_body header_size entry_size longest most_blocks
overflow_add-result-2 c = omega (arith, mul-le-mul {n₂ = 4096} {m₂ = 65535} c.requires.0 c.requires.1)

pub returns : goal.returns
unfolding write_out first_body header_size entry_size longest most_blocks
returns c = search rules

pub overflow_mul-result : goal.overflow_mul-result
unfolding write_out first_body header_size entry_size longest most_blocks
overflow_mul-result c = search rules

pub overflow_add-result : goal.overflow_add-result
unfolding write_out first_body header_size entry_size longest most_blocks
overflow_add-result c = search rules
