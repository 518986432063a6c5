-- `bundle_layout::inner::offset_in` meets its contract: the entry lies inside, and the offset behind the count.
-- Assumes nothing.
use borrow.Author.Rules.{rules}
use Rattle.bundle_layout.specs.Fields.{offset_in, entry_at}
use Rattle.bundle_layout.specs.Shadows.{header_size, entry_size}
use Rattle.bundle_layout.proofs.inner.offset_in.Goals as goal

pub returns : goal.returns
unfolding offset_in entry_at header_size entry_size
returns c = search rules

pub overflow_mul-t : goal.overflow_mul-t
unfolding offset_in entry_at header_size entry_size
overflow_mul-t c = search rules

pub overflow_add-t : goal.overflow_add-t
unfolding offset_in entry_at header_size entry_size
overflow_add-t c = search rules

pub overflow_add-t-2 : goal.overflow_add-t-2
unfolding offset_in entry_at header_size entry_size
overflow_add-t-2 c = search rules

pub four_at-requires : goal.four_at-requires
unfolding offset_in entry_at header_size entry_size
four_at-requires c = search rules
