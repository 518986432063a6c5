-- `bundle_layout::inner::count_in` meets its contract: the entry lies inside, and the count behind the position.
-- Assumes nothing.
use borrow.Author.Rules.{rules}
use Rattle.bundle_layout.specs.Fields.{count_in, entry_at}
use Rattle.bundle_layout.specs.Shadows.{header_size, entry_size}
use Rattle.bundle_layout.proofs.inner.count_in.Goals as goal

pub returns : goal.returns
unfolding count_in entry_at header_size entry_size
returns c = search rules

pub overflow_mul-t : goal.overflow_mul-t
unfolding count_in entry_at header_size entry_size
overflow_mul-t c = search rules

pub overflow_add-t : goal.overflow_add-t
unfolding count_in entry_at header_size entry_size
overflow_add-t c = search rules

pub overflow_add-t-2 : goal.overflow_add-t-2
unfolding count_in entry_at header_size entry_size
overflow_add-t-2 c = search rules

pub two_at-requires : goal.two_at-requires
unfolding count_in entry_at header_size entry_size
two_at-requires c = search rules
