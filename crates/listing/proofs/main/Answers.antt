-- `listing::main`: the buffers have the sizes that the work asks for, and the text lies inside its buffer.
-- Assumes nothing.
use Rattle.std.proofs.Common.{rules}
use Rattle.listing_text.specs.Answers.{most_n}
use Rattle.listing_text.specs.Calls.{text_room}
use Rattle.listing.proofs.main.Goals as goal

pub list-end-requires : goal.list-end-requires
unfolding most_n text_room
list-end-requires c = (search rules, search rules)
