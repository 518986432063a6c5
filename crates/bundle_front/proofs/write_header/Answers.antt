-- `bundle_front::write_header` meets its contract: the mark and five numbers, put one behind the other.
-- Assumes nothing.
use Rattle.bundle_layout.specs.Mark.{mark}
use Rattle.bundle_storage.proofs.PutLaws.{put_front}
use Rattle.bundle_front.proofs.Fronting.{header_puts}
use Rattle.bundle_front.proofs.write_header.Goals as goal

pub returns : goal.returns
unfolding mark
returns c = cc (header_puts c.args.k c.args.n c.args.bytes c.args.out.now, put_front mark c.args.out.now)
