-- `bundle_front::write_front` meets its contract: the header is put, and the table behind it.
-- Assumes nothing.
use native.Mathlib.Omega.{arith}
use Rattle.bundle_layout.specs.Shadows.{header_size, entry_size, first_body}
use Rattle.bundle_layout.proofs.Holding.{limits}
use Rattle.bundle_front.proofs.Fronting.{front_inside, front_stands}
use Rattle.bundle_front.proofs.write_front.Goals as goal

pub write_header-requires : goal.write_header-requires
unfolding first_body header_size entry_size
write_header-requires c =
    let told = limits _ _ _ c.args.source.shaped in
    (omega arith, omega arith, omega arith, omega (arith, c.requires.0, front_inside c.args.source.k c.args.source.n c.args.source.file.now c.args.source.shaped))

pub returns : goal.returns
returns c =
    let s = c.args.source in
    let more = front_stands s.k s.n s.file.now s.shaped c.args.out.now c.requires.0 c.write_header.new.out _ c.write_header.ensures c.write_table.ensures.onward c.write_table.ensures.stand in
    record { value = c.write_table.ensures.value; onward = more.0; stand = more.1 }
