-- The proofs of specs/Theorems.antt, specs/Worked.antt and specs/Useless.antt, each under its name there in small letters.
-- Assumes nothing.
use Rattle.bundle.specs.Theorems.{FileIsBundle, WritesBundle, WriteRead, LoseRead, DisagreeExactly, NeverAnother, TakenIsSent, WriteSettled, ReadSettled}
use Rattle.bundle.specs.Useless.{Useless}
use Rattle.bundle.specs.Worked.{WorkedTable}
use Rattle.bundle_front.proofs.Bundling as Bundling
use Rattle.bundle.proofs.Coders as Coders
use Rattle.bundle.proofs.Demands as Demands
use Rattle.bundle.proofs.Settling.{length_settled}
use Rattle.bundle.proofs.Worked as Worked

-- Demand 2

pub file_is_bundle : FileIsBundle
file_is_bundle = Bundling.file_is_bundle

pub writes_bundle : WritesBundle
writes_bundle = Demands.writes_bundle

pub write_read : WriteRead
write_read = Demands.write_read

pub lose_read : LoseRead
lose_read = Demands.lose_read

-- Demand 3

pub disagree_exactly : DisagreeExactly
disagree_exactly = Demands.disagree_exactly

pub never_another : NeverAnother
never_another = Demands.never_another

pub taken_is_sent : TakenIsSent
taken_is_sent = Demands.taken_is_sent

-- Two outcomes of a call are equal

pub write_settled : WriteSettled
write_settled k n file out work = length_settled _

pub read_settled : ReadSettled
read_settled s out work = length_settled _

-- The worked numbers, and the useless coders

pub worked_table : WorkedTable
worked_table = Worked.worked_table

pub useless : Useless
useless = Coders.useless
