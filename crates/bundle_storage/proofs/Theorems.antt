-- The proofs of specs/Theorems.antt, each under its name there in small letters.
-- Assumes nothing.
use Rattle.bundle_storage.specs.Theorems.{BodyStores, SymbolsRead}
use Rattle.bundle_storage.proofs.Storing as Storing

pub body_stores : BodyStores
body_stores = Storing.body_stores

pub symbols_read : SymbolsRead
symbols_read = Storing.symbols_read
