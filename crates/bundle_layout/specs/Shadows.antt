-- The bundle as it is written: "Table of contents first, then the bodies."
use Rattle.std.specs.Prelude.{List, [], ◌∷◌, ◌++◌, ℕ, ◌+◌, ◌*◌, length}
use Rattle.bundle_storage.specs.Bytes.{two, four}
use Rattle.bundle_layout.specs.Mark.{mark}

-- a shadow that a bundle holds: its position, its overflow count and the bytes of its body
pub record Shadow : Type 0 where
  pub position : ℕ
  pub count : ℕ
  pub body : List ℕ

-- "Header, 16 bytes"
unfoldable pub header_size : ℕ
header_size = 16

-- "Table, m entries of 8 bytes"
unfoldable pub entry_size : ℕ
entry_size = 8

-- "the first at 16 + 8m"
unfoldable pub first_body : ℕ → ℕ
first_body m = header_size + entry_size * m

-- "the four bytes 46 4E 54 42; k (2 bytes); n (2); file length L in bytes (4); number of shadows held m (2); two zero bytes"
unfoldable pub header : ℕ → ℕ → ℕ → ℕ → List ℕ
header k n L m = mark ++ (two k ++ (two n ++ (four L ++ (two m ++ two 0))))

-- "position (2), overflow count c (2), offset of the body from the bundle's start (4)"
unfoldable pub entry : Shadow → ℕ → List ℕ
entry h offset = two h.position ++ (two h.count ++ four offset)

-- the entries of shadows whose bodies lie one after the other from an offset on
unfoldable pub table : ℕ → List Shadow → List ℕ
table offset [] = []
table offset (h ∷ hs) = entry h offset ++ table (offset + length h.body) hs

-- "Bodies in table order without gaps"
unfoldable pub bodies : List Shadow → List ℕ
bodies [] = []
bodies (h ∷ hs) = h.body ++ bodies hs

unfoldable pub bundle_of : ℕ → ℕ → ℕ → List Shadow → List ℕ
bundle_of k n L hs = header k n L (length hs) ++ (table (first_body (length hs)) hs ++ bodies hs)
