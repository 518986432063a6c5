-- The worked numbers P1 to P12 (document 01, under that heading), as one table.
use Rattle.std.specs.Prelude.{◌≡◌, List, [], ◌∷◌, ◌++◌, ℕ, set}
use Rattle.answers.specs.Leaves.{leaving}
use Rattle.answers.specs.Refusals.{refused}
use Rattle.answers.specs.declared.refusal.Refusal.TheVariants.{Tail, Form}
use Rattle.transform_halving.specs.Transform.{transform_of, inverse_of}
use Rattle.block.specs.Theorems.{Encodes, Decodes, Disagrees}
use Rattle.bundle_layout.specs.Fields.{blocks_in}
use Rattle.bundle.specs.Calls.{read_leaves}
use Rattle.bundle.specs.Theorems.{Writes, Reads, Refuses}

-- P11's file and its bundle of 58 bytes
unfoldable pub file11 : List ℕ
file11 = 0x00 ∷ 0x01 ∷ 0x00 ∷ 0x02 ∷ []

unfoldable pub bundle11 : List ℕ
bundle11 =
    (0x46 ∷ 0x4E ∷ 0x54 ∷ 0x42 ∷ 0x00 ∷ 0x02 ∷ 0x00 ∷ 0x04 ∷ 0x00 ∷ 0x00 ∷ 0x00 ∷ 0x04 ∷ 0x00 ∷ 0x04 ∷ 0x00 ∷ 0x00 ∷ [])
    ++ ((0x00 ∷ 0x00 ∷ 0x00 ∷ 0x00 ∷ 0x00 ∷ 0x00 ∷ 0x00 ∷ 0x30 ∷ [])
    ++ ((0x00 ∷ 0x01 ∷ 0x00 ∷ 0x00 ∷ 0x00 ∷ 0x00 ∷ 0x00 ∷ 0x32 ∷ [])
    ++ ((0x00 ∷ 0x02 ∷ 0x00 ∷ 0x01 ∷ 0x00 ∷ 0x00 ∷ 0x00 ∷ 0x34 ∷ [])
    ++ ((0x00 ∷ 0x03 ∷ 0x00 ∷ 0x00 ∷ 0x00 ∷ 0x00 ∷ 0x00 ∷ 0x38 ∷ [])
    ++ ((0x00 ∷ 0x03 ∷ []) ++ ((0xFE ∷ 0x02 ∷ []) ++ ((0x00 ∷ 0x00 ∷ 0x00 ∷ 0x00 ∷ []) ++ (0x02 ∷ 0x01 ∷ []))))))))

-- P12: the same with another L, whose last byte stands at index 11
unfoldable pub bundle12 : ℕ → List ℕ
bundle12 L = set bundle11 11 L

pub record WorkedTable : Type 0 where
  pub p1 : transform_of (5 ∷ []) ≡ 5 ∷ []
  pub p2 : transform_of (1 ∷ 2 ∷ []) ≡ 3 ∷ 65536 ∷ []
  pub p3 : transform_of (1 ∷ 2 ∷ 0 ∷ 0 ∷ []) ≡ 3 ∷ 65026 ∷ 65536 ∷ 513 ∷ []
  pub p4 : inverse_of (3 ∷ 65026 ∷ 65536 ∷ 513 ∷ []) ≡ 1 ∷ 2 ∷ 0 ∷ 0 ∷ []
  pub p5 : Encodes 2 3 (1 ∷ 2 ∷ []) (3 ∷ 65026 ∷ 65536 ∷ [])
  pub p6 : Encodes 1 4 (65536 ∷ []) (65536 ∷ 65536 ∷ 65536 ∷ 65536 ∷ [])
  pub p7 : Decodes 2 4 (3 ∷ 1 ∷ []) (513 ∷ 65026 ∷ []) (1 ∷ 2 ∷ [])
  pub p8 : Decodes 2 4 (0 ∷ 2 ∷ []) (3 ∷ 0 ∷ []) (32770 ∷ 32770 ∷ [])
  pub p9 : Disagrees 2 4 (0 ∷ 2 ∷ 1 ∷ []) (3 ∷ 0 ∷ 65026 ∷ [])
  pub p10 : Decodes 2 4 (0 ∷ 1 ∷ 2 ∷ 3 ∷ []) (3 ∷ 65026 ∷ 65536 ∷ 513 ∷ []) (1 ∷ 2 ∷ [])
  pub p11 : Writes 2 4 file11 bundle11 × Reads 4 bundle11 file11
  -- "the same with L = 3: TAIL, place 0. With L = 5, B is 2: FORM."
  pub p12 : Refuses 4 3 (bundle12 3) (Tail 0)
      × ((blocks_in (bundle12 5) ≡ 2) × ((out work : List ℕ) → read_leaves (bundle12 5) out work ≡ leaving (refused Form) out work))
