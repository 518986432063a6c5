-- The five useless coders (document 01, "What callers may rely on"): each of them breaks a promise. A coder is what its calls leave; it keeps its
-- promises if they leave what the promises say.
use Rattle.std.specs.Prelude.{◌≡◌, false, List, [], ◌∷◌, ℕ, ◌<◌, ◌≤◌, length}
use Rattle.answers.specs.Leaves.{Leaves}
use Rattle.answers.specs.Refusals.{the_result, refusal}
use Rattle.block.specs.Calls.{encode_leaves, decode_leaves}
use Rattle.bundle_layout.specs.Blocks.{blocks_of}
use Rattle.bundle_layout.specs.Shape.{bad_bundle_shape}
use Rattle.bundle_storage.specs.Bytes.{Bytes}
use Rattle.bundle_layout.specs.Fields.{length_in, count_in}
use Rattle.bundle.specs.Calls.{write_leaves, read_leaves}
use Rattle.bundle_file.specs.File.{message_at, count_at, file_bundle}
use Rattle.bundle_layout.specs.Rooms.{write_out, bundle_work}

pub record Coder : Type 0 where
  pub encode : ℕ → ℕ → List ℕ → List ℕ → List ℕ → Leaves
  pub decode : ℕ → ℕ → List ℕ → List ℕ → List ℕ → List ℕ → Leaves
  pub write : ℕ → ℕ → List ℕ → List ℕ → List ℕ → Leaves
  pub read : List ℕ → List ℕ → List ℕ → Leaves

-- each call on its own, so that a coder with one useless call is excluded too

abbrev pub KeepsEncode : Coder → Type 0
KeepsEncode c = (k n : ℕ) (message out work : List ℕ) → c.encode k n message out work ≡ encode_leaves k n message out work

abbrev pub KeepsDecode : Coder → Type 0
KeepsDecode c =
    (k n : ℕ) (positions values out work : List ℕ)
    → c.decode k n positions values out work ≡ decode_leaves k n positions values out work

abbrev pub KeepsWrite : Coder → Type 0
KeepsWrite c = (k n : ℕ) (file out work : List ℕ) → c.write k n file out work ≡ write_leaves k n file out work

abbrev pub KeepsRead : Coder → Type 0
KeepsRead c = (s out work : List ℕ) → c.read s out work ≡ read_leaves s out work

-- the call refuses
abbrev pub Refused : Leaves → Type 0
Refused it = (number : ℕ) × ((place : ℕ) × (it.answer ≡ refusal number place))

-- 1. "One that refuses everything"
pub record AnswersSome (c : Coder) : Type 0 where
  pub encode : KeepsEncode c → ¬ ((k n : ℕ) (message out work : List ℕ) → Refused (c.encode k n message out work))
  pub decode : KeepsDecode c → ¬ ((k n : ℕ) (positions values out work : List ℕ) → Refused (c.decode k n positions values out work))
  pub write : KeepsWrite c → ¬ ((k n : ℕ) (file out work : List ℕ) → Bytes file → Refused (c.write k n file out work))
  pub read : KeepsRead c → ¬ ((s out work : List ℕ) → Bytes s → Refused (c.read s out work))

-- 2. "one with a constant answer": with the same memory lent it leaves the same for all input that it takes
pub record NotConstant (c : Coder) : Type 0 where
  pub encode : KeepsEncode c
      → ¬ ((k n : ℕ) (message other out work : List ℕ) → ¬ Refused (c.encode k n message out work) → ¬ Refused (c.encode k n other out work)
      → c.encode k n message out work ≡ c.encode k n other out work)
  pub decode : KeepsDecode c
      → ¬ ((k n : ℕ) (positions values other out work : List ℕ) → ¬ Refused (c.decode k n positions values out work)
      → ¬ Refused (c.decode k n positions other out work) → c.decode k n positions values out work ≡ c.decode k n positions other out work)
  pub write : KeepsWrite c
      → ¬ ((k n : ℕ) (file other out work : List ℕ) → Bytes file → Bytes other → ¬ Refused (c.write k n file out work)
      → ¬ Refused (c.write k n other out work) → c.write k n file out work ≡ c.write k n other out work)
  pub read : KeepsRead c
      → ¬ ((s other out work : List ℕ) → Bytes s → Bytes other → ¬ Refused (c.read s out work) → ¬ Refused (c.read other out work)
      → c.read s out work ≡ c.read other out work)

-- 3. "one that writes nothing": it leaves the list that takes the result as it was, for all input that it takes
pub record WritesSomething (c : Coder) : Type 0 where
  pub encode : KeepsEncode c
      → ¬ ((k n : ℕ) (message out work : List ℕ) → ¬ Refused (c.encode k n message out work) → (c.encode k n message out work).list ≡ out)
  pub decode : KeepsDecode c
      → ¬ ((k n : ℕ) (positions values out work : List ℕ) → ¬ Refused (c.decode k n positions values out work)
      → (c.decode k n positions values out work).list ≡ out)
  pub write : KeepsWrite c
      → ¬ ((k n : ℕ) (file out work : List ℕ) → Bytes file → ¬ Refused (c.write k n file out work) → (c.write k n file out work).list ≡ out)
  pub read : KeepsRead c
      → ¬ ((s out work : List ℕ) → Bytes s → ¬ Refused (c.read s out work) → (c.read s out work).list ≡ out)

-- 4. "One that codes the first block and skips the later ones": files that it takes, of one length and with one first block, get one bundle
abbrev pub CodesLaterBlocks : Coder → Type 0
CodesLaterBlocks c =
    KeepsWrite c
    → ¬ ((k n : ℕ) (file other out work : List ℕ) → Bytes file → Bytes other → length file ≡ length other
    → message_at k file 0 ≡ message_at k other 0 → ¬ Refused (c.write k n file out work) → ¬ Refused (c.write k n other out work)
    → c.write k n file out work ≡ c.write k n other out work)

-- 5. "One that invents overflow counts or lengths": for no file within the limits is another length returned, or another count or length written
abbrev pub InventsNothing : Coder → Type 0
InventsNothing c =
    KeepsWrite c → (k n : ℕ) (file out work : List ℕ) → bad_bundle_shape k n (length file) ≡ false
    → write_out n (blocks_of k (length file)) ≤ length out → bundle_work n ≤ length work
    → ((c.write k n file out work).answer ≡ the_result (length (file_bundle k n file) ∷ []))
    × ((i : ℕ) → i < n → count_in (c.write k n file out work).list i ≡ count_at k n file i)
    × (length_in (c.write k n file out work).list ≡ length file)

pub record Useless : Type 0 where
  pub refuses_everything : (c : Coder) → AnswersSome c
  pub constant_answer : (c : Coder) → NotConstant c
  pub writes_nothing : (c : Coder) → WritesSomething c
  pub first_block_only : (c : Coder) → CodesLaterBlocks c
  pub invents : (c : Coder) → InventsNothing c
