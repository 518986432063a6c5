-- What decode leaves once its checks have passed.
use Rattle.std.specs.Prelude.{List, [], ℕ}
use Rattle.std.proofs.Math.Option.{Option, some, none}
use Rattle.answers.specs.Leaves.{Leaves, leaving, written, zeroed}
use Rattle.answers.specs.Refusals.{the_result, refused}
use Rattle.answers.specs.declared.refusal.Refusal.TheVariants.{Disagree}
use Rattle.code.specs.Rooms.{decode_work}

-- the message is written where one fits; where none does, DISAGREE: "the stated working space is zero; a single block's output is untouched"
abbrev pub decoded : Option (List ℕ) → ℕ → List ℕ → List ℕ → Leaves
decoded none n out work = leaving (refused (Disagree 0)) out (zeroed (decode_work n) work)
decoded (some s) n out work = leaving (the_result []) (written s out) (zeroed (decode_work n) work)
