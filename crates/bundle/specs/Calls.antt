-- What the writer and the reader answer, and what the lent output and working space hold afterwards.
use Rattle.std.specs.Prelude.{List, [], ◌∷◌, ℕ, length, replicate}
use Rattle.answers.specs.Leaves.{Leaves, leaving, unless_refused, written, zeroed}
use Rattle.answers.specs.Refusals.{Answer, the_result, refusal}
use Rattle.bundle_layout.specs.Fields.{n_in, length_in, blocks_in}
use Rattle.bundle.specs.Checks.{write_checks, read_checks}
use Rattle.bundle_file.specs.File.{file_bundle}
use Rattle.bundle_read.specs.Reading.{blocks_answer, file_in}
use Rattle.bundle_layout.specs.Rooms.{bundle_work}

abbrev pub write_leaves : ℕ → ℕ → List ℕ → List ℕ → List ℕ → Leaves
write_leaves k n file out work =
    unless_refused (write_checks k n (length file) (length out) (length work)) out work
    (leaving (the_result (length (file_bundle k n file) ∷ [])) (written (file_bundle k n file) out) (zeroed (bundle_work n) work))

-- the file where every block is taken; "On refusals 8 to 10 the stated working space is zero; .. a bundle reader's first L output bytes are
-- zero and later ones untouched."
abbrev pub blocks_leave : Answer → List ℕ → List ℕ → List ℕ → Leaves
blocks_leave (refusal number place) s out work =
    leaving (refusal number place) (written (replicate (length_in s) 0) out) (zeroed (bundle_work (n_in s)) work)
blocks_leave (the_result vs) s out work = leaving (the_result vs) (written (file_in s) out) (zeroed (bundle_work (n_in s)) work)

-- what reading all blocks leaves
abbrev pub read_all_leaves : List ℕ → List ℕ → List ℕ → Leaves
read_all_leaves s out work = blocks_leave (blocks_answer s 0 (blocks_in s)) s out work

abbrev pub read_leaves : List ℕ → List ℕ → List ℕ → Leaves
read_leaves s out work = unless_refused (read_checks s (length out) (length work)) out work (read_all_leaves s out work)
