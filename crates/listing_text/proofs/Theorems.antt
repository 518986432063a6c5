-- The proofs of specs/Theorems.antt, each under its name there in small letters.
-- Assumes nothing.
use mathlib.Core.Path.{sym, ap, ◌∙◌}
use mathlib.Core.List.{List}
use Prim.Native.Nat.{ℕ}
use Rattle.answers.specs.Leaves.{Leaves}
use Rattle.listing_text.specs.Theorems.{ReaderAnswers, ServesExactly, ListedWhole, ListedAfter, P11Listed, EmptyListed, ListSettled}
use Rattle.listing_text.proofs.Answering.{shown, read_answers}
use Rattle.listing_text.proofs.Examples as Examples
use Rattle.listing_text.proofs.Refusing as Refusing

pub reader_answers : ReaderAnswers
reader_answers s out work short o w = sym (read_answers s out work short o w)

pub serves_exactly : ServesExactly
serves_exactly = Refusing.serves_exactly

pub listed_whole : ListedWhole
listed_whole = Refusing.listed_whole

pub listed_after : ListedAfter
listed_after = Refusing.listed_after

pub p11_listed : P11Listed
p11_listed = Examples.p11_listed

pub empty_listed : EmptyListed
empty_listed = Examples.empty_listed

pub list_settled : ListSettled
list_settled s text work e f t u w v first second =
    let same = first ∙ sym second in
    (ap {A = Leaves} {B = ℕ} (λ l. shown l.answer) same, ap {A = Leaves} {B = List ℕ} (λ l. l.list) same, ap {A = Leaves} {B = List ℕ} (λ l. l.work) same)
