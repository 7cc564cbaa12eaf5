use Rattle.std.proofs.Common.{◌≡◌, arith, inr, refl, subst, sym}
use Rattle.std.specs.Prelude.{MatchResult}
use Rattle.cx_base.specs.Codes.{root_code_of}
use Rattle.cx_core.specs.declared.entry.Base.{Base}
use Rattle.cx_core.specs.Base.{LawfulBase}
use Rattle.recovery.specs.Recovery.{NumbersWithin}
use Rattle.recovery.specs.declared.recovered_base.ImageFault.TheVariants.{Memory}
use Rattle.c_images.specs.Taken.{base_at}
use Rattle.c_images.proofs.Named.{has_size, named}
use Rattle.c_images.proofs.Written.{headed, taken_up}
use Rattle.c_images.proofs.laws.taken_images_are_taken_up.Goals as goal

pub returns-clause-headed : goal.returns-clause-headed
returns-clause-headed g c = λ table kind place region words known running written.
    let long = written.long in
    headed 2 kind table.callers table.lines (root_code_of table.callers place 0) words written.head (inr refl) known (omega (arith, long)) running.some running.few running.enough running.small

pub returns-clause-taken_up : goal.returns-clause-taken_up
returns-clause-taken_up g c = λ table kind place region words answer running lawful written answered.
    let o = table.object in
    let q = g.O.Object in
    let base = base_at place region in
    let of : LawfulBase (q.line_count o) (q.lawful o) base = subst (λ n. LawfulBase n (q.lawful o) base) running.lines lawful in
    taken_up (q.version_number o) (q.lawful o) (q.old_format o) words (λ b. b ≡ base)
    (λ image says recovered is. (
    let same = named kind table.callers table.lines place region words running.some lawful.size.long written image says in
    subst (λ (n : Base). MatchResult recovered (λ b. b ≡ n) (λ fault. fault ≡ Memory)) same
    (c.lawful_bases_are_accepted.ensures o image recovered (has_size kind table.callers table.lines place region words running.some lawful.size.long written image says)
    (subst (LawfulBase (q.line_count o) (q.lawful o)) (sym same) of) is)))
    (λ b same. subst NumbersWithin (sym same) of.numbers)
    answer answered
