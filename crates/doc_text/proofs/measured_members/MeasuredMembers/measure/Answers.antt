use Rattle.std.proofs.Common.{sym}
use Rattle.doc_text.proofs.Measures.{many_long}
use Rattle.doc_text.proofs.measured_members.MeasuredMembers.measure.Goals as goal

pub returns-then-self : goal.returns-then-self
returns-then-self c = λ ms noted.
    let many = noted.many c.if-self.true in
    record { float = sym many.1; least = many_long ms many.0 }
