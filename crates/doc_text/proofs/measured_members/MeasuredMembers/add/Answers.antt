use Rattle.std.proofs.Common.{sym, ◌∙◌, arith, true≢false, string_bytes}
use Rattle.serde_json.specs.Data.{put}
use Rattle.doc_text.proofs.Measures.{described-many, described-few, measured-length}
use Rattle.doc_text.proofs.measured_members.MeasuredMembers.add.Goals as goal
use Rattle.doc_text.proofs.measured_members.MeasuredMembers.add.Goals.{then-member, else-member}

pub returns-then-self-clause-ok : goal.returns-then-self-clause-ok
returns-then-self-clause-ok c = elim c.if-member.branch [
  | then-member w ↦ rw w.result-is tt
  | else-member w ↦ rw w.result-is (λ d ms is noted. described-many c.args.self.now (string_bytes c.args.key) c.args.member d ms c.if-self.true w.if-member.false is noted)
]

pub returns-then-len-lt-MANY-clause-ok : goal.returns-then-len-lt-MANY-clause-ok
returns-then-len-lt-MANY-clause-ok c = λ d ms is noted. record {
  few = λ _. described-few c.insert.new.self c.args.self.now c.args.key c.args.member d ms c.if-self.false c.in_ok-insert.ensures.entries is noted;
  many = λ many. absurd (true≢false (sym many ∙ c.if-self.false));
}

pub returns-clause-ok : goal.returns-clause-ok
returns-clause-ok c = λ d ms is noted.
    let are = described-few c.insert.new.self c.args.self.now c.args.key c.args.member d ms c.if-self.false c.in_ok-insert.ensures.entries is noted in
    record {
      few = λ few. absurd (true≢false few);
      many = λ _. (
        omega (arith, c.if-len-lt-MANY.false, c.len.ensures.len, measured-length c.insert.new.self.entries (put (string_bytes c.args.key) d ms) are),
        sym (c.measure_of.ensures (put (string_bytes c.args.key) d ms) are).float ∙ c.if-measure_of.false,
      );
    }
