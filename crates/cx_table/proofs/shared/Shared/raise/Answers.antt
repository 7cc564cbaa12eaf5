use Rattle.std.proofs.Common.{ap, rules, subst, ◌∙◌}
use Rattle.table_invariant.specs.Running.{IsTableWithinLimits, Running}
use Rattle.table_invariant.specs.Seats.{Seated, known_of}
use Rattle.cx_table.proofs.Handing.{laws_at}
use Rattle.caller_cache.proofs.Raising.{dur_within, raise_learned, raised_fits, raised_made}
use Rattle.caller_cache.specs.Raised.{raised_summary}
use Rattle.cx_table.proofs.shared.Shared.raise.Goals as goal

pub raise_learned-found-requires-clause-on : goal.raise_learned-found-requires-clause-on
raise_learned-found-requires-clause-on g c = record {
  table_is = search rules;
  one = search rules;
  within = dur_within (subst (IsTableWithinLimits g.O.Object.line_count g.O.Object.lawful) c.self.view_is c.self.invariant.0);
}

pub raise_learned-found-requires-clause-learns : goal.raise_learned-found-requires-clause-learns
raise_learned-found-requires-clause-learns g c =
    let running = (subst (IsTableWithinLimits g.O.Object.line_count g.O.Object.lawful) c.self.view_is c.self.invariant.0) in
    let laws = (laws_at g.O.Object.line_count g.O.Object.lawful g.O.Object.step c.args.self.now (subst (IsTableWithinLimits g.O.Object.line_count g.O.Object.lawful) c.self.view_is c.self.invariant.0) g.met.O.Object.keeps (λ o image law. (g.met.O.Object.shape o image law).0) g.met.O.Object.replies) in
    let learned = raise_learned g.O.Object.line_count g.O.Object.lawful g.O.Object.step g.O.Object.only_reads c.args.self.now c.args.code c.args.read (known_of c.seat.inside.seat.me.0) c.args.seat.now running
    laws (ap (λ (s : Seated). s.known) c.seat.view_is) c.requires.may.guard c.requires.replies.1 in
    (c.requires.replies.0.0, learned c.requires.replies.0.0 c.requires.replies.0.1)

pub invariant_of-seat : goal.invariant_of-seat
invariant_of-seat g c =
    let running = (subst (IsTableWithinLimits g.O.Object.line_count g.O.Object.lawful) c.self.view_is c.self.invariant.0) in
    let laws = (laws_at g.O.Object.line_count g.O.Object.lawful g.O.Object.step c.args.self.now (subst (IsTableWithinLimits g.O.Object.line_count g.O.Object.lawful) c.self.view_is c.self.invariant.0) g.met.O.Object.keeps (λ o image law. (g.met.O.Object.shape o image law).0) g.met.O.Object.replies) in
    let learned = raise_learned g.O.Object.line_count g.O.Object.lawful g.O.Object.step g.O.Object.only_reads c.args.self.now c.args.code c.args.read (known_of c.seat.inside.seat.me.0) c.args.seat.now running
    laws (ap (λ (s : Seated). s.known) c.seat.view_is) c.requires.may.guard c.requires.replies.1 in
    (raised_made c.args.self.now g.O.Object.step g.O.Object.only_reads c.args.self.now.lines (g.O.Object.lawful c.args.self.now.object) c.args.code c.args.read _ _ _ _ c.seat.inside.copy _ _ _ c.requires.replies.0.0 c.self.inside.callers.number c.args.seat.now
    c.seat.invariant c.seat.view_is c.in_ok-check.ensures c.requires.may.seat c.requires.may.guard c.raise_learned-found.ensures.table c.requires.replies.0.1
    (c.raise_learned-found.ensures.taught c.requires.replies.0.0 (learned c.requires.replies.0.0 c.requires.replies.0.1)) (ap (λ (r : Running _). r.callers) c.self.view_is)
    (c.raise.ensures ∙ ap (λ b. raised_summary c.self.inside.callers.number c.args.code b c.seat.inside.summary) c.is_some-reads.ensures)).0

pub returns : goal.returns
returns g c = record {
  made = λ answers tells. (
      let running = (subst (IsTableWithinLimits g.O.Object.line_count g.O.Object.lawful) c.self.view_is c.self.invariant.0) in
      let laws = (laws_at g.O.Object.line_count g.O.Object.lawful g.O.Object.step c.args.self.now (subst (IsTableWithinLimits g.O.Object.line_count g.O.Object.lawful) c.self.view_is c.self.invariant.0) g.met.O.Object.keeps (λ o image law. (g.met.O.Object.shape o image law).0) g.met.O.Object.replies) in
      let learned = raise_learned g.O.Object.line_count g.O.Object.lawful g.O.Object.step g.O.Object.only_reads c.args.self.now c.args.code c.args.read (known_of c.seat.inside.seat.me.0) c.args.seat.now running
      laws (ap (λ (s : Seated). s.known) c.seat.view_is) c.requires.may.guard c.requires.replies.1 in
      (raised_made c.args.self.now g.O.Object.step g.O.Object.only_reads c.args.self.now.lines (g.O.Object.lawful c.args.self.now.object) c.args.code c.args.read _ _ _ _ c.seat.inside.copy _ _ _ answers c.self.inside.callers.number c.args.seat.now
      c.seat.invariant c.seat.view_is c.in_ok-check.ensures c.requires.may.seat c.requires.may.guard c.raise_learned-found.ensures.table tells
      (c.raise_learned-found.ensures.taught answers (learned answers tells)) (ap (λ (r : Running _). r.callers) c.self.view_is)
      (c.raise.ensures ∙ ap (λ b. raised_summary c.self.inside.callers.number c.args.code b c.seat.inside.summary) c.is_some-reads.ensures)).1);
  fits = let running = (subst (IsTableWithinLimits g.O.Object.line_count g.O.Object.lawful) c.self.view_is c.self.invariant.0) in
      let laws = (laws_at g.O.Object.line_count g.O.Object.lawful g.O.Object.step c.args.self.now (subst (IsTableWithinLimits g.O.Object.line_count g.O.Object.lawful) c.self.view_is c.self.invariant.0) g.met.O.Object.keeps (λ o image law. (g.met.O.Object.shape o image law).0) g.met.O.Object.replies) in
      let learned = raise_learned g.O.Object.line_count g.O.Object.lawful g.O.Object.step g.O.Object.only_reads c.args.self.now c.args.code c.args.read (known_of c.seat.inside.seat.me.0) c.args.seat.now running
      laws (ap (λ (s : Seated). s.known) c.seat.view_is) c.requires.may.guard c.requires.replies.1 in
      raised_fits g.O.Object.line_count g.O.Object.lawful g.O.Object.step g.O.Object.only_reads c.args.self.now c.args.code c.requires.replies.0.0 c.args.read (known_of c.seat.inside.seat.me.0) _ running laws
      (c.raise_learned-found.ensures.taught c.requires.replies.0.0 (learned c.requires.replies.0.0 c.requires.replies.0.1));
  halted = tt;
}
