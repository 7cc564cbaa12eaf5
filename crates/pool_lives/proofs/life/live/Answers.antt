use Rattle.std.proofs.Common.{rules, ◌≡◌, ◌∙◌, ◌+◌, ◌^◌, ◌≤◌, ap, arith, length, map, subst, sym}
use Rattle.std.specs.Prelude.{All, MatchBool}
use Rattle.std.proofs.lemmas.List.Sorted.{IsNonDecreasingBy-from_sort_by_key}
use Rattle.cx_core.specs.Base.{LawfulBase}
use Rattle.cx_core.specs.declared.entry.Base.{Base}
use Rattle.table_invariant.specs.Running.{Running}
use Rattle.table_invariant.specs.Seats.{Seated}
use Rattle.client_pool.specs.declared.client.Client.{Client}
use Rattle.life_records.proofs.TypedSteps.{typed_steps}
use Rattle.life_records.specs.Journal.{IsByTicket}
use Rattle.life_records.specs.Records.{JournalLine, LifeRecord}
use Rattle.cx_lives.proofs.Gathering.{numbered}
use Rattle.pool_lives.proofs.Living.{met, impossible}
use Rattle.pool_lives.proofs.Opening.{all_clients, all_new}
use Rattle.pool_lives.specs.Gathering.{ClientHasImpossibleEnd, HaveLines}
use Rattle.pool_lives.specs.Running.{HasMet}
use Rattle.pool_lives.specs.Working.{ClientServedOf, IsUncalledIn}
use Rattle.pool_lives.proofs.life.live.Goals as goal

pub run_workers-requires-clause-pool : goal.run_workers-requires-clause-pool
run_workers-requires-clause-pool g c κs within =
    let opened = c.in-Ok.ensures.opened in
    record { ready = opened.1; same = ap (λ (x : Running g.row.O.Denot). x.object) opened.0 ∙ c.requires.ready.same; is_life = c.requires.life.0 }

pub run_workers-requires-clause-clients : goal.run_workers-requires-clause-clients
run_workers-requires-clause-clients g c κs within =
    let opened = c.in-Ok.ensures.opened in
    let table = c.in-Ok.pool.line.table.shared.table_id in
    let limits = map (λ (s : Seated). s.known.local.limit) c.args.callers.items in
    let items = c.in-Ok.clients.items in
    subst (λ r. All (IsUncalledIn r table c.args.life.now.clients) items) (sym opened.0)
    (subst (λ n. All (IsUncalledIn c.args.service table n) items) c.clients-count.ensures (all_new c.args.service table limits c.clients-count.result items opened.2 c.requires.ready.unlimited))

pub gather-requires-after_bounds : goal.gather-requires-after_bounds
gather-requires-after_bounds g c κs within =
    let clients = c.in-Ok.clients in
    let works = c.in_ok-works.works in
    let e = c.in_ok-works.ensures in
    numbered (ClientServedOf (g.O.TypedObject.meaning c.args.object.now) c.args.life.now c.in-Ok.pool.service c.in-Ok.pool.line.table.shared.table_id c.args.life.now.clients) (λ (x : Client). x.number) 0 clients.items works.items (omega (arith, works.ok.0, clients.ok.0, e.len)) c.in-Ok.ensures.opened.2.clients_are.numbers e.each

pub close-requires : goal.close-requires
close-requires g c =
    let e = c.in_ok-clients.ensures in
    let all : length c.in_ok-clients.field-0.clients.items ≡ c.args.life.now.clients =
    omega (arith, e.all, c.in_ok-works.ensures.len, c.in-Ok.clients.ok.0, c.in-Ok.ensures.opened.2.count_is, c.clients-count.ensures) in
    all_clients c.in-Ok.pool.service c.in-Ok.pool.line.table.shared.table_id (g.O.TypedObject.meaning c.args.object.now) c.args.life.now c.in_ok-clients.field-0 e.gathered all c.requires.life.0.limits.some

pub unreachable-requires : goal.unreachable-requires
unreachable-requires g c =
    let o = c.args.object.now in
    let life = c.args.life.now in
    let r = c.in-Ok.pool.service in
    let same : r ≡ c.args.service = c.in-Ok.ensures.opened.0 in
    let object_is = c.requires.ready.same in
    let gathered = c.in_ok-clients.ensures.gathered in
    let f = c.in_ok-clients.field-0 in
    let t = typed_steps _ _ (g.O.Object.opening o) _ (g.O.Object.only_reads o) (g.O.TypedObject.meaning o) c.steps_are_meant.ensures.object c.steps_are_meant.ensures.means in
    let running = c.lines-lines.ensures.running in
    let base : LawfulBase (g.O.Object.line_count o) (g.O.Object.lawful o) r.base =
    subst (λ (b : Base). LawfulBase (g.O.Object.line_count o) (g.O.Object.lawful o) b) (sym (ap (λ (x : Running g.row.O.Denot). x.base) same))
    (subst (λ x. LawfulBase (g.O.Object.line_count x) (g.O.Object.lawful x) c.args.service.base) object_is
    (subst (λ n. LawfulBase n (g.O.Object.lawful c.args.service.object) c.args.service.base) running.lines running.base)) in
    let step_is = ap g.O.Object.step (ap (λ (x : Running g.row.O.Denot). x.object) same ∙ object_is) in
    let tickets : r.base.place + length life.commands ≤ 2 ^ 40 = subst (λ (x : Running g.row.O.Denot). x.base.place + length life.commands ≤ 2 ^ 40) (sym same) c.requires.life.1 in
    let has : ClientHasImpossibleEnd (g.O.TypedObject.meaning o) life f.clients.items gathered.calls =
    subst (λ b. MatchBool b (ClientHasImpossibleEnd (g.O.TypedObject.meaning o) life f.clients.items gathered.calls) (HaveLines (g.O.TypedObject.meaning o) life gathered.calls f.lines.entries.items f.lines.reads.items)) c.if-impossible.true gathered.works in
    impossible t g.O.Object.step g.O.Object.only_reads life r c.in-Ok.pool.line.table.shared.table_id f gathered c.in-Ok-close.remains c.in-Ok-close.ensures.remains step_is base tickets has

pub returns : goal.returns
returns g c =
    let o = c.args.object.now in
    let m = g.O.TypedObject.meaning o in
    let life = c.args.life.now in
    let r = c.in-Ok.pool.service in
    let same : r ≡ c.args.service = c.in-Ok.ensures.opened.0 in
    let gathered = c.in_ok-clients.ensures.gathered in
    let f = c.in_ok-clients.field-0 in
    let es = f.lines.entries.items in
    let journal = c.sort_unstable_by_key.new.self.items in
    let closed = c.in-Ok-close.ensures.remains in
    let lines : HaveLines m life gathered.calls es f.lines.reads.items =
    subst (λ b. MatchBool b (ClientHasImpossibleEnd m life f.clients.items gathered.calls) (HaveLines m life gathered.calls es f.lines.reads.items)) c.if-impossible.false gathered.works in
    let sorted : IsByTicket es journal = record {
      moved = c.sort_unstable_by_key.ensures.permutation;
      up = IsNonDecreasingBy-from_sort_by_key (λ (l : JournalLine g.row.O-Reply.Denot). l.ticket) journal c.sort_unstable_by_key.ensures.sorted (λ a x q k. search rules);
    } in
    let all : length f.clients.items ≡ life.clients =
    omega (arith, c.in_ok-clients.ensures.all, c.in_ok-works.ensures.len, c.in-Ok.clients.ok.0, c.in-Ok.ensures.opened.2.count_is, c.clients-count.ensures) in
    let report : LifeRecord g.row.O-Reply.Denot = record {
      clients = c.clients-count.result;
      from = c.in-Ok-close.remains.first;
      journal = c.of-journal.result;
      reads = c.of-reads.result;
      stops = c.new-stops.result;
      fulls = c.new-fulls.result;
      choice = c.choice-choice.result;
      kept = 0;
      items = 0;
    } in
    subst (λ x. HasMet m g.O.Object.step g.O.Object.only_reads life x report c.in-Ok-close.remains) same
    (met m g.O.Object.step g.O.Object.only_reads life r c.in-Ok.pool.line.table.shared.table_id f gathered c.in-Ok-close.remains closed all lines report (subst (IsByTicket es) (sym c.of-journal.ensures) sorted) c.of-reads.ensures c.clients-count.ensures c.choice-choice.ensures
    closed.leaves.first c.new-stops.ensures c.new-fulls.ensures)
