use Rattle.std.proofs.Common.{rules, ◌≡◌, ◌∙◌, List, ap, arith, length, refl, subst, sym}
use Rattle.std.specs.Prelude.{MatchBool}
use Rattle.std.specs.List.{range_with_len}
use Rattle.std.proofs.lemmas.List.Sorted.{IsNonDecreasingBy-from_sort_by_key}
use Rattle.cx_core.specs.declared.local.Local.{Local}
use Rattle.table_invariant.specs.Running.{instance_at}
use Rattle.table_invariant.specs.Seats.{Seated}
use Rattle.cx_service.specs.Closes.{seats_of}
use Rattle.life_records.specs.Journal.{IsByTicket, IsRecordOf}
use Rattle.life_records.specs.Told.{IsTold}
use Rattle.life_records.specs.Works.{AreWorks}
use Rattle.life_records.proofs.TypedSteps.{typed_steps}
use Rattle.life_records.specs.Records.{JournalLine, LifeRecord}
use Rattle.cx_lives.specs.Gathering.{HasImpossibleEnd}
use Rattle.cx_lives.specs.Works.{ServedOf}
use Rattle.cx_lives.proofs.Gathering.{gathered_seats, locals_in, locals_long, numbered, seats_long}
use Rattle.cx_core.specs.Base.{LawfulBase}
use Rattle.cx_lives.proofs.Impossible.{impossible}
use Rattle.cx_lives.proofs.life.run_life.Goals as goal

pub finish_and_gather-requires-clause-works : goal.finish_and_gather-requires-clause-works
finish_and_gather-requires-clause-works g c = λ κs lives.
    let callers = c.args.callers in
    let works = c.in_ok-works.works in
    let few = seats_long c.args.service callers.items c.requires.seats in
    numbered (ServedOf (g.O.TypedObject.meaning c.args.service.object) c.args.life.now c.args.service) (λ (s : Seated). s.known.local.number) 0 callers.items works.items (omega (arith, works.ok.0, callers.ok.0, c.in_ok-works.ensures.len))
    (c.requires.seats.numbers ∙ ap (range_with_len 0) (sym few)) c.in_ok-works.ensures.each

pub close-requires : goal.close-requires
close-requires g c =
    let e = c.in_ok-handed.ensures in
    gathered_seats (g.O.TypedObject.meaning c.args.service.object) c.args.life.now c.args.service c.args.callers.items c.in_ok-handed.field-0 c.requires.seats (omega (arith, e.all, c.args.callers.ok.0, c.in_ok-works.ensures.len)) e.gathered

pub unreachable-requires : goal.unreachable-requires
unreachable-requires g c =
    let life = c.args.life.now in
    let r = c.args.service in
    let f = c.in_ok-handed.field-0 in
    let ls = locals_in f.handed.items in
    let gathered = c.in_ok-handed.ensures.gathered in
    let left = c.in-Ok.ensures.remains.leaves in
    let base = c.lines-lines.ensures.running.base in
    let has : HasImpossibleEnd (g.O.TypedObject.meaning c.args.service.object) life ls = subst (λ b. MatchBool b (HasImpossibleEnd (g.O.TypedObject.meaning c.args.service.object) life ls) (AreWorks (g.O.TypedObject.meaning c.args.service.object).encoding life ls f.lines.entries.items f.lines.reads.items f.ends.stops.items f.ends.fulls.items)) c.if-impossible.true gathered.works in
    let o = r.object in
    let t = typed_steps _ _ (g.O.Object.opening o) _ (g.O.Object.only_reads o) (g.O.TypedObject.meaning o) c.object_is_meant.ensures.object c.object_is_meant.ensures.means in
    let at_lines = subst (λ n. LawfulBase n (g.O.Object.lawful o) r.base) c.lines-lines.ensures.running.lines base in
    impossible t life (instance_at r g.O.Object.step g.O.Object.only_reads) refl at_lines left.words left.whole left.state ls left.shows gathered.each c.requires.tickets has

pub returns : goal.returns
returns g c =
    let life = c.args.life.now in
    let place = c.args.service.base.place in
    let f = c.in_ok-handed.field-0 in
    let handed = f.handed.items in
    let ls = locals_in handed in
    let gathered = c.in_ok-handed.ensures.gathered in
    let left = c.in-Ok.ensures.remains.leaves in
    let history = c.in-Ok.remains.trail.history in
    let journal = c.sort_unstable_by_key.new.self.items in
    let works : AreWorks (g.O.TypedObject.meaning c.args.service.object).encoding life ls f.lines.entries.items f.lines.reads.items f.ends.stops.items f.ends.fulls.items =
    subst (λ b. MatchBool b (HasImpossibleEnd (g.O.TypedObject.meaning c.args.service.object) life ls) (AreWorks (g.O.TypedObject.meaning c.args.service.object).encoding life ls f.lines.entries.items f.lines.reads.items f.ends.stops.items f.ends.fulls.items)) c.if-impossible.false gathered.works in
    let sorted : IsByTicket f.lines.entries.items journal = record {
      moved = c.sort_unstable_by_key.ensures.permutation;
      up = IsNonDecreasingBy-from_sort_by_key (λ (l : JournalLine g.row.O-Reply.Denot). l.ticket) journal c.sort_unstable_by_key.ensures.sorted (λ a r q k. search rules);
    } in
    let laws = c.journals_are_told.ensures in
    let still = laws.works (g.O.TypedObject.meaning c.args.service.object).encoding life place history ls f.lines.entries.items journal f.lines.reads.items f.ends.stops.items f.ends.fulls.items works left.merged sorted in
    let clients : length ls ≡ c.clients-clients.result = omega (arith, c.clients-clients.ensures, locals_long handed, c.in_ok-handed.ensures.all, c.in_ok-works.ensures.len, c.args.callers.ok.0, c.requires.clients) in
    let made : LifeRecord g.row.O-Reply.Denot = record { clients = c.clients-clients.result; from = c.in-Ok.remains.first; journal = c.of.result; reads = c.of-2.result; stops = c.of-3.result; fulls = c.of-4.result; choice = c.choice-choice.result; kept = 0; items = 0 } in
    let is : IsRecordOf place ls journal f.lines.reads.items f.ends.stops.items f.ends.fulls.items made = record {
      clients = sym clients;
      from = left.first;
      journal_is = c.of.ensures;
      reads_are = c.of-2.ensures;
      stops_are = c.of-3.ensures;
      fulls_are = c.of-4.ensures;
    } in
    let is_told = laws.is_told (g.O.TypedObject.meaning c.args.service.object).encoding life place history ls f.lines.entries.items journal f.lines.reads.items f.ends.stops.items f.ends.fulls.items works left.merged sorted c.in_ok-handed.ensures.stopped made is (clients ∙ c.clients-clients.ensures) (λ client l at. (gathered.each client l at).limit) in
    record {
      seats = seats_of handed;
      are = gathered_seats (g.O.TypedObject.meaning c.args.service.object) life c.args.service c.args.callers.items f c.requires.seats (omega (arith, c.in_ok-handed.ensures.all, c.args.callers.ok.0, c.in_ok-works.ensures.len)) gathered;
      leaves = left;
      order = c.in-Ok.ensures.remains.order;
      is_told = subst (λ (xs : List Local). IsTold (g.O.TypedObject.meaning c.args.service.object).encoding life place history xs made) (sym left.locals) is_told;
      works = rw (left.locals, c.of.ensures, c.of-2.ensures, c.of-3.ensures, c.of-4.ensures) still;
      choice = c.choice-choice.ensures;
      kept = refl;
      items = refl;
    }
