-- What is recorded of a life whose pool was closed.
use Rattle.std.proofs.Common.{◌≡◌, ◌∙◌, ◌+◌, ◌^◌, ◌≤◌, inl, inr, Bool, true, ℕ, List, [], arith, length, subst, sym}
use Rattle.std.specs.Prelude.{All}
use Rattle.std.proofs.lemmas.List.Elements.{All-weaker}
use Rattle.std.proofs.lemmas.Slice.Zip.{AllZip-long}
use Rattle.atomic_table.specs.Seated.{TableId}
use Rattle.cx_core.specs.Base.{LawfulBase}
use Rattle.cx_core.specs.State.{Instance}
use Rattle.cx_lives.proofs.Lists.{all_at}
use Rattle.table_invariant.specs.Running.{Running, instance_at}
use Rattle.cx_service.specs.Closes.{seats_of}
use Rattle.cx_table.specs.declared.remains.Remains.{Remains}
use Rattle.client_pool.specs.Answers.{AreAnswered, AreWhole, IsCallOf}
use Rattle.client_pool.specs.Clients.{HasCalls}
use Rattle.client_pool.specs.Lending.{is_live}
use Rattle.client_pool.specs.Pools.{IsClosed}
use Rattle.client_pool.specs.declared.client.Client.{Client}
use Rattle.life_records.proofs.TypedSteps.{TypedSteps}
use Rattle.life_records.specs.Journal.{IsByTicket}
use Rattle.life_records.specs.Lives.{answers_of}
use Rattle.life_records.specs.Records.{Life, LifeRecord, Meaning, ReadLine}
use Rattle.life_records.specs.Works.{AreWorks}
use Rattle.pool_lives.specs.Recorded.{AreAnswersInTurn}
use Rattle.pool_lives.proofs.Ghosts.{locals_long}
use Rattle.pool_lives.proofs.Impossible.{fewer_in_all, no_bad_call}
use Rattle.pool_lives.proofs.Recording.{callers_are, entries_long, has_tickets, in_turn}
use Rattle.pool_lives.specs.Asking.{MayAsk}
use Rattle.pool_lives.specs.Gathering.{AreClientsGathered, ClientHasImpossibleEnd, HaveLines}
use Rattle.pool_lives.specs.Ghosts.{locals_from}
use Rattle.pool_lives.specs.Running.{HasMet}
use Rattle.pool_lives.specs.declared.gather.GatheredClients.{GatheredClients}

module _ {O Op Reply Store : Type 0} (m : Meaning Op Reply Store) (steps : O → List ℕ → List ℕ → List ℕ × List ℕ) (readings : O → List ℕ → Bool) (life : Life Op) (r : Running O) (table : TableId) (g : GatheredClients Reply) (gathered : AreClientsGathered m life r table g) (remains : Remains)
    (closed : IsClosed r (instance_at r steps readings) g.clients.items remains) where
  abbrev inst : Instance
  inst = instance_at r steps readings

  abbrev answered : AreAnswered inst remains.trail.history remains.trail.locals gathered.calls
  answered = closed.answered gathered.calls gathered.has

  whole : AreWhole r.base.place remains.trail.history gathered.calls
  whole = closed.whole (All-weaker (MayAsk r table) (λ (c : Client). is_live c.lent.kept ≡ true) (λ c may. may.live) g.clients.items gathered.each) gathered.calls gathered.has

  -- the record of the life
  pub met : length g.clients.items ≡ life.clients → HaveLines m life gathered.calls g.lines.entries.items g.lines.reads.items → (report : LifeRecord Reply) → IsByTicket g.lines.entries.items report.journal → report.reads ≡ g.lines.reads.items → report.clients ≡ life.clients → report.choice ≡ life.choice
      → report.from ≡ r.base.place → report.stops ≡ [] → report.fulls ≡ [] → HasMet m steps readings life r report remains
  met all lines report sorted reads clients choice from stops fulls =
      let calls = gathered.calls in
      let es = g.lines.entries.items in
      let rs = g.lines.reads.items in
      let history = remains.trail.history in
      let locals = remains.trail.locals in
      record {
        seats = seats_of closed.handed;
        leaves = closed.leaves;
        order = closed.order;
        clients = locals_from 0 calls;
        count = locals_long 0 calls ∙ AllZip-long (HasCalls r) g.clients.items calls gathered.has ∙ all;
        entries = es;
        works = subst (λ (xs : List (ReadLine Reply)). AreWorks m.encoding life (locals_from 0 calls) es xs [] []) (sym reads) lines.works;
        sorted = sorted;
        long = entries_long m life calls es rs lines inst history locals answered whole;
        tickets = has_tickets m life calls es rs lines inst history locals answered whole;
        calls = callers_are m life calls es rs lines inst history locals answered whole;
        in_turn = subst (λ (xs : List (ReadLine Reply)). AreAnswersInTurn (answers_of es xs)) (sym reads) (in_turn m life calls es rs lines inst history locals answered whole);
        clients_are = clients;
        choice = choice;
        from = from;
        stops = stops;
        fulls = fulls;
      }

-- no client of a closed pool met what cannot be: that there was no further ticket, or that words of an answer are no reply
module _ {O Op Reply Store : Type 0} (t : TypedSteps Op Reply Store) (steps : O → List ℕ → List ℕ → List ℕ × List ℕ) (readings : O → List ℕ → Bool) (life : Life Op) (r : Running O) (table : TableId) (g : GatheredClients Reply) (gathered : AreClientsGathered t.meaning life r table g) (remains : Remains)
    (closed : IsClosed r (instance_at r steps readings) g.clients.items remains) (step_is : steps r.object ≡ t.step) (base : LawfulBase t.lines t.lawful r.base) (tickets : r.base.place + length life.commands ≤ 2 ^ 40) where
  pub impossible : ClientHasImpossibleEnd t.meaning life g.clients.items gathered.calls → ⊥
  impossible h =
      let inst = instance_at r steps readings in
      let all = answered t.meaning steps readings life r table g gathered remains closed in
      let leaves = closed.leaves in
      elim h.cannot [
        | inl worn ↦ (
            let front = closed.fronts h.number h.client worn.last.last h.there worn.last.keeps in
            let count = (whole t.meaning steps readings life r table g gathered remains closed).count in
            let fewer = fewer_in_all life gathered.calls h.number h.own gathered.few h.of_client worn.fewer in
            omega (arith, front, worn.last.front, count, fewer, tickets))
        | inr bad ↦ no_bad_call t inst step_is base (record { words = leaves.words; locals = leaves.whole }) leaves.state remains.trail.history leaves.history h.own bad
            (all_at (All (IsCallOf inst remains.trail.history)) gathered.calls h.number h.own all.each h.of_client)
      ]
