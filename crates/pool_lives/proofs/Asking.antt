-- A client asks again and again.
use Rattle.std.proofs.Common.{◌≡◌, ◌∙◌, ℕ, true, List, [], Option, Some, ap, refl, subst, sym, arith}
use Rattle.std.proofs.lemmas.List.Elements.{All-head}
use Rattle.atomic_table.specs.Seated.{TableId}
use Rattle.crossbeam_queue.specs.Passes.{view}
use Rattle.cx_core.specs.declared.local.FullNote.{FullNote}
use Rattle.table_invariant.specs.Running.{Running}
use Rattle.table_invariant.specs.Seats.{Seated}
use Rattle.cx_service.specs.Callers.{StoppedSeat}
use Rattle.cx_service.specs.declared.close.Handed.TheVariants.{Stopped}
use Rattle.seat_pool.specs.Gathering.{IsHandedOf}
use Rattle.client_pool.specs.Clients.{HasMade, HasNoMore, IsSameClient}
use Rattle.client_pool.specs.Lending.{HoldsKept, KeepsFull, KeepsStopped, KeepsWorn, is_live}
use Rattle.client_pool.specs.declared.call.Call.{Call}
use Rattle.client_pool.specs.declared.client.Client.{Client}
use Rattle.pool_lives.specs.Asking.{AreUnlimited, ClientRequestEnds, KeepsLast, MayAsk}
use Rattle.pool_lives.specs.declared.calls.CallOutcome.{CallOutcome}
use Rattle.pool_lives.specs.declared.calls.CallOutcome.TheVariants.{Done, Read, Worn}

pub same_on : (a b c : Client) → IsSameClient a b → IsSameClient b c → IsSameClient a c
same_on a b c s t = record { number = t.number ∙ s.number; limits = t.limits ∙ s.limits; closing = t.closing ∙ s.closing }

module _ {O : Type 0} (r : Running O) (table : TableId) where
  pub begun : (client : Client) → MayAsk r table client → HasNoMore r table client client
  begun client may = record { client = may.is; same = record { number = refl; limits = refl; closing = refl }; answers = refl; floor = refl; seen = refl; calls = λ calls has. has }

  module _ (a b c : Client) (less : HasNoMore r table a b) where
    pub again : HasNoMore r table b c → HasNoMore r table a c
    again more = record {
      client = more.client;
      same = same_on a b c less.same more.same;
      answers = more.answers ∙ less.answers;
      floor = more.floor ∙ less.floor;
      seen = more.seen ∙ less.seen;
      calls = λ calls has. more.calls calls (less.calls calls has);
    }

    made_since : (call : Call) → HasMade r table b c call → HasMade r table a c call
    made_since call made = record {
      client = made.client;
      back = made.back;
      same = same_on a b c less.same made.same;
      seen = made.seen ∙ less.seen;
      from = (let from = made.from in let same = less.seen in omega (arith, from, same));
      calls = λ calls has. made.calls calls (less.calls calls has);
    }

    pub asked_since : (op reply : List ℕ) (asked : CallOutcome) → ClientRequestEnds r table op reply b c asked → ClientRequestEnds r table op reply a c asked
    asked_since op reply (Done ticket) u = record { call = u.call; is = u.is; made = made_since _ u.made }
    asked_since op reply (Read place) u = record { read = u.read; is = u.is; made = made_since _ u.made }
    asked_since op reply Worn u = (again u.0, u.1)

  module _ (a b : Client) (may : MayAsk r table a) where
    pub may_still : (kept : is_live b.lent.kept ≡ true) → HasNoMore r table a b → MayAsk r table b
    may_still live more = record { is = more.client; live = live; unlimited = subst AreUnlimited (sym more.same.limits) may.unlimited }

    pub may_again : (call : Call) → HasMade r table a b call → MayAsk r table b
    may_again call made = record { is = made.client; live = ap is_live made.back; unlimited = subst AreUnlimited (sym made.same.limits) may.unlimited }

    -- no cell was idle
    pub full_again : (way : Seated → Seated → Type 0) (note : FullNote) → HasNoMore r table a b × KeepsFull r table way a.lent b.lent note → HasNoMore r table a b × MayAsk r table b
    full_again way note u = (u.0, may_still (ap is_live u.1.keeps) u.0)

    -- there was no further ticket
    pub worn_ends : (way : Seated → Seated → Type 0) → HasNoMore r table a b × KeepsWorn r table way a.lent b.lent → HasNoMore r table a b × KeepsLast b
    worn_ends way u = (u.0, record { last = u.1.now; keeps = u.1.keeps; front = u.1.worn.front })

    -- no caller is stopped that has no limit
    pub not_stopped : (halts : Seated → StoppedSeat → Type 0) (linked : Option ℕ) → HasNoMore r table a b × KeepsStopped r table halts a.lent b.lent linked → ⊥
    not_stopped halts linked u =
        let s = u.1.stopped in
        let holds : HoldsKept r (view b.lent.pass) (Some (Stopped s)) = subst (HoldsKept r (view b.lent.pass)) u.1.keeps u.1.lent.kept in
        let is = All-head (IsHandedOf r) (Stopped s) [] holds.0.of in
        let limit = subst AreUnlimited (sym u.0.same.limits) may.unlimited s.seat.known.local.number s.seat.known.local.limit holds.1 in
        let less = is.limit.1 in
        omega (arith, limit, less)
