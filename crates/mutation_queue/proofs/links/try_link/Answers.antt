use Rattle.std.proofs.Common.{◌≡◌, ◌≢◌, ◌%◌, ◌<◌, ◌≤◌, inl, inr, sym, ap, subst, ◌∙◌, arith}
use Rattle.cx_base.specs.Codes.{link_ticket_of}
use Rattle.cx_core.specs.declared.kinds.Kind.TheVariants.{Link, Look}
use Rattle.cx_core.specs.Events.{Guard}
use Rattle.cx_core.specs.Layout.{cell_count}
use Rattle.cx_core.specs.QueueEvents.{seen_word}
use Rattle.cx_table.specs.Running.{instance_at}
use Rattle.cx_table.specs.Seats.{IsAtLimit, Seated, shown_next, unseen}
use Rattle.cx_table.specs.FoundWords.{KnownOfLink}
use Rattle.mutation_queue.specs.Links.{FindsOpen, LinksAt, LinksPast}
use Rattle.mutation_queue.proofs.Results.{on_err}
use Rattle.mutation_queue.proofs.Tries.{finds_link, finds_loss, front_stays, linked_seen, looked_at, lost_to, may_link, none_open, open_seen, past_front, sees_open, taken, wins, won_at}
use Rattle.mutation_queue.proofs.links.try_link.Goals as goal

pub link-requires : goal.link-requires
link-requires g c =
    let instance = instance_at c.args.shared.now g.O.Object.step g.O.Object.only_reads in
    let s = c.args.seat.now in
    let l = s.known.local in
    let seen = c.in_ok-seen.seen in
    let slot = l.front % cell_count instance.callers in
    let is = sees_open c.args.shared.now g.O.Object.step g.O.Object.only_reads c.args.seat.now c.look.new.seat c.in_ok-seen.seen c.callers-callers.ensures.some c.callers-callers.ensures.value c.front-front.ensures.value c.cell_count.ensures c.in_ok-seen.ensures.made c.if-is_taken.ensures in
    let may = may_link instance l seen is.some is.found_word is.below c.args.cell c.requires.may.few c.requires.may.announced.idle c.requires.may.announced.number c.requires.front c.requires.may.answered in
    record {
      seat = c.in_ok-seen.ensures.made.seat;
      guard = subst (λ (x : Seated). Guard instance unseen (Link c.from.result) x.known.local) (sym is.looked)
          (subst (λ n. Guard instance unseen (Link n) (shown_next instance (Look slot) l seen)) (sym c.from.ensures) may);
    }

pub returns-clause-tried : goal.returns-clause-tried
returns-clause-tried g c =
    let instance = instance_at c.args.shared.now g.O.Object.step g.O.Object.only_reads in
    let s = c.args.seat.now in
    let l = s.known.local in
    let seen = c.in_ok-seen.seen in
    let is = sees_open c.args.shared.now g.O.Object.step g.O.Object.only_reads c.args.seat.now c.look.new.seat c.in_ok-seen.seen c.callers-callers.ensures.some c.callers-callers.ensures.value c.front-front.ensures.value c.cell_count.ensures c.in_ok-seen.ensures.made c.if-is_taken.ensures in
    let found = c.in_ok-found.found in
    let ne : found ≢ seen = c.if-found-seen.false in
    let linked = linked_seen instance s c.look.new.seat c.link.new.seat seen found c.from.result c.args.cell is c.from.ensures c.in_ok-found.ensures.made.made in
    let past = past_front instance l seen is.some is.found_word is.below found (subst (λ (x : Seated). KnownOfLink instance x.known.local found) is.looked c.in_ok-found.ensures.made.found_word) ne in
    let stays = front_stays instance l seen is.some is.found_word is.below in
    let here : c.look.new.seat.known.local.front ≡ l.front = ap (λ (x : Seated). x.known.local.front) is.looked ∙ stays in (
      subst (LinksPast instance.callers s) (sym linked) (lost_to instance s seen found c.args.cell c.in_ok-seen.ensures.made.lawful.cur stays ne past.0 past.1),
      inr (c.look.new.seat, open_seen instance s c.look.new.seat seen is, finds_loss instance c.look.new.seat c.link.new.seat c.from.result seen found (ap (λ (x : Seated). seen_word x.known.local.seen_slot) is.looked) c.in_ok-found.ensures.made.allowed c.in_ok-found.ensures.made.made ne past.0 (omega (arith, here, past.1))),
    )

pub returns-then-is_taken-clause-tried : goal.returns-then-is_taken-clause-tried
returns-then-is_taken-clause-tried g c =
    let instance = instance_at c.args.shared.now g.O.Object.step g.O.Object.only_reads in
    let s = c.args.seat.now in
    let l = s.known.local in
    let callers = instance.callers in
    let seen = c.in_ok-seen.seen in
    let look = looked_at c.args.shared.now g.O.Object.step g.O.Object.only_reads s c.look.new.seat seen c.callers-callers.ensures.value c.front-front.ensures.value c.cell_count.ensures c.in_ok-seen.ensures.made in
    let past : (0 < seen) × (l.front ≤ link_ticket_of callers seen) = subst (λ n. (0 < seen) × (l.front ≤ link_ticket_of n seen)) c.callers-callers.ensures.value
    (subst (λ f. (0 < seen) × (f ≤ link_ticket_of c.callers-callers.result seen)) c.front-front.ensures.value c.if-is_taken.ensures) in (
      subst (LinksPast callers s) (sym look.made) (taken instance s seen look.lawful.cur past.0 past.1),
      inl (finds_link instance s c.look.new.seat seen look.allowed look.made past.0 past.1),
    )

pub returns-in_err-found-clause-halted : goal.returns-in_err-found-clause-halted
returns-in_err-found-clause-halted g c =
    let instance = instance_at c.args.shared.now g.O.Object.step g.O.Object.only_reads in
    let s = c.args.seat.now in
    let is = sees_open c.args.shared.now g.O.Object.step g.O.Object.only_reads c.args.seat.now c.look.new.seat c.in_ok-seen.seen c.callers-callers.ensures.some c.callers-callers.ensures.value c.front-front.ensures.value c.cell_count.ensures c.in_ok-seen.ensures.made c.if-is_taken.ensures in
    let halted = c.in_err-found.ensures.halted in
    let finds = subst (FindsOpen instance.callers s) (sym halted.same) (open_seen instance s c.look.new.seat c.in_ok-seen.seen is) in
    on_err c.from_residual-in_err-found.result _ (none_open instance.callers s c.link.new.seat finds, subst (λ (x : Seated). IsAtLimit x.known.local) (sym halted.same) halted.limit, inr finds)

pub returns-then-found-seen-clause-tried : goal.returns-then-found-seen-clause-tried
returns-then-found-seen-clause-tried g c =
    let instance = instance_at c.args.shared.now g.O.Object.step g.O.Object.only_reads in
    let s = c.args.seat.now in
    let l = s.known.local in
    let seen = c.in_ok-seen.seen in
    let is = sees_open c.args.shared.now g.O.Object.step g.O.Object.only_reads c.args.seat.now c.look.new.seat c.in_ok-seen.seen c.callers-callers.ensures.some c.callers-callers.ensures.value c.front-front.ensures.value c.cell_count.ensures c.in_ok-seen.ensures.made c.if-is_taken.ensures in
    let found = c.in_ok-found.found in
    let e : found ≡ seen = c.if-found-seen.true in
    let linked = linked_seen instance s c.look.new.seat c.link.new.seat seen found c.from.result c.args.cell is c.from.ensures c.in_ok-found.ensures.made.made in (
      subst (λ n. LinksAt c.args.cell n s c.link.new.seat) (sym c.front-front.ensures.value) (subst (LinksAt c.args.cell l.front s) (sym linked) (won_at instance s seen found c.args.cell (front_stays instance l seen is.some is.found_word is.below) e)),
      wins instance s c.look.new.seat c.link.new.seat c.args.cell c.from.result seen found (open_seen instance s c.look.new.seat seen is) (ap (λ (x : Seated). seen_word x.known.local.seen_slot) is.looked) c.in_ok-found.ensures.made.allowed c.in_ok-found.ensures.made.made e c.from.ensures,
    )
