use Rattle.std.proofs.Common.{refl, subst, sym}
use Rattle.cx_service.specs.Lookups.{seen_with}
use Rattle.seat_pool.specs.declared.lent.Lent.{Lent}
use Rattle.client_pool.specs.Lending.{EntersRead, IsOut, MaySettle, Returns, ShowsRead}
use Rattle.client_pool.proofs.Lends.{comes_first, comes_reading, out_on, read_settles, read_shown, returns}
use Rattle.client_pool.proofs.read_beside.read_beside.Goals as goal
use Rattle.client_pool.proofs.read_beside.read_beside.Goals.{in-Queued, in-Full, in-Worn, in-Halted}

pub loop-init : goal.loop-init
loop-init g c = record { same = refl; since = comes_first c.args.pool.now.service c.args.caller c.requires.out.0.holds.idle.caller }

pub returns-then-place-floor : goal.returns-then-place-floor
unfolding read_shown
returns-then-place-floor g c =
    let r = c.args.pool.now.service in
    let table = c.args.pool.now.line.table.shared.table_id in
    let i = c.loop.invariant in
    let x = c.loop.caller in
    let out = out_on r table c.args.lent.now c.args.caller x c.requires.out.0 i.since.idle in
    let after : Lent = record { pass = c.give.new.pass; kept = c.loop.lent.kept } in
    let still = subst (λ (l : Lent). IsOut r table l x) (sym i.same) out in
    subst (λ (l : Lent). (shows : ShowsRead r table c.args.op.now c.args.floor c.args.caller l after (seen_with c.in-Read.place c.read.new.reply)) × Returns l after shows.now) i.same (
      read_shown r table c.args.op.now c.args.floor c.loop.lent after c.args.caller x c.in-Read.back (seen_with c.in-Read.place c.read.new.reply) still i.since c.if-place-floor.true c.in-Read.ensures still.none c.give.ensures.0 c.give.ensures.1,
      returns r table c.loop.lent after x c.in-Read.back still c.give.ensures.1,
    )

pub loop-preserved : goal.loop-preserved
loop-preserved g c = record {
  same = c.loop.invariant.same;
  since = comes_reading c.args.pool.now.service c.args.op.now c.args.caller c.loop.caller c.in-Read.back (seen_with c.in-Read.place c.read.new.reply) c.loop.invariant.since c.in-Read.ensures.0;
}

pub settle-requires-clause-updated : goal.settle-requires-clause-updated
settle-requires-clause-updated g c =
    let r = c.args.pool.now.service in
    let table = c.args.pool.now.line.table.shared.table_id in
    let op = c.args.op.now in
    let x = c.loop.caller in
    let i = c.loop.invariant in
    let out = out_on r table c.args.lent.now c.args.caller x c.requires.out.0 i.since.idle in
    let reply = c.read.new.reply in
    let P = EntersRead r op reply x in
    subst (λ (l : Lent). MaySettle r l c.match-read.updated) (sym i.same)
    (read_settles r table op reply c.args.lent.now x out c.match-read.updated (
    elim c.match-read.branch [
      | in-Queued w ↦ subst P (sym w.updated-is) w.in-Queued.ensures
      | in-Full w ↦ subst P (sym w.updated-is) w.in-Full.ensures
      | in-Worn w ↦ subst P (sym w.updated-is) w.in-Worn.ensures
      | in-Halted w ↦ subst P (sym w.updated-is) w.in-Halted.ensures
    ]
    ))
