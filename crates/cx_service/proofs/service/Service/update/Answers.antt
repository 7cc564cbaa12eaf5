use Rattle.std.proofs.Common.{arith, refl, subst, ◌∙◌, ◌+◌, ◌*◌}
use Rattle.cx_service.specs.Submits.{Submits}
use Rattle.cx_service.specs.Updates.{not_yet, once_more}
use Rattle.cx_service.proofs.Updating.{again_images, again_keeps, again_met, again_since, again_stood, again_times, finished, keeps_all, update_full, update_halted}
use Rattle.cx_service.proofs.service.Service.update.Goals as goal

pub loop-init : goal.loop-init
loop-init g c = record { caller = c.requires; keeps = keeps_all c.args.caller; scans = omega arith; front = omega arith; stood = λ _. refl; tried = not_yet c.args.caller refl; times = record { linked = refl; answered = refl; reads = refl }; since = omega arith; images = refl; met = refl; sets = refl }

pub loop-preserved : goal.loop-preserved
loop-preserved g c =
    let r = c.args.self.now in
    let u = c.loop.caller in
    let inv = c.loop.invariant in
    let back = c.in-Again.back in
    let most = 200 + r.callers + 3 * 16 in
    let again = subst (Submits r c.args.op.now 16 u) c.in-Again.is c.submit.ensures in
    let first = again.0 in
    record {
      caller = first.caller;
      keeps = again_keeps r c.args.op.now c.args.caller u inv.keeps inv.times inv.since inv.stood inv.images inv.met 16 most back first;
      scans = omega (arith, inv.scans, first.scans);
      front = omega (arith, inv.front, first.front);
      stood = again_stood r c.args.op.now c.args.caller u inv.keeps inv.times inv.since inv.stood inv.images inv.met 16 most back first;
      tried = once_more u back inv.tried again;
      times = again_times r c.args.op.now c.args.caller u inv.keeps inv.times inv.since inv.stood inv.images inv.met 16 most back first;
      images = again_images r c.args.op.now c.args.caller u inv.keeps inv.times inv.since inv.stood inv.images inv.met 16 most back first;
      met = again_met r c.args.op.now c.args.caller u inv.keeps inv.times inv.since inv.stood inv.images inv.met 16 most back first;
      since = again_since r c.args.op.now c.args.caller u inv.keeps inv.times inv.since inv.stood inv.images inv.met 16 most back first;
      sets = first.keeps.sets ∙ inv.sets;
    }

pub returns-in-Linked : goal.returns-in-Linked
returns-in-Linked g c =
    let inv = c.loop.invariant in
    let linked = subst (Submits c.args.self.now c.args.op.now 16 c.loop.caller) c.in-Linked.is c.submit.ensures in
    finished c.args.self.now c.args.op.now c.args.caller c.loop.caller inv.keeps inv.times inv.since inv.stood inv.images inv.met (200 + c.args.self.now.callers + 3 * 16) c.in-Linked.linked linked c.finish.new.reply c.finish.result inv.sets inv.front c.finish.ensures

pub returns-in-Full : goal.returns-in-Full
returns-in-Full g c =
    update_full c.args.self.now c.args.op.now c.args.caller c.loop.caller c.loop.invariant.keeps c.loop.invariant.times c.loop.invariant.since c.loop.invariant.stood c.loop.invariant.images c.loop.invariant.met (200 + c.args.self.now.callers + 3 * 16) c.in-Full.back c.in-Full.note c.loop.invariant.sets c.loop.invariant.scans
    (subst (Submits c.args.self.now c.args.op.now 16 c.loop.caller) c.in-Full.is c.submit.ensures)

pub returns-in-Halted : goal.returns-in-Halted
returns-in-Halted g c =
    let due = subst (Submits c.args.self.now c.args.op.now 16 c.loop.caller) c.in-Halted.is c.submit.ensures in
    update_halted c.args.self.now c.args.op.now c.args.caller c.loop.caller c.loop.invariant.keeps c.loop.invariant.times c.loop.invariant.since c.loop.invariant.stood c.loop.invariant.images c.loop.invariant.met (200 + c.args.self.now.callers + 3 * 16) c.in-Halted.stopped due.0 c.loop.invariant.tried due
