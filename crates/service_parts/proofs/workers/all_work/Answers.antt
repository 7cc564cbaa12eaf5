use Rattle.std.proofs.Common.{arith}
use Rattle.std.proofs.lemmas.List.{length-map}
use Rattle.service_parts.proofs.HandedBack.{seats_after, tells_each}
use Rattle.service_parts.proofs.workers.all_work.Goals as goal

pub returns : goal.returns
returns g c =
    let r = c.args.service.now in
    let all = c.in_ok-all.all in
    let e = c.in_ok-all.ensures in
    let v = c.args.callers in
    let as_many = length-map all.items (λ w. w.output) in
    record {
      handed = seats_after r (λ w. w.caller) v.items all.items (omega (arith, e.long, all.ok.0, v.ok.0)) (λ k d x below. (e.each k d x (omega (arith, below, v.ok.0))).back) c.requires.all;
      count = omega (arith, as_many, e.long, all.ok.0, v.ok.0);
      tells = tells_each (g.W.Worker.tells c.args.worker.now r) (λ w. w.caller) (λ w. w.output) v.items all.items (omega (arith, e.long, all.ok.0, v.ok.0)) (λ k d x below. (e.each k d x (omega (arith, below, v.ok.0))).tells_so);
    }
