use Rattle.std.proofs.Common.{arith}
use Rattle.life_tests.proofs.ClientsBack.{all_back, zipped}
use Rattle.life_tests.proofs.clients.all_work.Goals as goal

pub returns-in_ok-worked : goal.returns-in_ok-worked
returns-in_ok-worked g c =
    let pool = c.args.pool.now in
    let old = c.args.clients in
    let new = c.in_ok-worked.worked in
    let e = c.in_ok-worked.ensures in
    all_back pool old.items new.items (zipped pool old.items new.items (omega (arith, e.long, new.ok.0, old.ok.0)) (λ k d x below. e.each k d x (omega (arith, below, old.ok.0)))) c.requires.clients

pub returns-in_ok-worked-2 : goal.returns-in_ok-worked-2
returns-in_ok-worked-2 g c = all_back c.args.pool.now c.args.clients.items c.in_ok-worked-2.worked.items c.in_ok-worked-2.ensures c.requires.clients
