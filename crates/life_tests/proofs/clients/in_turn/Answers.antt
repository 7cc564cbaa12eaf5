use Rattle.std.proofs.Common.{rules, ◌≡◌, ◌∙◌, [], ◌∷◌, ◌++◌, ap, append_assoc, subst, sym}
use Rattle.std.specs.List.{AllZip}
use Rattle.std.specs.Vec.Iter.{into_iter_items}
use Rattle.std.proofs.lemmas.List.Elements.{All-rest, AllZip-push}
use Rattle.life_tests.specs.Tests.{IsClientBack, IsCounterClient}
use Rattle.life_tests.proofs.clients.in_turn.Goals as goal

pub loop-client-preserved : goal.loop-client-preserved
loop-client-preserved g c =
    let pool = c.args.pool.now in
    let inv = c.loop-client.invariant in
    let client = c.in-Some.client in
    let more : c.push.new.self.items ≡ c.loop-client.worked.items ++ c.works.result ∷ [] = search rules in
    let next : into_iter_items c.loop-client.client-iterator ≡ client ∷ into_iter_items c.next.new.self = search rules in
    record {
      back = subst (AllZip (IsClientBack pool) (c.loop-client.yielded ++ client ∷ [])) (sym more) (AllZip-push (IsClientBack pool) c.loop-client.yielded c.loop-client.worked.items client c.works.result inv.back c.works.ensures);
      all = append_assoc c.loop-client.yielded (client ∷ []) (into_iter_items c.next.new.self) ∙ ap (λ l. c.loop-client.yielded ++ l) (sym next) ∙ inv.all;
      rest = All-rest (IsCounterClient pool) client (into_iter_items c.next.new.self) (into_iter_items c.loop-client.client-iterator) next inv.rest;
    }
