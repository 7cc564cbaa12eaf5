use Rattle.cx_base.proofs.MemoryLemmas.{Framed-then}
use Rattle.std.proofs.Common.{◌≡◌, ◌≢◌, ◌<◌, ◌+◌, ◌*◌, get_or, length, arith, rules, subst, sym, ap, ◌∙◌}
use Rattle.std.proofs.lemmas.List.{length-set, get_or-set_other}
use Rattle.cx_base.specs.Packing.{packed}
use Rattle.cx_base.proofs.ReadLemmas.{kept_then, Reads-loaded, Reads-then, Reads-weaker}
use Rattle.index_validation.proofs.BlockReads.{read_more, read_all}
use Rattle.avl_words.proofs.Memories.{found}
use Rattle.word_index.proofs.blocks.read_words.Goals as goal

pub loop-i-preserved : goal.loop-i-preserved
loop-i-preserved g c =
    let i = c.loop-i.invariant in
    let w = c.in_ok-into.ensures in
    let a = c.in_ok-line.ensures in
    let below : c.loop-i.i < c.args.count = c.loop-i-test.true in
    let room : c.loop-i.i < length c.loop-i.into = omega (arith, i.room) in
    record {
      done = Reads-then (Reads-loaded i.done w.done) a.done (λ ws pe q. read_more ws c.args.first c.args.count c.loop-i.i c.loop-i.line c.in_ok-line.line c.in_ok-into.field-0 c.loop-i.into below room pe.0
          (sym (ap (λ p. get_or ws (8 * c.loop-i.line + (1 + p)) 0) i.place) ∙ pe.1) (λ e. q.0 (i.place ∙ e), λ e. q.1 (λ p. e (sym i.place ∙ p))));
      place = c.place_after-place.ensures c.loop-i.i i.place;
      rest = λ k past. (let ne : k ≢ c.loop-i.i = omega arith in rw get_or-set_other (i.rest k (omega arith)));
      room = rw length-set i.room;
      kept = kept_then (kept_then i.kept w.kept) a.kept;
      sized = search rules;
      framed = Framed-then (Framed-then i.framed w.framed) a.framed;
    }

pub returns : goal.returns
returns g c =
    let i = c.loop-i.invariant in
    let e : c.loop-i.i ≡ c.args.count = omega arith in
    let long : length c.loop-i.into ≡ length c.args.into.now = c.loop-i.auto.into in
    found (Reads-weaker i.done (λ ws p lines bytes h counted. subst (λ n. c.loop-i.into ≡ packed n bytes) long
    (read_all ws c.args.first c.args.count c.loop-i.i c.loop-i.line c.loop-i.into e p i.rest lines bytes h counted))) (search rules) (search rules) (search rules)
