use Rattle.cx_base.proofs.MemoryLemmas.{Framed-then, Framed-access}
use Rattle.program_object.proofs.Undoing.{granted_store_at}
use Rattle.program_object.proofs.run.grant.Goals as goal

-- after a load and a store of the word, a store was granted: the word has another part, and its old value is noted
pub returns-in_ok-store-in-Stores-clause-done : goal.returns-in_ok-store-in-Stores-clause-done
returns-in_ok-store-in-Stores-clause-done g c =
    let loaded = c.in_ok-word-in-Stores.ensures in
    let stored = c.in_ok-store-in-Stores.ensures in
    let p = c.in-Stores in
    record {
      done = record {
        from = λ first now s. (
            let q = stored.stands.back first now s in
            let o = loaded.stands.back first q.0 q.1 in (
              q.0,
              o.0,
              granted_store_at c.args.writes c.args.words p.place p.unit p.address p.value c.in_ok-word-in-Stores.word c.with_part.result c.args.wish c.args.machine.now c.args.undo.now c.push.new.self q.0 now
                  c.in-Stores.is c.if-place-lt8-2.false c.if-place-words-2.false c.if-not-writes.false c.if-undo-ge256.false c.push.ensures.places c.push.ensures.words o.1
                  c.push.ensures.pushed q.2 c.with_part.ensures,
            ));
      };
      halts = tt;
      framed = Framed-then (Framed-access loaded.access) (Framed-access stored.access);
    }
