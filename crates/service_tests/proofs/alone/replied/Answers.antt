use Rattle.std.proofs.Common.{◌≡◌, ℕ, List, ap, subst}
use Rattle.std.proofs.lemmas.Result.{IfOk-weaker}
use Rattle.cx_base.specs.Memory.{Always, Becomes}
use Rattle.doc_store.proofs.Stepping.{op_are_words}
use Rattle.service_tests.proofs.alone.replied.Goals as goal

-- a step of a lawful image leaves one
lawful_on : {Key : Type 0} {old new : Key → List ℕ → Type 0} (lawful : List ℕ → Type 0) (step : List ℕ → List ℕ → List ℕ × List ℕ) (op reply : List ℕ) → ((image : List ℕ) → lawful image → lawful (step image op).0) → Always old lawful →
    Becomes old new (λ before now. step before op ≡ (now, reply)) → Always new lawful
lawful_on lawful step op reply keeps was b first now s =
    let f = b.from first now s in
    subst lawful (ap (λ (p : List ℕ × List ℕ). p.0) f.2) (keeps f.0 (was first f.0 f.1))

pub returns-clause-lawful : goal.returns-clause-lawful
returns-clause-lawful g c =
    let object = c.args.object.now in
    let op = c.args.op.now in
    let step = g.O.Object.step object in
    let lawful = g.O.Object.lawful object in
    IfOk-weaker c.run.result (λ reply. Becomes (g.M.Memory.stands c.args.mem.now) (g.M.Memory.stands c.run.new.mem) (λ before now. step before op ≡ (now, reply))) _
    (λ reply b. lawful_on lawful step op reply (λ image law. g.met.O.Object.keeps object image op law (op_are_words op c.told-op c.fits-op)) c.requires.lawful b) c.run.ensures.done
