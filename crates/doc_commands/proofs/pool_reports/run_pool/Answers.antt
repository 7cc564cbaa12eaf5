use Rattle.std.proofs.Common.{◌≡◌, Some, slice_get, subst, sym}
use Rattle.std.proofs.lemmas.Result.{IfOk-weaker}
use Rattle.doc_store.specs.DocumentMeaning.{document_meaning}
use Rattle.doc_store.specs.ExactStep.{IsImageOfStore, reads_in, store_step}
use Rattle.pool_lives.specs.PoolRuns.{HasPooled, IsLifeOfPool}
use Rattle.doc_commands.specs.PoolTexts.{RunsPool}
use Rattle.doc_commands.proofs.Pooling.{may_run, one_life, runs}
use Rattle.doc_commands.proofs.pool_reports.run_pool.Goals as goal

pub run_pool-requires-clause-life : goal.run_pool-requires-clause-life
run_pool-requires-clause-life g c κs within =
    let script = c.args.script.now in
    let life = c.first-life.result.now in
    let at = subst (λ lives. slice_get lives 0 ≡ Some life) c.as_slice.ensures c.first-life.ensures in
    let one = one_life script.lives life c.requires.may.within.lives at in
    subst (λ n. IsLifeOfPool (document_meaning n) c.lent.result) (sym c.of-store.ensures) (subst (IsLifeOfPool (document_meaning script.lines)) (sym c.lent.ensures) (may_run c.args.seats script life c.requires.may one))

pub returns : goal.returns
returns g c =
    let script = c.args.script.now in
    let life = c.first-life.result.now in
    let at = subst (λ lives. slice_get lives 0 ≡ Some life) c.as_slice.ensures c.first-life.ensures in
    let one = one_life script.lives life c.requires.may.within.lives at in
    IfOk-weaker c.run_pool.result (λ r. HasPooled (document_meaning c.of-store.result.lines) c.of-store.result.lines (IsImageOfStore c.of-store.result.lines) (store_step c.of-store.result.lines) reads_in c.lent.result c.args.seats r.0 r.1) (λ r. RunsPool c.args.seats script r.0 r.1)
    (λ r pooled. runs c.args.seats script life r.0 r.1 one (subst (λ l. HasPooled (document_meaning script.lines) script.lines (IsImageOfStore script.lines) (store_step script.lines) reads_in l c.args.seats r.0 r.1) c.lent.ensures (subst (λ n. HasPooled (document_meaning n) n (IsImageOfStore n) (store_step n) reads_in c.lent.result c.args.seats r.0 r.1) c.of-store.ensures pooled)))
    c.run_pool.ensures
