use Rattle.doc_store.proofs.Stepping.{old_image_exactly}
use Rattle.std.proofs.lemmas.Result.{IfOk-weaker}
use Rattle.doc_store.proofs.store.DocStoreObject.check_old.Goals as goal

pub returns : goal.returns
returns c = IfOk-weaker c.is_lawful.result _ _ (λ yes h. old_image_exactly c.args.self.now.lines c.args.words.now yes h) c.is_lawful.ensures
