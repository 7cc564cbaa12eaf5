use Rattle.std.proofs.Common.{◌*◌}
use Rattle.doc_store.proofs.Stepping.{words_exactly}
use Rattle.std.proofs.lemmas.Result.{IfOk-weaker}
use Rattle.doc_store.proofs.store.is_lawful.Goals as goal

pub returns : goal.returns
returns c = IfOk-weaker c.lawful.result _ _ (λ yes h. words_exactly (8 * c.args.lines) c.args.version c.args.words.now yes c.if-words-lines.false (λ i. (c.type_inv.words i).fits) h) c.lawful.ensures
