-- The steps of the document store are what its operations mean.
use Rattle.std.proofs.Common.{◌≡◌, ◌^◌, ◌≤◌, ◌&&◌, ℕ, refl, ap, ◌∙◌}
use Rattle.cx_base.specs.Memory.{Words}
use Rattle.doc_model.specs.Meaning.{IsOp, only_reads}
use Rattle.doc_model.specs.Words.{HasIntegerAmount, IsOpOf, op_words}
use Rattle.doc_model.specs.declared.operations.Op.{Op}
use Rattle.doc_model.proofs.OpKinds.{op_words_fit}
use Rattle.doc_store.specs.ExactStep.{IsImageOfStore, op_in, opening_image, reads_in, store_step}
use Rattle.doc_store.specs.DocumentMeaning.{document_meaning}
use Rattle.doc_store.specs.OpsRead.{op_is_read}
use Rattle.doc_store.specs.ReplyWords.{same_by_words}
use Rattle.doc_store.specs.StoreLaws.{image_index, image_reply_fits, opening_stands, step_means}
use Rattle.typed_object.specs.Meaning.{HasMeaning}

-- the words of an operation within the limits are 144 of 64 bits
fit : (op : Op) → IsOp op → HasIntegerAmount op → Words 144 (op_words op)
fit op is amount = (let f = op_words_fit op is amount in record { long = f.0; fit = f.1 })

-- an operation within the limits has its words
of_words : (op : Op) → IsOp op → HasIntegerAmount op → IsOpOf (op_words op) op
of_words op is amount = record { limits = is; amount = amount; has = refl }

-- the words of an operation are taken for a reading exactly where it only reads
reading : (op : Op) → IsOpOf (op_words op) op → reads_in (op_words op) ≡ only_reads op
unfolding reads_in
reading op is = (let r = op_is_read (op_words op) op is in ap (λ b. (b && only_reads (op_in (op_words op)))) r.0 ∙ ap only_reads r.1)

-- the steps of the store's images are what its operations mean
pub documents_have_meaning : (lines : ℕ) → 1 ≤ lines → lines ≤ 2 ^ 32 → HasMeaning (IsImageOfStore lines) (opening_image lines) (store_step lines) reads_in (document_meaning lines)
documents_have_meaning lines enough few = record {
  some = λ image i. (i.store, i.stands);
  fit = fit;
  after = λ image store op i s is amount. ((step_means lines image (op_words op) (image_index lines image i) i.words (fit op is amount)).does op (of_words op is amount) store s).after;
  answer = λ image store op i s is amount. ((step_means lines image (op_words op) (image_index lines image i) i.words (fit op is amount)).does op (of_words op is amount) store s).answer;
  replies = λ image store op i s is amount. (let f = image_reply_fits lines image op (record { words = i.words; store = store; stands = s }) in record { limits = f.0; number = f.1 });
  told = λ one other value is same. same_by_words one other value is.limits is.number same;
  readings = λ op is amount. reading op (of_words op is amount);
  opens = opening_stands lines enough few;
}
