-- Each step of a store and of a queue is answered by words that a result may keep, and a service that opens anew has no result.
use Rattle.std.proofs.Common.{◌≡◌, ◌<◌, ◌≤◌, ◌+◌, ◌*◌, inl, inr, ap, ◌∙◌, arith, Bool, true, false, List, ℕ, refl, replicate, subst, sym}
use Rattle.std.proofs.lemmas.List.{get_or-replicate, get_or_append_left, length-replicate}
use Rattle.cx_core.specs.Base.{fresh_region, no_results}
use Rattle.cx_core.specs.Region.{slot_number}
use Rattle.c_images.specs.Replies.{GivesReplies, HoldsReplies, IsDocumentReply, IsKeptReply, IsQueueReply}
use Rattle.doc_model.specs.Words.{reply_words}
use Rattle.doc_model.specs.Meaning.{reply_to}
use Rattle.doc_store.specs.ExactStep.{IsImageOfStore, is_op_in, op_in, store_step}
use Rattle.doc_store.specs.StoreLaws.{image_reply_fits, step_none, step_of}
use Rattle.fifo_object.specs.Words.{is_op_in as is_queue_op_in, item_in, op_in as queue_op_in}
use Rattle.fifo_object.proofs.ReadBack.{no_op, none_has_no_kind, fifo_op_is_there}
use Rattle.fifo_object.specs.Queue.{reply_to as queue_reply_to}
use Rattle.fifo_object.specs.Fifo.{IsFifo, fifo_step, step_by}
use Rattle.fifo_object.specs.MeaningLaws.{fifo_has_meaning}

-- ---- a store

-- a step of a document store from a lawful image is answered by the words of a reply, or by 144 zeros; `b` says whether `op` is an operation
document_reply : (lines : ℕ) (image op : List ℕ) (b : Bool) → is_op_in op ≡ b → IsImageOfStore lines image → IsKeptReply IsDocumentReply (store_step lines image op).1
document_reply lines image op true passes i =
    let reply = reply_to lines i.store (op_in op) in
    let fits = image_reply_fits lines image (op_in op) i in
    let is : (store_step lines image op).1 ≡ reply_words reply =
    ap (λ (p : List ℕ × List ℕ). p.1) (step_of lines image op (op_in op) passes refl) ∙ ap (λ st. reply_words (reply_to lines st (op_in op))) i.stands.revised in
    inr (λ none. none reply fits.0 fits.1 (sym is))
document_reply lines image op false fails i = inl (ap (λ (p : List ℕ × List ℕ). p.1) (step_none lines image op fails))

-- each step of a document store from a lawful image is answered by the words of a reply, or by 144 zeros
pub stores_give_replies : (lines : ℕ) → GivesReplies IsDocumentReply (IsImageOfStore lines) (store_step lines)
stores_give_replies lines image op i fits = document_reply lines image op (is_op_in op) refl i

-- ---- a queue

-- a queue answers words that are no operation by 144 zeros
no_step : (lines : ℕ) (image op : List ℕ) → is_queue_op_in op ≡ false → (fifo_step lines image op).1 ≡ replicate 144 0
unfolding fifo_step
no_step lines image op fails = ap (λ kind. (step_by kind lines (item_in op) image).1) (none_has_no_kind op (no_op op fails))

-- a step of a queue from a lawful image is answered by the words of a reply, or by 144 zeros; `b` says whether `op` is an operation
queue_reply : (lines : ℕ) (image op : List ℕ) (b : Bool) → is_queue_op_in op ≡ b → 2 ≤ lines → IsFifo lines image → IsKeptReply IsQueueReply (fifo_step lines image op).1
queue_reply lines image op true passes some i =
    let means = fifo_has_meaning lines some in
    let there = fifo_op_is_there op passes in
    let st = means.some image i in
    let o = queue_op_in op in
    let is = means.answer image st.0 o i st.1 there.0 tt in
    inr (λ none. none (queue_reply_to lines st.0 o) (means.replies image st.0 o i st.1 there.0 tt) (sym is ∙ ap (λ ws. (fifo_step lines image ws).1) there.1))
queue_reply lines image op false fails some i = inl (no_step lines image op fails)

-- each step of a queue, of 2 lines or more, from a lawful image is answered by the words of a reply, or by 144 zeros
pub queues_give_replies : (lines : ℕ) → 2 ≤ lines → GivesReplies IsQueueReply (IsFifo lines) (fifo_step lines)
queues_give_replies lines some image op i fits = queue_reply lines image op (is_queue_op_in op) refl some i

-- ---- the first region

-- in the region that a new object opens with, the result slot of each caller has the number 0
no_number : (opening : List ℕ) (caller : ℕ) → caller < 8 → slot_number caller (fresh_region opening) ≡ 0
unfolding no_results
no_number opening caller few =
    let at = 8 + 145 * caller in
    let front : List ℕ = replicate 1168 0 in
    get_or_append_left front opening 0 at (subst (λ n. at < n) (sym (length-replicate {A = ℕ} 1168 0)) (omega (arith, few))) ∙ get_or-replicate {A = ℕ} 1168 at 0 0 (omega (arith, few))

-- the region that a new object opens with has no result with a number, so each such result keeps a reply
pub fresh_keeps : (is : List ℕ → Type 0) (opening region : List ℕ) → region ≡ fresh_region opening → HoldsReplies is region
fresh_keeps is opening region fresh = subst (HoldsReplies is) (sym fresh) (λ caller few some. absurd (some (no_number opening caller few)))
