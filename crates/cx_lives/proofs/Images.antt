-- The images of a lawful history are lawful ones, so what is answered from them to an operation is a reply.
use Rattle.std.proofs.Common.{◌≡◌, ℕ, zero, suc, ◌+◌, List, [], ◌∷◌, take, slice_get, Some, sym, ap, subst, ◌∙◌, refl}
use Rattle.cx_base.specs.Memory.{Words}
use Rattle.cx_core.proofs.ListLemmas.{item_below}
use Rattle.cx_core.proofs.MergeLemmas.{has_own}
use Rattle.cx_core.specs.Base.{LawfulBase}
use Rattle.cx_core.specs.History.{image_after}
use Rattle.cx_core.specs.Lawful.{Lawful}
use Rattle.cx_core.specs.Region.{object_part}
use Rattle.cx_core.specs.State.{Instance, State}
use Rattle.cx_core.specs.declared.entry.Entry.{Entry}
use Rattle.cx_core.specs.declared.local.Linked.{Linked}
use Rattle.life_records.proofs.TypedSteps.{TypedSteps}
use Rattle.life_records.specs.Records.{AreOfNoReply, OpHasWords}

module _ {Op Reply Store : Type 0} (t : TypedSteps Op Reply Store) where
  -- a reply to an operation from a lawful image is one
  reply_is : (image op : List ℕ) (o : Op) → t.lawful image → OpHasWords t.meaning op o → AreOfNoReply t.meaning (t.step image op).1 → ⊥
  reply_is image op o i is bad =
      let st = t.means.some image i in
      bad (t.meaning.reply_to st.0 o) (t.means.replies image st.0 o i st.1 is.limits is.value)
      (sym (t.means.answer image st.0 o i st.1 is.limits is.value) ∙ ap (λ ws. (t.step image ws).1) is.has)

  -- the image after entries of words is lawful
  image_lawful : (image : List ℕ) (entries : List Entry) → t.lawful image → ((i : ℕ) (e : Entry) → slice_get entries i ≡ Some e → Words 144 e.op) → t.lawful (image_after t.step image entries)
  image_lawful image [] i all = i
  image_lawful image (e ∷ es) i all = image_lawful (t.step image e.op).0 es (t.object.keeps image e.op i (all 0 e refl)) (λ k x at. all (suc k) x at)

taken_at : {X : Type 0} (n : ℕ) (xs : List X) (i : ℕ) (x : X) → slice_get (take n xs) i ≡ Some x → slice_get xs i ≡ Some x
taken_at (suc n) (y ∷ ys) zero x at = at
taken_at (suc n) (y ∷ ys) (suc i) x at = taken_at n ys i x at
taken_at _ xs i x at = cc

module _ {Op Reply Store : Type 0} (t : TypedSteps Op Reply Store) (instance : Instance) (step_is : instance.step ≡ t.step) (base : LawfulBase t.lines t.lawful instance.base) (s : State) (law : Lawful instance s) where
  abbrev pub image_at : ℕ → List ℕ
  image_at n = image_after instance.step (object_part instance.base.words) (take n law.history)

  entry_words : (i : ℕ) (e : Entry) → slice_get law.history i ≡ Some e → Words 144 e.op
  entry_words i e at =
      let by = law.tickets.merged.of_callers i e at in
      let local = item_below s.locals e.caller by in
      let mine = has_own e.caller instance.base.place law.history i e at refl in
      let x : Linked = record { ticket = instance.base.place + i; entry = e } in
      let there : slice_get local.0.own mine.0 ≡ Some x = ap (λ (o : List Linked). slice_get o mine.0) (law.tickets.merged.own e.caller local.0 local.1) ∙ mine.1 in
      (law.tickets.each e.caller local.0 local.1).ops mine.0 x there

  -- an answer at a place of the history is a reply
  pub reply_at_is : (n : ℕ) (op : List ℕ) (o : Op) → OpHasWords t.meaning op o → AreOfNoReply t.meaning (instance.step (image_at n) op).1 → ⊥
  reply_at_is n op o is bad =
      let lawful : t.lawful (image_at n) =
      subst (λ st. t.lawful (image_after st (object_part instance.base.words) (take n law.history))) (sym step_is)
      (image_lawful t (object_part instance.base.words) (take n law.history) base.object (λ i e at. entry_words i e (taken_at n law.history i e at))) in
      reply_is t (image_at n) op o lawful is (subst (λ st. AreOfNoReply t.meaning (st (image_at n) op).1) step_is bad)
