-- Lives one after another are one object's.
use Rattle.std.proofs.Common.{◌≡◌, ◌+◌, ◌-◌, ◌^◌, ◌<◌, ◌≤◌, ℕ, zero, suc, Bool, List, [], ◌∷◌, ◌++◌, Some, length, length-append, length-take, append_assoc, take, refl, ap, sym, subst, ◌∙◌, arith}
use Rattle.std.proofs.lemmas.List.{take-append-le, take-take, take_more}
use Rattle.std.proofs.lemmas.Option.{get_or_from_slice_get, slice_get_within}
use Rattle.std.specs.List.{slice_get}
use Rattle.cx_core.specs.declared.entry.Base.{Base}
use Rattle.cx_core.specs.declared.entry.Entry.{Entry}
use Rattle.cx_core.specs.Base.{LawfulBase}
use Rattle.cx_core.specs.Crash.{IsKept}
use Rattle.cx_core.specs.History.{AreLawful, full_image, image_after}
use Rattle.cx_core.specs.Lawful.{Lawful}
use Rattle.cx_core.specs.Merge.{IsLinked, history_of}
use Rattle.cx_core.specs.Region.{object_part}
use Rattle.cx_core.specs.State.{Instance}
use Rattle.cx_core.proofs.HistoryLemmas.{ObjectLaws, begins, full_lawful, full_next}
use Rattle.cx_core.proofs.KeepLemmas.{region_kept}
use Rattle.cx_core.proofs.ListLemmas.{item_below, slice_get-append_left}
use Rattle.cx_core.proofs.MergeLemmas.{history_is}
use Rattle.core_replica.proofs.BaseLaws.{kept_lawful}
use Rattle.core_replica.proofs.ReplyLaws.{reply_own}
use Rattle.core_runs.proofs.Keeps.{run_kept}
use Rattle.core_runs.proofs.WholeLaws.{crash_kept, entries_of}
use Rattle.core_order.specs.CrashedLives.{AllStand, AnswersStand, AreCrashedLives, EndsAs, IsCrashedLife, LifeRun, instance_from, kept_history, next_base}

-- the image after two lists of entries in a row is that after the second, from the image after the first
image_on : (step : List ℕ → List ℕ → List ℕ × List ℕ) (image : List ℕ) (xs ys : List Entry) → image_after step image (xs ++ ys) ≡ image_after step (image_after step image xs) ys
image_on step image [] ys = refl
image_on step image (x ∷ xs) ys = image_on step (step image x.op).0 xs ys

-- the first entries of two lists in a row, beyond the first list, are the first list and the first entries of the second
take_behind : (xs ys : List Entry) (n : ℕ) → take (length xs + n) (xs ++ ys) ≡ xs ++ take n ys
take_behind [] ys n = ap (λ k. take k ys) (let e : 0 + n ≡ n = omega arith in e)
take_behind (x ∷ xs) ys n = ap (λ k. take k (x ∷ (xs ++ ys))) (let e : suc (length xs) + n ≡ suc (length xs + n) = omega arith in e) ∙ ap (λ zs. x ∷ zs) (take_behind xs ys n)

-- an entry of the second list stands behind the first in both in a row
get_behind : (xs ys : List Entry) (n : ℕ) (e : Entry) → slice_get ys n ≡ Some e → slice_get (xs ++ ys) (length xs + n) ≡ Some e
get_behind [] ys n e at = ap (slice_get ys) (let same : 0 + n ≡ n = omega arith in same) ∙ at
get_behind (x ∷ xs) ys n e at = ap (slice_get (x ∷ (xs ++ ys))) (let same : suc (length xs) + n ≡ suc (length xs + n) = omega arith in same) ∙ get_behind xs ys n e at

-- an entry below the place `n` is among the first `n`
get_take : (xs : List Entry) (n k : ℕ) (e : Entry) → k < n → slice_get xs k ≡ Some e → slice_get (take n xs) k ≡ Some e
get_take xs zero k e below at = absurd (omega (arith, below))
get_take [] (suc n) k e below at = at
get_take (x ∷ xs) (suc n) zero e below at = at
get_take (x ∷ xs) (suc n) (suc k) e below at = get_take xs n k e (omega (arith, below)) at

-- the first n + 1 entries are the first n and the entry at n
take_one : (xs : List Entry) (n : ℕ) (e : Entry) → slice_get xs n ≡ Some e → take (n + 1) xs ≡ take n xs ++ e ∷ []
take_one xs n e at = take_more xs n e (slice_get_within xs n e at) ∙ ap (λ y. take n xs ++ y ∷ []) (get_or_from_slice_get xs n e e at)

module _ (lines : ℕ) (lawful : List ℕ → Type 0) (step : List ℕ → List ℕ → List ℕ × List ℕ) (reads : List ℕ → Bool) (laws : ObjectLaws lines lawful step) where
  -- the object part of a full image is the object's image
  module _ (instance : Instance) (means : instance.step ≡ step) (history : List Entry) (base : LawfulBase lines lawful instance.base) (entries : AreLawful instance.base.place history) (small : instance.base.place + length history ≤ 2 ^ 40) where
    law_of : ObjectLaws lines lawful instance.step
    law_of = subst (ObjectLaws lines lawful) (sym means) laws

    part_on : (n p : ℕ) → p ≡ instance.base.place + n → n ≤ length history →
        object_part (full_image instance.step instance.base history p) ≡ image_after instance.step (object_part instance.base.words) (take (p - instance.base.place) history)
    part_on zero p is within =
        let here : p ≡ instance.base.place = omega (arith, is) in
        ap (λ q. object_part (full_image instance.step instance.base history q)) here ∙ ap object_part (begins instance.step instance.base history)
        ∙ ap (λ k. image_after instance.step (object_part instance.base.words) (take k history)) (let e : 0 ≡ p - instance.base.place = omega (arith, is) in e)
    part_on (suc n) p is within =
        let q = instance.base.place + n in
        let item = item_below history n (omega (arith, within)) in
        let e = item.0 in
        let away : q - instance.base.place ≡ n = omega arith in
        let linked : IsLinked instance.base.place history q e = record { from = omega arith; at = ap (slice_get history) away ∙ item.1 } in
        let is_entry = entries n e item.1 in
        let before = full_lawful lines lawful instance law_of history base entries small q (omega arith) (omega (arith, within)) in
        let region = full_image instance.step instance.base history q in
        let image_lawful = law_of.keeps (object_part region) e.op before.object is_entry.op in
        let kept = region_kept lines instance.step e region is_entry.caller before.size.long (law_of.shape (instance.step (object_part region) e.op).0 image_lawful).long (law_of.replies (object_part region) e.op before.object is_entry.op).long in
        let next : p ≡ q + 1 = omega (arith, is) in
        ap (λ r. object_part (full_image instance.step instance.base history r)) next ∙ ap object_part (full_next instance history q e linked) ∙ kept.2
        ∙ ap (λ image. (instance.step image e.op).0) (part_on n q refl (omega (arith, within)))
        ∙ sym (pushed n e item.1 (q - instance.base.place) away (p - instance.base.place) (omega (arith, is)))
      where
        pushed : (n : ℕ) (e : Entry) → slice_get history n ≡ Some e → (k : ℕ) → k ≡ n → (m : ℕ) → m ≡ n + 1 →
            image_after instance.step (object_part instance.base.words) (take m history) ≡ (instance.step (image_after instance.step (object_part instance.base.words) (take k history)) e.op).0
        pushed n e at k is_k m is_m =
            ap (λ j. image_after instance.step (object_part instance.base.words) (take j history)) is_m
            ∙ ap (image_after instance.step (object_part instance.base.words)) (take_one history n e at)
            ∙ image_on instance.step (object_part instance.base.words) (take n history) (e ∷ [])
            ∙ ap (λ j. (instance.step (image_after instance.step (object_part instance.base.words) (take j history)) e.op).0) (sym is_k)

    pub part_is : (p : ℕ) → instance.base.place ≤ p → p ≤ instance.base.place + length history →
        object_part (full_image instance.step instance.base history p) ≡ image_after instance.step (object_part instance.base.words) (take (p - instance.base.place) history)
    part_is p from within = part_on (p - instance.base.place) p (omega (arith, from)) (omega (arith, within))

  -- ---- one life

  module _ (base : Base) (life : LifeRun) (based : LawfulBase lines lawful base) (is : IsCrashedLife step reads base life) where
    abbrev instance : Instance
    instance = instance_from step reads base life

    abbrev next : Base
    next = next_base step reads base life

    law : Lawful instance life.to
    law = run_kept instance life.from life.events life.to is.law is.ran

    abbrev history : List Entry
    history = history_of base.place life.to.locals

    same : history ≡ law.history
    same = history_is base.place law.history life.to.locals law.tickets.merged

    kept : IsKept instance law.history life.to next
    kept = crash_kept instance life.to law life.image is.crashed

    lawful_next : LawfulBase lines lawful next × (next.words ≡ full_image step base law.history next.place)
    lawful_next = kept_lawful lines lawful instance law.history life.to next laws based (entries_of instance life.to law based.numbers) law.tickets.below kept

    abbrev part : List Entry
    part = take (next.place - base.place) history

    part_long : length part ≡ next.place - base.place
    part_long = (let to = kept.to in let from = kept.from in let long = ap length same in let count = length-take (next.place - base.place) history in omega (arith, to, from, long, count))

    -- the next base is the object after what was kept
    part_next : object_part next.words ≡ image_after step (object_part base.words) part
    part_next =
        ap object_part lawful_next.1
        ∙ part_is instance refl law.history based (entries_of instance life.to law based.numbers) law.tickets.below next.place kept.from kept.to
        ∙ ap (λ h. image_after step (object_part base.words) (take (next.place - base.place) h)) (sym same)

    module _ (first : Base) (before rest : List Entry) (from : first.place ≤ base.place) (long : length before ≡ base.place - first.place) (so_far : object_part base.words ≡ image_after step (object_part first.words) before) where
      -- at a place of this life the whole history is what was before it and the life's own
      image_there : (place : ℕ) → base.place ≤ place → place ≤ next.place →
          image_after step (object_part base.words) (take (place - base.place) law.history) ≡ image_after step (object_part first.words) (take (place - first.place) (before ++ (part ++ rest)))
      image_there place least most =
          let n = place - base.place in
          let within : n ≤ length part = (let count = part_long in omega (arith, count, least, most)) in
          ap (λ h. image_after step (object_part base.words) (take n h)) (sym same)
          ∙ ap (image_after step (object_part base.words)) (sym (take-take n (next.place - base.place) history (omega (arith, least, most))) ∙ sym (take-append-le n part rest within))
          ∙ ap (λ image. image_after step image (take n (part ++ rest))) so_far
          ∙ sym (image_on step (object_part first.words) before (take n (part ++ rest)))
          ∙ ap (image_after step (object_part first.words)) (sym (take_behind before (part ++ rest) n))
          ∙ ap (λ k. image_after step (object_part first.words) (take k (before ++ (part ++ rest)))) (let e : length before + n ≡ place - first.place = omega (arith, long, from, least) in e)

      answers_stand : AnswersStand step reads first (before ++ (part ++ rest)) base next life.to
      answers_stand = record {
        updates = λ caller l at i x there. (
            let own = reply_own instance law.history life.to.words life.to.locals caller l law.answers at law.tickets i x there in
            let least = own.linked.from in
            let below = kept.answered caller l at i x there in
            let mine : slice_get history (x.ticket - base.place) ≡ Some own.entry = ap (λ h. slice_get h (x.ticket - base.place)) same ∙ own.linked.at in
            let taken = get_take history (next.place - base.place) (x.ticket - base.place) own.entry (omega (arith, least, below)) mine in
            let found = get_behind before (part ++ rest) (x.ticket - base.place) own.entry (slice_get-append_left part rest (x.ticket - base.place) own.entry taken) in (
              least,
              below,
              own.entry,
              own.own,
              ap (slice_get (before ++ (part ++ rest))) (let e : x.ticket - first.place ≡ length before + (x.ticket - base.place) = omega (arith, long, from, least) in e) ∙ found,
              own.reply ∙ ap (λ image. (step image own.entry.op).1) (image_there x.ticket least (omega (arith, below))),
            ));
        seen = λ caller l at i x there. (
            let read = (law.answers.each caller l at).reads i x there in
            let most = kept.reads caller l at i x there in
            (read.from, most, read.reply ∙ ap (λ image. (step image x.op).1) (image_there x.place read.from most)));
      }

      next_long : length (before ++ part) ≡ next.place - first.place
      next_long = (let count = part_long in let all = length-append before part in let least = kept.from in omega (arith, count, all, long, from, least))

      next_so_far : object_part next.words ≡ image_after step (object_part first.words) (before ++ part)
      next_so_far = part_next ∙ ap (λ image. image_after step image part) so_far ∙ sym (image_on step (object_part first.words) before part)

  -- ---- all of them

  pub all_stand : (first : Base) (lives : List LifeRun) (base : Base) (before : List Entry) → LawfulBase lines lawful base → first.place ≤ base.place → length before ≡ base.place - first.place →
      object_part base.words ≡ image_after step (object_part first.words) before → AreCrashedLives step reads base lives →
      AllStand step reads first (before ++ kept_history step reads base lives) base lives
  all_stand first [] base before based from long so_far are = tt
  all_stand first (life ∷ lives) base before based from long so_far are =
      let next = next_base step reads base life in
      let part = take (next.place - base.place) (history_of base.place life.to.locals) in
      let rest = kept_history step reads next lives in
      let least = (kept base life based are.0).from in (
        answers_stand base life based are.0 first before rest from long so_far,
        subst (λ h. AllStand step reads first h next lives) (append_assoc before part rest)
            (all_stand first lives next (before ++ part) (lawful_next base life based are.0).0 (omega (arith, from, least)) (next_long base life based are.0 first before rest from long so_far) (next_so_far base life based are.0 first before rest from long so_far) are.1),
      )

  pub ends_as : (lives : List LifeRun) (base : Base) → LawfulBase lines lawful base → AreCrashedLives step reads base lives → EndsAs lines lawful step reads base lives
  ends_as [] base based are = record { lawful_base = based; place = omega arith; object = refl }
  ends_as (life ∷ lives) base based are =
      let next = next_base step reads base life in
      let part = take (next.place - base.place) (history_of base.place life.to.locals) in
      let rest = kept_history step reads next lives in
      let on = ends_as lives next (lawful_next base life based are.0).0 are.1 in
      let count = part_long base life based are.0 in
      let least = (kept base life based are.0).from in
      let all = length-append part rest in
      let place = on.place in
      record {
        lawful_base = on.lawful_base;
        place = omega (arith, place, count, least, all);
        object = on.object ∙ ap (λ image. image_after step image rest) (part_next base life based are.0) ∙ sym (image_on step (object_part base.words) part rest);
      }
