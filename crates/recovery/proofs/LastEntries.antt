-- A full image tells of each caller its last entry below the place, and its results are replies of the object's step or those of the base.
use Rattle.std.proofs.Common.{◌≡◌, ◌≢◌, ◌+◌, ◌-◌, ◌^◌, ◌<◌, ◌≤◌, ◌⊎◌, inl, inr, ℕ, zero, suc, Bool, List, length, Some, refl, ap, sym, subst, ◌∙◌, arith, if◌then◌else◌}
use Rattle.std.proofs.lemmas.Bool.{cases_eq, cases_order, ne_eqb}
use Rattle.std.proofs.lemmas.Option.{same_Some}
use Rattle.std.specs.Option.{option_map}
use Rattle.cx_core.specs.declared.entry.Base.{Base}
use Rattle.cx_core.specs.declared.entry.Entry.{Entry}
use Rattle.cx_core.specs.Base.{Keeps, LawfulBase}
use Rattle.cx_core.specs.History.{AreLawful, full_image, reply_at}
use Rattle.cx_core.specs.Merge.{IsLinked}
use Rattle.cx_core.specs.Region.{object_part, slot_number, slot_reply}
use Rattle.cx_core.specs.RootEvents.{reply_after}
use Rattle.cx_core.specs.State.{Instance}
use Rattle.cx_core.proofs.HistoryLemmas.{ObjectLaws, begins, full_lawful, full_next}
use Rattle.cx_core.proofs.KeepLemmas as keep
use Rattle.cx_core.proofs.Locals.{linked_below, linked_within}
use Rattle.table_invariant.proofs.Replies.{reply_of_full}
use Rattle.recovery.specs.declared.applied.Outcome.TheVariants.{Applied, Never}
use Rattle.recovery.specs.Outcomes.{TellsOutcome, outcome_in, outcome_of}
use Rattle.recovery.specs.Results.{HasResultsFrom, IsEarlierResult, IsStepsReply}

-- a slot with a number says that an entry was applied
applied_in : (number : ℕ) (reply : List ℕ) → 0 < number → outcome_in number reply ≡ Applied number reply
applied_in number reply some = ap (λ (b : Bool). if b then Never else Applied number reply) (ne_eqb number 0 (λ e. omega (arith, some, e)))

module _ (lines : ℕ) (lawful : List ℕ → Type 0) (instance : Instance) (laws : ObjectLaws lines lawful instance.step) (base : LawfulBase lines lawful instance.base) (history : List Entry)
    (small : instance.base.place + length history ≤ 2 ^ 40) (entries : AreLawful instance.base.place history) where
  abbrev at_place : ℕ → Base
  at_place place = record { place = place; words = full_image instance.step instance.base history place }

  -- the full image at the ticket of a linked entry is a lawful base
  lawful_at : (ticket : ℕ) (entry : Entry) → IsLinked instance.base.place history ticket entry → LawfulBase lines lawful (at_place ticket)
  lawful_at ticket entry linked =
      let within = linked_within instance.base.place history ticket entry linked in
      full_lawful lines lawful instance laws history base entries small ticket linked.from (omega (arith, within))

  -- what the full step of a linked entry keeps
  kept_at : (ticket : ℕ) (entry : Entry) → IsLinked instance.base.place history ticket entry → Keeps lines lawful instance.step (at_place ticket) entry (at_place (ticket + 1))
  kept_at ticket entry linked =
      let from = linked.from in
      let within = linked_within instance.base.place history ticket entry linked in
      let before = lawful_at ticket entry linked in
      let back : instance.base.place + (ticket - instance.base.place) ≡ ticket = omega (arith, from) in
      let is = entries (ticket - instance.base.place) entry linked.at in
      let most = is.most in
      let image = object_part (at_place ticket).words in
      let image_lawful = laws.keeps image entry.op before.object is.op in
      keep.keeps lines lawful instance.step (at_place ticket) entry (at_place (ticket + 1)) before (omega (arith, small, within)) is.caller is.some (omega (arith, most, back))
      image_lawful (laws.shape (instance.step image entry.op).0 image_lawful) (laws.replies image entry.op before.object is.op) refl (full_next instance history ticket entry linked)

  -- right after a linked entry the base says of the entry's caller its number, and the history's reply to it
  entry_outcome : (ticket : ℕ) (entry : Entry) (reply : List ℕ) → IsLinked instance.base.place history ticket entry →
      reply_at instance.step instance.base.place (object_part instance.base.words) history ticket ≡ Some reply → outcome_of entry.caller (at_place (ticket + 1)) ≡ Applied entry.number reply
  entry_outcome ticket entry reply linked is =
      let from = linked.from in
      let within = linked_within instance.base.place history ticket entry linked in
      let kept = kept_at ticket entry linked in
      let answer = λ (e : Entry). reply_after instance history ticket e.op in
      let replied : reply_after instance history ticket entry.op ≡ reply =
      same_Some (reply_after instance history ticket entry.op) reply (ap (option_map answer) (sym linked.at) ∙ is) in
      ap (λ n. outcome_in n (slot_reply entry.caller (at_place (ticket + 1)).words)) kept.number
      ∙ ap (outcome_in entry.number) (kept.reply ∙ reply_of_full lines lawful instance laws base history small entries ticket entry.op from (omega (arith, within)) ∙ replied)
      ∙ applied_in entry.number reply (entries (ticket - instance.base.place) entry linked.at).some

  -- a linked entry of another caller leaves what the base says of this one
  left_by : (ticket : ℕ) (entry : Entry) (caller : ℕ) → caller < 8 → IsLinked instance.base.place history ticket entry → entry.caller ≢ caller → outcome_of caller (at_place (ticket + 1)) ≡ outcome_of caller (at_place ticket)
  left_by ticket entry caller few linked differs =
      let apart : (caller < entry.caller) ⊎ (entry.caller < caller) = elim (cases_order caller entry.caller) [ inl same ↦ absurd (differs (sym same)) | inr other ↦ other ] in
      let stay = (kept_at ticket entry linked).others caller few apart in
      ap (λ n. outcome_in n (slot_reply caller (at_place (ticket + 1)).words)) stay.0 ∙ ap (outcome_in (slot_number caller (at_place ticket).words)) stay.1

  -- the full image after n entries says of each caller its last entry among them, and the history's reply to it
  tells_on : (n place caller : ℕ) → place ≡ instance.base.place + n → n ≤ length history → caller < 8 → TellsOutcome instance.step instance.base history (at_place place) caller
  tells_on zero place caller is within few = record {
    applied = λ ticket entry reply last replied. (let from = last.linked.from in let below = last.below in absurd (omega (arith, from, below, is)));
    stays = λ none. (
        let here : place ≡ instance.base.place = omega (arith, is) in
        let words : (at_place place).words ≡ instance.base.words = ap (full_image instance.step instance.base history) here ∙ begins instance.step instance.base history in
        ap (λ (ws : List ℕ). outcome_in (slot_number caller ws) (slot_reply caller ws)) words);
  }
  tells_on (suc n) place caller is within few =
      let before = instance.base.place + n in
      let next : place ≡ before + 1 = omega (arith, is) in
      let l = linked_below instance.base.place history before (omega arith) (omega (arith, within)) in
      let outcome_before = tells_on n before caller refl (omega (arith, within)) few in
      subst (λ p. TellsOutcome instance.step instance.base history (at_place p) caller) (sym next) (record {
        applied = λ ticket entry reply last replied. elim (cases_eq ticket before) [
          | inl here ↦ (
              let linked = subst (λ t. IsLinked instance.base.place history t entry) here last.linked in
              ap (λ c. outcome_of c (at_place (before + 1))) (sym last.mine)
              ∙ entry_outcome before entry reply linked (subst (λ t. reply_at instance.step instance.base.place (object_part instance.base.words) history t ≡ Some reply) here replied))
          | inr apart ↦ (
              let below = last.below in
              let less : ticket < before = omega (arith, below, apart) in
              left_by before l.0 caller few l.1 (last.last before l.0 l.1 less (omega arith))
              ∙ outcome_before.applied ticket entry reply (record { linked = last.linked; below = less; mine = last.mine; last = λ later other linked after small. last.last later other linked after (omega (arith, small)) }) replied)
        ];
        stays = λ none. left_by before l.0 caller few l.1 (none before l.0 l.1 (omega arith)) ∙ outcome_before.stays (λ ticket entry linked small. none ticket entry linked (omega (arith, small)));
      })

  -- the full image at each place of the history says of each caller its last entry below the place, and the history's reply to it
  pub full_tells : (place caller : ℕ) → instance.base.place ≤ place → place ≤ instance.base.place + length history → caller < 8 → TellsOutcome instance.step instance.base history (at_place place) caller
  full_tells place caller from to few = tells_on (place - instance.base.place) place caller (omega (arith, from)) (omega (arith, from, to)) few

  -- the result of an entry's caller keeps the reply of the entry's step
  replied_by : (ticket : ℕ) (entry : Entry) → IsLinked instance.base.place history ticket entry → IsStepsReply lawful instance.step (slot_reply entry.caller (at_place (ticket + 1)).words)
  replied_by ticket entry linked = record {
    image = object_part (at_place ticket).words;
    op = entry.op;
    of = (lawful_at ticket entry linked).object;
    fits = (entries (ticket - instance.base.place) entry linked.at).op;
    is = (kept_at ticket entry linked).reply;
  }

  -- where a caller's result stays from `before` to `after`, it is in `after`, as in `before`, that of the first base or a reply of the object's step
  stays_from : (caller : ℕ) (before after : List ℕ) → IsEarlierResult before after caller
      → IsEarlierResult instance.base.words before caller ⊎ IsStepsReply lawful instance.step (slot_reply caller before)
      → IsEarlierResult instance.base.words after caller ⊎ IsStepsReply lawful instance.step (slot_reply caller after)
  stays_from caller before after stay (inl same) = inl (stay.0 ∙ same.0, stay.1 ∙ same.1)
  stays_from caller before after stay (inr of_step) = inr (subst (IsStepsReply lawful instance.step) (sym stay.1) of_step)

  results_on : (n place : ℕ) → place ≡ instance.base.place + n → n ≤ length history → HasResultsFrom lawful instance.step instance.base.words (at_place place).words
  results_on zero place is within caller few =
      let here : place ≡ instance.base.place = omega (arith, is) in
      let words : (at_place place).words ≡ instance.base.words = ap (full_image instance.step instance.base history) here ∙ begins instance.step instance.base history in
      inl (ap (slot_number caller) words, ap (slot_reply caller) words)
  results_on (suc n) place is within caller few =
      let before = instance.base.place + n in
      let next : before + 1 ≡ place = omega (arith, is) in
      let l = linked_below instance.base.place history before (omega arith) (omega (arith, within)) in
      let From = λ (p : ℕ). IsEarlierResult instance.base.words (at_place p).words caller ⊎ IsStepsReply lawful instance.step (slot_reply caller (at_place p).words) in
      subst From next (elim (cases_order caller l.0.caller) [
        | inl own ↦ inr (subst (λ c. IsStepsReply lawful instance.step (slot_reply c (at_place (before + 1)).words)) (sym own) (replied_by before l.0 l.1))
        | inr apart ↦ stays_from caller (at_place before).words (at_place (before + 1)).words ((kept_at before l.0 l.1).others caller few apart)
            (results_on n before refl (omega (arith, within)) caller few)
      ])

  pub full_results : (place : ℕ) → instance.base.place ≤ place → place ≤ instance.base.place + length history → HasResultsFrom lawful instance.step instance.base.words (at_place place).words
  full_results place from to = results_on (place - instance.base.place) place (omega (arith, from)) (omega (arith, from, to))
