-- The part on links.
use Rattle.std.proofs.Common.{◌≡◌, ◌≢◌, ◌+◌, ◌-◌, ◌*◌, ◌/◌, ◌%◌, ◌==◌, ◌<◌, ◌≤◌, ◌⊎◌, ℕ, true, false, cond, max, List, [], ◌∷◌, ◌++◌, length, set, slice_index, inl, inr, refl, ap, sym, subst, ◌∙◌, arith, Option, Some, None}
use Rattle.std.proofs.lemmas.Bool.{cases_eq, cases_lt}
use Rattle.std.proofs.lemmas.List.{get_or-set_same, get_or-set_other}
use Rattle.std.proofs.lemmas.Nat.{div-mul-add, mod_below}
use Rattle.cx_base.specs.Codes.{link_code_of, link_ticket_of}
use Rattle.cx_core.specs.declared.entry.Entry.{Entry}
use Rattle.cx_core.specs.declared.local.SeenSlot.{SeenSlot}
use Rattle.cx_core.specs.QueueEvents.{ShowsOpen, raised_front, seen_word}
use Rattle.cx_core.specs.Layout.{cell_count, link_at}
use Rattle.cx_core.specs.Lawful.{LinkWord, Links}
use Rattle.cx_core.specs.Lawful.LinkWord.{Never, Names}
use Rattle.cx_core.specs.Merge.{IsLinked}
use Rattle.cx_core.specs.State.{Instance}
use Rattle.cx_core.proofs.HistoryLemmas.{linked_grows}
use Rattle.cx_core.proofs.Locals.{linked_below, linked_last, linked_then, linked_within}

-- a link code gives its ticket back, and is not 0
pub code_ticket : (callers ticket k : ℕ) → k < 16 * callers → link_ticket_of callers (link_code_of callers ticket k) ≡ ticket
code_ticket callers ticket k below =
    let w = 16 * callers in
    let one_off : ticket * w + k + 1 - 1 ≡ ticket * w + k = omega arith in
    ap (λ n. n / w) one_off ∙ div-mul-add ticket w k below

-- the framing law: links name the link words alone
pub links_framed : (instance : Instance) (history : List Entry) (words : List ℕ) (at v : ℕ) → Links instance history words →
    (at < link_at instance.callers 0) ⊎ (link_at instance.callers (cell_count instance.callers) ≤ at) → Links instance history (set words at v)
links_framed instance history words at v links off = record {
  each = λ slot below. (
      let apart : link_at instance.callers slot ≢ at = elim off [ inl a ↦ omega arith | inr b ↦ omega arith ] in
      subst (LinkWord instance history slot) (sym (get_or-set_other words at (link_at instance.callers slot) v 0 apart)) (links.each slot below));
}

-- a slot of which nothing new is linked
word_still : (instance : Instance) (history : List Entry) (entry : Entry) (slot word : ℕ) → (instance.base.place + length history) % cell_count instance.callers ≢ slot →
    LinkWord instance history slot word → LinkWord instance (history ++ entry ∷ []) slot word
word_still instance history entry slot word apart (Never none zero) =
    Never (λ other e linked at. elim (linked_then instance.base.place history entry other e linked) [
      | inl a ↦ none other e a at
      | inr b ↦ apart (ap (λ t. t % cell_count instance.callers) (sym b.0) ∙ at)
    ]) zero
word_still instance history entry slot word apart (Names ticket e j greatest below is) =
    Names ticket e j (record {
      linked = linked_grows instance.base.place history (entry ∷ []) ticket e greatest.linked;
      at = greatest.at;
      greatest = λ other x linked at. elim (linked_then instance.base.place history entry other x linked) [
        | inl a ↦ greatest.greatest other x a at
        | inr b ↦ absurd (apart (ap (λ t. t % cell_count instance.callers) (sym b.0) ∙ at))
      ];
    }) below is

-- a link at the end of the history, with a cell of its caller
pub links_linked : (instance : Instance) (history : List Entry) (words : List ℕ) (entry : Entry) (ticket j : ℕ) → Links instance history words → 1 ≤ instance.callers →
    link_at instance.callers (cell_count instance.callers) ≤ length words → ticket ≡ instance.base.place + length history → j < 16 →
    Links instance (history ++ entry ∷ []) (set words (link_at instance.callers (ticket % cell_count instance.callers)) (link_code_of instance.callers ticket (16 * entry.caller + j)))
links_linked instance history words entry ticket j links some long end below = record {
  each = λ slot within. (
      let q = cell_count instance.callers in
      let here = ticket % q in
      let at = link_at instance.callers here in
      let code = link_code_of instance.callers ticket (16 * entry.caller + j) in
      let small : here < q = mod_below ticket q (omega arith) in
      elim (cases_eq slot here) [
        | inl e ↦ (
            let inside : at < length words = omega arith in
            let is : slice_index (set words at code) (link_at instance.callers slot) ≡ code =
            ap (λ s. slice_index (set words at code) (link_at instance.callers s)) e ∙ get_or-set_same words at code 0 inside in
            Names ticket entry j (record {
              linked = linked_last instance.base.place history entry ticket end;
              at = sym e;
              greatest = λ other x linked same. elim (linked_then instance.base.place history entry other x linked) [
                | inl a ↦ (let before = linked_within instance.base.place history other x a in omega (arith, before))
                | inr b ↦ (let is_last = b.0 in omega (arith, is_last))
              ];
            }) below is)
        | inr ne ↦ (
            let apart : link_at instance.callers slot ≢ at = omega arith in
            let other_slot : (instance.base.place + length history) % q ≢ slot = λ same. ne (sym same ∙ ap (λ t. t % q) (sym end)) in
            subst (LinkWord instance (history ++ entry ∷ []) slot) (sym (get_or-set_other words at (link_at instance.callers slot) code 0 apart))
            (word_still instance history entry slot _ other_slot (links.each slot within)))
      ]);
}

-- what the slot last looked at shows of a ticket that can be linked
pub shown_open : (callers : ℕ) (seen : Option SeenSlot) (ticket : ℕ) → ShowsOpen callers seen ticket →
    (seen_word seen ≡ 0) ⊎ ((0 < seen_word seen) × (link_ticket_of callers (seen_word seen) + cell_count callers ≡ ticket))
shown_open callers None ticket open_ = absurd open_
shown_open callers (Some seen) ticket open_ = open_.1

-- a link that wins is at the end of the history: at an earlier front its slot has a ticket not below the front
pub won_at_end : (instance : Instance) (history : List Entry) (front word : ℕ) (seen : Option SeenSlot) →
    ((ticket : ℕ) (entry : Entry) → IsLinked instance.base.place history ticket entry → entry.caller < instance.callers) → 1 ≤ instance.callers →
    instance.base.place ≤ front → front ≤ instance.base.place + length history → ShowsOpen instance.callers seen front → word ≡ seen_word seen →
    LinkWord instance history (front % cell_count instance.callers) word → front ≡ instance.base.place + length history
won_at_end instance history front word seen callers some from to open_ same (Never none zero) =
    elim (cases_lt front (instance.base.place + length history)) [
      | inl below ↦ (let linked = linked_below instance.base.place history front from below in absurd (none front linked.0 linked.1 refl))
      | inr past ↦ omega arith
    ]
won_at_end instance history front word seen callers some from to open_ same (Names ticket entry j greatest below is) =
    elim (cases_lt front (instance.base.place + length history)) [
      | inl early ↦ (
          let linked = linked_below instance.base.place history front from early in
          let not_before : front ≤ ticket = greatest.greatest front linked.0 linked.1 refl in
          let caller : entry.caller < instance.callers = callers ticket entry greatest.linked in
          let k : 16 * entry.caller + j < 16 * instance.callers = omega arith in
          elim (shown_open instance.callers seen front open_) [
            | inl zero ↦ (
                let nothing : ticket * (16 * instance.callers) + (16 * entry.caller + j) + 1 ≡ 0 = sym is ∙ same ∙ zero in
                absurd (omega arith))
            | inr older ↦ (
                let is_ticket : link_ticket_of instance.callers (seen_word seen) ≡ ticket = ap (link_ticket_of instance.callers) (sym same ∙ is) ∙ code_ticket instance.callers ticket _ k in
                let before : link_ticket_of instance.callers (seen_word seen) + cell_count instance.callers ≡ front = older.1 in
                absurd (omega arith))
          ])
      | inr past ↦ omega arith
    ]

-- the ticket in a link word that is not 0 is below the end
pub word_within : (instance : Instance) (history : List Entry) (slot word : ℕ) → ((ticket : ℕ) (entry : Entry) → IsLinked instance.base.place history ticket entry → entry.caller < instance.callers) →
    LinkWord instance history slot word → 0 < word → link_ticket_of instance.callers word < instance.base.place + length history
word_within instance history slot word callers (Never none zero) some = absurd (omega arith)
word_within instance history slot word callers (Names ticket entry j greatest below is) some =
    let caller : entry.caller < instance.callers = callers ticket entry greatest.linked in
    let k : 16 * entry.caller + j < 16 * instance.callers = omega arith in
    let is_ticket : link_ticket_of instance.callers word ≡ ticket = ap (link_ticket_of instance.callers) is ∙ code_ticket instance.callers ticket _ k in
    let linked = linked_within instance.base.place history ticket entry greatest.linked in
    omega (arith, is_ticket, linked)

-- a front raised by a link word is not past the end
pub raised_within : (instance : Instance) (history : List Entry) (front slot word : ℕ) →
    ((ticket : ℕ) (entry : Entry) → IsLinked instance.base.place history ticket entry → entry.caller < instance.callers) →
    front ≤ instance.base.place + length history → LinkWord instance history slot word →
    (front ≤ raised_front instance.callers front word) × (raised_front instance.callers front word ≤ instance.base.place + length history)
raised_within instance history front slot word callers to (Never none zero) =
    let same : raised_front instance.callers front word ≡ front = ap (raised_front instance.callers front) zero in
    (omega arith, omega arith)
raised_within instance history front slot word callers to (Names ticket entry j greatest below is) =
    let caller : entry.caller < instance.callers = callers ticket entry greatest.linked in
    let k : 16 * entry.caller + j < 16 * instance.callers = omega arith in
    let is_ticket : link_ticket_of instance.callers word ≡ ticket = ap (link_ticket_of instance.callers) is ∙ code_ticket instance.callers ticket _ k in
    let linked = linked_within instance.base.place history ticket entry greatest.linked in
    elim (word == 0) as (λ b. (front ≤ cond b front (max front (link_ticket_of instance.callers word + 1))) × (cond b front (max front (link_ticket_of instance.callers word + 1)) ≤ instance.base.place + length history)) [
      | true ↦ (omega arith, omega arith)
      | false ↦ (omega arith, omega (arith, linked))
    ]
