-- A raise of DUR, and what it answers.
use Rattle.std.proofs.Common.{◌≡◌, ◌+◌, ◌<◌, ◌≤◌, inl, inr, ℕ, max, nat_lt, Bool, cond, List, ◌∷◌, ◌++◌, [], Option, Some, None, length, set, slice_index, refl, ap, sym, subst, ◌∙◌, arith, length-append}
use Rattle.std.proofs.lemmas.Bool.{cases_Bool, cases_lt, ltb-false, ltb-true}
use Rattle.std.proofs.lemmas.List.{append-nil, get_or-set_same}
use Rattle.std.proofs.lemmas.List.Elements.{All-contains}
use Rattle.std.proofs.lemmas.Option.{none-some, same_Some, slice_get_within}
use Rattle.std.specs.List.{Contains, slice_get}
use Rattle.cx_base.specs.Codes.{root_place_of, root_replica_of}
use Rattle.cx_core.specs.declared.entry.Entry.{Entry}
use Rattle.cx_core.specs.declared.local.Answer.{Answer}
use Rattle.cx_core.specs.declared.local.HeldShared.{HeldShared}
use Rattle.cx_core.specs.declared.local.Linked.{Linked}
use Rattle.cx_core.specs.declared.local.Local.{Local}
use Rattle.cx_core.specs.declared.local.SeenRead.{SeenRead}
use Rattle.cx_core.specs.LawfulAnswers.{Answers, AreAnswers, IsAnswer, IsRead, NeverFall, durable_place}
use Rattle.cx_core.specs.LawfulRegions.{vol_word}
use Rattle.cx_core.specs.Layout.{dur_at}
use Rattle.cx_core.specs.RootEvents.{CanRaise, ShowsPlace, answers_below, raised_by, raised_floor, reply_after, unanswered}
use Rattle.cx_core.specs.State.{Instance, Scene}
use Rattle.cx_core.proofs.Claims.{shared_alone, shared_below, unheld_none}
use Rattle.cx_core.proofs.ListLemmas.{item_below, slice_get-append}
use Rattle.cx_core.proofs.Locals.{slice_get-push}
use Rattle.core_replica.specs.Keeping.{Grounds}
use Rattle.core_replica.proofs.AnswerLaws.{above_same, answer_stays, answers_put, read_stays}
use Rattle.core_replica.proofs.OwnLaws.{answered_own, own_reply}
use Rattle.cx_core.proofs.RootCodes.{place_up}

-- what a raise to a place answers of an entry: nothing where it is at or above the place, else the history's reply
pub record Gives (instance : Instance) (history : List Entry) (place : ℕ) (o : Option Linked) (answers : List Answer) : Type 0 where
  pub few : length answers ≤ 1
  pub each : (k : ℕ) (x : Answer) → slice_get answers k ≡ Some x → (y : Linked) × (o ≡ Some y) × (x ≡ record { ticket = y.ticket; reply = reply_after instance history y.ticket y.entry.op })
  pub below : (y : Linked) → o ≡ Some y → 0 < length answers → y.ticket < place
  pub above : (y : Linked) → o ≡ Some y → length answers ≡ 0 → place ≤ y.ticket

gives_some : (instance : Instance) (history : List Entry) (place : ℕ) (x : Linked) → Gives instance history place (Some x) (answers_below instance history place (Some x))
gives_some instance history place x =
    let answer : Answer = record { ticket = x.ticket; reply = reply_after instance history x.ticket x.entry.op } in
    let P : Bool → Type 0 = λ b. Gives instance history place (Some x) (cond b (answer ∷ []) []) in
    elim (cases_Bool (nat_lt x.ticket place)) [
      | inl e ↦ subst P (sym e) (record {
        few = omega arith;
        each = λ k y at. (x, refl, sym (only answer k y at));
        below = λ y is _. subst (λ (z : Linked). z.ticket < place) (same_Some x y is) (ltb-true x.ticket place e);
        above = λ y is none. absurd (omega arith);
      })
      | inr e ↦ subst P (sym e) (record {
        few = omega arith;
        each = λ k y at. absurd (none-some y at);
        below = λ y is some. absurd (omega arith);
        above = λ y is _. subst (λ (z : Linked). place ≤ z.ticket) (same_Some x y is) (ltb-false x.ticket place e);
      })
    ]
  where
    -- each item of the list of the answer `x` alone is that answer
    only : (x : Answer) (k : ℕ) (y : Answer) → slice_get (x ∷ []) k ≡ Some y → x ≡ y
    only x k y at = elim (slice_get-push [] x k y at) [ inl none ↦ absurd (none-some y none) | inr last ↦ last.1 ]

pub gives : (instance : Instance) (history : List Entry) (place : ℕ) (o : Option Linked) → Gives instance history place o (answers_below instance history place o)
gives instance history place None = record {
  few = omega arith;
  each = λ k y at. absurd (none-some y at);
  below = λ y is _. absurd (none-some y is);
  above = λ y is _. absurd (none-some y is);
}
gives instance history place (Some x) = gives_some instance history place x

-- a floor doesn't fall, and rises to the place where something is answered
pub floor_up : (floor place : ℕ) (answers : List Answer) (reads : List SeenRead) → floor ≤ raised_floor floor place answers reads
floor_up floor place [] [] = omega arith
floor_up floor place (x ∷ answers) reads = omega arith
floor_up floor place [] (x ∷ reads) = omega arith

floor_place : (floor place : ℕ) (answers : List Answer) (reads : List SeenRead) → 0 < length answers + length reads → place ≤ raised_floor floor place answers reads
floor_place floor place [] [] some = absurd (omega arith)
floor_place floor place (x ∷ answers) reads some = omega arith
floor_place floor place [] (x ∷ reads) some = omega arith

-- one read more at a place and a count no less
rise_push : (reads : List SeenRead) (x : SeenRead) → NeverFall reads → ((i : ℕ) (y : SeenRead) → slice_get reads i ≡ Some y → (y.place ≤ x.place) × (y.before ≤ x.before)) → NeverFall (reads ++ x ∷ [])
rise_push reads x old last i j y z at_i at_j order =
    elim (slice_get-push reads x i y at_i) [
      | inl first ↦ elim (slice_get-push reads x j z at_j) [
        | inl second ↦ old i j y z first second order
        | inr e ↦ subst (λ (r : SeenRead). (y.place ≤ r.place) × (y.before ≤ r.before)) e.1 (last i y first)
      ]
      | inr e ↦ elim (slice_get-push reads x j z at_j) [
        | inl second ↦ (let within = slice_get_within reads j z second in let end_ : i ≡ length reads = e.0 in absurd (omega arith))
        | inr f ↦ (let same : y ≡ z = sym e.1 ∙ f.1 in (subst (λ (r : SeenRead). y.place ≤ r.place) same (omega arith), subst (λ (r : SeenRead). y.before ≤ r.before) same (omega arith)))
      ]
    ]

-- the replica held shared that shows the place of a code
shown_place : (callers code : ℕ) (o : Option HeldShared) → ShowsPlace callers code o → (h : HeldShared) × (o ≡ Some h) × (h.replica ≡ root_replica_of callers code) × Contains h.loaded (0, root_place_of callers code)
shown_place callers code None shows = absurd shows
shown_place callers code (Some h) shows = (h, refl, shows.0, shows.1)

module _ (instance : Instance) (history : List Entry) (words : List ℕ) (locals : List Local) (caller : ℕ) (l : Local) (grounds : Grounds instance history words locals)
    (old : Answers instance history words locals) (at : slice_get locals caller ≡ Some l) where
  -- an own entry that is answered is below the floor
  answered_below : (i : ℕ) (y : Linked) → slice_get l.own i ≡ Some y → i < length l.answered → y.ticket < l.floor
  answered_below i y there counted =
      let x = item_below l.answered i counted in
      let below_floor = ((old.each caller l at).entries i x.0 x.1).below_floor in
      let own = answered_own instance history locals caller l grounds.tickets at i x.0 x.1 in
      let same = ap (λ (z : Linked). z.ticket) (same_Some y own.0 (sym there ∙ own.1)) in
      omega (arith, below_floor, own.2, same)

  -- the place of a code whose replica is held shared at that place is from the base's on
  shown_from : (code : ℕ) → ShowsPlace instance.callers code l.shared → instance.base.place ≤ root_place_of instance.callers code
  shown_from code shows =
      let h = shown_place instance.callers code l.shared shows in
      let loaded = All-contains (λ (x : ℕ × ℕ). (x.0 < length instance.base.words) × (vol_word instance words h.0.replica x.0 ≡ x.1)) h.0.loaded (0, root_place_of instance.callers code) (grounds.regions.loaded caller l at h.0 h.1) h.3 in
      let nobody = unheld_none locals h.0.replica (shared_alone instance.callers words locals grounds.locks caller l h.0 at h.1) in
      let image = grounds.regions.unheld h.0.replica (shared_below instance.callers words locals grounds.locks caller l h.0 at h.1) nobody in
      omega (arith, image.from, loaded.1)

  module _ (scene : Scene) (same : scene.history ≡ history) (code : ℕ) where
    abbrev place : ℕ
    place = root_place_of instance.callers code

    abbrev answers : List Answer
    answers = answers_below instance scene.history place (unanswered l)

    abbrev after : List ℕ
    after = set words dur_at (max (slice_index words dur_at) code)

    abbrev end_ : ℕ
    end_ = durable_place instance after

    given : Gives instance history place (unanswered l) answers
    given = subst (λ h. Gives instance history place (unanswered l) (answers_below instance h place (unanswered l))) (sym same) (gives instance history place (unanswered l))

    dur_after : slice_index after dur_at ≡ max (slice_index words dur_at) code
    dur_after = get_or-set_same words dur_at (max (slice_index words dur_at) code) 0 (omega (arith, grounds.shape.long))

    durable_up : durable_place instance words ≤ end_
    durable_up = place_up instance.callers (slice_index words dur_at) (slice_index after dur_at) grounds.shape.some (omega (arith, dur_after))

    durable_code : place ≤ end_
    durable_code = place_up instance.callers code (slice_index after dur_at) grounds.shape.some (omega (arith, dur_after))

    -- an answered entry is the unanswered own one
    answered_entry : (floor k : ℕ) (x : Answer) → place ≤ floor → slice_get answers k ≡ Some x → (l' : Local) → l'.floor ≡ floor → IsAnswer instance history end_ l' x
    answered_entry floor k x up there l' is =
        let g = given.each k x there in
        let y = g.0 in
        let within = slice_get_within answers k x there in
        let below = given.below y g.1 (omega arith) in
        let answer : Answer = record { ticket = y.ticket; reply = reply_after instance history y.ticket y.entry.op } in
        subst (IsAnswer instance history end_ l') (sym g.2) (let a : IsAnswer instance history end_ l' answer = record {
          reply = own_reply instance history locals caller l grounds.tickets at (length l.answered) y g.1;
          durable = omega (arith, durable_code, below);
          below_floor = omega (arith, is, below);
        } in a)

    -- the answers that stand after the raise
    entries_after : (l' : Local) → l'.answered ≡ l.answered ++ answers → l.floor ≤ l'.floor → (0 < length answers → place ≤ l'.floor) →
        (i : ℕ) (x : Answer) → slice_get l'.answered i ≡ Some x → IsAnswer instance history end_ l' x
    entries_after l' answered up reaches i x there =
        elim (slice_get-append l.answered answers i x (ap (λ (o : List Answer). slice_get o i) (sym answered) ∙ there)) [
          | inl was ↦ answer_stays instance history (durable_place instance words) end_ l l' x ((old.each caller l at).entries i x was) durable_up up
          | inr new ↦ (let within = slice_get_within answers new.0 x new.2 in answered_entry l'.floor new.0 x (reaches (omega arith)) new.2 l' refl)
        ]

    -- the reads that were answered before the raise stand after it
    read_after : (l' : Local) → l'.own ≡ l.own → l'.answered ≡ l.answered ++ answers → l.floor ≤ l'.floor → (i : ℕ) (x : SeenRead) → slice_get l.seen_reads i ≡ Some x → IsRead instance history end_ l' x
    read_after l' own answered up i x there =
        let longer : length l'.answered ≡ length l.answered + length answers = ap length answered ∙ length-append l.answered answers in
        read_stays instance history (durable_place instance words) end_ l l' x ((old.each caller l at).reads i x there) durable_up up (omega (arith, longer)) (above_same l l' x own)

    -- a raise that names no read
    raised_alone : AreAnswers instance history end_ (raised_by instance scene code None l)
    raised_alone =
        let l' = raised_by instance scene code None l in
        let same_reads : l'.seen_reads ≡ l.seen_reads = append-nil l.seen_reads in
        let up = floor_up l.floor place answers [] in
        record {
          entries = entries_after l' refl up (λ some. floor_place l.floor place answers [] (omega arith));
          reads = λ i x there. read_after l' refl refl up i x (ap (λ (o : List SeenRead). slice_get o i) (sym same_reads) ∙ there);
          rise = subst NeverFall (sym same_reads) (old.each caller l at).rise;
        }

    -- the read that a raise answers
    abbrev read_now : List ℕ → SeenRead
    read_now op = record { place = place; op = op; reply = reply_after instance scene.history place op; before = length l.answered + length answers }

    module _ (op : List ℕ) (guard : CanRaise instance code (Some op) l) where
      abbrev l_read : Local
      l_read = raised_by instance scene code (Some op) l

      floor_below : l.floor ≤ place
      floor_below =
          let seen : code ≡ l.seen_cur = guard.1.1 in
          omega (arith, (grounds.fronts.each caller l at).floor_cur, ap (root_place_of instance.callers) seen)

      reaches : place ≤ l_read.floor
      reaches = floor_place l.floor place answers (read_now op ∷ []) (omega arith)

      -- an own entry is counted where it is below the place
      is_counted : (i : ℕ) (y : Linked) → slice_get l.own i ≡ Some y → i < length l.answered + length answers → y.ticket < place
      is_counted i y there counted =
          elim (cases_lt i (length l.answered)) [
            | inl was ↦ omega (arith, answered_below i y there was, floor_below)
            | inr past ↦ (
                let last : i ≡ length l.answered = omega (arith, given.few) in
                given.below y (ap (slice_get l.own) (sym last) ∙ there) (omega arith))
          ]

      is_later : (i : ℕ) (y : Linked) → slice_get l.own i ≡ Some y → length l.answered + length answers ≤ i → place ≤ y.ticket
      is_later i y there past =
          let within = slice_get_within l.own i y there in
          let one = (grounds.tickets.each caller l at).one in
          let last : i ≡ length l.answered = omega arith in
          given.above y (ap (slice_get l.own) (sym last) ∙ there) (omega arith)

      is_read : IsRead instance history end_ l_read (read_now op)
      is_read = record {
        words = guard.1.4;
        reads = guard.1.0;
        reply = ap (λ h. reply_after instance h place op) same;
        from = shown_from code guard.1.3;
        durable = durable_code;
        up_to_floor = reaches;
        before = omega (arith, length-append l.answered answers);
        below = λ i y there counted. is_counted i y there counted;
        above = λ i y there past. is_later i y there past;
      }

      raised_with : AreAnswers instance history end_ l_read
      raised_with =
          let up = floor_up l.floor place answers (read_now op ∷ []) in
          let mine = old.each caller l at in
          record {
            entries = entries_after l_read refl up (λ _. reaches);
            reads = λ i x there. elim (slice_get-push l.seen_reads (read_now op) i x there) [
              | inl was ↦ read_after l_read refl refl up i x was
              | inr e ↦ subst (IsRead instance history end_ l_read) e.1 is_read
            ];
            rise = rise_push l.seen_reads (read_now op) mine.rise (λ i x there. (
                let was = mine.reads i x there in
                (omega (arith, was.up_to_floor, floor_below), omega (arith, was.before))));
          }

-- a raise keeps the part on answers
pub raise_kept : (instance : Instance) (history : List Entry) (scene : Scene) (locals : List Local) (caller : ℕ) (l : Local) (code : ℕ) (read : Option (List ℕ)) → Grounds instance history scene.words locals →
    Answers instance history scene.words locals → scene.history ≡ history → slice_get locals caller ≡ Some l → CanRaise instance code read l →
    Answers instance history (set scene.words dur_at (max (slice_index scene.words dur_at) code)) (set locals caller (raised_by instance scene code read l))
raise_kept instance history scene locals caller l code None grounds old same at guard =
    answers_put instance history scene.words _ locals caller l (raised_by instance scene code None l) old at
    (durable_up instance history scene.words locals caller l grounds old at scene same code) (raised_alone instance history scene.words locals caller l grounds old at scene same code)
raise_kept instance history scene locals caller l code (Some op) grounds old same at guard =
    answers_put instance history scene.words _ locals caller l (raised_by instance scene code (Some op) l) old at
    (durable_up instance history scene.words locals caller l grounds old at scene same code) (raised_with instance history scene.words locals caller l grounds old at scene same code op guard)
