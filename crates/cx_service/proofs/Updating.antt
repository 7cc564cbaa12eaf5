-- What submits and drives come to one after another.
use Rattle.std.proofs.Common.{◌≡◌, ◌+◌, ◌≤◌, arith, inl, inr, ℕ, List, [], ◌∷◌, ◌++◌, length, refl, ap, sym, subst, ◌∙◌}
use Rattle.std.proofs.lemmas.Option.{same_Some}
use Rattle.std.proofs.lemmas.Bool.{cases_lt}
use Rattle.cx_core.specs.Layout.{max_word}
use Rattle.cx_core.specs.declared.local.Answer.{Answer}
use Rattle.cx_core.specs.declared.local.Linked.{Linked as OwnEntry}
use Rattle.cx_core.specs.Region.{slot_number}
use Rattle.table_invariant.specs.Running.{Running}
use Rattle.table_invariant.specs.Seats.{IsAtLimit, Seated, images_of}
use Rattle.table_invariant.specs.Timing.{KeepsTimes}
use Rattle.cx_core.specs.declared.local.FullNote.{FullNote}
use Rattle.cx_service.specs.Callers.{StoppedSeat}
use Rattle.cx_service.specs.Drives.{DriveDone, DriveHalted, answer_with}
use Rattle.cx_service.specs.Submits.{SubmitAgain, SubmitFull, SubmitHalted, SubmitKeeps, SubmitLinked, next_entry}
use Rattle.cx_service.specs.Submits.{Submits}
use Rattle.cx_service.specs.declared.submit.Submitted.TheVariants.{Halted as SubmitHalts}
use Rattle.cx_service.specs.declared.update.Updated.{Updated}
use Rattle.cx_service.specs.declared.update.Updated.TheVariants.{Done as UpdateIs, Full as FullUpdate, Worn as WornUpdate, Halted as HaltedUpdate}
use Rattle.cx_service.specs.Updates.{FinishOutcome, KeepsLists, LinksEntry, UpdateDone, UpdateFull, UpdateHalted, Updates}
use Rattle.cx_service.specs.Updates.{SubmitsAgain}
use Rattle.cx_attempts.specs.Answering.{with_answer}
use Rattle.cx_attempts.proofs.Bringing.{brings_around}
use Rattle.cx_attempts.specs.Attempts.{StepsOn}

pub keeps_all : (s : Seated) → KeepsLists s s
keeps_all s = record { number = refl; limit = refl; own = refl; answered = refl; reads = refl; front = omega arith; cur = omega arith }

module _ {O : Type 0} (r : Running O) (op : List ℕ) (s u : Seated) (same : KeepsLists s u) (times : KeepsTimes s.known.times u.known.times) (since : StepsOn s u) (stood : IsAtLimit s.known.local → u ≡ s) (images : images_of u.known ≡ images_of s.known) (met : u.known.local.met ≡ s.known.local.met) where
  -- what is allowed after the tries so far was so before them
  allowed_first : ¬ IsAtLimit u.known.local → ¬ IsAtLimit s.known.local
  allowed_first free at = free (subst (λ (x : Seated). IsAtLimit x.known.local) (sym (stood at)) at)

  -- the entry that the caller links next is at `u` as it was at `s`
  same_entry : (ticket : ℕ) → next_entry r u.known.local op ticket ≡ next_entry r s.known.local op ticket
  same_entry ticket =
      ap (λ (n : ℕ). (let e : OwnEntry = record { ticket = ticket; entry = record { caller = n; number = slot_number n r.base.words + length u.known.local.own + 1; op = op } } in e)) same.number
      ∙ ap (λ (xs : List OwnEntry). (let e : OwnEntry = record { ticket = ticket; entry = record { caller = s.known.local.number; number = slot_number s.known.local.number r.base.words + length xs + 1; op = op } } in e)) same.own

  -- what a further submit keeps, which linked nothing
  keeps_on : (most : ℕ) (v : Seated) → v.known.local.own ≡ u.known.local.own → SubmitKeeps most u v → KeepsLists s v
  keeps_on most v own keeps = record {
    number = keeps.number ∙ same.number;
    limit = keeps.limit ∙ same.limit;
    own = own ∙ same.own;
    answered = keeps.answered ∙ same.answered;
    reads = keeps.reads ∙ same.reads;
    front = (let first = same.front in let more = keeps.front in omega (arith, first, more));
    cur = (let first = same.cur in let more = keeps.cur in omega (arith, first, more));
  }

  pub again_keeps : (tries most : ℕ) (v : Seated) → SubmitAgain r tries most u v → KeepsLists s v
  again_keeps tries most v a = keeps_on most v a.own a.keeps

  pub again_times : (tries most : ℕ) (v : Seated) → SubmitAgain r tries most u v → KeepsTimes s.known.times v.known.times
  again_times tries most v a = record { linked = a.linked ∙ times.linked; answered = a.keeps.times.answered ∙ times.answered; reads = a.keeps.times.reads ∙ times.reads }

  pub again_since : (tries most : ℕ) (v : Seated) → SubmitAgain r tries most u v → StepsOn s v
  again_since tries most v a = omega (arith, a.since, since)

  pub again_images : (tries most : ℕ) (v : Seated) → SubmitAgain r tries most u v → images_of v.known ≡ images_of s.known
  again_images tries most v a = a.keeps.images ∙ images

  pub again_met : (tries most : ℕ) (v : Seated) → SubmitAgain r tries most u v → v.known.local.met ≡ s.known.local.met
  again_met tries most v a = a.keeps.met ∙ met

  pub again_stood : (tries most : ℕ) (v : Seated) → SubmitAgain r tries most u v → IsAtLimit s.known.local → v ≡ s
  again_stood tries most v a at = absurd (allowed_first a.allowed at)

  pub update_full : (most : ℕ) (v : Seated) (note : FullNote) → u.known.sets ≡ s.known.sets → s.known.local.scans ≤ u.known.local.scans → SubmitFull r most u v note → UpdateFull r s v note
  update_full most v note still rise f = record {
    caller = f.caller;
    allowed = allowed_first f.allowed;
    keeps = keeps_on most v f.own f.keeps;
    met = f.keeps.met ∙ met;
    full = (let e = ap (λ (xs : List OwnEntry). length xs) same.own in omega (arith, e, f.full));
    scans = elim (cases_lt (u.known.local.scans + 1) max_word) [
      | inl below ↦ inl (let e = f.scans in omega (arith, e, below, rise))
      | inr above ↦ inr (let e = f.scans in omega (arith, e, above))
    ];
    steps = (let count = f.steps in omega (arith, count, since));
    names = f.names;
    sets = f.keeps.sets ∙ still;
    times = record { linked = f.linked ∙ times.linked; answered = f.keeps.times.answered ∙ times.answered; reads = f.keeps.times.reads ∙ times.reads };
    images = f.keeps.images ∙ images;
  }

  pub update_halted : (most : ℕ) (v : StoppedSeat) → SubmitHalted r most u v → SubmitsAgain r op s u → Submits r op 16 u (SubmitHalts v) → UpdateHalted r op s v
  update_halted most v h tried due = record {
    caller = h.caller;
    number = h.keeps.number ∙ same.number;
    images = h.keeps.images ∙ images;
    lists = inl (record {
      last = u;
      tried = tried;
      due = due;
      none = h.linked;
      times = record { linked = h.times ∙ times.linked; answered = h.keeps.times.answered ∙ times.answered; reads = h.keeps.times.reads ∙ times.reads };
      keeps = keeps_on most v.seat h.own h.keeps;
      since = omega (arith, since, h.since);
      met = h.keeps.met ∙ met;
    });
  }

  -- an entry that was linked, and driven on
  module _ (most : ℕ) (l : Seated) (linked : SubmitLinked r op most u l) where
    links : (v : Seated) (ticket : ℕ) → ticket ≡ linked.ticket → v.known.local.number ≡ l.known.local.number → v.known.local.limit ≡ l.known.local.limit → v.known.local.own ≡ l.known.local.own → v.known.local.seen_reads ≡ l.known.local.seen_reads →
        v.known.times.linked ≡ l.known.times.linked → v.known.times.reads ≡ l.known.times.reads → StepsOn l v → LinksEntry r op ticket s v
    links v ticket is number limit own reads still read on = record {
      number = number ∙ linked.keeps.number ∙ same.number;
      limit = limit ∙ linked.keeps.limit ∙ same.limit;
      own = own ∙ linked.own ∙ ap (λ (xs : List OwnEntry). xs ++ next_entry r u.known.local op linked.ticket ∷ []) same.own
          ∙ ap (λ (x : OwnEntry). s.known.local.own ++ x ∷ []) (same_entry linked.ticket ∙ ap (next_entry r s.known.local op) (sym is));
      reads = reads ∙ linked.keeps.reads ∙ same.reads;
      begun = record { at = linked.begun.at; from = omega (arith, linked.begun.from, since); is = still ∙ linked.begun.is ∙ ap (λ ts. ts ++ linked.begun.at ∷ []) times.linked };
      read = read ∙ linked.keeps.times.reads ∙ times.reads;
      since = omega (arith, since, linked.since, on);
    }

    before_ended : l.known.times.answered ≡ s.known.times.answered
    before_ended = linked.keeps.times.answered ∙ times.answered

    before_answered : l.known.local.answered ≡ s.known.local.answered
    before_answered = linked.keeps.answered ∙ same.answered

    pub update_done : (v : Seated) (answer : Answer) → u.known.sets ≡ s.known.sets → s.known.local.front ≤ u.known.local.front → DriveDone r l v answer → UpdateDone r op s v answer
    update_done v answer still rise d = record {
      caller = d.caller;
      met = (let still = linked.keeps.met in omega (arith, still, met, d.keeps.met));
      from = (let same = same_Some answer.ticket linked.ticket (sym d.ticket ∙ linked.lends) in omega (arith, same, rise, linked.from));
      allowed = allowed_first linked.allowed;
      links = links v answer.ticket (same_Some answer.ticket linked.ticket (sym d.ticket ∙ linked.lends)) d.keeps.number d.keeps.limit d.keeps.own d.keeps.reads d.keeps.linked d.keeps.read d.keeps.since;
      answered = d.answered ∙ ap (with_answer answer.ticket answer.reply) before_answered;
      brought = brings_around s l v v (linked.keeps.sets ∙ still) d.brought refl;
      ended = record { at = d.ended.at; to = d.ended.to; is = d.ended.is ∙ ap (λ ts. ts ++ d.ended.at ∷ []) before_ended };
      images = d.keeps.images ∙ linked.keeps.images ∙ images;
    }

    pub drive_halted : (v : StoppedSeat) → DriveHalted r l v → UpdateHalted r op s v
    drive_halted v h = record {
      caller = h.caller;
      number = h.keeps.number ∙ linked.keeps.number ∙ same.number;
      images = h.keeps.images ∙ linked.keeps.images ∙ images;
      lists = inr (record {
        ticket = h.ticket;
        linked = h.linked;
        met = (let still = linked.keeps.met in omega (arith, still, met, h.keeps.met));
        links = links v.seat h.ticket (same_Some h.ticket linked.ticket (sym h.is ∙ linked.lends)) h.keeps.number h.keeps.limit h.keeps.own h.keeps.reads h.keeps.linked h.keeps.read h.keeps.since;
        answered = elim h.answered [
          | inl none ↦ inl (none ∙ before_answered)
          | inr one ↦ inr (one.0, one.1 ∙ ap (with_answer h.ticket one.0) before_answered, one.2)
        ];
        ended = elim h.ended [
          | inl none ↦ inl (none ∙ before_ended)
          | inr one ↦ inr (record { at = one.at; to = one.to; is = one.is ∙ ap (λ ts. ts ++ one.at ∷ []) before_ended })
        ];
      });
    }

    -- what driving the linked entry to its end leaves is what the update leaves
    pub finished : (reply : List ℕ) (d : Updated) → u.known.sets ≡ s.known.sets → s.known.local.front ≤ u.known.local.front → FinishOutcome r reply l d → Updates r op reply s d
    finished reply (UpdateIs v ticket) still rise done = update_done v (answer_with ticket reply) still rise done
    finished reply (FullUpdate v note) still rise none = absurd none
    finished reply (WornUpdate v) still rise none = absurd none
    finished reply (HaltedUpdate v) still rise halted = drive_halted v halted
