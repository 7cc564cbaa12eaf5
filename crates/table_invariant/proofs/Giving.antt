-- What a step teaches whose guard or word does not follow from the local state that a seat shows, but from what its caller noted.
use Rattle.std.proofs.Common.{false, true, ◌≡◌, ◌≢◌, ◌==◌, ◌&&◌, inl, inr, ℕ, Bool, IsTrue, cond, List, [], ◌∷◌, length, slice_index, refl, ap, sym, subst, ◌∙◌, eq-eqb, Option, Some, None}
use Rattle.std.proofs.lemmas.Bool.{eqb-true}
use Rattle.std.specs.List.{Contains, slice_get}
use Rattle.std.specs.Option.{IsNone, option_map}
use Rattle.atomic_table.specs.Table as atomic
use Rattle.cx_base.specs.Codes.{root_place_of}
use Rattle.cx_core.specs.declared.kinds.Kind.{Kind}
use Rattle.cx_core.specs.declared.kinds.Kind.TheVariants.{Downgrade, LoadWord, Persist, ReleaseExclusive}
use Rattle.cx_core.specs.declared.local.HeldExclusive.{HeldExclusive}
use Rattle.cx_core.specs.declared.local.Local.{Local}
use Rattle.cx_core.specs.Base.{LawfulBase}
use Rattle.cx_core.specs.Events.{Guard, new_word, next, step_word}
use Rattle.cx_core.specs.History.{IsFull}
use Rattle.cx_core.specs.Lawful.{Lawful}
use Rattle.cx_core.specs.Layout.{vol_at}
use Rattle.cx_core.specs.LockEvents.{IsClean, is_fresh_on}
use Rattle.cx_core.specs.Merge.{history_of, scene_of}
use Rattle.cx_core.specs.Region.{place_of}
use Rattle.cx_core.specs.RegionEvents.{CanLoad, ShowsOutdated}
use Rattle.cx_core.specs.Rights.{exclusive_on, held_dirty, held_words, is_at, shared_on}
use Rattle.cx_core.specs.Shown.{shown}
use Rattle.cx_core.specs.State.{Instance, State, one_more}
use Rattle.cx_core.proofs.HistoryLemmas.{ObjectLaws}
use Rattle.cx_core.proofs.MergeLemmas.{history_is}
use Rattle.cx_core.proofs.HeldLists.{at_true, mapped}
use Rattle.core_queue.specs.NotedSets.{OwnSetsHold}
use Rattle.table_invariant.specs.declared.rule.Known.{Known}
use Rattle.table_invariant.specs.Fitting.{IsReplayed, IsReplayedToPlace, ReplayedTo, TellsWord, has_of}
use Rattle.table_invariant.specs.Learns.{LearnsBy}
use Rattle.table_invariant.specs.Rule.{IsTraced, NotesHold, RuleHolds, SetsHold}
use Rattle.table_invariant.specs.Steps.{IsBlind, MayStepKnowing, KnowledgeAfter}
use Rattle.table_invariant.specs.Seats.{is_outdated, kind_found, known_after, known_local, known_of, marked_load, place_noted, unseen}
use Rattle.table_invariant.proofs.Fitting.{chain_full}
use Rattle.table_invariant.proofs.Having.{has_of_history, there_on}
use Rattle.table_invariant.proofs.Keeps.{allows, blind_teaches, learns_of, learns_there}
use Rattle.table_invariant.proofs.Entries.{entries_from}

abbrev blank : HeldExclusive → HeldExclusive
blank h = record h { words = [] }

-- what an exclusive right shows
shown_on : (o : Option HeldExclusive) → option_map (λ (h : HeldExclusive). h.replica) (option_map blank o) ≡ option_map (λ (h : HeldExclusive). h.replica) o
shown_on None = refl
shown_on (Some h) = refl

shown_dirty : (o : Option HeldExclusive) → held_dirty (option_map blank o) ≡ held_dirty o
shown_dirty None = refl
shown_dirty (Some h) = refl

held_on : (known : Known) (l : Local) → known.local ≡ shown l → exclusive_on l ≡ exclusive_on known.local
held_on known l shows = sym (ap exclusive_on shows ∙ shown_on l.exclusive)

dirty_on : (known : Known) (l : Local) → known.local ≡ shown l → held_dirty l.exclusive ≡ held_dirty known.local.exclusive
dirty_on known l shows = sym (ap (λ (x : Local). held_dirty x.exclusive) shows ∙ shown_dirty l.exclusive)

clean_on : (callers r : ℕ) (known : Known) (l : Local) → known.local ≡ shown l → IsClean callers r known.local → IsClean callers r l
clean_on callers r known l shows clean =
    (clean.0, held_on known l shows ∙ clean.1, subst (λ (x : Local). IsNone x.downgraded) shows clean.2, dirty_on known l shows ∙ clean.3)

-- a word is persisted as the accesses tell it
pub learns_persist : (instance : Instance) (r i : ℕ) (known : Known) (word new : ℕ) → Guard instance unseen (Persist r i) known.local → word ≡ step_word instance (Persist r i) known.local →
    TellsWord (length instance.base.words) known.accesses i new → LearnsBy instance (λ _. Persist r i) known word (λ _. new)
learns_persist instance r i known word new may at tells words _ =
    learns_of instance (Persist r i) known words word new tt at (λ locals law l of_caller shows noted traced. (
    let on = held_on known l shows in
    let held = mapped (λ (h : HeldExclusive). h.replica) l.exclusive r (on ∙ may.0.2) in
    record {
      guard = ((may.0.0, may.0.1, on ∙ may.0.2), subst (λ xs. Contains xs i) (sym (dirty_on known l shows)) may.1);
      new_is = sym (tells traced.first traced.now traced.origin.long traced.leads) ∙ ap (λ ws. slice_index ws i) (traced.held held.0 held.1 ∙ sym (ap held_words held.1));
      shows = persisted_shown instance r i known l (slice_index words word) shows;
      timed = tt;
    }))
  where
    -- after the word `i` of the replica `r` was persisted, the seat shows what the caller's local state then has to show
    persisted_shown : (instance : Instance) (r i : ℕ) (known : Known) (l : Local) (found : ℕ) → known.local ≡ shown l → known_local instance (Persist r i) known found ≡ shown (next instance unseen (Persist r i) l found)
    persisted_shown instance r i known l found shows = ap (λ (x : Local). next instance unseen (Persist r i) x found) shows ∙ by l.exclusive
      where
        by : (o : Option HeldExclusive) → next instance unseen (Persist r i) (shown (record l { exclusive = o })) found ≡ shown (next instance unseen (Persist r i) (record l { exclusive = o }) found)
        by None = refl
        by (Some h) = refl

-- what is full along the state's history is so along the scene's
full_now : {instance : Instance} (s : State) (law : Lawful instance s) (l : Local) (h : HeldExclusive) → l.exclusive ≡ Some h → IsFull instance law.history h.words → IsFull instance (scene_of instance s).history (held_words l.exclusive)
full_now {instance = instance} s law l h has full =
    subst (λ ws. IsFull instance (history_of instance.base.place s.locals) ws) (sym (ap held_words has))
    (subst (λ hs. IsFull instance hs h.words) (sym (history_is instance.base.place law.history s.locals law.tickets.merged)) full)

module _ (lines : ℕ) (lawful : List ℕ → Type 0) (instance : Instance) (laws : ObjectLaws lines lawful instance.step) (base : LawfulBase lines lawful instance.base) where
  -- where what the seat has leads to whatever fits, it leads to the words of the replica that is held
  held_full : (words : List ℕ) (locals : List Local) (law : Lawful instance (record { words = words; locals = locals })) (known : Known) (l : Local) (h : HeldExclusive) →
      slice_get locals known.local.number ≡ Some l → known.local ≡ shown l → l.exclusive ≡ Some h → NotesHold instance law.history known.noted → (traced : IsTraced instance law.history known.accesses l) →
      SetsHold instance (record { words = words; locals = locals }) law.history known → OwnSetsHold instance law.history l.cells → (place : ℕ) → ReplayedTo instance.step (has_of known) traced.first place traced.now →
      IsFull instance law.history h.words × (place_of h.words ≡ place)
  held_full words locals law known l h of_caller shows has noted traced sets own place chain =
      let state : State = record { words = words; locals = locals } in
      let had = has_of_history instance state law known l of_caller shows noted sets own in
      let full = chain_full lines lawful instance laws base law.history law.tickets.below (entries_from instance state law) (has_of known) had traced.first traced.origin place traced.now chain in
      subst (λ ws. IsFull instance law.history ws × (place_of ws ≡ place)) (traced.held h has) full

  -- an exclusive right is released on a full image
  pub learns_release : (r : ℕ) (known : Known) (word : ℕ) → IsClean instance.callers r known.local → word ≡ step_word instance (ReleaseExclusive r) known.local → IsReplayed lines lawful instance.base instance.step known →
      LearnsBy instance (λ _. ReleaseExclusive r) known word (λ x. new_word instance (ReleaseExclusive r) known.local x)
  learns_release r known word clean at replayed words _ locals law l of_caller shows noted traced sets own some =
      let state : State = record { words = words; locals = locals } in
      let held = mapped (λ (h : HeldExclusive). h.replica) l.exclusive r (held_on known l shows ∙ clean.1) in
      let chain = replayed traced.first traced.now (there_on instance state law known l of_caller shows noted sets own lines lawful laws base traced) in
      let full = held_full words locals law known l held.0 of_caller shows held.1 noted traced sets own chain.0 chain.1 in
      learns_there instance (ReleaseExclusive r) known words word _ tt at locals law l of_caller shows noted traced sets some (record {
        guard = (clean_on instance.callers r known l shows clean, full_now state law l held.0 held.1 full.0);
        new_is = refl;
        shows = ap (λ (x : Local). next instance unseen (ReleaseExclusive r) x (slice_index words word)) shows;
        timed = tt;
      })

  -- an exclusive right is turned into a shared one on a full image, at the place that was noted
  pub learns_downgrade : (r : ℕ) (known : Known) (word : ℕ) → IsClean instance.callers r known.local → word ≡ step_word instance (Downgrade r) known.local → IsReplayedToPlace lines lawful instance.base instance.step known →
      LearnsBy instance (λ _. Downgrade r) known word (λ x. new_word instance (Downgrade r) known.local x)
  learns_downgrade r known word clean at replayed words _ locals law l of_caller shows noted traced sets own some =
      let state : State = record { words = words; locals = locals } in
      let held = mapped (λ (h : HeldExclusive). h.replica) l.exclusive r (held_on known l shows ∙ clean.1) in
      let place = place_noted 0 known.accesses in
      let chain = replayed traced.first traced.now (there_on instance state law known l of_caller shows noted sets own lines lawful laws base traced) in
      let full = held_full words locals law known l held.0 of_caller shows held.1 noted traced sets own place chain in
      let is : place_of (held_words l.exclusive) ≡ place = ap (λ o. place_of (held_words o)) held.1 ∙ full.1 in
      learns_there instance (Downgrade r) known words word _ tt at locals law l of_caller shows noted traced sets some (record {
        guard = (clean_on instance.callers r known l shows clean, full_now state law l held.0 held.1 full.0);
        new_is = refl;
        shows = ap (λ (x : Local). known_local instance (Downgrade r) (record known { local = x }) 0) shows
            ∙ ap (λ (p : ℕ). record l { exclusive = None; downgraded = Some (record { replica = r; place = p }); steps = one_more l.steps }) (sym is);
        timed = tt;
      })

-- a load, whose mark as a refusal depends on the word found
outdated_shows : (instance : Instance) (words : List ℕ) (r i : ℕ) (l : Local) → is_outdated instance r i l (slice_index words (vol_at instance.callers (length instance.base.words) r i)) ≡ true → ShowsOutdated instance.callers (length instance.base.words) words r i l
outdated_shows instance words r i l is =
    let found = slice_index words (vol_at instance.callers (length instance.base.words) r i) in
    let code = root_place_of instance.callers l.seen_cur in
    let a = and_true (i == 0) _ is in
    let b = and_true (is_at r (shared_on l)) _ a.1 in
    let c = and_true (is_fresh_on instance.callers r l) _ b.1 in
    let at : i ≡ 0 = eqb-true i 0 a.0 in (
      at,
      at_true r (shared_on l) b.0,
      c.0,
      λ same. not_same found code c.1 (ap (λ n. slice_index words (vol_at instance.callers (length instance.base.words) r n)) at ∙ same),
    )
  where
    and_true : (a b : Bool) → (a && b) ≡ true → (a ≡ true) × (b ≡ true)
    and_true true b e = (refl, e)
    and_true false b e = cc

    -- where the test for a difference of `x` and `y` is true, they differ
    not_same : (x y : ℕ) → cond (x == y) false true ≡ true → x ≢ y
    not_same x y e same = (let on : (x == y) ≡ true = eq-eqb x y same in cc)

pub learns_load : (instance : Instance) (r i : ℕ) (mark : Bool) (known : Known) (word : ℕ) → CanLoad instance.callers (length instance.base.words) r i known.local → word ≡ vol_at instance.callers (length instance.base.words) r i →
    LearnsBy instance (marked_load instance r i mark known.local) known word (λ x. x)
learns_load instance r i mark known word can at words _ =
    let found = slice_index words word in
    let refused = mark && is_outdated instance r i known.local found in
    let kind : Kind = LoadWord r i refused in
    learns_of instance kind known words word found tt at (λ locals law l of_caller shows noted traced. (
    record {
      guard = (
        can_on instance.callers (length instance.base.words) r i known l shows can,
        λ is. (
            let out : is_outdated instance r i l found ≡ true = ap (λ (x : Local). is_outdated instance r i x found) (sym shows) ∙ second mark _ is in
            outdated_shows instance words r i l (subst (λ w. is_outdated instance r i l (slice_index words w) ≡ true) at out)),
      );
      new_is = refl;
      shows = ap (λ (x : Local). next instance unseen kind x found) shows;
      timed = tt;
    }))
  where
    second : (a b : Bool) → IsTrue (a && b) → b ≡ true
    second true b e = e
    second false b e = cc

    -- a load of the word `i` of the replica `r` that is allowed by what the seat shows is allowed by the caller's local state `l`
    can_on : (callers region r i : ℕ) (known : Known) (l : Local) → known.local ≡ shown l → CanLoad callers region r i known.local → CanLoad callers region r i l
    can_on callers region r i known l shows can = (can.0, can.1, elim can.2 [ inl held ↦ inl (held_on known l shows ∙ held) | inr shared ↦ inr (ap (λ (x : Local). shared_on x) (sym shows) ∙ shared) ])

-- what the table asks of a step that is learned by what was noted
pub allows_learned : (instance : Instance) (kind : Kind) (slots id word : ℕ) (me : atomic.Me ℕ (List Known)) (f : ℕ → ℕ) → me ≡ (known_of me.0 ∷ [], []) → MayStepKnowing instance kind (known_of me.0) word f →
    atomic.Allows (RuleHolds instance) slots id me word f (λ found. KnowledgeAfter instance (kind_found instance kind (known_of me.0).local found) (known_of me.0) found)
allows_learned instance kind slots id word me f one learns =
    let known = known_of me.0 in
    let by = kind_found instance kind known.local in
    allows instance by known slots id word me f (λ found. KnowledgeAfter instance (by found) known found) one learns (λ found taught. taught)

pub allows_learned_store : (instance : Instance) (kind : Kind) (slots id word : ℕ) (me : atomic.Me ℕ (List Known)) (new : ℕ) → me ≡ (known_of me.0 ∷ [], []) → MayStepKnowing instance kind (known_of me.0) word (λ _. new) →
    ((l : Local) (found : ℕ) → kind_found instance kind l found ≡ kind) → IsBlind instance kind (known_of me.0) →
    atomic.Allows (RuleHolds instance) slots id me word (λ _. new) (λ _. KnowledgeAfter instance kind (known_of me.0) 0)
allows_learned_store instance kind slots id word me new one learns plain blind =
    let known = known_of me.0 in
    let by = kind_found instance kind known.local in
    allows instance by known slots id word me (λ _. new) (λ _. KnowledgeAfter instance kind known 0) one learns
    (λ found taught. (
    let same = plain known.local found in
    subst (λ (k : Kind). KnowledgeAfter instance kind known 0 (known_after instance k known found ∷ [], [])) (sym same)
    (blind_teaches instance kind known found blind.blind blind.silent (subst (λ (k : Kind). KnowledgeAfter instance k known found (known_after instance k known found ∷ [], [])) same taught))))
