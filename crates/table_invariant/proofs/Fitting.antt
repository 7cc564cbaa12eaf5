-- What is really there fits what a caller noted. So what is said of all that fits is true of it: entries that the caller has and
-- that lead on from a full image lead to the full image after their place.
use Rattle.std.proofs.Common.{◌≡◌, ◌+◌, ◌-◌, ◌^◌, ◌<◌, ◌≤◌, ℕ, suc, List, ◌∷◌, length, slice_index, refl, ap, sym, subst, ◌∙◌, arith, Some}
use Rattle.std.proofs.lemmas.List.{ext_get_or}
use Rattle.std.proofs.lemmas.Option.{same_Some, slice_get_within}
use Rattle.std.specs.List.{slice_get}
use Rattle.cx_base.specs.Noted.{Note, NotesLead}
use Rattle.cx_core.specs.declared.entry.Base.{Base}
use Rattle.cx_core.specs.declared.entry.Entry.{Entry}
use Rattle.cx_core.specs.Base.{LawfulBase}
use Rattle.cx_core.specs.History.{AreLawful, IsFull, IsLawfulEntry, full_image}
use Rattle.cx_core.specs.Merge.{IsLinked}
use Rattle.cx_core.specs.Region.{place_of}
use Rattle.cx_core.specs.State.{Instance}
use Rattle.cx_core.specs.Step.{full_step_of}
use Rattle.cx_core.specs.WriteSet.{stored}
use Rattle.cx_core.proofs.HistoryLemmas.{ObjectLaws, full_lawful, full_next}
use Rattle.table_invariant.specs.declared.rule.Known.{Known}
use Rattle.table_invariant.specs.declared.rule.Noted.{Noted}
use Rattle.table_invariant.specs.Fitting.{IsConsistentWith, FitsOn, Fitting, Has, IsNoted, ReplayedTo, base_of, has_of, start, with_entry, with_set}
use Rattle.table_invariant.specs.Having.{IsOfHistory}
use Rattle.table_invariant.specs.Rule.{IsBehindNotes, IsEntryFrom, IsImageOfSome, IsOrigin, NotesHold}

-- entries by their callers' numbers in a lawful base are lawful
pub entries_lawful : (lines : ℕ) (lawful : List ℕ → Type 0) (instance : Instance) (history : List Entry) → LawfulBase lines lawful instance.base → ((i : ℕ) (entry : Entry) → slice_get history i ≡ Some entry → IsEntryFrom instance i entry) →
    AreLawful instance.base.place history
entries_lawful lines lawful instance history base from i entry at =
    let e = from i entry at in
    let most = e.most in
    let least = base.numbers entry.caller e.caller in
    record { caller = e.caller; some = e.some; most = omega arith; op = e.op }

-- an entry that is noted whole is the history's
pub noted_linked : (instance : Instance) (history : List Entry) → ((i : ℕ) (entry : Entry) → slice_get history i ≡ Some entry → IsEntryFrom instance i entry) →
    (notes : List Noted) (ticket : ℕ) (e : Entry) → NotesHold instance history notes → instance.base.place ≤ ticket → IsNoted notes ticket e → IsLinked instance.base.place history ticket e
noted_linked instance history entries notes ticket e hold from noted =
    let first = noted.each 0 (omega arith) in
    let is = (hold first.0 _ first.1).entry (omega arith) from in
    let x = is.entry in
    let op = (entries _ x is.linked.at).op in
    let words : (i : ℕ) → i < 145 → slice_index (x.number ∷ x.op) i ≡ slice_index (e.number ∷ e.op) i = λ i below. (
    let at = noted.each i below in
    let here = (hold at.0 _ at.1).entry below from in
    let same : here.entry ≡ x = same_Some here.entry x (sym here.linked.at ∙ is.linked.at) in
    ap (λ (y : Entry). slice_index (y.number ∷ y.op) i) (sym same) ∙ here.word) in
    let l = op.long in
    let ops : x.op ≡ e.op = ext_get_or 0 x.op e.op (l ∙ sym noted.long) (λ i below. words (suc i) (omega (arith, below, l))) in
    let all : x ≡ e =
    ap (λ c. (let y : Entry = record { caller = c; number = x.number; op = x.op } in y)) is.caller
    ∙ ap (λ k. (let y : Entry = record { caller = e.caller; number = k; op = x.op } in y)) (words 0 (omega arith))
    ∙ ap (λ ws. (let y : Entry = record { caller = e.caller; number = e.number; op = ws } in y)) ops in
    subst (λ y. IsLinked instance.base.place history ticket y) all is.linked

module _ (lines : ℕ) (lawful : List ℕ → Type 0) (instance : Instance) (laws : ObjectLaws lines lawful instance.step) (base : LawfulBase lines lawful instance.base) (history : List Entry)
    (small : instance.base.place + length history ≤ 2 ^ 40) (entries : (i : ℕ) (entry : Entry) → slice_get history i ≡ Some entry → IsEntryFrom instance i entry) where
  are_lawful : AreLawful instance.base.place history
  are_lawful = entries_lawful lines lawful instance history base entries

  pub full_at : (place : ℕ) → instance.base.place ≤ place → place ≤ instance.base.place + length history → LawfulBase lines lawful (record { place = place; words = full_image instance.step instance.base history place })
  full_at place from to = full_lawful lines lawful instance laws history base are_lawful small place from to

  -- the words of a full image are the full image
  pub origin_full : (region : List ℕ) → IsOrigin instance history region → IsFull instance history region
  origin_full region o =
      let place = place_of region in
      let long = (full_at place o.from o.to).size.long ∙ sym base.size.long in
      record { from = o.from; to = o.to; full = ext_get_or 0 region (full_image instance.step instance.base history place) (o.long ∙ sym long) (λ i below. o.words i (omega (arith, o.long))) }

  full_base : (region : List ℕ) → IsFull instance history region → LawfulBase lines lawful (base_of region)
  full_base region f = subst (λ ws. LawfulBase lines lawful (let b : Base = record { place = place_of region; words = ws } in b)) (sym f.full) (full_at (place_of region) f.from f.to)

  -- what is there fits
  pub traced_fits : (accesses : List Note) (first now : List ℕ) → IsOrigin instance history first → NotesLead accesses first now → IsConsistentWith lines lawful instance.base accesses first now
  traced_fits accesses first now o leads = record { origin = full_base first (origin_full first o); from = o.from; leads = leads }

  -- an entry that is noted whole is lawful at its ticket
  pub noted_lawful : (notes : List Noted) (ticket : ℕ) (e : Entry) → NotesHold instance history notes → instance.base.place ≤ ticket → IsNoted notes ticket e → IsLawfulEntry ticket e
  noted_lawful notes ticket e hold from noted =
      let linked = noted_linked instance history entries notes ticket e hold from noted in
      let there : instance.base.place + (ticket - instance.base.place) ≡ ticket = omega arith in
      subst (λ t. IsLawfulEntry t e) there (are_lawful (ticket - instance.base.place) e linked.at)

  -- entries and sets that are the history's lead in order from a full image to full images
  pub chain_on : (has : Has) → IsOfHistory instance history has → (first : List ℕ) → IsFull instance history first → (place : ℕ) (now : List ℕ) → ReplayedTo instance.step has first place now →
      (instance.base.place ≤ place) × (place ≤ instance.base.place + length history) × (now ≡ full_image instance.step instance.base history place)
  chain_on has hold first origin place now (start _ _ at is) =
      (subst (λ q. instance.base.place ≤ q) (sym at) origin.from, subst (λ q. q ≤ instance.base.place + length history) (sym at) origin.to, is ∙ origin.full ∙ ap (full_image instance.step instance.base history) (sym at))
  chain_on has hold first origin place now (with_entry _ _ t before e at is had rest) =
      let r = chain_on has hold first origin t before rest in
      let l = hold.entries t e r.0 had in
      let within = slice_get_within history (t - instance.base.place) e l.at in
      let from = r.0 in (
        omega (arith, at, from),
        omega (arith, at, within, from),
        is ∙ ap (full_step_of instance.step e) r.2 ∙ sym (full_next instance history t e l) ∙ ap (full_image instance.step instance.base history) (sym at),
      )
  chain_on has hold first origin place now (with_set _ _ t before pairs at is had rest) =
      let r = chain_on has hold first origin t before rest in
      let l = hold.sets t pairs r.0 had in
      let from = r.0 in
      let below = l.0 in (
        omega (arith, at, from),
        omega (arith, at, below),
        is ∙ ap (stored (slice_index pairs 0) pairs) r.2 ∙ l.1.gives ∙ ap (full_image instance.step instance.base history) (sym at),
      )

  -- words that entries and write sets of the history lead to from a full image are the full image after their place
  pub chain_full : (has : Has) → IsOfHistory instance history has → (first : List ℕ) → IsOrigin instance history first → (place : ℕ) (now : List ℕ) → ReplayedTo instance.step has first place now → IsFull instance history now × (place_of now ≡ place)
  chain_full has hold first origin place now chain =
      let r = chain_on has hold first (origin_full first origin) place now chain in
      let at : place_of now ≡ place = ap place_of r.2 ∙ (full_at place r.0 r.1).at_place in (
        record {
          from = subst (λ q. instance.base.place ≤ q) (sym at) r.0;
          to = subst (λ q. q ≤ instance.base.place + length history) (sym at) r.1;
          full = r.2 ∙ ap (full_image instance.step instance.base history) (sym at);
        },
        at,
      )

  -- what is there fits, and stays lawful through what is the history's
  pub traced_on : (has : Has) → IsOfHistory instance history has → (accesses : List Note) (first now : List ℕ) → IsOrigin instance history first → NotesLead accesses first now → FitsOn lines lawful instance.base instance.step has accesses first now
  traced_on has hold accesses first now origin leads = record {
    fits = traced_fits accesses first now origin leads;
    stays = λ place mid chain. (
        let r = chain_on has hold first (origin_full first origin) place mid chain in
        subst (λ ws. LawfulBase lines lawful (let b : Base = record { place = place; words = ws } in b)) (sym r.2) (full_at place r.0 r.1));
  }

-- an image of a history from a lawful base on is a lawful base
pub image_base : (lines : ℕ) (lawful : List ℕ → Type 0) (instance : Instance) → ObjectLaws lines lawful instance.step → LawfulBase lines lawful instance.base → (image : List ℕ) → IsImageOfSome instance image → LawfulBase lines lawful (base_of image)
image_base lines lawful instance laws base image of =
    full_base lines lawful instance laws base of.history of.small of.entries image (origin_full lines lawful instance laws base of.history of.small of.entries image of.origin)

-- some pair fits what a caller noted, each entry that is noted whole is lawful, and each set that it has is one of a region
pub fitting : (lines : ℕ) (lawful : List ℕ → Type 0) (instance : Instance) → ObjectLaws lines lawful instance.step → LawfulBase lines lawful instance.base → (known : Known) → IsBehindNotes instance known → Fitting lines lawful instance.base instance.step known
fitting lines lawful instance laws base known behind =
    let history = behind.history in
    record {
      exclusive = ∣ (behind.first, behind.now, traced_on lines lawful instance laws base history behind.small behind.entries (has_of known) behind.had known.accesses behind.first behind.now behind.origin behind.leads) ∣₁;
      shared = λ h has. (
          let s = behind.shared h has in
          ∣ (s.0, s.0, record { fits = traced_fits lines lawful instance laws base history behind.small behind.entries _ s.0 s.0 s.1 s.2; same = refl }) ∣₁);
      entries = λ ticket entry from noted. noted_lawful lines lawful instance laws base history behind.small behind.entries known.noted ticket entry behind.noted from noted;
      sets = λ ticket pairs from has. (
          let l = behind.had.sets ticket pairs from has in
          let below = l.0 in
          let long = (full_at lines lawful instance laws base history behind.small behind.entries ticket from (omega (arith, below))).size.long in
          record { few = l.1.few; within = λ m fewer. (let w = l.1.within m fewer in omega (arith, w, long, base.size.long)) });
    }
