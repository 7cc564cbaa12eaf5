-- Loads of a slot's words, one behind another, and what they note.
use Rattle.std.proofs.Common.{◌≡◌, ◌+◌, ◌<◌, ◌≤◌, ◌⊎◌, inl, inr, ℕ, zero, suc, List, [], ◌∷◌, ◌++◌, length, slice_index, refl, sym, ap, subst, ◌∙◌, arith, append-nil, zero-add, length-append, Some}
use Rattle.std.proofs.lemmas.List.{append_assoc}
use Rattle.std.proofs.lemmas.Option.{slice_get_within}
use Rattle.std.specs.List.{slice_get}
use Rattle.cx_base.specs.declared.object.Object.{Ghosts}
use Rattle.cx_core.specs.declared.kinds.Kind.TheVariants.{LoadGap}
use Rattle.cx_core.specs.Gaps.{Gap}
use Rattle.cx_core.specs.State.{Instance, one_more}
use Rattle.table_invariant.specs.declared.rule.Known.{Known}
use Rattle.table_invariant.specs.declared.rule.Noted.{Noted}
use Rattle.table_invariant.specs.Fitting.{Fitting}
use Rattle.table_invariant.specs.Listed.{HasGap}
use Rattle.table_invariant.specs.Running.{IsSeatOf, Running, instance_at}
use Rattle.table_invariant.specs.Seats.{Seated, StepsBy, StepsOn, stepped}
use Rattle.table_invariant.proofs.Stepping.{on_same, on_then_one}
use Rattle.cx_table.specs.Gaps.{gaps_from}
use Rattle.cx_table.specs.Runs.{Runs, no_step, one_more_step}
use Rattle.cx_table.specs.GapMarks.{KeepsLoads, gap_notes, with_gaps}
use Rattle.cx_table.specs.GapWords.{IsNamed}

abbrev note : ℕ → ℕ → Noted
note slot w = record { ticket = slot; caller = 0; index = 145; word = w }

notes_more : (slot : ℕ) (ws : List ℕ) (w : ℕ) → gap_notes slot (ws ++ w ∷ []) ≡ gap_notes slot ws ++ note slot w ∷ []
notes_more slot [] w = refl
notes_more slot (x ∷ ws) w = ap (λ rest. note slot x ∷ rest) (notes_more slot ws w)

-- a seat whose caller has these parts
abbrev seat_with : Seated → ℕ → List Noted → Seated
seat_with s steps noted = record s { known = record s.known { local = record s.known.local { steps = steps }; noted = noted } }

-- a seat after some notes, by what it then shows
shown_so : (steps : ℕ) (notes : List Noted) (s after : Seated) → after ≡ with_gaps steps notes s → after ≡ with_gaps after.known.local.steps notes s
shown_so steps notes s after is = is ∙ (λ k. with_gaps (sym (ap (λ (x : Seated). x.known.local.steps) is) k) notes s)

none_is : (s : Seated) → s ≡ with_gaps s.known.local.steps [] s
none_is s = ap (seat_with s s.known.local.steps) (sym (append-nil s.known.noted))

-- one word more was loaded
load_one : (instance : Instance) (slot i v steps : ℕ) (notes : List Noted) (s t after : Seated) → t ≡ with_gaps steps notes s → after ≡ stepped instance (LoadGap slot i) t v →
    after ≡ with_gaps (one_more steps) (notes ++ note slot v ∷ []) s
load_one instance slot i v steps notes s t after is step =
    step ∙ ap (λ x. stepped instance (LoadGap slot i) x v) is ∙ (λ k. seat_with s (one_more steps) (append_assoc s.known.noted notes (note slot v ∷ []) k))

-- words of a slot were loaded
pub record LoadsGaps {O : Type 0} (o : Ghosts O) (r : Running O) (slot : ℕ) (words : List ℕ) (before after : Seated) : Type 0 where
  pub seat : after ≡ with_gaps after.known.local.steps (gap_notes slot words) before
  pub steps : StepsBy (length words) before after
  pub since : StepsOn before after
  pub fits : (after ≡ before) ⊎ Fitting r.lines (o.lawful r.object) r.base (o.step r.object) after.known

one_step : (n m : ℕ) → m ≡ one_more n → m ≤ n + 1
one_step n m is = omega (arith, is)

module _ {O : Type 0} (o : Ghosts O) (r : Running O) where
  pub run_gaps : (slot from : ℕ) (words : List ℕ) (before after : Seated) → Runs r o.step o.only_reads (o.lawful r.object) (gaps_from slot from) words before after → LoadsGaps o r slot words before after
  run_gaps slot from words before after (no_step _ _ _ nothing same) =
      subst (λ (ws : List ℕ). LoadsGaps o r slot ws before after) (sym nothing) (record {
        seat = shown_so before.known.local.steps [] before after (same ∙ none_is before);
        steps = (let e : after.known.local.steps ≡ before.known.local.steps = ap (λ (x : Seated). x.known.local.steps) same in omega (arith, e));
        since = on_same before after same;
        fits = inl same;
      })
  run_gaps slot from words before after (one_more_step _ _ _ first found mid longer run made fits) =
      let was = run_gaps slot from first before mid run in
      let instance = instance_at r o.step o.only_reads in
      let is = load_one instance slot (from + length first) found mid.known.local.steps (gap_notes slot first) before mid after was.seat made.made in
      let one = one_step mid.known.local.steps after.known.local.steps (ap (λ (x : Seated). x.known.local.steps) made.made) in
      let most = was.steps in
      subst (λ (ws : List ℕ). LoadsGaps o r slot ws before after) (sym longer) (record {
        seat = shown_so (one_more mid.known.local.steps) (gap_notes slot (first ++ found ∷ [])) before after (is ∙ ap (λ ns. with_gaps (one_more mid.known.local.steps) ns before) (sym (notes_more slot first found)));
        steps = omega (arith, one, most, length-append first (found ∷ []));
        since = on_then_one before mid after was.since (ap (λ (x : Seated). x.known.local.steps) made.made);
        fits = inr fits;
      })

  pub loads_leave : (slot : ℕ) (words : List ℕ) (before after : Seated) → IsSeatOf r after → LoadsGaps o r slot words before after → KeepsLoads o r before after
  loads_leave slot words before after of loads = record { notes = gap_notes slot words; seat = loads.seat; of = of; since = loads.since; fits = loads.fits }

  -- where none was loaded, nothing is changed
  pub leaves_none : (before after : Seated) → IsSeatOf r before → after ≡ before → KeepsLoads o r before after
  leaves_none before after of same = record {
    notes = [];
    seat = shown_so before.known.local.steps [] before after (same ∙ none_is before);
    of = subst (IsSeatOf r) (sym same) of;
    since = (let e : after.known.local.steps ≡ before.known.local.steps = ap (λ (x : Seated). x.known.local.steps) same in omega (arith, e));
    fits = inl same;
  }

  -- loads behind loads
  pub leaves_more : (before mid after : Seated) → KeepsLoads o r before mid → KeepsLoads o r mid after → KeepsLoads o r before after
  leaves_more before mid after one two = record {
    notes = one.notes ++ two.notes;
    seat = shown_so after.known.local.steps (one.notes ++ two.notes) before after (
        two.seat ∙ ap (with_gaps after.known.local.steps two.notes) one.seat ∙ (λ k. seat_with before after.known.local.steps (append_assoc before.known.noted one.notes two.notes k)));
    of = two.of;
    since = (let first = one.since in let more = two.since in omega (arith, first, more));
    fits = elim two.fits [
      | inl same ↦ elim one.fits [
        | inl none ↦ inl (same ∙ none)
        | inr fits ↦ inr (subst (λ (s : Seated). Fitting r.lines (o.lawful r.object) r.base (o.step r.object) s.known) (sym same) fits)
      ]
      | inr fits ↦ inr fits
    ];
  }

-- note i of the words of a slot is that of word i
noted_at : (slot i : ℕ) (words : List ℕ) → i < length words → slice_get (gap_notes slot words) i ≡ Some (note slot (slice_index words i))
noted_at slot i [] below = absurd (omega arith)
noted_at slot zero (w ∷ words) below = refl
noted_at slot (suc i) (w ∷ words) below = noted_at slot i words (omega arith)

behind : {X : Type 0} (xs ys : List X) (i : ℕ) (x : X) → slice_get ys i ≡ Some x → slice_get (xs ++ ys) (length xs + i) ≡ Some x
behind [] ys i x is = ap (slice_get ys) (zero-add i) ∙ is
behind (y ∷ xs) ys i x is = (let next : suc (length xs) + i ≡ suc (length xs + i) = omega arith in ap (slice_get (y ∷ (xs ++ ys))) next ∙ behind xs ys i x is)

before_more : {X : Type 0} (xs ys : List X) (i : ℕ) (x : X) → slice_get xs i ≡ Some x → slice_get (xs ++ ys) i ≡ Some x
before_more [] ys i x is = absurd (omega (arith, slice_get_within [] i x is))
before_more (y ∷ xs) ys zero x is = is
before_more (y ∷ xs) ys (suc i) x is = before_more xs ys i x is

-- a gap that a word names is had, once the words were loaded
pub has_named : (instance : Instance) (slot : ℕ) (words : List ℕ) (before after : Known) → after.noted ≡ before.noted ++ gap_notes slot words → (g : Gap) → IsNamed instance.callers slot words g → HasGap instance after g
has_named instance slot words before after are g named = record {
  n = length before.noted + named.0;
  note = note slot (slice_index words named.0);
  at = ap (λ ns. slice_get ns (length before.noted + named.0)) are ∙ behind before.noted (gap_notes slot words) named.0 _ (noted_at slot named.0 words named.1);
  loaded = omega arith;
  is = named.2;
}

-- a gap stays had when more is noted
pub has_still : {O : Type 0} (o : Ghosts O) (r : Running O) (instance : Instance) (before after : Seated) → KeepsLoads o r before after → (g : Gap) → HasGap instance before.known g → HasGap instance after.known g
has_still o r instance before after leaves g has = record {
  n = has.n;
  note = has.note;
  at = ap (λ (s : Seated). slice_get s.known.noted has.n) leaves.seat ∙ before_more before.known.noted leaves.notes has.n has.note has.at;
  loaded = has.loaded;
  is = has.is;
}
