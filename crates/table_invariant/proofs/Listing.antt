-- The release of a shared right whose listed lines were copied.
use Rattle.std.proofs.Common.{◌≡◌, ◌+◌, ◌*◌, ◌<◌, inl, inr, ℕ, List, length, slice_index, refl, ap, sym, subst, ◌∙◌, arith, Option, Some}
use Rattle.cx_base.specs.Noted.{NotesLead}
use Rattle.cx_core.specs.declared.entry.Entry.{Entry}
use Rattle.cx_core.specs.declared.kinds.Kind.TheVariants.{BackOff}
use Rattle.cx_core.specs.declared.local.HeldShared.{HeldShared}
use Rattle.cx_core.specs.declared.local.Local.{Local}
use Rattle.cx_core.specs.Events.{new_word, step_word}
use Rattle.cx_core.specs.Rights.{shared_on}
use Rattle.cx_core.specs.State.{Instance, State}
use Rattle.cx_core.proofs.HeldLists.{mapped}
use Rattle.table_invariant.specs.declared.rule.Known.{Known}
use Rattle.table_invariant.specs.Fitting.{loaded_of, loads_of}
use Rattle.table_invariant.specs.Rule.{IsOrigin}
use Rattle.table_invariant.proofs.Behind.{shared_there}
use Rattle.table_invariant.proofs.Copying.{leads_length, noted_tells}
use Rattle.table_invariant.proofs.Keeps.{learns_shown}
use Rattle.cx_core.specs.Gaps.{IsGap, IsOfPlace, images}
use Rattle.table_invariant.proofs.GapCopies.{listed_copies_are_the_source}
use Rattle.table_invariant.specs.Listed.{AgreeListed, HasGap}
use Rattle.table_invariant.specs.Rule.{NotesHold}
use Rattle.table_invariant.specs.Steps.{MayReleaseKnowing}

-- an origin is of its place
of_place : (instance : Instance) (history : List Entry) (lines place : ℕ) (region : List ℕ) → length instance.base.words ≡ 8 * lines → IsOrigin instance history region → slice_index region 0 ≡ place →
    IsOfPlace lines (images instance history) place region
of_place instance history lines place region long origin at = record {
  long = origin.long ∙ long;
  words = λ i below. origin.words i (omega (arith, below, long)) ∙ ap (λ p. slice_index (images instance history p) i) at;
}

listed_lists : (instance : Instance) (history : List Entry) (known : Known) (lines from to : ℕ) (lists : ℕ → List ℕ) (first now read : List ℕ) → 0 < length instance.base.words → length instance.base.words ≡ 8 * lines →
    AgreeListed instance known lines from to lists → NotesHold instance history known.noted → IsOrigin instance history first → IsOrigin instance history read →
    NotesLead known.accesses first now → NotesLead (loads_of (loaded_of known.local.shared)) read read → now ≡ read
listed_lists instance history known lines from to lists first now read some long agree hold origin ends leads leads' =
    let loads = loads_of (loaded_of known.local.shared) in
    let region = length instance.base.words in
    let place : slice_index read 0 ≡ to = noted_tells region loads 0 to some agree.ends read read ends.long leads' in
    listed_copies_are_the_source (images instance history) (HasGap instance known) lines from to lists first now read (λ g there. (subst (IsGap instance history) there.is ((hold there.n there.note there.at).gap there.loaded)).quiet) agree.walked agree.order
    (of_place instance history lines from first long origin (agree.begins first now leads))
    (of_place instance history lines to read long ends place)
    (leads_length known.accesses first now leads ∙ origin.long ∙ long)
    (record {
      each = λ n below. elim (agree.each n below) [
        | inl copied ↦ inl (λ k small. (
            let a = copied k small in
            let inside : 8 * n + k < region = omega (arith, below, small, long) in
            noted_tells region known.accesses (8 * n + k) a.0 inside a.1 first now origin.long leads ∙ sym (noted_tells region loads (8 * n + k) a.0 inside a.2 read read ends.long leads')))
        | inr kept ↦ inr (kept.0, kept.1 first now leads)
      ];
    })

pub learns_listed : (instance : Instance) (r : ℕ) (known : Known) (word : ℕ) (lines from to : ℕ) (lists : ℕ → List ℕ) →
    r < 2 * instance.callers → shared_on known.local ≡ Some r → word ≡ step_word instance (BackOff r) known.local →
    length instance.base.words ≡ 8 * lines → AgreeListed instance known lines from to lists →
    MayReleaseKnowing instance (BackOff r) known word (λ x. new_word instance (BackOff r) known.local x)
learns_listed instance r known word lines from to lists small on at long agree words within locals law l of_caller shows noted traced sets own some =
    let state : State = record { words = words; locals = locals } in
    let plain = learns_shown instance (BackOff r) known words word (new_word instance (BackOff r) known.local (slice_index words word)) tt tt (small, inl on) at refl locals law l of_caller shows noted traced sets own some in
    let held = mapped (λ (x : HeldShared). x.replica) known.local.shared r on in
    let there = shared_there instance state law some known.local.number l of_caller held.0 (ap (λ (x : Local). x.shared) (sym shows) ∙ held.1) in
    let leads = subst (λ (o : Option HeldShared). NotesLead (loads_of (loaded_of o)) there.0 there.0) (sym held.1) there.2 in
    let t = plain.traced in
    let now : t.now ≡ there.0 = listed_lists instance law.history known lines from to lists t.first t.now there.0 some long agree noted t.origin there.1 t.leads leads in
    record {
      guard = plain.guard;
      word_is = plain.word_is;
      new_is = plain.new_is;
      shows = plain.shows;
      notes = plain.notes;
      traced = record { first = there.0; now = there.0; origin = there.1; leads = leads; held = λ x has. sym now ∙ t.held x has };
      sets = record { noted = plain.sets.noted; kept = plain.sets.kept };
      timed = plain.timed;
      imaged = plain.imaged;
      fits = plain.fits;
    }
