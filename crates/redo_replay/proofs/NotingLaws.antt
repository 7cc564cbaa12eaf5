-- What a noting region knows after an access, and what a step's notes tell.
use Rattle.std.proofs.Common.{◌≡◌, ◌+◌, ◌<◌, ◌≤◌, ◌*◌, ℕ, Bool, IsTrue, List, length, slice_index, slice_set, ap, arith, sym, subst, ◌∙◌, Result, Ok, Err, IfOk, OnErr, OnOk}
use Rattle.std.proofs.Math.Bridge.{le_prop}
use Rattle.std.proofs.Math.Logic.{∥∥₁_elim, ∥∥₁_map}
use Rattle.cx_base.specs.declared.object.Object.{Ghosts}
use Rattle.cx_base.specs.Memory.{Becomes, Loaded, Stored}
use Rattle.cx_base.proofs.MemoryLemmas.{Becomes-load, Becomes-same, Becomes-store, Becomes-weaker}
use Rattle.cx_core.specs.declared.entry.Base.{Base}
use Rattle.cx_core.specs.declared.entry.Entry.{Entry}
use Rattle.cx_core.specs.Region.{region_words}
use Rattle.cx_core.specs.Step.{IsStepped}
use Rattle.cx_core.specs.WriteSet.{stored}
use Rattle.cx_core.proofs.HistoryLemmas.{ObjectLaws}
use Rattle.table_invariant.specs.declared.rule.Known.{Known}
use Rattle.table_invariant.specs.Fitting.{FitsKnown, ReplayedTo, has_of}
use Rattle.table_invariant.specs.Offers.{TellsSet}
use Rattle.table_invariant.specs.Running.{Running}
use Rattle.table_invariant.specs.Seats.{Seated, place_noted}
use Rattle.table_invariant.specs.Steps.{Halts}
use Rattle.cx_table.specs.Right.{Right}
use Rattle.redo_replay.specs.Noting.{Notes}
use Rattle.redo_set.specs.Sets.{AreWithin, put_over}
use Rattle.replica.proofs.Replaying.{steps_ready}
use Rattle.replica.specs.Replays.{ComesNext, IsAfterFullStep, IsHeldImage, IsReady, ShowsReply, noted_place}

-- no pair puts nothing
none_put : (set words : List ℕ) → slice_index set 0 ≡ 0 → words ≡ put_over set words
unfolding put_over
none_put set words none = ap (λ n. stored n set words) (sym none)

module _ {O : Type 0} (lines : ℕ) (r : Running O) (lawful : List ℕ → Type 0) (step : List ℕ → List ℕ → List ℕ × List ℕ) (began : Known) (old new : Seated) (set : List ℕ) where
  abbrev Kept : Known → List ℕ → Type 0
  Kept known s = ∥ Notes (FitsKnown lines lawful r.base step began) (FitsKnown lines lawful r.base step known) (region_words lines) s ∥₁

  pub kept_loaded : {E : Type 0} (whole : Bool) (at : ℕ) (result : Result ℕ E) → IfOk result (λ v. Loaded at v (FitsKnown lines lawful r.base step old.known) (FitsKnown lines lawful r.base step new.known)) → OnErr result (Halts r old new) →
      (IsTrue whole → Kept old.known set) → IsTrue whole → Kept new.known set
  kept_loaded whole at (Ok v) loaded halts notes all = ∥∥₁_map (notes all) (λ n. record { within = n.within; leads = Becomes-load n.leads loaded (λ first x y s is e. is) })
  kept_loaded whole at (Err e) loaded halts notes all = subst (λ (s : Seated). Kept s.known set) (sym halts.same) (notes all)

  pub kept_stored : (at v : ℕ) (more : List ℕ) → at < region_words lines → ((size : ℕ) → at < size → AreWithin size set → AreWithin size more) → ((words : List ℕ) → put_over more words ≡ slice_set (put_over set words) at v) →
      Stored at v (FitsKnown lines lawful r.base step old.known) (FitsKnown lines lawful r.base step new.known) → Kept old.known set → Kept new.known more
  kept_stored at v more here within last stored notes = ∥∥₁_map notes (λ n. record {
    within = within (region_words lines) here n.within;
    leads = Becomes-store n.leads stored (λ first x y s is. ap (λ ws. slice_set ws at v) is ∙ sym (last x));
  })

  pub kept_none : began ≡ old.known → slice_index set 0 ≡ 0 → Kept old.known set
  kept_none same none = ∣ subst (λ k. Notes (FitsKnown lines lawful r.base step k) (FitsKnown lines lawful r.base step old.known) (region_words lines) set) (sym same) (record {
    within = λ m fewer. absurd (omega (arith, none, fewer));
    leads = Becomes-weaker (Becomes-same (FitsKnown lines lawful r.base step old.known)) (λ first x y s is. sym is ∙ none_put set x none);
  }) ∣₁

-- what was noted of an entry's step leads from the image at its ticket to the next, whatever fits
pub tells_set : (lines : ℕ) (lawful : List ℕ → Type 0) (base : Base) (step : List ℕ → List ℕ → List ℕ × List ℕ) (old new : Known) (set : List ℕ) → length base.words ≡ region_words lines → has_of new ≡ has_of old → IsHeldImage lines lawful base step old → IsHeldImage lines lawful base step new →
    place_noted 0 new.accesses ≡ place_noted 0 old.accesses + 1 → slice_index set 0 ≤ 256 → ∥ Notes (FitsKnown lines lawful base step old) (FitsKnown lines lawful base step new) (region_words lines) set ∥₁ → TellsSet lines lawful base step new (place_noted 0 old.accesses) set
unfolding put_over
tells_set lines lawful base step old new set long has before after place few notes = record {
  few = few;
  within = λ m fewer. subst (λ n. slice_index set (2 * m + 1) < n) (sym long) (∥∥₁_elim notes le_prop (λ n. n.within m fewer));
  leads = λ first now f. ∥∥₁_map notes (λ n. (
      let p = n.leads.from first now f in record {
        before = p.0;
        from = subst (λ h. ReplayedTo step h first (place_noted 0 old.accesses) p.0) (sym has) (before.replayed first p.0 p.1);
        to = subst (λ t. ReplayedTo step (has_of new) first t now) place (after.replayed first now f);
        leads = sym p.2;
      }));
}

-- an entry's step that was done and noted: the replica is ready for the next, and what was noted whole is the entry's set
module _ {O : Type 0} (o : Ghosts O) (r : Running O) (held : Right) (entry : Entry) (reply set : List ℕ) (before after : Seated) (laws : ObjectLaws (o.line_count r.object) (o.lawful r.object) (o.step r.object)) where
  abbrev Fits : Known → List ℕ → List ℕ → Type 0
  Fits known = FitsKnown (o.line_count r.object) (o.lawful r.object) r.base (o.step r.object) known

  pub noted_ready : {X E : Type 0} (result : Result X E) (x : X) → result ≡ Ok x → IsReady o r held (noted_place before) before → ComesNext entry before → IsAfterFullStep o r held before after →
      OnOk result (Becomes (Fits before.known) (Fits after.known) (IsStepped (o.step r.object) entry reply)) →
      IsReady o r held (noted_place before + 1) after × ShowsReply (o.line_count r.object) (o.lawful r.object) r.base (o.step r.object) after.known entry.caller reply
  noted_ready result x is was next leaves becomes =
      subst (λ d. OnOk d (IsReady o r held (noted_place before + 1) after × ShowsReply (o.line_count r.object) (o.lawful r.object) r.base (o.step r.object) after.known entry.caller reply)) is
      (steps_ready o r held entry reply before after laws result was.image next leaves becomes)

  pub noted_tells : IsReady o r held (noted_place before) before → IsReady o r held (noted_place before + 1) after → IsAfterFullStep o r held before after → slice_index set 0 ≤ 256 →
      ∥ Notes (Fits before.known) (Fits after.known) (region_words (o.line_count r.object)) set ∥₁ → TellsSet (o.line_count r.object) (o.lawful r.object) r.base (o.step r.object) after.known (noted_place before) set
  noted_tells was ready leaves few notes =
      tells_set (o.line_count r.object) (o.lawful r.object) r.base (o.step r.object) before.known after.known set was.is_held.sized.region (ap (λ (s : Seated). has_of s.known) leaves.rest) was.image ready.image ready.place few notes
