-- What a set that its caller keeps leaves: what the seat had it has.
use Rattle.std.proofs.Common.{inl, inr, ℕ, List, ap, subst, sym}
use Rattle.cx_core.proofs.ListLemmas.{slice_get-append_left}
use Rattle.table_invariant.specs.Fitting.{HasEntry, entries_of, has_of}
use Rattle.table_invariant.specs.Running.{Running}
use Rattle.table_invariant.specs.Seats.{Seated}
use Rattle.table_invariant.specs.Steps.{KeepsSet}
use Rattle.table_invariant.proofs.Stepping.{on_still}
use Rattle.redo_set.specs.Offering.{KeepsOffering}

pub leaves_keeping : {O : Type 0} (r : Running O) (ticket : ℕ) (pairs : List ℕ) (before after : Seated) → KeepsSet r ticket pairs before after → KeepsOffering r before after
leaves_keeping r ticket pairs before after keeps = record {
  has = record {
    entry = λ t e had. subst (λ (x : Seated). HasEntry (entries_of x.known) t e) (sym keeps.made) had;
    set = λ t x had. subst (λ (y : Seated). (has_of y.known).set t x) (sym keeps.made) (elim had [
      | inl read ↦ inl read
      | inr mine ↦ inr (elim mine [ inl offered ↦ inl offered | inr kept ↦ inr (kept.0, slice_get-append_left before.known.kept _ kept.0 _ kept.1) ])
    ]);
  };
  of = keeps.seat;
  since = on_still before after (ap (λ (s : Seated). s.known.local.steps) keeps.made);
}
