-- More that a seat has makes what fits narrower, and leads as far.
use Rattle.std.proofs.Common.{◌≡◌, ◌++◌, inl, inr, ℕ, List, sym, subst}
use Rattle.std.proofs.Math.Logic.{∥∥₁_map}
use Rattle.cx_base.specs.Noted.{Note}
use Rattle.cx_core.specs.declared.entry.Base.{Base}
use Rattle.cx_core.specs.declared.entry.Entry.{Entry}
use Rattle.cx_core.proofs.ListLemmas.{slice_get-append_left}
use Rattle.table_invariant.specs.declared.rule.Known.{Known}
use Rattle.table_invariant.specs.declared.rule.Noted.{Noted}
use Rattle.table_invariant.specs.Fitting.{FitsKnown, FitsOn, Has, ReplayedTo, SomeFits, has_of, start, with_entry, with_set}

-- what is had is had still
pub record HasMore (has more : Has) : Type 0 where
  pub entry : (ticket : ℕ) (entry : Entry) → has.entry ticket entry → more.entry ticket entry
  pub set : (ticket : ℕ) (set : List ℕ) → has.set ticket set → more.set ticket set

-- where further words of entries are noted
pub noted_more : (known : Known) (more : List Noted) → HasMore (has_of known) (has_of (record known { noted = known.noted ++ more }))
noted_more known more = record {
  entry = λ t e had. elim had [
    | inl noted ↦ inl (record { long = noted.long; each = λ i below. (let at = noted.each i below in (at.0, slice_get-append_left known.noted more at.0 _ at.1)) })
    | inr mine ↦ inr mine
  ];
  set = λ t pairs had. had;
}

pub replayed_more : (step : List ℕ → List ℕ → List ℕ × List ℕ) (has more : Has) → HasMore has more → (first : List ℕ) (place : ℕ) (now : List ℕ) → ReplayedTo step has first place now → ReplayedTo step more first place now
replayed_more step has more on first place now (start _ _ at is) = start place now at is
replayed_more step has more on first place now (with_entry _ _ t before e at is had rest) = with_entry place now t before e at is (on.entry t e had) (replayed_more step has more on first t before rest)
replayed_more step has more on first place now (with_set _ _ t before pairs at is had rest) = with_set place now t before pairs at is (on.set t pairs had) (replayed_more step has more on first t before rest)

module _ (lines : ℕ) (lawful : List ℕ → Type 0) (base : Base) (step : List ℕ → List ℕ → List ℕ × List ℕ) where
  -- what fits where more is had fits where less is
  pub fits_more : (has more : Has) → HasMore has more → (accesses : List Note) (first now : List ℕ) → FitsOn lines lawful base step more accesses first now → FitsOn lines lawful base step has accesses first now
  fits_more has more on accesses first now f = record { fits = f.fits; stays = λ place mid chain. f.stays place mid (replayed_more step has more on first place mid chain) }

  -- what fits is by what the seat has, and by the accesses
  pub fits_same : (before after : Known) → has_of after ≡ has_of before → after.accesses ≡ before.accesses → (first now : List ℕ) → FitsKnown lines lawful base step after first now → FitsKnown lines lawful base step before first now
  fits_same before after has accesses first now f =
      subst (λ (h : Has). FitsOn lines lawful base step h before.accesses first now) has (subst (λ (xs : List Note). FitsOn lines lawful base step (has_of after) xs first now) accesses f)

  pub some_same : (before after : Known) → has_of after ≡ has_of before → after.accesses ≡ before.accesses → SomeFits lines lawful base step before → SomeFits lines lawful base step after
  some_same before after has accesses some = ∥∥₁_map some (λ p. (p.0, p.1, fits_same after before (sym has) (sym accesses) p.0 p.1 p.2))
