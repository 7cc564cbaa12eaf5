-- A replica that was taken and not stored to is the image after its place.
use Rattle.std.proofs.Common.{◌≡◌, ℕ, List, [], refl, subst}
use Rattle.cx_base.specs.Noted.{NotesLead}
use Rattle.cx_core.specs.declared.entry.Base.{Base}
use Rattle.cx_core.specs.Region.{place_of}
use Rattle.table_invariant.specs.declared.rule.Known.{Known}
use Rattle.cx_table.specs.Fitting.{IsReplayed, start}

module _ (lines : ℕ) (lawful : List ℕ → Type 0) (base : Base) (step : List ℕ → List ℕ → List ℕ × List ℕ) (known : Known) where
  -- where no load or store of a held replica is noted, its words are those that it had at first, so no entries are needed to lead to them
  pub just_taken : known.accesses ≡ [] → IsReplayed lines lawful base step known
  just_taken none first now fits = (place_of first, start (place_of first) now refl (subst (λ notes. NotesLead notes first now) none fits.fits.leads))
