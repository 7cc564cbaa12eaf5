-- What holds of the object that a closed service had holds of the object by which the service is recovered: they are equal.
use Rattle.std.proofs.Common.{◌≡◌, ◌∙◌, ℕ, List, Result, MatchResult, sym, ap, subst, arith}
use Rattle.cx_base.specs.declared.object.Object.{Ghosts}
use Rattle.cx_core.specs.declared.entry.Base.{Base}
use Rattle.cx_core.specs.declared.entry.Image.{Image}
use Rattle.cx_core.specs.Base.{LawfulBase}
use Rattle.table_invariant.specs.Running.{Running, instance_at}
use Rattle.table_invariant.specs.Seats.{Seated}
use Rattle.cx_table.specs.declared.remains.Remains.{Remains}
use Rattle.cx_table.specs.Remains.{ClosingWitness}
use Rattle.recovery.specs.declared.recovered_base.ImageFault.{ImageFault}
use Rattle.recovery.specs.declared.recovered_base.ImageFault.TheVariants.{Memory}
use Rattle.recovery.specs.Crashes.{IsLeftOf}
use Rattle.recovery.specs.Images.{IsReadable}
use Rattle.recovery.specs.Kept.{IsKeptBy, IsOpened}
use Rattle.recovery.specs.Recovery.{IsFaultOf, IsRecovered}
use Rattle.service_parts.specs.Lives.{IsKeptOf, IsLeftBy, MayServe}

module _ {O : Type 0} (o : Ghosts O) where
  -- what recovery by an object answers of an image
  abbrev pub Answers : O → Image → Result Base ImageFault → Type 0
  Answers object image answer =
      MatchResult answer (IsRecovered (o.version_number object) (o.lawful object) (o.old_format object) image) (IsFaultOf (o.version_number object) (o.lawful object) (o.old_format object) image)

  -- recovery by an object gives no refusal of an image that a closed table of the object left, unless memory runs out, as its law says
  abbrev pub Recovers : Type 0
  Recovers =
      (table : Running O) (seats : List Seated) (r : Remains) (choice : ℕ) (image : Image) (answer : Result Base ImageFault) → IsOpened o.line_count o.lawful table →
      ClosingWitness table (instance_at table o.step o.only_reads) seats r → IsLeftOf r choice image → Answers table.object image answer →
      MatchResult answer (IsKeptBy o.line_count o.lawful o.step table seats r choice) (λ fault. fault ≡ Memory)

  module _ (object : O) (r : Remains) (choice : ℕ) (left : IsLeftBy o object r) where
    -- recovery by an object equal to that of the closed table gives no refusal either, unless memory runs out
    pub recovered_of : Recovers → (image : Image) → IsLeftOf r choice image → (answer : Result Base ImageFault) → Answers object image answer → MatchResult answer (IsKeptOf left choice) (λ fault. fault ≡ Memory)
    recovered_of law image left_of answer is =
        law left.table left.seats r choice image answer left.opened left.leaves left_of (subst (λ (x : O). Answers x image answer) (sym left.object_is) is)

    pub readable_of : (image : Image) → IsReadable (o.line_count left.table.object) image → IsReadable (o.line_count object) image
    readable_of image = subst (λ (x : O). IsReadable (o.line_count x) image) left.object_is

    -- the next service may start from what is kept
    pub may_of : (base : Base) → IsKeptOf left choice base → MayServe o object base
    may_of base kept =
        let lines : left.table.lines ≡ o.line_count object = left.opened.lines ∙ ap o.line_count left.object_is in
        record {
          enough = omega (arith, lines, left.opened.enough);
          small = omega (arith, lines, left.opened.small);
          lawful = subst (λ (x : O). LawfulBase (o.line_count x) (o.lawful x) base) left.object_is kept.again;
        }
