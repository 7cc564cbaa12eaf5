-- A service that was started from a lawful base is open, and what it leaves is left by its object.
use Rattle.std.proofs.Common.{◌≡◌, ◌∙◌, ℕ, List, length, sym, ap, subst, arith}
use Rattle.std.proofs.lemmas.List.FromFn.{length-map-range_with_len}
use Rattle.cx_base.specs.declared.object.Object.{Ghosts}
use Rattle.cx_core.specs.declared.entry.Base.{Base}
use Rattle.cx_core.specs.Base.{LawfulBase}
use Rattle.table_invariant.specs.Running.{Running, instance_at}
use Rattle.table_invariant.specs.Seats.{Seated}
use Rattle.cx_service.specs.Starts.{Starts}
use Rattle.cx_table.specs.declared.remains.Remains.{Remains}
use Rattle.cx_service.specs.ClosedOrder.{IsClosedLinearizable}
use Rattle.cx_table.specs.Remains.{opening_seat}
use Rattle.service_parts.specs.Callers.{AreNew, TellsEach}
use Rattle.service_parts.specs.Lives.{IsOpen, IsServiceFrom, IsServedBy, MayServe}

module _ {O : Type 0} (o : Ghosts O) (object : O) where
  pub open_of : (callers : ℕ) (limits : List ℕ) (base : Base) (service : Running O) (seats : List Seated) → MayServe o object base → Starts object (o.line_count object) callers limits base service seats → IsOpen o object callers base service
  open_of callers limits base service seats may starts =
      let same : service.object ≡ object = ap (λ (s : Running O). s.object) starts.is in
      let lines : service.lines ≡ o.line_count object = ap (λ (s : Running O). s.lines) starts.is in
      let from : service.base ≡ base = ap (λ (s : Running O). s.base) starts.is in
      record {
        object_is = same;
        callers_are = ap (λ (s : Running O). s.callers) starts.is;
        base_is = from;
        opened = record {
          lines = lines ∙ ap o.line_count (sym same);
          enough = omega (arith, lines, may.enough);
          small = omega (arith, lines, may.small);
          base = subst (λ (b : Base). LawfulBase (o.line_count service.object) (o.lawful service.object) b) (sym from) (subst (λ (x : O). LawfulBase (o.line_count x) (o.lawful x) base) (sym same) may.lawful);
        };
      }

  -- what a service leaves that was started with this object, number of callers and base is what a service of these leaves
  pub served_of : (callers : ℕ) (base : Base) (service : Running O) (r : Remains) → IsOpen o object callers base service → IsServiceFrom o service.object service.callers service.base r → IsServiceFrom o object callers base r
  served_of callers base service r is served =
      subst (λ (b : Base). IsServiceFrom o object callers b r) is.base_is
      (subst (λ (n : ℕ). IsServiceFrom o object n service.base r) is.callers_are
      (subst (λ (x : O). IsServiceFrom o x service.callers service.base r) is.object_is served))

-- a service that was started has as many callers as were asked for
pub count_of : {O : Type 0} (object : O) (lines callers : ℕ) (limits : List ℕ) (base : Base) (service : Running O) (seats : List Seated) → Starts object lines callers limits base service seats → length seats ≡ callers
count_of object lines callers limits base service seats starts = ap length starts.opened ∙ length-map-range_with_len (opening_seat service limits) 0 callers

-- none of the callers of a service that was started has made a step
pub new_of : {O : Type 0} (object : O) (lines callers : ℕ) (limits : List ℕ) (base : Base) (service : Running O) (seats : List Seated) → Starts object lines callers limits base service seats → AreNew service callers seats
new_of object lines callers limits base service seats starts = (limits, starts.opened)

-- a service that was started from a base is served, and what is said of the outputs is so of its callers
pub served_by : {O T : Type 0} (o : Ghosts O) (object : O) (callers : ℕ) (base : Base) (tells : Running O → Seated → Seated → T → Type 0) (service : Running O) (new seats : List Seated) (outputs : List T) (r : Remains) → IsOpen o object callers base service
    → AreNew service callers new → IsClosedLinearizable service (instance_at service o.step o.only_reads) seats r → TellsEach (tells service) new seats outputs → IsServedBy o object callers base tells r outputs
served_by o object callers base tells service new seats outputs r is are_new leaves tells_so = record {
  served = record {
    left = record { table = service; seats = seats; object_is = is.object_is; opened = is.opened; leaves = leaves.leaves; order = leaves.order };
    callers_are = is.callers_are;
    base_is = is.base_is;
  };
  new = new;
  are_new = are_new;
  tells_so = tells_so;
}
