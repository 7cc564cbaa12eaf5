-- Opening what no caller was found to need.
use Rattle.std.proofs.Common.{◌≡◌, ◌^◌, ◌<◌, ◌≤◌, ℕ, min, max, Option, refl, sym, ap, ◌∙◌, arith, Some, None}
use Rattle.std.proofs.lemmas.List.{append-nil}
use Rattle.std.proofs.lemmas.Option.{same_Some}
use Rattle.cx_core.specs.declared.kinds.Kind.TheVariants.{LoadFree, OpenFree}
use Rattle.cx_core.specs.declared.local.Scan as scans
use Rattle.cx_core.specs.declared.local.SeenNeed.{SeenNeed}
use Rattle.cx_core.specs.RingEvents.{bound_in, least_in, need_word}
use Rattle.cx_core.specs.State.{Instance, one_more}
use Rattle.cx_table.specs.Seats.{Seated, stepped}
use Rattle.mutation_queue.specs.declared.reclamation.Collected.{Collected}
use Rattle.mutation_queue.specs.Collecting.{Collects, FindsLeast, Scans, ScansTo, except_collected}

-- the least need that a scan found, of some callers
record Least (target d number own bound : ℕ) (o : Option SeenNeed) : Type 0 where
  least : SeenNeed
  is : o ≡ Some least
  caller : least.caller < d
  at : bound ≡ min target least.need
  needs : least.caller ≡ number → least.need ≡ own

least_of : (target d number own bound : ℕ) (o : Option SeenNeed) → FindsLeast target d number own bound o → 1 ≤ d → Least target d number own bound o
least_of target d number own bound None h some = (let none = h.0 in absurd (omega arith))
least_of target d number own bound (Some n) h some = record { least = n; is = refl; caller = h.0; at = h.1; needs = h.2 }

found_least : (target d number own : ℕ) (o : Option scans.Scan) → ScansTo target d number own o → 1 ≤ d → Least target d number own (bound_in o) (least_in o)
found_least target d number own None h some = absurd h
found_least target d number own (Some s) h some = least_of target d number own s.bound s.least h.1 some

-- FREE was raised to what the scan found, and loaded
module _ (instance : Instance) (target callers found free : ℕ) (s t u v : Seated) (some : 1 ≤ callers) (so : Scans target callers s t) (opens : u ≡ stepped instance OpenFree t found)
    (loads : v ≡ stepped instance LoadFree u free) (most : u.known.local.seen_free ≤ free) where
  all : Least target callers s.known.local.number (need_word s.known.local.protection) (bound_in t.known.local.scan) (least_in t.known.local.scan)
  all = found_least target callers s.known.local.number (need_word s.known.local.protection) t.known.local.scan so.scan some

  noted : v.known.local.seen_need ≡ Some all.least
  noted = ap (λ (x : Seated). x.known.local.seen_need) loads ∙ ap (λ (x : Seated). x.known.local.seen_need) opens ∙ all.is

  -- the least need is known, of a caller that there is
  pub seen : callers ≤ 8 → (least : SeenNeed) × (v.known.local.seen_need ≡ Some least) × (least.caller < 2 ^ 32)
  seen few = (all.least, noted, (let below = all.caller in omega arith))

  opened_rest : except_collected u ≡ except_collected s
  opened_rest =
      ap except_collected opens
      ∙ ap (λ n. except_collected (record t { known = record t.known { noted = n } })) (append-nil t.known.noted)
      ∙ ap except_collected so.same

  pub rest : except_collected v ≡ except_collected s
  rest =
      ap except_collected loads
      ∙ ap (λ n. except_collected (record u { known = record u.known { noted = n } })) (append-nil u.known.noted)
      ∙ opened_rest

  pub collects : (collected : Collected) → collected.free ≡ free → v.known.local.seen_need ≡ Some (record { need = collected.need; caller = collected.holder }) → Collects callers target s v collected
  collects collected is seen_as =
      let kept : t.known.local.seen_free ≡ s.known.local.seen_free = ap (λ (x : Seated). x.known.local.seen_free) so.same in
      let raised : u.known.local.seen_free ≡ max t.known.local.seen_free (max found (bound_in t.known.local.scan)) = ap (λ (x : Seated). x.known.local.seen_free) opens in
      let loaded : v.known.local.seen_free ≡ max u.known.local.seen_free free = ap (λ (x : Seated). x.known.local.seen_free) loads in
      let new : SeenNeed = record { need = collected.need; caller = collected.holder } in
      let same : all.least ≡ new = same_Some all.least new (sym noted ∙ seen_as) in
      let need : all.least.need ≡ collected.need = ap (λ (n : SeenNeed). n.need) same in
      let caller : all.least.caller ≡ collected.holder = ap (λ (n : SeenNeed). n.caller) same in
      let bound = all.at in
      let below = all.caller in
      record {
        same = rest;
        fresh = ap (λ (x : Seated). x.known.local.fresh) loads ∙ ap (λ (x : Seated). x.known.local.fresh) opens;
        scan = ap (λ (x : Seated). x.known.local.scan) loads ∙ ap (λ (x : Seated). x.known.local.scan) opens;
        scans = ap (λ (x : Seated). x.known.local.scans) loads ∙ ap (λ (x : Seated). x.known.local.scans) opens ∙ ap (λ (x : Seated). one_more x.known.local.scans) so.same;
        seen = seen_as;
        free = omega arith;
        rises = omega arith;
        opened = omega arith;
        holder = omega arith;
        own = λ e. sym need ∙ all.needs (caller ∙ e);
        count = (let c = so.count in omega (arith, ap (λ (x : Seated). x.known.local.steps) loads, ap (λ (x : Seated). x.known.local.steps) opens, c));
      }
