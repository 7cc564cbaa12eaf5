-- What the steps of a read do to the seat.
use Rattle.std.proofs.Common.{◌≡◌, ◌==◌, true, false, ℕ, Bool, cond, List, ap, sym, subst, ◌∙◌, eq-eqb, Option, Some, None}
use Rattle.std.proofs.lemmas.Bool.{and_right}
use Rattle.std.proofs.lemmas.List.Elements.{Contains-push}
use Rattle.std.proofs.lemmas.Option.{none-some, same_Some}
use Rattle.std.specs.List.{Contains}
use Rattle.std.specs.Option.{option_map}
use Rattle.cx_base.specs.declared.object.Object.{Ghosts}
use Rattle.cx_base.specs.Codes.{root_place_of, root_replica_of}
use Rattle.cx_core.specs.declared.kinds.Kind.TheVariants.{LoadWord}
use Rattle.cx_core.specs.declared.local.HeldShared.{HeldShared}
use Rattle.cx_core.specs.RootEvents.{ShowsPlace}
use Rattle.table_invariant.specs.Fitting.{Fitting, loaded_of}
use Rattle.table_invariant.specs.Running.{Running, instance_at}
use Rattle.table_invariant.specs.Seats.{Seated, is_outdated, marked_load}
use Rattle.table_invariant.specs.Steps.{Steps}
use Rattle.cx_table.specs.Right.{Right}
use Rattle.cx_attempts.specs.Keeping.{HoldsCurrent}
use Rattle.cx_attempts.specs.Reads.{HoldsPlace, IsReplyRead}
use Rattle.table_invariant.specs.Raises.{TellsRead}
use Rattle.replica.specs.Held.{IsHeldShared, LoadsShared, unchanged_by_shared_access}
use Rattle.replica.proofs.Access.{load_shared_loads}
use Rattle.strong_trylock.specs.Held.{AllRights, all_rights, no_rights}

module _ {O : Type 0} (lines : ℕ) (r : Running O) (step : O → List ℕ → List ℕ → List ℕ × List ℕ) (reads : O → List ℕ → Bool) (lawful : List ℕ → Type 0) (held : Right) (found : ℕ) (before after : Seated) where
  -- where the place found is that of the code last loaded from CUR, the load is marked as no refusal
  current : found ≡ root_place_of r.callers before.known.local.seen_cur → is_outdated (instance_at r step reads) held.replica 0 before.known.local found ≡ false
  current is = and_right (0 == 0) _ (and_right _ _ (and_right _ _ (ap (λ b. cond b false true) (eq-eqb found _ is))))

  -- where the place found is that of the code last loaded from CUR, the load is one of the replica held shared
  pub current_loads : (q : ℕ) → q ≡ held.replica → found ≡ root_place_of r.callers before.known.local.seen_cur → IsHeldShared lines r lawful before held → Steps r step reads (marked_load (instance_at r step reads) q 0 true before.known.local found) found before after →
      Fitting r.lines lawful r.base (step r.object) after.known → LoadsShared lines r lawful held 0 found before after
  current_loads q at is of s fits =
      let here = subst (λ n. Steps r step reads (marked_load (instance_at r step reads) n 0 true before.known.local found) found before after) at s in
      load_shared_loads lines r step reads lawful held 0 found before after of (subst (λ b. Steps r step reads (LoadWord held.replica 0 b) found before after) (current is) here) fits

  -- the place that a load of the replica held shared found is among the words loaded
  pub current_loaded : LoadsShared lines r lawful held 0 found before after → Contains (loaded_of after.known.local.shared) (0, found)
  current_loaded made = subst (λ xs. Contains xs (0, found)) (sym made.loaded) (Contains-push (loaded_of before.known.local.shared) (0, found))

-- the place of the code is shown of the replica that it names
shows_place : (callers code q : ℕ) (o : Option HeldShared) → option_map (λ (h : HeldShared). h.replica) o ≡ Some q → q ≡ root_replica_of callers code → Contains (loaded_of o) (0, root_place_of callers code) → ShowsPlace callers code o
shows_place callers code q None there is has = absurd (none-some q there)
shows_place callers code q (Some h) there is has = (same_Some h.replica q there ∙ is, has)

-- the rights beside the shared one
with_shared : Seated → Option ℕ → AllRights
with_shared s shared = record (all_rights s) { shared = shared }

-- where the place was loaded that the code names, the replica is held at it
pub is_current : {O : Type 0} (o : Ghosts O) (r : Running O) (hold : Right) (found : ℕ) (before after : Seated) → LoadsShared (o.line_count r.object) r (o.lawful r.object) hold 0 found before after → hold.replica ≡ root_replica_of r.callers before.known.local.seen_cur →
    found ≡ root_place_of r.callers before.known.local.seen_cur → before.known.local.fresh ≡ true → Contains (loaded_of after.known.local.shared) (0, found) → HoldsCurrent o r (record (all_rights before) { shared = None }) before after hold
unfolding with_shared
is_current o r hold found before after made here is fresh has =
    let cur : after.known.local.seen_cur ≡ before.known.local.seen_cur = ap (λ (s : Seated). s.known.local.seen_cur) made.rest in
    record {
      held = made.still;
      here = here ∙ ap (root_replica_of r.callers) (sym cur);
      place = subst (λ n. Contains (loaded_of after.known.local.shared) (0, n)) (is ∙ ap (root_place_of r.callers) (sym cur)) has;
      with = ap (with_shared after) made.still.right.holds ∙ ap (λ (s : Seated). with_shared s (Some hold.replica)) made.rest;
      fresh = ap (λ (s : Seated). s.known.local.fresh) made.rest ∙ fresh;
      met = ap (λ (s : Seated). s.known.local.met) made.rest;
    }

module _ {O : Type 0} (o : Ghosts O) (r : Running O) (op : List ℕ) (hold : Right) (reply : List ℕ) (before after : Seated) where
  -- a read of the replica that is held at the place of the code last loaded from CUR
  pub is_read : (place : ℕ) → unchanged_by_shared_access hold.replica after ≡ unchanged_by_shared_access hold.replica before → HoldsCurrent o r no_rights before before hold → place ≡ root_place_of r.callers before.known.local.seen_cur →
      HoldsPlace o r place after hold → TellsRead (o.line_count r.object) (o.lawful r.object) r.base (o.step r.object) after.known op reply → IsReplyRead o r op reply before after hold
  unfolding with_shared
  is_read place rest was at has tells =
      let cur : after.known.local.seen_cur ≡ before.known.local.seen_cur = ap (λ (s : Seated). s.known.local.seen_cur) rest in
      let here = was.here ∙ ap (root_replica_of r.callers) (sym cur) in
      let there = subst (λ n. Contains (loaded_of after.known.local.shared) (0, n)) (at ∙ ap (root_place_of r.callers) (sym cur)) has.loaded in
      record {
        current = record {
          held = has.held;
          here = here;
          place = there;
          with = ap (with_shared after) has.held.right.holds
              ∙ ap (λ (s : Seated). with_shared s (Some hold.replica)) rest
              ∙ ap (λ (a : AllRights). (let b : AllRights = record a { shared = Some hold.replica } in b)) was.with;
          fresh = ap (λ (s : Seated). s.known.local.fresh) rest ∙ was.fresh;
          met = ap (λ (s : Seated). s.known.local.met) rest;
        };
        shows = shows_place r.callers after.known.local.seen_cur hold.replica after.known.local.shared has.held.right.holds here there;
        tells = tells;
      }
