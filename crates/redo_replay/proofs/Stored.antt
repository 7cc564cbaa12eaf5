-- What a write set makes of a replica held exclusively that its pairs are stored over.
use Rattle.std.proofs.Common.{true, ◌≡◌, ◌+◌, ◌*◌, ◌^◌, ◌<◌, ◌++◌, ◌∷◌, [], ℕ, suc, List, slice_index, slice_set, refl, ap, sym, ◌∙◌, arith, Result, Ok, Err, IfOk, OnErr, OnOk}
use Rattle.std.proofs.lemmas.List.{append_assoc, append-nil}
use Rattle.cx_base.specs.declared.object.Object.{Ghosts}
use Rattle.cx_base.specs.Memory.{Becomes}
use Rattle.cx_base.specs.Noted.{Note}
use Rattle.cx_core.specs.WriteSet.{stored}
use Rattle.table_invariant.specs.Fitting.{has_of}
use Rattle.table_invariant.specs.Running.{Running}
use Rattle.table_invariant.specs.Seats.{IsWithinLimit, Seated}
use Rattle.table_invariant.specs.Steps.{Halts}
use Rattle.table_invariant.specs.Stores.{FitsIn}
use Rattle.cx_table.specs.Right.{Right}
use Rattle.redo_set.specs.Sets.{put_over}
use Rattle.replica.proofs.Replaying.{set_on}
use Rattle.replica.proofs.RegionLaws.{held_after, since_after, stands_stored}
use Rattle.replica.specs.Held.{Accesses, IsHeld, unchanged_by_access}
use Rattle.replica.specs.Regions.{HasPlace}
use Rattle.redo_replay.specs.Storing.{IsPairStored, stores_to}
use Rattle.replica.specs.Replays.{IsAfterFullStep, IsHeldImage, IsReady, noted_place}

-- once all pairs were stored
pub stored_ready : {O : Type 0} (o : Ghosts O) (r : Running O) (held : Right) (set : List ℕ) (before after : Seated) →
    IsHeldImage (o.line_count r.object) (o.lawful r.object) r.base (o.step r.object) before.known → (has_of before.known).set (noted_place before) set → IsAfterFullStep o r held before after →
    Becomes (FitsIn o r before.known) (FitsIn o r after.known) (λ was now. now ≡ put_over set was) → IsReady o r held (noted_place before + 1) after
unfolding put_over
stored_ready o r held set before after image had leaves becomes =
    let on = set_on (o.line_count r.object) (o.lawful r.object) r.base (o.step r.object) before.known after.known set (ap (λ (s : Seated). has_of s.known) leaves.rest) leaves.begun leaves.still.some image had becomes in
    record { is_held = leaves.still; image = on.0; place = on.1 }

one_more : (n : ℕ) → n + 1 ≡ suc n
one_more n = omega arith

-- one pair more of a set is stored
pub stored_more : (m : ℕ) (set was now : List ℕ) (at v : ℕ) → now ≡ stored m set was → at ≡ slice_index set (2 * m + 1) → v ≡ slice_index set (2 * m + 2) → slice_set now at v ≡ stored (m + 1) set was
stored_more m set was now at v is here word =
    ap (λ ws. slice_set ws at v) is
    ∙ ap (λ k. slice_set (stored m set was) k v) here
    ∙ ap (λ w. slice_set (stored m set was) (slice_index set (2 * m + 1)) w) word
    ∙ ap (λ n. stored n set was) (sym (one_more m))

as_if_ok : {A E : Type 0} (P : Type 0) (result : Result A E) → OnOk result P → IfOk result (λ _. P)
as_if_ok P (Ok x) p = p
as_if_ok P (Err e) p = tt

-- a store of a pair, as one access, whether it was made or not
module _ {O A E : Type 0} (o : Ghosts O) (r : Running O) (held : Right) (at v : ℕ) (before after : Seated) where
  pub pair_stored : (result : Result A E) → v < 2 ^ 64 → OnOk result (Accesses (o.line_count r.object) r (o.lawful r.object) (o.step r.object) held (true, at, v) before after) →
      OnOk result (IsPairStored o r at v before after)
  pair_stored (Ok x) small made = record { done = stands_stored {E = E} (o.line_count r.object) r (o.lawful r.object) (o.step r.object) held before after at v (Ok x) small made; stores = made.accesses }
  pair_stored (Err e) small made = tt

  same_rest : (result : Result A E) → OnOk result (Accesses (o.line_count r.object) r (o.lawful r.object) (o.step r.object) held (true, at, v) before after) → OnErr result (Halts r before after) → unchanged_by_access held.replica after ≡ unchanged_by_access held.replica before
  same_rest (Ok x) made halts = made.rest
  same_rest (Err e) made halts = ap (unchanged_by_access held.replica) halts.same

  pub pair_leaves : (result : Result A E) → OnOk result (Accesses (o.line_count r.object) r (o.lawful r.object) (o.step r.object) held (true, at, v) before after) → OnErr result (Halts r before after) →
      IsHeld (o.line_count r.object) r (o.lawful r.object) (o.step r.object) before held → IsWithinLimit before.known.local → HasPlace before.known.accesses → IsAfterFullStep o r held before after
  pair_leaves result made halts of within place =
      let kept = held_after (o.line_count r.object) r (o.lawful r.object) (o.step r.object) held before after (λ (x : A). (let n : Note = (true, at, v) in n)) true result (as_if_ok _ result made) halts of within (λ yes. place) in
      record { still = kept.0; begun = kept.2 refl; within = kept.1; since = since_after (o.line_count r.object) r (o.lawful r.object) (o.step r.object) held before after (λ (x : A). (let n : Note = (true, at, v) in n)) before.known.local.steps result (as_if_ok _ result made) halts (omega arith); rest = same_rest result made halts }

-- the stores of one pair more
pub stores_more : (m : ℕ) (set : List ℕ) (at v : ℕ) (first now last : List Note) → now ≡ first ++ stores_to m set → last ≡ now ++ (true, at, v) ∷ [] → at ≡ slice_index set (2 * m + 1) → v ≡ slice_index set (2 * m + 2) → last ≡ first ++ stores_to (m + 1) set
unfolding stores_to
stores_more m set at v first now last are more here word =
    more ∙ ap (λ ns. ns ++ (true, at, v) ∷ []) are ∙ append_assoc first (stores_to m set) ((true, at, v) ∷ [])
    ∙ ap (λ a. first ++ (stores_to m set ++ (true, a, v) ∷ [])) here
    ∙ ap (λ w. first ++ (stores_to m set ++ (true, slice_index set (2 * m + 1), w) ∷ [])) word
    ∙ ap (λ n. first ++ stores_to n set) (sym (one_more m))

-- no pair, and no store
pub no_stores : (first : List Note) (set : List ℕ) → first ≡ first ++ stores_to 0 set
unfolding stores_to
no_stores first set = sym (append-nil first)
