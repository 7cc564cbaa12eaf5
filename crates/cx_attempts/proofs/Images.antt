-- What an attempt by which an image is taken does to the seat.
use Rattle.std.proofs.Common.{◌≡◌, ◌+◌, ◌-◌, ◌==◌, ◌<◌, ◌≤◌, inl, inr, ℕ, Bool, true, false, cond, List, [], ◌∷◌, ◌++◌, append-nil, length, length-append, slice_index, refl, ap, sym, subst, ◌∙◌, arith, Some, None, drop, set, suc, take}
use Rattle.std.proofs.lemmas.Bool.{cases_eq}
use Rattle.std.proofs.lemmas.List.{drop_all, get_or_append_left, get_or_push, length-drop, length-set, length-take}
use Rattle.std.proofs.lemmas.List.Elements.{Contains-append_left}
use Rattle.std.specs.List.{Contains, slice_get}
use Rattle.cx_base.specs.Codes.{root_place_of}
use Rattle.cx_base.specs.declared.object.Object.{Ghosts}
use Rattle.cx_base.specs.Noted.{Note}
use Rattle.cx_core.specs.Base.{LawfulBase}
use Rattle.cx_core.specs.declared.local.Local.{Local}
use Rattle.cx_core.specs.LockEvents.{backed_off}
use Rattle.cx_core.specs.Rights.{is_at, shared_on}
use Rattle.cx_core.specs.State.{one_more}
use Rattle.cx_core.proofs.RootCodes.{place_up}
use Rattle.table_invariant.specs.declared.rule.ImageTimes.{ImageTimes}
use Rattle.table_invariant.specs.Fitting.{TellsWords, base_of, loaded_of, loads_of, word_noted}
use Rattle.table_invariant.specs.Running.{Running, instance_at}
use Rattle.table_invariant.specs.Seats.{Seated, images_of}
use Rattle.table_invariant.specs.Steps.{StepsTaking, image_times}
use Rattle.table_invariant.proofs.Copying.{here_or, or_there}
use Rattle.table_invariant.proofs.Stepping.{on_one, on_same}
use Rattle.cx_table.specs.Right.{Right}
use Rattle.cx_attempts.specs.Checkpointing.{IsAtCurrent, LoadsImage, LoadsSome, RaisesCurrent, TakesCheckpoint}
use Rattle.cx_attempts.specs.Attempts.{IsAtRest}
use Rattle.replica.specs.Held.{IsHeldShared, LoadsRun, LoadsShared, no_load, one_more_load, unchanged_by_shared_access}
use Rattle.replica.proofs.Access.{at_itself}
use Rattle.replica.proofs.LineLoads.{loads_more, noted_more}
use Rattle.replica.proofs.RegionLaws.{since_shared_run}
use Rattle.replica.proofs.Renewing.{loaded_once}

-- ---- loads

-- what is noted of the replica held shared
abbrev noted : Seated → List Note
noted s = loads_of (loaded_of s.known.local.shared)

module _ {O : Type 0} (lines : ℕ) (r : Running O) (lawful : List ℕ → Type 0) (held : Right) where
  -- words from one on were loaded: each is the word noted last there, and what is noted below them is as it was
  record RunLoads (from : ℕ) (words : List ℕ) (before after : Seated) : Type 0 where
    each : (i : ℕ) → i < length words → word_noted None (from + i) (noted after) ≡ Some (slice_index words i)
    other : (i : ℕ) → i < from → word_noted None i (noted after) ≡ word_noted None i (noted before)
    kept : (x : ℕ × ℕ) → Contains (loaded_of before.known.local.shared) x → Contains (loaded_of after.known.local.shared) x
    rest : unchanged_by_shared_access held.replica after ≡ unchanged_by_shared_access held.replica before
    still : IsHeldShared lines r lawful after held

  one_load : (at word : ℕ) (before after : Seated) → LoadsShared lines r lawful held at word before after → (i : ℕ) → word_noted None i (noted after) ≡ cond (at == i) (Some word) (word_noted None i (noted before))
  one_load at word before after load i =
      ap (λ xs. word_noted None i (loads_of xs)) load.loaded
      ∙ ap (word_noted None i) (loads_more (loaded_of before.known.local.shared) at word)
      ∙ noted_more (noted before) None i false at word

  load_kept : (at word : ℕ) (before after : Seated) → LoadsShared lines r lawful held at word before after → (x : ℕ × ℕ) → Contains (loaded_of before.known.local.shared) x → Contains (loaded_of after.known.local.shared) x
  load_kept at word before after load x has = subst (λ xs. Contains xs x) (sym load.loaded) (Contains-append_left (loaded_of before.known.local.shared) ((at, word) ∷ []) x has)

  run_loads : (from : ℕ) (words : List ℕ) (before after : Seated) → IsHeldShared lines r lawful before held → LoadsRun (LoadsShared lines r lawful held) from words before after → RunLoads from words before after
  run_loads from words before after of (no_load _ _ _ none same) = record {
    each = λ i below. (let long = ap length none in absurd (omega (arith, below, long)));
    other = λ i below. ap (λ s. word_noted None i (noted s)) same;
    kept = λ x has. subst (λ s. Contains (loaded_of s.known.local.shared) x) (sym same) has;
    rest = ap (unchanged_by_shared_access held.replica) same;
    still = subst (λ s. IsHeldShared lines r lawful s held) (sym same) of;
  }
  run_loads from words before after of (one_more_load _ _ _ first word mid longer run load) =
      let was = run_loads from first before mid of run in
      let at = from + length first in
      record {
        each = λ i below. subst (λ ws. word_noted None (from + i) (noted after) ≡ Some (slice_index ws i)) (sym longer) (elim (cases_eq i (length first)) [
          | inl last ↦ (
              let here : at ≡ from + i = omega (arith, last) in
              one_load at word mid after load (from + i) ∙ here_or at (from + i) (Some word) _ here
              ∙ ap Some (sym (ap (slice_index (first ++ word ∷ [])) last ∙ get_or_push first word 0 (length first) refl)))
          | inr apart ↦ (
              let count = ap length longer ∙ length-append first (word ∷ []) in
              let small : i < length first = omega (arith, below, count, apart) in
              one_load at word mid after load (from + i) ∙ or_there at (from + i) (Some word) _ (λ e. apart (omega (arith, e)))
              ∙ was.each i small ∙ ap Some (sym (get_or_append_left first (word ∷ []) 0 i small)))
        ]);
        other = λ i below. one_load at word mid after load i ∙ or_there at i (Some word) _ (λ e. (let off : from + length first ≡ i = e in absurd (omega (arith, off, below)))) ∙ was.other i below;
        kept = λ x has. load_kept at word mid after load x (was.kept x has);
        rest = load.rest ∙ was.rest;
        still = load.still;
      }

-- the place was loaded, and then the words behind it
module _ {O : Type 0} (o : Ghosts O) (r : Running O) (hold : Right) (v : ℕ) (words : List ℕ) (first mid last : Seated) (one : LoadsShared (o.line_count r.object) r (o.lawful r.object) hold 0 v first mid) where
  pub some_loaded : LoadsSome o r hold first mid
  some_loaded = record { held = one.still; since = on_one first mid one.steps; rest = one.rest; kept = load_kept (o.line_count r.object) r (o.lawful r.object) hold 0 v first mid one }

  module _ (two : LoadsRun (LoadsShared (o.line_count r.object) r (o.lawful r.object) hold) 1 words mid last) where
    pub all_loaded : LoadsSome o r hold first last
    all_loaded =
        let run = run_loads (o.line_count r.object) r (o.lawful r.object) hold 1 words mid last one.still two in
        record {
          held = run.still;
          since = since_shared_run (o.line_count r.object) r (o.lawful r.object) hold 1 words mid last first.known.local.steps two some_loaded.since;
          rest = run.rest ∙ one.rest;
          kept = λ x has. run.kept x (some_loaded.kept x has);
        }

    pub image_loaded : length r.base.words ≡ 1 + length words → LoadsImage o r hold (v ∷ words) first last
    image_loaded count =
        let run = run_loads (o.line_count r.object) r (o.lawful r.object) hold 1 words mid last one.still two in
        let region = run.still.of.region in
        record {
          loads = all_loaded;
          tells = record {
            long = omega (arith, region, count);
            each = λ i below. elim (cases_eq i 0) [
              | inl e ↦ (
                  ap (λ n. word_noted None n (noted last)) e ∙ run.other 0 (omega arith)
                  ∙ one_load (o.line_count r.object) r (o.lawful r.object) hold 0 v first mid one 0 ∙ here_or 0 0 (Some v) (word_noted None 0 (noted first)) refl
                  ∙ ap Some (sym (ap (slice_index (v ∷ words)) e)))
              | inr apart ↦ (
                  let there : 1 + (i - 1) ≡ i = omega (arith, apart) in
                  let next : suc (i - 1) ≡ i = omega (arith, apart) in
                  ap (λ n. word_noted None n (noted last)) (sym there) ∙ run.each (i - 1) (omega (arith, below, region, count, apart)) ∙ ap Some (ap (slice_index (v ∷ words)) next))
            ];
          };
        }

-- a list into which the first word was put, and then the others
pub put_words : (xs : List ℕ) (v : ℕ) (words : List ℕ) → 0 < length xs → take 1 (set xs 0 v) ++ (words ++ drop (length (set xs 0 v) - 1) (drop 1 (set xs 0 v))) ≡ v ∷ words
put_words [] v words some = absurd (omega arith)
put_words (x ∷ xs) v words some = ap (λ ys. v ∷ (words ++ ys)) (drop_all (length (v ∷ xs) - 1) xs (omega arith)) ∙ ap (λ ys. v ∷ ys) (append-nil words)

-- a list whose words behind the first are as many as `words` has one word more than `words`
pub rest_length : (xs : List ℕ) (v : ℕ) (words : List ℕ) → 0 < length xs → length words ≡ length (take (length (set xs 0 v) - 1) (drop 1 (set xs 0 v))) → length xs ≡ 1 + length words
rest_length xs v words some is = omega (arith, is, length-set xs 0 v, length-drop 1 (set xs 0 v), length-take (length (set xs 0 v) - 1) (drop 1 (set xs 0 v)), some)

pub none_loaded : {O : Type 0} (o : Ghosts O) (r : Running O) (hold : Right) (first last : Seated) → IsHeldShared (o.line_count r.object) r (o.lawful r.object) first hold → last ≡ first → LoadsSome o r hold first last
none_loaded o r hold first last held same = record {
  held = subst (λ s. IsHeldShared (o.line_count r.object) r (o.lawful r.object) s hold) (sym same) held;
  since = on_same first last same;
  rest = ap (unchanged_by_shared_access hold.replica) same;
  kept = λ x has. subst (λ s. Contains (loaded_of s.known.local.shared) x) (sym same) has;
}

-- ---- the raise, and the right given back

module _ {O : Type 0} (o : Ghosts O) (r : Running O) (hold : Right) (first s : Seated) (loads : LoadsSome o r hold first s) where
  module _ (code : ℕ) (u : Seated) (raise : RaisesCurrent o r code s u) where
    raised_front : u.known.local.front ≡ first.known.local.front
    raised_front = ap (λ (x : Seated). x.known.local.front) raise.made ∙ ap (λ (x : Seated). x.known.local.front) loads.rest

    raised_met : u.known.local.met ≡ first.known.local.met
    raised_met = ap (λ (x : Seated). x.known.local.met) raise.made ∙ ap (λ (x : Seated). x.known.local.met) loads.rest

    raised_images : images_of u.known ≡ images_of first.known
    raised_images = ap (λ (x : Seated). images_of x.known) raise.made ∙ ap (λ (x : Seated). images_of x.known) loads.rest

    pub raised_cur : u.known.local.seen_cur ≡ first.known.local.seen_cur
    raised_cur = ap (λ (x : Seated). x.known.local.seen_cur) raise.made ∙ ap (λ (x : Seated). x.known.local.seen_cur) loads.rest

    raised_holds : shared_on u.known.local ≡ Some hold.replica
    raised_holds = ap (λ (x : Seated). shared_on x.known.local) raise.made ∙ loads.held.right.holds

    module _ (image : List ℕ) (found : ℕ) (v : Seated) (steps : StepsTaking r o.step o.only_reads hold.replica found image u v) where
      -- the seat that took it, by its local state
      abbrev taking : Local → Seated
      taking x = record u {
        known = record u.known {
          local = x;
          noted = u.known.noted ++ [];
          times = record u.known.times { images = u.known.times.images ++ image_times (instance_at r o.step o.only_reads) u.known (record u.known { local = x }) };
          images = u.known.images ++ image ∷ [];
        };
      }

      released : v ≡ taking (record u.known.local { shared = None; steps = one_more u.known.local.steps })
      released =
          let l = u.known.local in
          let off : backed_off hold.replica l ≡ record l { shared = None; steps = one_more l.steps } =
          ap (λ (b : Bool). cond b (record l { shared = None; steps = one_more l.steps }) (cond (is_at hold.replica l.passer) (record l { passer = None; steps = one_more l.steps }) (record l { downgraded = None; steps = one_more l.steps })))
          (ap (is_at hold.replica) raised_holds ∙ at_itself hold.replica) in
          steps.made ∙ ap taking off

      -- the times of the image that is taken
      abbrev image_now : ImageTimes
      image_now = record {
        begun = u.known.times.loaded;
        ended = one_more u.known.local.steps;
        place = root_place_of r.callers u.known.local.seen_cur;
        durable = root_place_of r.callers u.known.local.raised;
      }

      image_noted : first.known.times.seen ≡ true → v.known.times.images ≡ first.known.times.images ++ image_now ∷ []
      image_noted seen =
          let loaded : u.known.times.seen ≡ true = ap (λ (x : Seated). x.known.times.seen) raise.made ∙ ap (λ (x : Seated). x.known.times.seen) loads.rest ∙ seen in
          ap (λ (x : Seated). x.known.times.images) released ∙ ap (λ (b : Bool). u.known.times.images ++ cond b (image_now ∷ []) []) loaded ∙ ap (λ (p : List (List ℕ) × List ImageTimes). p.1 ++ image_now ∷ []) raised_images

      pub taken_cur : v.known.local.seen_cur ≡ first.known.local.seen_cur
      taken_cur = ap (λ (x : Seated). x.known.local.seen_cur) released ∙ raised_cur

      pub taken_image : IsAtCurrent o r first hold → first.known.times.seen ≡ true → TellsWords s.known s.region image → code ≡ s.known.local.seen_cur → LawfulBase r.lines (o.lawful r.object) (base_of image) → (place : ℕ) → slice_index image 0 ≡ place → TakesCheckpoint o r first.known.times.loaded image place first v
      taken_image at seen tells code_is base place is =
          let region = loads.held.of.region in
          let size = loads.held.sized.region in
          let here : slice_index image 0 ≡ root_place_of r.callers first.known.local.seen_cur =
          loaded_once (o.line_count r.object) (o.lawful r.object) r.base (loaded_of s.known.local.shared) (slice_index image 0) (root_place_of r.callers first.known.local.seen_cur) loads.held.some (tells.each 0 (omega (arith, region, size)))
          (loads.kept (0, root_place_of r.callers first.known.local.seen_cur) at.place) in
          let now : place ≡ root_place_of r.callers first.known.local.seen_cur = sym is ∙ here in
          let cur : root_place_of r.callers s.known.local.seen_cur ≡ place = ap (λ (x : Seated). root_place_of r.callers x.known.local.seen_cur) loads.rest ∙ sym now in
          let floor = raise.lawful.floor_cur in
          let front = raise.lawful.cur in
          let front_is = ap (λ (x : Seated). x.known.local.front) loads.rest in
          let front_now = ap (λ (x : Seated). x.known.local.front) released in
          record {
            rest = subst (λ (x : Seated). IsAtRest x.known.local) (sym released) (subst (λ (x : Seated). IsAtRest (record x.known.local { shared = None; steps = one_more x.known.local.steps })) (sym raise.made) (record {
              exclusive = ap (λ (x : Seated). x.known.local.exclusive) loads.rest ∙ at.rest.exclusive;
              shared = refl;
              passer = ap (λ (x : Seated). x.known.local.passer) loads.rest ∙ at.rest.passer;
              downgraded = ap (λ (x : Seated). x.known.local.downgraded) loads.rest ∙ at.rest.downgraded;
              won = ap (λ (x : Seated). x.known.local.won) loads.rest ∙ at.rest.won;
              protection = ap (λ (x : Seated). x.known.local.protection) loads.rest ∙ at.rest.protection;
              scan = ap (λ (x : Seated). x.known.local.scan) loads.rest ∙ at.rest.scan;
              refused = ap (λ (x : Seated). x.known.local.refused) loads.rest ∙ at.rest.refused;
              fresh = refl;
            }));
            met = ap (λ (x : Seated). x.known.local.met) released ∙ raised_met;
            images = ap (λ (x : Seated). x.known.images) released ∙ ap (λ (p : List (List ℕ) × List ImageTimes). p.0 ++ image ∷ []) raised_images;
            times = record {
              image = image_now;
              from = (let a = ap (λ (x : Seated). x.known.times.loaded) raise.made in let b = ap (λ (x : Seated). x.known.times.loaded) loads.rest in omega (arith, a, b));
              to = (let a = ap (λ (x : Seated). x.known.local.steps) released in omega (arith, a));
              at = ap (root_place_of r.callers) raised_cur ∙ sym now;
              durable = (
                  let some : 1 ≤ r.callers = (let caller = steps.seat.caller in omega (arith, caller)) in
                  let a = ap (λ (x : Seated). x.known.local.raised) raise.made in
                  let up = place_up r.callers s.known.local.seen_cur u.known.local.raised some (omega (arith, a, code_is)) in
                  omega (arith, up, cur));
              is = image_noted seen;
            };
            base = subst (λ n. LawfulBase r.lines (o.lawful r.object) (record { place = n; words = image })) is base;
            current = now ∙ sym (ap (root_place_of r.callers) taken_cur);
            loaded = ap (λ (x : Seated). x.known.times.loaded) released ∙ ap (λ (x : Seated). x.known.times.loaded) raise.made ∙ ap (λ (x : Seated). x.known.times.loaded) loads.rest;
            seen = ap (λ (x : Seated). x.known.times.seen) released ∙ ap (λ (x : Seated). x.known.times.seen) raise.made ∙ ap (λ (x : Seated). x.known.times.seen) loads.rest ∙ seen;
            raised = (let a = ap (λ (x : Seated). x.known.local.raised) released in let b = ap (λ (x : Seated). x.known.local.raised) raise.made in let c = ap (λ (x : Seated). x.known.local.seen_cur) released in let d = ap (λ (x : Seated). x.known.local.seen_cur) raise.made in omega (arith, a, b, c, d, code_is));
            reached = omega (arith, cur, front, front_is, front_now, raised_front);
            above = λ i x there. (
                let below = raise.lawful.answered i x (ap (λ (y : Seated). slice_get y.known.local.answered i) loads.rest ∙ there) in
                omega (arith, below, floor, cur));
            from = λ i x there. (
                let least = raise.lawful.reads i x (ap (λ (y : Seated). slice_get y.known.local.seen_reads i) loads.rest ∙ there) in
                omega (arith, least, floor, cur));
          }
