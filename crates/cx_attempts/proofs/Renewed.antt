-- What a caller has that prepared a replica, and one to which each was refused.
use Rattle.std.proofs.Common.{◌≡◌, ◌<◌, ℕ, List, ap, sym, subst, ◌∙◌, append-nil, Option, Some, None}
use Rattle.cx_base.specs.declared.object.Object.{Ghosts}
use Rattle.cx_core.specs.declared.local.HeldDowngraded.{HeldDowngraded}
use Rattle.cx_core.specs.Rights.{exclusive_on}
use Rattle.table_invariant.specs.Fitting.{FitsKnown, ReplayedTo, SomeFits, has_of}
use Rattle.table_invariant.specs.Running.{Running}
use Rattle.table_invariant.specs.Seats.{Seated}
use Rattle.table_invariant.proofs.HasMore.{fits_same, some_same}
use Rattle.cx_table.specs.Right.{Right}
use Rattle.cx_attempts.specs.Keeping.{Others, no_others, others}
use Rattle.cx_attempts.specs.Preparing.{Prepares}
use Rattle.cx_attempts.specs.Replaying.{IsBroughtUp, unchanged_by_bringing}
use Rattle.cx_attempts.specs.Attempts.{unguarded}
use Rattle.cx_attempts.proofs.Working.{rights_kept}
use Rattle.replica.specs.Replays.{ShowsReply, noted_place}
use Rattle.strong_trylock.specs.Ends.{Downgrades}
use Rattle.strong_trylock.specs.Held.{AllRights, all_rights, no_rights}

-- all rights of a caller, by its exclusive one and the others
with_others : Option ℕ → Others → AllRights
with_others exclusive o = record { exclusive = exclusive; shared = o.shared; passer = o.passer; downgraded = o.downgraded; won = o.won }

pub finished : {O : Type 0} (o : Ghosts O) (r : Running O) (ticket : ℕ) (first before mid after : Seated) (held token : Right) (reply : List ℕ) →
    before.known.local.met ≡ first.known.local.met → others before.known.local ≡ no_others → exclusive_on before.known.local ≡ Some held.replica → IsBroughtUp o r held ticket mid reply → unchanged_by_bringing mid ≡ unchanged_by_bringing before → Downgrades r o.step o.only_reads held.replica mid after token →
    Prepares o r ticket reply first after token
unfolding with_others
finished o r ticket first before mid after held token reply same alone holds brought work d =
    let free : all_rights before ≡ record no_rights { exclusive = Some held.replica } =
    ap (λ (o : Option ℕ). with_others o (others before.known.local)) holds ∙ ap (with_others (Some held.replica)) alone in
    let made = d.made.made in
    let accesses : after.known.accesses ≡ mid.known.accesses = ap (λ (s : Seated). s.known.accesses) made in
    let has : has_of after.known ≡ has_of mid.known = ap (λ (s : Seated). has_of s.known) made ∙ ap (λ ns. has_of (record mid.known { noted = ns })) (append-nil mid.known.noted) in
    let place : noted_place after ≡ noted_place mid = ap noted_place made in
    let lines_are = brought.is_held.sized.lines_are in
    let number : after.known.local.number ≡ mid.known.local.number = ap (λ (s : Seated). s.known.local.number) made in
    let there : (first now : List ℕ) → FitsKnown r.lines (o.lawful r.object) r.base (o.step r.object) after.known first now → FitsKnown (o.line_count r.object) (o.lawful r.object) r.base (o.step r.object) mid.known first now =
    λ first now f. subst (λ n. FitsKnown n (o.lawful r.object) r.base (o.step r.object) mid.known first now) lines_are (fits_same r.lines (o.lawful r.object) r.base (o.step r.object) mid.known after.known has accesses first now f) in
    record {
      token = d.token;
      downgraded = ap (λ (s : Seated). s.known.local.downgraded) made
          ∙ ap (λ q. Some (let h : HeldDowngraded = record { replica = q; place = noted_place mid } in h)) (sym d.here)
          ∙ ap (λ p. Some (let h : HeldDowngraded = record { replica = token.replica; place = p } in h)) (sym place);
      place = subst (λ p. ticket < p) (sym place) brought.place;
      rights = d.rights
          ∙ ap (λ (x : AllRights). (let y : AllRights = record x { exclusive = None; downgraded = Some held.replica } in y)) (rights_kept (unguarded before) (unguarded mid) work ∙ free)
          ∙ ap (λ q. (let y : AllRights = record no_rights { downgraded = Some q } in y)) (sym d.here);
      replayed = λ first now f. subst (λ p. ReplayedTo (o.step r.object) (has_of after.known) first p now) (sym place)
          (subst (λ h. ReplayedTo (o.step r.object) h first (noted_place mid) now) (sym has) (brought.image.replayed first now (there first now f)));
      reply = λ first now f. subst (λ n. ShowsReply (o.line_count r.object) (o.lawful r.object) r.base (o.step r.object) mid.known n reply) (sym number) brought.reply_is first now (there first now f);
      some = some_same r.lines (o.lawful r.object) r.base (o.step r.object) mid.known after.known has accesses (subst (λ n. SomeFits n (o.lawful r.object) r.base (o.step r.object) mid.known) (sym lines_are) brought.is_held.some);
      protection = ap (λ (s : Seated). s.known.local.protection) made ∙ brought.none;
      refused = ap (λ (s : Seated). s.known.local.refused) made ∙ ap (λ (s : Seated). s.known.local.refused) work ∙ ap (λ (o : Others). o.refused) alone;
      met = ap (λ (s : Seated). s.known.local.met) made ∙ ap (λ (s : Seated). s.known.local.met) work ∙ same;
    }
