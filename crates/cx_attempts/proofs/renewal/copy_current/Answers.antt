use Rattle.std.proofs.Common.{ap, subst, sym, ◌∙◌}
use Rattle.table_invariant.specs.Seats.{Seated}
use Rattle.cx_attempts.specs.Keeping.{HoldsCurrent, MissesCurrent, TakesCurrent}
use Rattle.cx_attempts.proofs.Kept.{holds_source, may_list, missed_image}
use Rattle.replica.specs.Replays.{StoresNone}
use Rattle.strong_trylock.specs.Held.{all_rights}
use Rattle.cx_attempts.proofs.renewal.copy_current.Goals as goal

pub copy_and_keep-requires-clause-source : goal.copy_and_keep-requires-clause-source
copy_and_keep-requires-clause-source g c =
    let t = c.args.shared.now in
    let o = g.O.Object in
    let e = c.in_ok-source.ensures in
    let seen = c.in_ok-load_current.ensures.seen in
    let mid = c.load_current.new.seat in
    let new = c.take_current.new.seat in
    let taken : HoldsCurrent o t (all_rights mid) mid new c.in-Some.source = subst (TakesCurrent o t (all_rights mid) mid new) c.in-Some.is e.taken in
    holds_source o t mid new c.args.held c.in-Some.source e.keeps.seat e.keeps.rest taken seen.at_image (seen.protection ∙ c.requires.may.none)

pub give_up-requires : goal.give_up-requires
give_up-requires g c =
    let t = c.args.shared.now in
    let e = c.in_ok-source.ensures in
    let seen = c.in_ok-load_current.ensures.seen in
    let mid = c.load_current.new.seat in
    let new = c.take_current.new.seat in
    let missed : MissesCurrent (all_rights mid) mid new = subst (TakesCurrent g.O.Object t (all_rights mid) mid new) c.in-None.is e.taken in
    record {
      may = record {
        at_image = missed_image g.O.Object t mid new c.args.held e.keeps.seat e.keeps.rest missed.left seen.at_image;
        none = ap (λ (s : Seated). s.known.local.protection) e.keeps.rest ∙ seen.protection ∙ c.requires.may.none;
        stale = missed.fresh;
      };
    }

pub copy_and_keep-requires-clause-listed : goal.copy_and_keep-requires-clause-listed
copy_and_keep-requires-clause-listed g c =
    let t = c.args.shared.now in
    let o = g.O.Object in
    let e = c.in_ok-source.ensures in
    let seen = c.in_ok-load_current.ensures.seen in
    let mid = c.load_current.new.seat in
    let new = c.take_current.new.seat in
    let taken : HoldsCurrent o t (all_rights mid) mid new c.in-Some.source = subst (TakesCurrent o t (all_rights mid) mid new) c.in-Some.is e.taken in
    may_list o t mid new c.args.held c.in-Some.source e.keeps.rest taken seen.at_image (subst StoresNone (sym seen.accesses) c.requires.may.unstored)
