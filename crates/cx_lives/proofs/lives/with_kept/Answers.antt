use Rattle.std.proofs.Common.{◌≡◌, ◌∙◌, List, All, refl, sym, subst}
use Rattle.std.specs.List.{AllZip}
use Rattle.std.proofs.lemmas.List.{take_at}
use Rattle.life_records.specs.Ended.{IsFlagged, IsSameStop}
use Rattle.life_records.specs.Records.{JournalLine, StopLine}
use Rattle.cx_lives.proofs.lives.with_kept.Goals as goal

pub returns : goal.returns
returns g c =
    let report = c.args.report in
    let now : List StopLine = c.flag_stops.new.stops in
    let are : c.of.result ≡ now = c.of.ensures ∙ take_at now _ _ (c.flag_stops.auto.stops ∙ c.deref_mut.ensures.len) in
    let same : AllZip IsSameStop report.stops now = subst (λ (xs : List StopLine). AllZip IsSameStop xs now) (c.deref_mut.ensures.value ∙ c.into_vec-stops.ensures) c.flag_stops.ensures.same in
    let flags : All (IsFlagged report.from c.args.kept report.journal) now = subst (λ (j : List (JournalLine g.row.Reply.Denot)). All (IsFlagged report.from c.args.kept j) now) c.as_slice.ensures c.flag_stops.ensures.flags in
    record {
      same = record { clients = refl; from = refl; journal = refl; reads = refl; stops = subst (AllZip IsSameStop report.stops) (sym are) same; fulls = refl };
      stops = subst (All (IsFlagged report.from c.args.kept report.journal)) (sym are) flags;
      choice = refl;
      kept_is = refl;
      items_are = refl;
    }
