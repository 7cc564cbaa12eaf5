use Rattle.std.proofs.Common.{◌≡◌, ◌≤◌, ap, length, map, subst, sym, ◌∙◌}
use Rattle.std.specs.List.{range_with_len}
use Rattle.std.proofs.lemmas.List.{length-map}
use Rattle.std.proofs.lemmas.List.FromFn.{length-range_with_len}
use Rattle.table_invariant.specs.Running.{Running}
use Rattle.c_sessions.specs.Sessions.{caller_number_in}
use Rattle.c_sessions.proofs.Numbers.{as_many, number_of}
use Rattle.c_sessions.proofs.start.open_from.Goals as goal

-- there are as many callers as the new service has, and at most 8
pub shared-requires-clause-all : goal.shared-requires-clause-all
shared-requires-clause-all g c =
    let started = c.in-Ok-start.ensures in
    let count : c.in-Ok-start.service.callers ≡ c.args.callers = ap (λ (r : Running g.row.O.Denot). r.callers) started.is in
    let many : length c.in-Ok-start.callers.items ≡ c.in-Ok-start.service.callers =
    sym (length-map c.in-Ok-start.callers.items number_of) ∙ ap length started.all.numbers ∙ length-range_with_len 0 c.in-Ok-start.service.callers in
    (many, subst (λ n. n ≤ 8) (sym count) started.right.0.1)

-- the sessions are open, of the new service, and of caller 0 first
pub returns-in-Ok-shared : goal.returns-in-Ok-shared
returns-in-Ok-shared g c =
    let started = c.in-Ok-start.ensures in
    let sessions = c.in-Ok-shared.sessions.items in
    let numbers : map caller_number_in sessions ≡ range_with_len 0 c.args.callers =
    c.in-Ok-shared.ensures.numbers ∙ started.all.numbers ∙ ap (λ (r : Running g.row.O.Denot). range_with_len 0 r.callers) started.is in
    record {
      all = as_many sessions (range_with_len 0 c.args.callers) numbers ∙ length-range_with_len 0 c.args.callers;
      service = c.in-Ok-start.service;
      is = started.is;
      each = c.in-Ok-shared.ensures.each;
      numbers = numbers;
    }
