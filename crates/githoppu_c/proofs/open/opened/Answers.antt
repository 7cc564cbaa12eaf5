use Rattle.std.proofs.Common.{ap, ◌∙◌}
use Rattle.cx_core.specs.declared.entry.Base.{Base}
use Rattle.table_invariant.specs.Running.{Running}
use Rattle.githoppu_c.proofs.open.opened.Goals as goal

-- the sessions that were opened are of one service of the object, which starts from the object's opening image
pub returns-in-Ok : goal.returns-in-Ok
returns-in-Ok g c =
    let sessions = c.in-Ok.ensures.opened in
    record {
      service = sessions.service;
      object_is = ap (λ (r : Running _). r.object) sessions.is;
      callers_are = ap (λ (r : Running _). r.callers) sessions.is;
      lines_are = ap (λ (r : Running _). r.lines) sessions.is;
      said = ap (λ (r : Running _). r.base.words) sessions.is ∙ ap (λ (b : Base). b.words) c.in-Ok.ensures.fresh;
      all = sessions.all;
      each = sessions.each;
    }
