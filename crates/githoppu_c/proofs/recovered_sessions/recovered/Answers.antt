use Rattle.std.proofs.Common.{◌≡◌, ◌⊎◌, ℤ, ap, inl, inr, of_z, rules, subst, sym, to_z, w32}
use Rattle.table_invariant.specs.Running.{Running}
use Rattle.githoppu_c.specs.Codes.{IsOpenCode, open_code}
use Rattle.githoppu_c.specs.Objects.{IsObjectFault, IsObjectIn}
use Rattle.githoppu_c.specs.Recoveries.{IsRefusal}
use Rattle.githoppu_c.proofs.Openings.{kind_refused, opening_code}
use Rattle.githoppu_c.proofs.Refused.{handed_on}
use Rattle.githoppu_c.proofs.recovered_sessions.recovered.Goals as goal

-- no base was given: the status is handed on, and is that of a fault of the words for this object
pub returns-in_err-base : goal.returns-in_err-base
returns-in_err-base g c =
    let o = g.O.Object in
    handed_on _ (λ (code : ℤ). IsRefusal (IsObjectFault o g.O.OfC.replies_kept c.args.object c.args.words.now) code ⊎ IsOpenCode code) c.from_residual.result _ c.from_residual.ensures.1
    (inl (kind_refused o c.args.object c.args.words.now c.reply_kind.result g.O.OfC.replies_kept _ c.reply_kind.ensures c.in_err-base.ensures.base))

-- the sessions are of one service of the object, which starts from the base that was taken from the words
pub returns-in-Ok : goal.returns-in-Ok
returns-in-Ok g c =
    let sessions = c.in-Ok.ensures in
    record {
      service = sessions.service;
      object_is = ap (λ (r : Running _). r.object) sessions.is;
      callers_are = ap (λ (r : Running _). r.callers) sessions.is;
      lines_are = ap (λ (r : Running _). r.lines) sessions.is;
      said = subst (IsObjectIn g.O.Object g.O.OfC.replies_kept c.args.object c.args.words.now) (sym (ap (λ (r : Running _). r.base) sessions.is)) (subst (λ k. IsObjectIn g.O.Object k c.args.object c.args.words.now c.in_ok-base.base) c.reply_kind.ensures c.in_ok-base.ensures.base);
      all = sessions.all;
      each = sessions.each;
    }

-- no sessions were opened from the base: the status is one of `IsOpenCode`
pub returns : goal.returns
returns g c =
    let code = to_z w32 (of_z w32 c.open_code.result) in
    let same : code ≡ open_code c.in-Err.fault = search rules in
    inr (opening_code c.in-Err.fault code same)
