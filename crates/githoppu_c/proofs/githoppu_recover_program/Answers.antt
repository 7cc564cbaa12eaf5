use Rattle.std.proofs.Common.{◌≡◌, inl, inr, length, of_z, refl, rules, subst, to_z, w32}
use Rattle.githoppu_c.specs.Programs.{RefusesProgramRecovery}
use Rattle.githoppu_c.proofs.ProgramsMade.{answered_recovery}
use Rattle.githoppu_c.proofs.githoppu_recover_program.Goals as goal

-- sessions were recovered: the status 0 is one that `RecoversProgram` allows
pub returns-in-Ok : goal.returns-in-Ok
returns-in-Ok c =
    let m = c.in-Ok.ensures in
    inr (m.recovered.few, m.fuel_fits, inr (m.is, inl (m.recovered.few, (m.recovered.service.base, m.recovered.said), refl)))

-- no sessions were recovered: the status for why is one that `RecoversProgram` allows
pub returns-in-Err : goal.returns-in-Err
returns-in-Err c =
    let a = c.args in let count = length a.sessions.now in let code = to_z w32 (of_z w32 c.in-Err.code) in
    let same : c.in-Err.code ≡ code = search rules in
    answered_recovery a.program.now a.instructions a.fuel a.before a.image.now count code (subst (RefusesProgramRecovery a.program.now a.instructions a.fuel a.before a.image.now count) same c.in-Err.ensures)
