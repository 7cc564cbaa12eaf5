use Rattle.std.proofs.Common.{◌∙◌, ap, rules, subst}
use Rattle.c_images.specs.Words.{lines_in}
use Rattle.githoppu_c.specs.Programs.{IsFuel, IsObjectOf, RefusesProgramRecovery, before_of}
use Rattle.githoppu_c.specs.Recoveries.{AreFew}
use Rattle.githoppu_c.proofs.ProgramsMade.{recovered_program, refused_program}
use Rattle.githoppu_c.proofs.Refused.{handed_on}
use Rattle.githoppu_c.proofs.programs.recover_program.Goals as goal

-- no sessions were recovered for the program's object: the status is handed on, and is one of `RefusesProgramRecovery`
pub returns-in_err-sessions : goal.returns-in_err-sessions
returns-in_err-sessions c =
    let a = c.args in let words = a.words.now in let image = a.image.now in let o = c.in_ok-object.object in
    let few : AreFew a.count = search rules in
    let small : IsFuel a.fuel = search rules in
    -- the fingerprint whose images are taken over, by the definition of the specification
    let before = c.before_of-before.ensures ∙ ap (before_of a.before) c.in_ok-fingerprint.ensures.1 in
    -- the object is that of the program, with the lines that the image says
    let is = subst (λ b. IsObjectOf words a.instructions a.fuel (lines_in image) b o) before (subst (λ n. IsObjectOf words a.instructions a.fuel n c.before_of-before.result o) c.in-Ok.ensures.1.lines c.in_ok-object.ensures) in
    handed_on _ (RefusesProgramRecovery words a.instructions a.fuel a.before image a.count) c.from_residual-in_err-sessions.result _ c.from_residual-in_err-sessions.ensures.1
    (refused_program words a.instructions a.fuel a.before image a.count few small o is _ c.in_err-sessions.ensures)

-- the boxes have the sessions of the program's object that was recovered; or memory ran out
pub returns : goal.returns
returns c =
    let a = c.args in let words = a.words.now in let image = a.image.now in let o = c.in_ok-object.object in
    let few : AreFew a.count = search rules in
    let small : IsFuel a.fuel = search rules in
    let before = c.before_of-before.ensures ∙ ap (before_of a.before) c.in_ok-fingerprint.ensures.1 in
    let is = subst (λ b. IsObjectOf words a.instructions a.fuel (lines_in image) b o) before (subst (λ n. IsObjectOf words a.instructions a.fuel n c.before_of-before.result o) c.in-Ok.ensures.1.lines c.in_ok-object.ensures) in
    recovered_program words a.instructions a.fuel a.before image a.count few small o is (λ v. v.items) c.in_ok-sessions.sessions.items c.in_ok-sessions.ensures c.boxed.result c.boxed.ensures
