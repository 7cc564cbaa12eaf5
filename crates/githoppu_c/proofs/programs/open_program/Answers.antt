use Rattle.std.proofs.Common.{◌≡◌, refl, rules}
use Rattle.cx_core.specs.Base.{fresh_region}
use Rattle.cx_core.specs.declared.entry.Base.{Base}
use Rattle.program_object.specs.Fingerprint.{fingerprint}
use Rattle.std.specs.Prelude.{None}
use Rattle.program_object.specs.contracts.object.ProgramObjectObject.TheImpl.{ghosts as program_ghosts}
use Rattle.githoppu_c.specs.Contents.{MayOpen}
use Rattle.githoppu_c.specs.Programs.{IsFuel}
use Rattle.githoppu_c.proofs.ProgramsMade.{fits, program_boxes}
use Rattle.githoppu_c.proofs.programs.open_program.Goals as goal

-- the lines and the fuel that may be opened fit an object, which takes over no images of another program
pub object_of-requires : goal.object_of-requires
object_of-requires c =
    let may : MayOpen c.args.lines c.args.count = search rules in
    let small : IsFuel c.args.fuel = search rules in
    record { fits = fits c.args.lines c.args.fuel (fingerprint c.args.words.now c.args.instructions c.args.fuel) None may.least may.most small refl }

-- the boxes have the sessions of the program's object that was opened; or memory ran out
pub returns : goal.returns
returns c =
    let words = c.args.words.now in
    let o = c.in_ok-object.object in
    let may : MayOpen c.args.lines c.args.count = search rules in
    let small : IsFuel c.args.fuel = search rules in
    program_boxes (λ v. v.items) words c.args.instructions c.args.fuel c.args.lines c.args.count (λ (b : Base). b.words ≡ fresh_region (program_ghosts.opening o)) may small o c.in_ok-object.ensures
    c.in_ok-sessions.sessions.items c.in_ok-sessions.ensures c.boxed.result c.boxed.ensures
