use Rattle.std.proofs.Common.{◌∙◌, inr, rules}
use Rattle.c_images.specs.declared.replies.ReplyKind.TheVariants.{Program as ProgramReplies}
use Rattle.githoppu_c.specs.Objects.{IsObjectFault, IsObjectIn}
use Rattle.githoppu_c.specs.contracts.named_program.NamedProgramObject.TheImpl.{ghosts as named_ghosts}
use Rattle.githoppu_c.proofs.SameLines.{named_base, named_fault}
use Rattle.githoppu_c.proofs.BasesForKinds.{base_for_kind}
use Rattle.githoppu_c.proofs.outcomes.program_base.Goals as goal

-- the head names a program's object: the base that is taken for it, or the fault, is that of the words
pub returns-in-Ok : goal.returns-in-Ok
returns-in-Ok c =
    let words = c.args.words.now in
    let said = c.in-Ok.ensures in
    let object = c.of-object.result in
    let same = c.of-object.ensures.0 ∙ said.1.lines in
    let version = c.of-object.ensures.1 ∙ c.fingerprint_in.ensures in
    record {
      base = base_for_kind words (IsObjectIn named_ghosts ProgramReplies object words) (IsObjectFault named_ghosts ProgramReplies object words) c.base_in.result said.1.headed
          (λ b taken. inr (inr (said.0, named_base words object same version b taken))) (λ f of. inr (inr (said.0, named_fault words object same version f of))) c.base_in.ensures.base;
      long = search rules;
    }
