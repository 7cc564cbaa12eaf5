use Rattle.program_code.specs.Program.{instructions_of, program_words}
use Rattle.program_object.specs.Laws as laws
use Rattle.program_object.proofs.object.ProgramObjectObject.check_old.Goals as goal

-- the answer is whether the words are an image of the program before
pub returns-in-Some : goal.returns-in-Some
returns-in-Some c =
    let o = c.args.self.now in
    laws.old_lawful (instructions_of o.program) (program_words o.program) o.lines o.version o.fuel c.in-Some.old o.before c.args.words.now c.is_image.result c.in-Some.is c.is_image.ensures
