use Rattle.std.proofs.Common.{◌≡◌, ◌<◌, Some, List, ℕ, length, slice_set, refl, subst, sym}
use Rattle.cx_base.specs.OldFormat.{CanUpgrade}
use Rattle.program_code.specs.Program.{instructions_of, program_words}
use Rattle.program_object.specs.declared.object.ProgramObject.{ProgramObject}
use Rattle.program_object.specs.Laws.{upgradable}
use Rattle.program_object.specs.Meaning.{IsProgramImage, old_of}
use Rattle.program_object.proofs.object.ProgramObjectObject.upgrade.Goals as goal

-- words that may be upgraded have a first word, and with it replaced they are an image of this program
image : (o : ProgramObject) (old : ℕ) (words : List ℕ) → o.before ≡ Some old → CanUpgrade (old_of (instructions_of o.program) (program_words o.program) o.lines o.fuel o.version o.before) words →
    (0 < length words) × IsProgramImage o.lines o.version (slice_set words 0 o.version)
image o old words is can = upgradable (instructions_of o.program) (program_words o.program) o.lines o.version o.fuel old o.before words o.some o.small is can

-- there is a first word
pub bounds-words-0 : goal.bounds-words-0
bounds-words-0 c = (image c.args.self.now c.in-Some.old c.args.words.now c.in-Some.is c.requires).0

-- the words with the first one replaced fit into words of a memory
pub invariant_of-mem : goal.invariant_of-mem
invariant_of-mem c = record { fit = (image c.args.self.now c.in-Some.old c.args.words.now c.in-Some.is c.requires).1.words.fit }

-- the program may be run over the words with the first one replaced: they are an image of it
pub run_into-requires : goal.run_into-requires
run_into-requires c =
    let i = (image c.args.self.now c.in-Some.old c.args.words.now c.in-Some.is c.requires).1 in
    record { size = i.words.long; writable = refl; lawful = λ first now k. subst (IsProgramImage c.args.self.now.lines c.args.self.now.version) (sym k.same) i }
