-- What C is answered where it hands in a program.
use Rattle.std.specs.Prelude.{◌≡◌, ◌==◌, ◌⊎◌, ◌≤◌, ◌||◌, ◌^◌, ℕ, ℤ, pos, List, Option, None, Some, if◌then◌else◌}
use Rattle.std.specs.Global.{Global}
use Rattle.std_alloc.specs.declared.boxed.Box.{Box}
use Rattle.cx_core.specs.declared.entry.Base.{Base}
use Rattle.c_images.specs.Words.{lines_in}
use Rattle.c_images.specs.declared.reader.WordsFault.{WordsFault}
use Rattle.program_code.specs.Program.{Decodes, IsFirstProgramFault, instructions_of, program_words}
use Rattle.program_code.specs.declared.instruction.Instruction.{Instruction}
use Rattle.program_code.specs.declared.program.ProgramFault.{ProgramFault}
use Rattle.program_code.specs.declared.spelling.FaultKind.{FaultKind}
use Rattle.program_code.specs.declared.spelling.FaultKind.TheVariants as fault_kind
use Rattle.program_object.specs.Fingerprint.{fingerprint}
use Rattle.program_object.specs.Meaning.{old_of}
use Rattle.program_object.specs.declared.object.ProgramObject.{ProgramObject}
use Rattle.githoppu_c.specs.Codes.{IsOpenCode}
use Rattle.githoppu_c.specs.Contents.{AreOpened, MayOpen, program_session}
use Rattle.githoppu_c.specs.Objects.{IsProgramFault, IsProgramIn}
use Rattle.githoppu_c.specs.Recoveries.{AreFew, AreRecovered, Recovers, RefusesWords}
use Rattle.githoppu_c.specs.declared.content.AnyHandleState.{AnyHandleState}

-- `words` are a program: the first `instructions` of them decode to the instructions `code`, and the others are constants
abbrev pub IsProgram : List ℕ → ℕ → Type 0
IsProgram words instructions = (code : List Instruction) × Decodes words instructions code

-- `o` is the object, in this many lines, of the program that `words` are, with this fuel. It takes over images of the program with the fingerprint
-- `before`, or of none.
pub record IsObjectOf (words : List ℕ) (instructions fuel lines : ℕ) (before : Option ℕ) (o : ProgramObject) : Type 0 where
  pub decodes : Decodes words instructions (instructions_of o.program)
  pub words_are : program_words o.program ≡ words
  pub lines_are : o.lines ≡ lines
  pub fuel_is : o.fuel ≡ fuel
  pub before_is : o.before ≡ before
  pub version_is : o.version ≡ fingerprint words instructions fuel

-- why `words` are no program, as the status `code`: 25 where they have a first fault, and 8 where memory ran out
abbrev pub RefusesProgram : List ℕ → ℕ → ℤ → Type 0
RefusesProgram words instructions code = (((fault : ProgramFault) × IsFirstProgramFault words instructions fault) × (code ≡ pos 25)) ⊎ (code ≡ pos 8)

-- a fuel that an object may have: at most 2^20 instructions for each operation
abbrev pub IsFuel : ℕ → Type 0
IsFuel fuel = fuel ≤ 2 ^ 20

-- the number by which C knows a kind of fault that words may have; none where memory ran out, which is no fault of the words
abbrev pub program_fault_number : FaultKind → Option ℕ
program_fault_number fault_kind.Length = Some 1
program_fault_number fault_kind.Opcode = Some 2
program_fault_number fault_kind.Unused = Some 3
program_fault_number fault_kind.Register = Some 4
program_fault_number fault_kind.Target = Some 5
program_fault_number fault_kind.End = Some 6
program_fault_number fault_kind.Helper = Some 7
program_fault_number fault_kind.Map = Some 8
program_fault_number fault_kind.Atomic = Some 9
program_fault_number fault_kind.Packet = Some 10
program_fault_number fault_kind.Memory = None

-- the status for a kind of fault: 8 where memory ran out, else 25
abbrev pub refusal_code : FaultKind → ℤ
refusal_code fault_kind.Memory = pos 8
refusal_code kind = pos 25

-- `number` is the number of the kind of the first fault of `words`, and `at` that of the instruction that has it
pub record TellsFirstFault (words : List ℕ) (instructions number at : ℕ) : Type 0 where
  pub fault : ProgramFault
  pub first : IsFirstProgramFault words instructions fault
  pub number_is : program_fault_number fault.kind ≡ Some number
  pub at_is : at ≡ fault.at

-- The answer to C where it asks why `words` are no program. Where they are one, `number` and `at` are 0; else they tell the first fault. Where memory
-- ran out they are as they were before.
abbrev pub TellsFault : List ℕ → ℕ → ℕ → ℕ → ℕ → ℕ → ℤ → Type 0
TellsFault words instructions number_before number at_before at code =
    (IsProgram words instructions × (number ≡ 0) × (at ≡ 0) × (code ≡ pos 0))
    ⊎ ((TellsFirstFault words instructions number at × (code ≡ pos 25)) ⊎ ((number ≡ number_before) × (at ≡ at_before) × (code ≡ pos 8)))

-- The answer to C where it asks for a fingerprint: `after` is that of the program with this fuel, and the status `code` is 0. Or `after` is what was
-- there before: the fuel is too large, or the words are no program, or memory ran out.
abbrev pub TellsFingerprint : List ℕ → ℕ → ℕ → ℕ → ℕ → ℤ → Type 0
TellsFingerprint words instructions fuel before after code =
    (IsFuel fuel × IsProgram words instructions × (after ≡ fingerprint words instructions fuel) × (code ≡ pos 0))
    ⊎ ((after ≡ before) × (((¬ IsFuel fuel) × (code ≡ pos 7)) ⊎ (IsFuel fuel × RefusesProgram words instructions code)))

-- the sizes with which the object of a program may be opened: its fuel, its lines, and the number `count` of its sessions
abbrev pub MayOpenProgram : ℕ → ℕ → ℕ → Type 0
MayOpenProgram fuel lines count = MayOpen lines count × IsFuel fuel

-- why `count` sessions of a program's object are not opened, as the status `code`: the sizes are wrong; or they are right, and the words are no
-- program, or memory ran out, or the sessions' new queue did not take its first entry
abbrev pub RefusesProgramOpening : List ℕ → ℕ → ℕ → ℕ → ℕ → ℤ → Type 0
RefusesProgramOpening words instructions fuel lines count code =
    ((¬ MayOpenProgram fuel lines count) × (code ≡ pos 7))
    ⊎ (MayOpenProgram fuel lines count × (RefusesProgram words instructions code ⊎ (IsProgram words instructions × IsOpenCode code)))

-- the status `code` that C is given where it opens `count` sessions of a program's object: 0 where they are opened, or why they are not
abbrev pub AnswersProgramOpening : List ℕ → ℕ → ℕ → ℕ → ℕ → ℤ → Type 0
AnswersProgramOpening words instructions fuel lines count code =
    (MayOpenProgram fuel lines count × IsProgram words instructions × (code ≡ pos 0)) ⊎ RefusesProgramOpening words instructions fuel lines count code

-- `boxes` are `count` boxes of sessions of one service of the object of this program, which takes over no images of another program
pub record AreProgramsOpened (words : List ℕ) (instructions fuel lines count : ℕ) (boxes : List (Box AnyHandleState Global)) : Type 0 where
  pub opened : AreOpened program_session lines count boxes
  pub fuel_fits : IsFuel fuel
  pub object : IsObjectOf words instructions fuel lines None opened.service.object

-- The fingerprint of the other program whose images a program takes over: `before`, or none where `before` is 0 or is the fingerprint `version` of
-- the program itself.
abbrev pub before_of : ℕ → ℕ → Option ℕ
before_of before version = if before == 0 || before == version then None else Some before

-- a base is what recovery takes from the words `image` for this program, whose first words decode to the instructions `decoded`; images of the
-- program with the fingerprint `before` are taken too
abbrev pub IsTakenByProgram : List Instruction → List ℕ → ℕ → ℕ → ℕ → List ℕ → Base → Type 0
IsTakenByProgram decoded words instructions fuel before image =
    let version = fingerprint words instructions fuel in
    IsProgramIn version (λ lines. old_of decoded words lines fuel version (before_of before version)) image

-- a fault is why recovery takes no base from the words `image` for this program, whose first words decode to the instructions `decoded`; images of
-- the program with the fingerprint `before` are taken too
abbrev pub IsFaultByProgram : List Instruction → List ℕ → ℕ → ℕ → ℕ → List ℕ → WordsFault → Type 0
IsFaultByProgram decoded words instructions fuel before image =
    let version = fingerprint words instructions fuel in
    IsProgramFault version (λ lines. old_of decoded words lines fuel version (before_of before version)) image

-- The status `code` of a call that looks at a program first. It is 7 where `count` is not 1 to 8 or the fuel is too large. Else it is 25 or 8 where
-- `words` are no program or memory ran out. Else `words` are the program of some instructions, and `then_` holds of these and of `code`.
abbrev pub AfterProgram : List ℕ → ℕ → ℕ → ℕ → (List Instruction → ℤ → Type 0) → ℤ → Type 0
AfterProgram words instructions fuel count then_ code =
    ((¬ (AreFew count × IsFuel fuel)) × (code ≡ pos 7))
    ⊎ (AreFew count × IsFuel fuel × (RefusesProgram words instructions code ⊎ ((is : IsProgram words instructions) × then_ is.0 code)))

-- why no sessions are recovered by this program from the words `image`, as the status `code`: a size is wrong, there is no program, or the image is
-- refused, or memory ran out, or the sessions' new queue did not take its first entry
abbrev pub RefusesProgramRecovery : List ℕ → ℕ → ℕ → ℕ → List ℕ → ℕ → ℤ → Type 0
RefusesProgramRecovery words instructions fuel before image count =
    AfterProgram words instructions fuel count (λ decoded. RefusesWords 3 (IsFaultByProgram decoded words instructions fuel before image) image count)

-- `boxes` are `count` boxes of sessions of one service of the object of this program, which starts from a base that recovery takes from the words
-- `image`
pub record AreProgramsRecovered (words : List ℕ) (instructions fuel before : ℕ) (image : List ℕ) (count : ℕ) (boxes : List (Box AnyHandleState Global))
    : Type 0 where
  pub is : IsProgram words instructions
  pub recovered : AreRecovered program_session (IsTakenByProgram is.0 words instructions fuel before image) count boxes
  pub fuel_fits : IsFuel fuel
  pub object : IsObjectOf words instructions fuel (lines_in image) (before_of before (fingerprint words instructions fuel)) recovered.service.object
  pub decoded : instructions_of recovered.service.object.program ≡ is.0

-- the status `code` that C is given where it recovers `count` sessions of a program's object from the words `image`: 0 where they are recovered, or
-- why they are not
abbrev pub RecoversProgram : List ℕ → ℕ → ℕ → ℕ → List ℕ → ℕ → ℤ → Type 0
RecoversProgram words instructions fuel before image count =
    AfterProgram words instructions fuel count
    (λ decoded. Recovers 3 (IsTakenByProgram decoded words instructions fuel before image)
    (IsFaultByProgram decoded words instructions fuel before image) image count)
