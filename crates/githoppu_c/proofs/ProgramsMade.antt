-- Objects of programs, and their sessions as C has them.
use Rattle.std.proofs.Common.{◌≡◌, ◌⊎◌, ◌≤◌, ◌^◌, List, None, Option, Result, Ok, Err, ap, arith, inl, inr, map, pos, subst, sym, true, ℕ, ℤ}
use Rattle.std.proofs.lemmas.Bool.Decides.{nat_tests}
use Rattle.std.specs.Prelude.{MatchResult}
use Rattle.cx_core.specs.declared.entry.Base.{Base}
use Rattle.program_code.specs.Program.{instructions_of}
use Rattle.program_object.specs.Fingerprint.{fingerprint}
use Rattle.program_object.specs.Meaning.{is_other, numbers_fit}
use Rattle.program_object.specs.contracts.object.ProgramObjectObject.TheImpl.{ghosts as program_ghosts}
use Rattle.program_object.specs.declared.object.ProgramObject.{ProgramObject}
use Rattle.c_images.specs.Words.{lines_in}
use Rattle.c_images.specs.declared.replies.ReplyKind.TheVariants.{Program as ProgramReplies}
use Rattle.c_sessions.specs.declared.session.Session.{Session}
use Rattle.githoppu_c.specs.Codes.{IsOpenCode}
use Rattle.githoppu_c.specs.Contents.{AreSessionsOf, MayOpen, program_session}
use Rattle.githoppu_c.specs.Objects.{IsObjectFault, IsObjectIn}
use Rattle.githoppu_c.specs.Programs.{AreProgramsOpened, AreProgramsRecovered, IsFaultByProgram, IsFuel, IsObjectOf, IsProgram, IsTakenByProgram, RecoversProgram, RefusesProgramOpening, RefusesProgramRecovery, before_of}
use Rattle.githoppu_c.specs.Recoveries.{AreFew, IsRefusal}
use Rattle.githoppu_c.proofs.InBoxes.{Boxed, value_of}
use Rattle.githoppu_c.proofs.Openings.{are_opened, are_recovered, open_callable, refused_sessions}
use Rattle.githoppu_c.proofs.SameLines.{program_base, program_fault}

-- 64 to 16,384 lines, a fuel of at most 2^20, and another program's fingerprint than `version`, or none, are numbers that the object of a program may
-- have
pub fits : (lines fuel version : ℕ) (before : Option ℕ) → 64 ≤ lines → lines ≤ 16384 → fuel ≤ 2 ^ 20 → is_other before version ≡ true → numbers_fit lines fuel version before ≡ true
fits lines fuel version before least most small other = grind (arith, nat_tests)

-- Putting the sessions of a program's object that were opened into boxes is an answer to an opening: the boxes, or the status that memory ran out.
pub program_boxes : {V : Type 0} (items : V → List Boxed) (words : List ℕ) (instructions fuel lines count : ℕ) (base : Base → Type 0) → MayOpen lines count → IsFuel fuel → (o : ProgramObject)
    → IsObjectOf words instructions fuel lines None o → (sessions : List (Session ProgramObject)) → AreSessionsOf o o.lines count base sessions → (answer : Result V ℤ)
    → MatchResult answer (λ v. map value_of (items v) ≡ map program_session sessions) (λ code. code ≡ pos 8)
    → MatchResult answer (λ v. AreProgramsOpened words instructions fuel lines count (items v)) (RefusesProgramOpening words instructions fuel lines count)
program_boxes items words instructions fuel lines count base may small o is sessions of (Ok v) made = record {
  opened = are_opened program_session ProgramReplies (open_callable program_ghosts ProgramReplies) o o.lines count base (λ b said caller few some. inr tt) sessions of lines is.lines_are may (items v) made;
  fuel_fits = small;
  object = subst (IsObjectOf words instructions fuel lines None) (sym of.object_is) is;
}
program_boxes items words instructions fuel lines count base may small o is sessions of (Err code) made = inr ((may, small), inr ((instructions_of o.program, is.decodes), inl made))

module _ (words : List ℕ) (instructions fuel before : ℕ) (image : List ℕ) (count : ℕ) (few : AreFew count) (small : IsFuel fuel) (o : ProgramObject)
    (is : IsObjectOf words instructions fuel (lines_in image) (before_of before (fingerprint words instructions fuel)) o) where
  -- `words` are a program: they decode to the instructions of the object `o`
  abbrev program_is : IsProgram words instructions
  program_is = (instructions_of o.program, is.decodes)

  -- the status for why no sessions are recovered for the object `o` of the program is one of `RefusesProgramRecovery`
  pub refused_program : (code : ℤ) → IsRefusal (IsObjectFault program_ghosts ProgramReplies o image) code ⊎ IsOpenCode code → RefusesProgramRecovery words instructions fuel before image count code
  refused_program code because =
      inr (
        few,
        small,
        inr (
          program_is,
          refused_sessions 3 (IsFaultByProgram (instructions_of o.program) words instructions fuel before image) (IsObjectFault program_ghosts ProgramReplies o image) image count code few
              (program_fault image words fuel (fingerprint words instructions fuel) (before_of before (fingerprint words instructions fuel)) o is.lines_are is.words_are is.fuel_is is.version_is is.before_is) because,
        ),
      )

  -- putting the sessions that were recovered for the object `o` into boxes is an answer to a recovery: the boxes, or the status that memory ran out
  pub recovered_program : {V : Type 0} (items : V → List Boxed) (sessions : List (Session ProgramObject)) → AreSessionsOf o o.lines count (IsObjectIn program_ghosts ProgramReplies o image) sessions → (answer : Result V ℤ)
      → MatchResult answer (λ v. map value_of (items v) ≡ map program_session sessions) (λ code. code ≡ pos 8)
      → MatchResult answer (λ v. AreProgramsRecovered words instructions fuel before image count (items v)) (RefusesProgramRecovery words instructions fuel before image count)
  recovered_program items sessions of (Ok v) made = record {
    is = program_is;
    recovered = are_recovered program_session ProgramReplies (open_callable program_ghosts ProgramReplies) o o.lines count (IsObjectIn program_ghosts ProgramReplies o image) (λ b said. said.1) sessions of
        (IsTakenByProgram (instructions_of o.program) words instructions fuel before image)
        (program_base image words fuel (fingerprint words instructions fuel) (before_of before (fingerprint words instructions fuel)) o is.lines_are is.words_are is.fuel_is is.version_is is.before_is) few (items v) made;
    fuel_fits = small;
    object = subst (IsObjectOf words instructions fuel (lines_in image) (before_of before (fingerprint words instructions fuel))) (sym of.object_is) is;
    decoded = ap (λ (x : ProgramObject). instructions_of x.program) of.object_is;
  }
  recovered_program items sessions of (Err code) made = inr (few, small, inr (program_is, inr (few, inr (inl made))))

-- a status for why a program recovers no sessions is one that C may be given
pub answered_recovery : (words : List ℕ) (instructions fuel before : ℕ) (image : List ℕ) (count : ℕ) (code : ℤ) → RefusesProgramRecovery words instructions fuel before image count code
    → RecoversProgram words instructions fuel before image count code
answered_recovery words instructions fuel before image count code (inl wrong) = inl wrong
answered_recovery words instructions fuel before image count code (inr (few, small, inl refused)) = inr (few, small, inl refused)
answered_recovery words instructions fuel before image count code (inr (few, small, inr (is, refused))) = inr (few, small, inr (is, inr refused))
