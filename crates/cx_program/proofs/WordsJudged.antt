-- Which words the parser of the command line refuses.
use Rattle.std.proofs.Common.{◌≡◌, ◌⊎◌, inl, inr, ◌∙◌, refl, sym, ap, subst, ℕ, true, false, List, [], ◌∷◌, ◌++◌, codes, arith, Some, None, All, append_assoc, append-nil, fold, length, get_or, ◌<◌}
use Rattle.std.specs.Str.{bytes_eq}
use Rattle.std.proofs.lemmas.Bool.{cases_Bool}
use Rattle.std.proofs.lemmas.List.Elements.{All-head, All-tail}
use Rattle.std.proofs.lemmas.Slice.Eq.{bytes_eq-Decides}
use Rattle.clap.specs.Faults.{fault_of, walk_fault, entered_fault, level_fault}
use Rattle.clap.specs.Lexer.{long_of, short_of}
use Rattle.clap.specs.Kinds.{Kinds, IsAmong, or_else}
use Rattle.clap.specs.Simple.{Shape, built, built_leaf, inherited, names_of, new_shape}
use Rattle.clap.specs.Walk.{Names, Rule, Text, Walk, walk, walked, walk_from, nothing_held}
use Rattle.clap.specs.declared.error.kind.ErrorKind.{ErrorKind}
use Rattle.clap.specs.declared.error.kind.ErrorKind.TheVariants.{InvalidSubcommand, MissingRequiredArgument, OutOfMemory, UnknownArgument}
use Rattle.clap.proofs.OnLiterals.{clap_on_literals}
use Rattle.cx_program.specs.CommandLine.{HasForm, IsForm, IsLone, begins_with_hyphen, load_app, pool_app, program}

-- without a command the words are refused
pub none_missing : fault_of program [] ≡ [] → ⊥
unfolding clap_on_literals
none_missing e = cc

-- the commands that are one word are taken
run_taken : fault_of program (codes "run" ∷ []) ≡ []
unfolding clap_on_literals
run_taken = refl

image_taken : fault_of program (codes "image" ∷ []) ≡ []
unfolding clap_on_literals
image_taken = refl

recover_taken : fault_of program (codes "recover" ∷ []) ≡ []
unfolding clap_on_literals
recover_taken = refl

fifo_taken : fault_of program (codes "fifo" ∷ []) ≡ []
unfolding clap_on_literals
fifo_taken = refl

trace_taken : fault_of program (codes "trace" ∷ []) ≡ []
unfolding clap_on_literals
trace_taken = refl

-- a word that does not begin with a hyphen, and one that is no flag
abbrev IsPlain : List ℕ → Type 0
IsPlain w = begins_with_hyphen w ≡ false

record IsPlainWord (w : List ℕ) : Type 0 where
  dashes : bytes_eq w (45 ∷ 45 ∷ []) ≡ false
  long : long_of w ≡ None
  short : short_of w ≡ None

plain : (w : List ℕ) → begins_with_hyphen w ≡ false → IsPlainWord w
plain [] h = record { dashes = refl; long = refl; short = refl }
plain (x ∷ xs) h = record { dashes = rw (h) refl; long = rw (h) refl; short = rw (h) refl }

nth_plain : (words : List (List ℕ)) → All IsPlain words → (i : ℕ) → i < length words → IsPlainWord (get_or words i [])
nth_plain words are i lt = plain (get_or words i []) (are i [] lt)

-- the parser finds no fault in `load` with three words behind it that are no flags
load_taken : (a b c : List ℕ) → IsPlainWord a → IsPlainWord b → IsPlainWord c → fault_of program (codes "load" ∷ a ∷ b ∷ c ∷ []) ≡ []
unfolding clap_on_literals
load_taken a b c p q r = rw (p.dashes, p.long, p.short, q.dashes, q.long, q.short, r.dashes, r.long, r.short) refl

-- the parser finds no fault in `pool` with one word behind it that is no flag
pool_taken : (a : List ℕ) → IsPlainWord a → fault_of program (codes "pool" ∷ a ∷ []) ≡ []
unfolding clap_on_literals
pool_taken a p = rw (p.dashes, p.long, p.short) refl

-- behind a command the walk goes on with the words that follow it
fold_stopped : (c : List Rule) (names : Names) (w : Walk) (name : Text) (past rest : List Text)
    → fold (walked c names) (record w { stopped = Some (name, past) }) rest ≡ record w { stopped = Some (name, past ++ rest) }
unfolding walked
fold_stopped c names w name past [] = ap (λ (ps : List Text). record w { stopped = Some (name, ps) }) (sym (append-nil past))
fold_stopped c names w name past (v ∷ rest) =
    fold_stopped c names w name (past ++ v ∷ []) rest ∙ ap (λ (ps : List Text). record w { stopped = Some (name, ps) }) (append_assoc past (v ∷ []) rest)

none_first : (a b : Kinds) → or_else a b ≡ [] → a ≡ []
none_first [] b e = refl
none_first (k ∷ ks) b e = cc

none_then : (a b : Kinds) → a ≡ [] → or_else a b ≡ [] → b ≡ []
none_then [] b is e = e
none_then (k ∷ ks) b is e = cc

abbrev top : Shape
top = (built program).top

abbrev labels : Names
labels = names_of (built program)

-- the subcommands, as they are built
abbrev lone_level : List ℕ → Shape
lone_level name = built_leaf (inherited top (new_shape name))

abbrev load_level : Shape
load_level = built_leaf (inherited top load_app.top)

abbrev pool_level : Shape
pool_level = built_leaf (inherited top pool_app.top)

-- no argument follows a command that is one word
lone_strays : (name v : List ℕ) (more : List (List ℕ)) → IsPlainWord v → level_fault (lone_level name) [] nothing_held (v ∷ more) false [] ≡ UnknownArgument ∷ []
unfolding clap_on_literals
lone_strays name v more p = rw (p.dashes, p.long, p.short) refl

lone_alone : (name : List ℕ) (rest : List (List ℕ)) → All IsPlain rest → level_fault (lone_level name) [] nothing_held rest false [] ≡ [] → rest ≡ []
lone_alone name [] plain e = refl
lone_alone name (v ∷ more) plain e =
    let strays : UnknownArgument ∷ [] ≡ [] = sym (lone_strays name v more (nth_plain (v ∷ more) plain 0 (omega arith))) ∙ e in cc

-- three numbers follow `load`
load_needs_from : level_fault load_level [] nothing_held [] false [] ≡ MissingRequiredArgument ∷ []
unfolding clap_on_literals
load_needs_from = refl

load_needs_clients : (a : List ℕ) → IsPlainWord a → level_fault load_level [] nothing_held (a ∷ []) false [] ≡ MissingRequiredArgument ∷ []
unfolding clap_on_literals
load_needs_clients a p = rw (p.dashes, p.long, p.short) refl

load_needs_ops : (a b : List ℕ) → IsPlainWord a → IsPlainWord b → level_fault load_level [] nothing_held (a ∷ b ∷ []) false [] ≡ MissingRequiredArgument ∷ []
unfolding clap_on_literals
load_needs_ops a b p q = rw (p.dashes, p.long, p.short, q.dashes, q.long, q.short) refl

load_strays : (a b c d : List ℕ) (more : List (List ℕ)) → IsPlainWord a → IsPlainWord b → IsPlainWord c → IsPlainWord d → level_fault load_level [] nothing_held (a ∷ b ∷ c ∷ d ∷ more) false [] ≡ UnknownArgument ∷ []
unfolding clap_on_literals
load_strays a b c d more p q r s = rw (p.dashes, p.long, p.short, q.dashes, q.long, q.short, r.dashes, r.long, r.short, s.dashes, s.long, s.short) refl

load_three : (rest : List (List ℕ)) → All IsPlain rest → level_fault load_level [] nothing_held rest false [] ≡ [] → (a b c : List ℕ) × (rest ≡ a ∷ b ∷ c ∷ [])
load_three [] plain e = let needs : MissingRequiredArgument ∷ [] ≡ [] = sym load_needs_from ∙ e in cc
load_three (a ∷ []) plain e =
    let needs : MissingRequiredArgument ∷ [] ≡ [] = sym (load_needs_clients a (nth_plain (a ∷ []) plain 0 (omega arith))) ∙ e in cc
load_three (a ∷ b ∷ []) plain e =
    let ws : List (List ℕ) = a ∷ b ∷ [] in
    let needs : MissingRequiredArgument ∷ [] ≡ [] = sym (load_needs_ops a b (nth_plain ws plain 0 (omega arith)) (nth_plain ws plain 1 (omega arith))) ∙ e in cc
load_three (a ∷ b ∷ c ∷ []) plain e = (a, b, c, refl)
load_three (a ∷ b ∷ c ∷ d ∷ more) plain e =
    let ws : List (List ℕ) = a ∷ b ∷ c ∷ d ∷ more in
    let strays : UnknownArgument ∷ [] ≡ [] =
    sym (load_strays a b c d more (nth_plain ws plain 0 (omega arith)) (nth_plain ws plain 1 (omega arith)) (nth_plain ws plain 2 (omega arith)) (nth_plain ws plain 3 (omega arith))) ∙ e in cc

-- one number follows `pool`
pool_needs_seats : level_fault pool_level [] nothing_held [] false [] ≡ MissingRequiredArgument ∷ []
unfolding clap_on_literals
pool_needs_seats = refl

pool_strays : (a b : List ℕ) (more : List (List ℕ)) → IsPlainWord a → IsPlainWord b → level_fault pool_level [] nothing_held (a ∷ b ∷ more) false [] ≡ UnknownArgument ∷ []
unfolding clap_on_literals
pool_strays a b more p q = rw (p.dashes, p.long, p.short, q.dashes, q.long, q.short) refl

pool_one : (rest : List (List ℕ)) → All IsPlain rest → level_fault pool_level [] nothing_held rest false [] ≡ [] → (a : List ℕ) × (rest ≡ a ∷ [])
pool_one [] plain e = let needs : MissingRequiredArgument ∷ [] ≡ [] = sym pool_needs_seats ∙ e in cc
pool_one (a ∷ []) plain e = (a, refl)
pool_one (a ∷ b ∷ more) plain e =
    let ws : List (List ℕ) = a ∷ b ∷ more in
    let strays : UnknownArgument ∷ [] ≡ [] = sym (pool_strays a b more (nth_plain ws plain 0 (omega arith)) (nth_plain ws plain 1 (omega arith))) ∙ e in cc

-- behind the word of a command its own arguments decide
after : (name : Text) (level : Shape) (rest : List Text)
    → walked top.rules labels (walk_from nothing_held) name ≡ record (walk_from nothing_held) { stopped = Some (name, []) }
    → ((past : List Text) → entered_fault (built program) (Some (name, past)) ≡ level_fault level [] nothing_held past false [])
    → fault_of program (name ∷ rest) ≡ [] → level_fault level [] nothing_held rest false [] ≡ []
after name level rest stops enters e =
    let walks : walk_fault top labels (walk_from nothing_held) (name ∷ rest) ≡ [] = none_first _ _ e in
    let below : entered_fault (built program) (walk top.rules labels nothing_held (name ∷ rest)).stopped ≡ [] =
    none_first _ _ (none_then (walk_fault top labels (walk_from nothing_held) (name ∷ rest)) _ walks e) in
    let stopped : walk top.rules labels nothing_held (name ∷ rest) ≡ record (walk_from nothing_held) { stopped = Some (name, [] ++ rest) } =
    ap (λ (w : Walk). fold (walked top.rules labels) w rest) stops ∙ fold_stopped top.rules labels (walk_from nothing_held) name [] rest in
    sym (enters rest) ∙ subst (λ (w : Walk). entered_fault (built program) w.stopped ≡ []) stopped below

after_run : (rest : List (List ℕ)) → fault_of program (codes "run" ∷ rest) ≡ [] → level_fault (lone_level (codes "run")) [] nothing_held rest false [] ≡ []
unfolding walked
after_run rest e = after (codes "run") (lone_level (codes "run")) rest refl (λ past. refl) e

after_image : (rest : List (List ℕ)) → fault_of program (codes "image" ∷ rest) ≡ [] → level_fault (lone_level (codes "image")) [] nothing_held rest false [] ≡ []
unfolding walked
after_image rest e = after (codes "image") (lone_level (codes "image")) rest refl (λ past. refl) e

after_recover : (rest : List (List ℕ)) → fault_of program (codes "recover" ∷ rest) ≡ [] → level_fault (lone_level (codes "recover")) [] nothing_held rest false [] ≡ []
unfolding walked
after_recover rest e = after (codes "recover") (lone_level (codes "recover")) rest refl (λ past. refl) e

after_fifo : (rest : List (List ℕ)) → fault_of program (codes "fifo" ∷ rest) ≡ [] → level_fault (lone_level (codes "fifo")) [] nothing_held rest false [] ≡ []
unfolding walked
after_fifo rest e = after (codes "fifo") (lone_level (codes "fifo")) rest refl (λ past. refl) e

after_trace : (rest : List (List ℕ)) → fault_of program (codes "trace" ∷ rest) ≡ [] → level_fault (lone_level (codes "trace")) [] nothing_held rest false [] ≡ []
unfolding walked
after_trace rest e = after (codes "trace") (lone_level (codes "trace")) rest refl (λ past. refl) e

after_load : (rest : List (List ℕ)) → fault_of program (codes "load" ∷ rest) ≡ [] → level_fault load_level [] nothing_held rest false [] ≡ []
unfolding walked
after_load rest e = after (codes "load") load_level rest refl (λ past. refl) e

after_pool : (rest : List (List ℕ)) → fault_of program (codes "pool" ∷ rest) ≡ [] → level_fault pool_level [] nothing_held rest false [] ≡ []
unfolding walked
after_pool rest e = after (codes "pool") pool_level rest refl (λ past. refl) e

-- a first word that names no command is refused
record IsOther (w : List ℕ) : Type 0 where
  run : bytes_eq (codes "run") w ≡ false
  image : bytes_eq (codes "image") w ≡ false
  recover : bytes_eq (codes "recover") w ≡ false
  fifo : bytes_eq (codes "fifo") w ≡ false
  trace : bytes_eq (codes "trace") w ≡ false
  load : bytes_eq (codes "load") w ≡ false
  pool : bytes_eq (codes "pool") w ≡ false

strays : (w : List ℕ) (rest : List (List ℕ)) → IsPlainWord w → IsOther w → fault_of program (w ∷ rest) ≡ UnknownArgument ∷ InvalidSubcommand ∷ []
unfolding clap_on_literals
strays w rest p other = rw (other.run, other.image, other.recover, other.fifo, other.trace, other.load, other.pool, p.dashes, p.long, p.short) refl

other_refused : (w : List ℕ) (rest : List (List ℕ)) → IsPlainWord w → IsOther w → fault_of program (w ∷ rest) ≡ [] → ⊥
other_refused w rest p other e =
    let bad : UnknownArgument ∷ InvalidSubcommand ∷ [] ≡ [] = sym (strays w rest p other) ∙ e in cc

named_lone : (name w : List ℕ) (rest : List (List ℕ)) → All IsPlain rest → name ≡ w
    → (fault_of program (name ∷ rest) ≡ [] → level_fault (lone_level name) [] nothing_held rest false [] ≡ []) → fault_of program (w ∷ rest) ≡ [] → w ∷ rest ≡ name ∷ []
named_lone name w rest plain is after_name e =
    let alone : rest ≡ [] = lone_alone name rest plain (after_name (subst (λ (v : List ℕ). fault_of program (v ∷ rest) ≡ []) (sym is) e)) in cc

named_load : (w : List ℕ) (rest : List (List ℕ)) → All IsPlain rest → codes "load" ≡ w → fault_of program (w ∷ rest) ≡ [] → (a b c : List ℕ) × (w ∷ rest ≡ codes "load" ∷ a ∷ b ∷ c ∷ [])
named_load w rest plain is e =
    let three = load_three rest plain (after_load rest (subst (λ (v : List ℕ). fault_of program (v ∷ rest) ≡ []) (sym is) e)) in
    (three.0, three.1, three.2, cc)

named_pool : (w : List ℕ) (rest : List (List ℕ)) → All IsPlain rest → codes "pool" ≡ w → fault_of program (w ∷ rest) ≡ [] → (a : List ℕ) × (w ∷ rest ≡ codes "pool" ∷ a ∷ [])
named_pool w rest plain is e =
    let one = pool_one rest plain (after_pool rest (subst (λ (v : List ℕ). fault_of program (v ∷ rest) ≡ []) (sym is) e)) in
    (one.0, cc)

-- words that pass are those of a command
pub passes_only_forms : (words : List (List ℕ)) → All IsPlain words → fault_of program words ≡ [] → IsForm words
passes_only_forms [] no_hyphen e = absurd (none_missing e)
passes_only_forms (w ∷ rest) no_hyphen e =
    let others : All IsPlain rest = All-tail IsPlain w rest no_hyphen in
    let is : (name : List ℕ) → bytes_eq name w ≡ true → name ≡ w = λ name same. (bytes_eq-Decides name w).0 same in
    elim (cases_Bool (bytes_eq (codes "run") w)) [
      | inl run ↦ inl (codes "run", inl refl, named_lone (codes "run") w rest others (is (codes "run") run) (after_run rest) e)
      | inr no_run ↦ elim (cases_Bool (bytes_eq (codes "image") w)) [
        | inl image ↦ inl (codes "image", inr (inl refl), named_lone (codes "image") w rest others (is (codes "image") image) (after_image rest) e)
        | inr no_image ↦ elim (cases_Bool (bytes_eq (codes "recover") w)) [
          | inl recover ↦ inl (codes "recover", inr (inr (inl refl)), named_lone (codes "recover") w rest others (is (codes "recover") recover) (after_recover rest) e)
          | inr no_recover ↦ elim (cases_Bool (bytes_eq (codes "fifo") w)) [
            | inl fifo ↦ inl (codes "fifo", inr (inr (inr (inl refl))), named_lone (codes "fifo") w rest others (is (codes "fifo") fifo) (after_fifo rest) e)
            | inr no_fifo ↦ elim (cases_Bool (bytes_eq (codes "trace") w)) [
              | inl trace ↦ inl (codes "trace", inr (inr (inr (inr refl))), named_lone (codes "trace") w rest others (is (codes "trace") trace) (after_trace rest) e)
              | inr no_trace ↦ elim (cases_Bool (bytes_eq (codes "load") w)) [
                | inl load ↦ inr (inr (named_load w rest others (is (codes "load") load) e))
                | inr no_load ↦ elim (cases_Bool (bytes_eq (codes "pool") w)) [
                  | inl pool ↦ inr (inl (named_pool w rest others (is (codes "pool") pool) e))
                  | inr no_pool ↦
                      let other : IsOther w = record { run = no_run; image = no_image; recover = no_recover; fifo = no_fifo; trace = no_trace; load = no_load; pool = no_pool } in
                      absurd (other_refused w rest (plain w (All-head IsPlain w rest no_hyphen)) other e)
                ]
              ]
            ]
          ]
        ]
      ]
    ]

-- the parser finds no fault in a word alone that is a command
lone_taken : (word : List ℕ) → IsLone word → fault_of program (word ∷ []) ≡ []
lone_taken word (inl run) = subst (λ (w : List ℕ). fault_of program (w ∷ []) ≡ []) (sym run) run_taken
lone_taken word (inr (inl image)) = subst (λ (w : List ℕ). fault_of program (w ∷ []) ≡ []) (sym image) image_taken
lone_taken word (inr (inr (inl recover))) = subst (λ (w : List ℕ). fault_of program (w ∷ []) ≡ []) (sym recover) recover_taken
lone_taken word (inr (inr (inr (inl fifo)))) = subst (λ (w : List ℕ). fault_of program (w ∷ []) ≡ []) (sym fifo) fifo_taken
lone_taken word (inr (inr (inr (inr trace)))) = subst (λ (w : List ℕ). fault_of program (w ∷ []) ≡ []) (sym trace) trace_taken

pub forms_pass : (words : List (List ℕ)) → All IsPlain words → IsForm words → fault_of program words ≡ []
forms_pass words no_hyphen (inl lone) = subst (λ (ws : List (List ℕ)). fault_of program ws ≡ []) (sym lone.2) (lone_taken lone.0 lone.1)
forms_pass words no_hyphen (inr (inl pool)) =
    let ws : List (List ℕ) = codes "pool" ∷ pool.0 ∷ [] in
    let here : All IsPlain ws = subst (λ (ws : List (List ℕ)). All IsPlain ws) pool.1 no_hyphen in
    subst (λ (ws : List (List ℕ)). fault_of program ws ≡ []) (sym pool.1) (pool_taken pool.0 (nth_plain ws here 1 (omega arith)))
forms_pass words no_hyphen (inr (inr load)) =
    let ws : List (List ℕ) = codes "load" ∷ load.0 ∷ load.1 ∷ load.2 ∷ [] in
    let here : All IsPlain ws = subst (λ (ws : List (List ℕ)). All IsPlain ws) load.3 no_hyphen in
    subst (λ (ws : List (List ℕ)). fault_of program ws ≡ []) (sym load.3)
    (load_taken load.0 load.1 load.2 (nth_plain ws here 1 (omega arith)) (nth_plain ws here 2 (omega arith)) (nth_plain ws here 3 (omega arith)))

none_among : (kind : ErrorKind) (kinds : Kinds) → kinds ≡ [] → IsAmong kind kinds → ⊥
none_among kind [] none among = among
none_among kind (k ∷ kinds) none among = cc

-- words in which the parser finds a fault of another kind than that memory ran out are not those of a command
pub refused_has_no_form : (words : List (List ℕ)) (kind : ErrorKind) → (kind ≡ OutOfMemory) ⊎ IsAmong kind (fault_of program words) → (kind ≡ OutOfMemory → ⊥) → HasForm words → ⊥
refused_has_no_form words kind (inl memory) other has = other memory
refused_has_no_form words kind (inr among) other has = none_among kind _ (forms_pass words has.plain has.form) among
