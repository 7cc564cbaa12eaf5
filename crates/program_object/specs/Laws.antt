-- The laws of a program's object.
use Rattle.std.specs.Prelude.{◌≡◌, ◌≢◌, ◌-◌, ◌*◌, ◌%◌, ◌^◌, ◌<◌, ◌≤◌, ◌==◌, ◌||◌, ◌↔◌, nat_lt, nat_le, not, ℕ, zero, suc, Bool, true, false, cond, List, ◌∷◌, length, Option, None, Some, replicate, slice_get, slice_index, slice_set, bit_and, IsTrue, refl}
use Rattle.std.proofs.Common.{sym, ap, subst, ◌∙◌, arith, lit<, eq-eqb, get_or-set_same}
use Rattle.std.proofs.lemmas.Nat.{and_le_l, or_lt}
use Rattle.std.proofs.lemmas.List.{get_or-set_other, length-replicate}
use Rattle.std.proofs.lemmas.List.Elements.{All-cons, All-replicate}
use Rattle.cx_base.specs.Memory.{Words}
use Rattle.cx_base.specs.OldFormat.{CanUpgrade, TakesOver, takes_over_nothing}
use Rattle.cx_base.specs.WordLaws.{Words-at, Words-set}
use Rattle.program_machine.specs.Machine.{Machine, fault, is_aligned, loads_from_place, place_of_address, stores_to_place, value_of, address_of, wish, with_part, mask_of}
use Rattle.program_code.specs.declared.instruction.Instruction as instruction_type
use Rattle.program_code.specs.declared.instruction.Instruction.TheVariants.{Compute, Wide, Jump, Load, Store, Call, Exit, Rest}
use Rattle.program_code.specs.declared.instruction.Register.{Register}
use Rattle.program_code.specs.declared.instruction.Unit as unit_type
use Rattle.program_machine.specs.declared.machine.RunEnd.{RunEnd}
use Rattle.program_machine.specs.declared.machine.RunEnd.TheVariants.{Returned, Fault}
use Rattle.program_machine.specs.declared.machine.RunFault as fault_type
use Rattle.program_machine.specs.declared.machine.RunFault.TheVariants as fault_kind
use Rattle.program_machine.specs.declared.machine.AddressPlace as place_type
use Rattle.program_machine.specs.declared.machine.AddressPlace.TheVariants as place
use Rattle.program_machine.specs.declared.machine.Wish as wish_type
use Rattle.program_machine.specs.declared.machine.Wish.TheVariants.{Goes, Ends, Loads, Stores}
use Rattle.program_object.specs.Run.{RunState, Setting, fetched, go_on, granted, is_outside, run, setting, step}
use Rattle.program_object.specs.Meaning.{IsProgramImage, run_outcome, old_of, is_other, faulted, fault_number, opening, program_step, reads, start, upgrade_request}

-- a fact of a choice, where it is known which test was made
by_test : {A : Type 0} (P : A → Type 0) (b : Bool) (x y : A) → (b ≡ true → P x) → (b ≡ false → P y) → P (cond b x y)
by_test P true x y p q = p refl
by_test P false x y p q = q refl

-- a fact of a choice, where it holds of both answers
by_case : {A : Type 0} (P : A → Type 0) (b : Bool) (x y : A) → P x → P y → P (cond b x y)
by_case P true x y p q = p
by_case P false x y p q = q

-- a word with another part is a word
pub with_part_small : (u : unit_type.Unit) (address word value : ℕ) → word < 2 ^ 64 → with_part u address word value < 2 ^ 64
with_part_small u address word value small =
    let a = bit_and word (2 ^ 64 - 1 - mask_of u * 2 ^ (8 * (address % 8)) % 2 ^ 64) in
    let le : a ≤ word = and_le_l word _ in
    or_lt 64 a (bit_and value (mask_of u) * 2 ^ (8 * (address % 8)) % 2 ^ 64) (omega (arith, le, small)) (omega arith)

-- A machine's reply has 144 words, and no instruction changes that.
abbrev Fine : wish_type.Wish × Machine → Type 0
Fine w = Words 144 w.1.reply

-- a load leaves a reply of 144 words where it was one
loads_from_fine : (m : Machine) (u : unit_type.Unit) (to : Register) (address : ℕ) (request constants : List ℕ) (p : place_type.AddressPlace) → Words 144 m.reply → Fine (loads_from_place m u to address request constants p)
loads_from_fine m u to address request constants (place.Object at) w = w
loads_from_fine m u to address request constants (place.Request at) w = w
loads_from_fine m u to address request constants (place.Reply at) w = w
loads_from_fine m u to address request constants (place.Stack at) w = w
loads_from_fine m u to address request constants (place.Constant at) w = w
loads_from_fine m u to address request constants place.Nowhere w = w

-- a store leaves a reply of 144 words where it was one
stores_to_fine : (m : Machine) (u : unit_type.Unit) (address value : ℕ) (p : place_type.AddressPlace) → Words 144 m.reply → Fine (stores_to_place m u address value p)
stores_to_fine m u address value (place.Object at) w = w
stores_to_fine m u address value (place.Request at) w = w
stores_to_fine m u address value (place.Reply at) w =
    Words-set 144 m.reply at (with_part u address (slice_index m.reply at) value) (with_part_small u address _ value (Words-at 144 m.reply at w)) w
stores_to_fine m u address value (place.Stack at) w = w
stores_to_fine m u address value (place.Constant at) w = w
stores_to_fine m u address value place.Nowhere w = w

-- each instruction leaves a reply of 144 words where it was one
wish_fine : (m : Machine) (i : instruction_type.Instruction) (request constants : List ℕ) (words : ℕ) → Words 144 m.reply → Fine (wish m i request constants words)
wish_fine m (Compute kind width to by) request constants words w = w
wish_fine m (Wide to number) request constants words w = w
wish_fine m (Jump test width left right target) request constants words w = w
wish_fine m (Load u to base offset) request constants words w =
    let a = address_of m base offset in
    by_case Fine (is_aligned u a) (loads_from_place m u to a request constants (place_of_address a words (length constants))) (fault m fault_kind.Alignment a, m)
    (loads_from_fine m u to a request constants (place_of_address a words (length constants)) w) w
wish_fine m (Store u base offset value) request constants words w =
    let a = address_of m base offset in
    by_case Fine (is_aligned u a) (stores_to_place m u a (value_of m value) (place_of_address a words 0)) (fault m fault_kind.Alignment a, m)
    (stores_to_fine m u a (value_of m value) (place_of_address a words 0) w) w
wish_fine m (Call target) request constants words w = by_case Fine (nat_le 7 m.depth) _ _ w w
wish_fine m Exit request constants words w = by_case Fine (m.depth == 0 || nat_lt 7 m.depth) _ _ w w
wish_fine m Rest request constants words w = w

-- A state of a run is lawful: its words are an image of the program, and its reply has 144 words.
pub record IsLawfulRunState (lines version : ℕ) (s : RunState) : Type 0 where
  pub image : IsProgramImage lines version s.image
  pub reply : Words 144 s.machine.reply

-- a place that a program may access is not word 0 of the object
outside_zero : (at words : ℕ) → is_outside at words ≡ false → at ≢ 0
outside_zero at words e z = let f : is_outside 0 words ≡ false = subst (λ k. is_outside k words ≡ false) z e in cc

-- granting a wish leaves a lawful state of a run lawful
granted_good : (lines version : ℕ) (writes : Bool) (words : ℕ) (w : wish_type.Wish) (s : RunState) → IsLawfulRunState lines version s → IsLawfulRunState lines version (granted writes words w s).1
granted_good lines version writes words Goes s g = g
granted_good lines version writes words (Ends end) s g = g
granted_good lines version writes words (Loads at u address to) s g =
    by_case (λ (x : Option RunEnd × RunState). IsLawfulRunState lines version x.1) (is_outside at words) _ _ g (record { image = g.image; reply = g.reply })
granted_good lines version writes words (Stores at u address value) s g =
    let v = with_part u address (slice_index s.image at) value in
    by_test (λ (x : Option RunEnd × RunState). IsLawfulRunState lines version x.1) (is_outside at words) _ _ (λ _. g) (λ inside.
    by_case (λ (x : Option RunEnd × RunState). IsLawfulRunState lines version x.1) writes _ _
    (by_case (λ (x : Option RunEnd × RunState). IsLawfulRunState lines version x.1) (nat_le 256 s.stores) _ _ g (record {
      image = record {
        words = Words-set (8 * lines) s.image at v (with_part_small u address _ value (Words-at (8 * lines) s.image at g.image.words)) g.image.words;
        version_is = get_or-set_other s.image at 0 v 0 (λ e. outside_zero at words inside (sym e)) ∙ g.image.version_is;
      };
      reply = g.reply;
    })) g)

-- an instruction leaves a lawful state of a run lawful
fetched_good : (lines version : ℕ) (p : Setting) (s : RunState) (i : Option instruction_type.Instruction) → IsLawfulRunState lines version s → IsLawfulRunState lines version (fetched p s i).1
fetched_good lines version p s None g = g
fetched_good lines version p s (Some i) g =
    let w = wish s.machine i p.request p.constants p.words in
    granted_good lines version p.writes p.words w.0 (record { machine = w.1; stores = s.stores; image = s.image })
    (record { image = g.image; reply = wish_fine s.machine i p.request p.constants p.words g.reply })

-- after a step that left a lawful state, the rest of the run leaves one, if it leaves one of each lawful state
on_good : (lines version n : ℕ) (p : Setting) (r : Option RunEnd × RunState) → IsLawfulRunState lines version r.1 → ((s : RunState) → IsLawfulRunState lines version s → IsLawfulRunState lines version (run n p s).1) → IsLawfulRunState lines version (go_on (run n p) r).1
on_good lines version n p (None, s) g on = on s g
on_good lines version n p (Some end, s) g on = g

-- a run of at most `n` instructions leaves a lawful state of a run lawful
pub run_good : (lines version n : ℕ) (p : Setting) (s : RunState) → IsLawfulRunState lines version s → IsLawfulRunState lines version (run n p s).1
run_good lines version zero p s g = g
run_good lines version (suc n) p s g =
    on_good lines version n p (step p s) (fetched_good lines version p s (slice_get p.code s.machine.at) g) (λ t h. run_good lines version n p t h)

-- A run that may not write leaves the image.
granted_still : (words : ℕ) (w : wish_type.Wish) (s : RunState) → (granted false words w s).1.image ≡ s.image
granted_still words Goes s = refl
granted_still words (Ends end) s = refl
granted_still words (Loads at u address to) s = by_case (λ (x : Option RunEnd × RunState). x.1.image ≡ s.image) (is_outside at words) _ _ refl refl
granted_still words (Stores at u address value) s = by_case (λ (x : Option RunEnd × RunState). x.1.image ≡ s.image) (is_outside at words) _ _ refl refl

-- an instruction leaves the image where stores are not allowed
fetched_still : (p : Setting) (s : RunState) (i : Option instruction_type.Instruction) → p.writes ≡ false → (fetched p s i).1.image ≡ s.image
fetched_still p s None off = refl
fetched_still p s (Some i) off =
    let w = wish s.machine i p.request p.constants p.words in
    ap (λ (b : Bool). (granted b p.words w.0 (record { machine = w.1; stores = s.stores; image = s.image })).1.image) off
    ∙ granted_still p.words w.0 (record { machine = w.1; stores = s.stores; image = s.image })

-- after a step that left the image, the rest of the run leaves it, if it leaves the image of each state
on_still : (n : ℕ) (p : Setting) (r : Option RunEnd × RunState) (image : List ℕ) → r.1.image ≡ image → ((s : RunState) → (run n p s).1.image ≡ s.image) → (go_on (run n p) r).1.image ≡ image
on_still n p (None, s) image e on = on s ∙ e
on_still n p (Some end, s) image e on = e

-- a run of at most `n` instructions leaves the image where stores are not allowed
pub run_still : (n : ℕ) (p : Setting) (s : RunState) → p.writes ≡ false → (run n p s).1.image ≡ s.image
run_still zero p s off = refl
run_still (suc n) p s off = on_still n p (step p s) s.image (fetched_still p s (slice_get p.code s.machine.at) off) (λ t. run_still n p t off)

-- THE LAWS. A list of `n` zeros is `n` words.
zeros : (n : ℕ) → Words n (replicate n 0)
zeros n = record { long = length-replicate {A = ℕ} n 0; fit = All-replicate (λ x. x < 2 ^ 64) n 0 (lit< tt) }

-- what a run has as it begins over an image
abbrev started : ℕ → List ℕ → RunState
started lines image = record { machine = start lines 0; stores = 0; image = image }

-- a run begins in a lawful state over an image of the program
started_good : (lines version : ℕ) (image : List ℕ) → IsProgramImage lines version image → IsLawfulRunState lines version (started lines image)
unfolding start
started_good lines version image i = record { image = i; reply = zeros 144 }

-- the first image is an image of the program
pub program_opens : (lines version : ℕ) → 1 ≤ lines → version < 2 ^ 64 → IsProgramImage lines version (opening lines version)
program_opens lines version some small = record {
  words = record {
    long = omega (arith, length-replicate {A = ℕ} (8 * lines - 1) 0);
    fit = All-cons (λ x. x < 2 ^ 64) version (replicate (8 * lines - 1) 0) small (All-replicate (λ x. x < 2 ^ 64) (8 * lines - 1) 0 (lit< tt));
  };
  version_is = refl;
}

-- the number of a fault fits into a word
fault_small : (kind : fault_type.RunFault) → fault_number kind < 2 ^ 64
fault_small fault_kind.Address = lit< tt
fault_small fault_kind.Alignment = lit< tt
fault_small fault_kind.ReadOnly = lit< tt
fault_small fault_kind.Stores = lit< tt
fault_small fault_kind.Fuel = lit< tt
fault_small fault_kind.Depth = lit< tt
fault_small fault_kind.Place = lit< tt

-- the reply of a run that a fault ended has 144 words
faulted_words : (n at address : ℕ) → n < 2 ^ 64 → Words 144 (faulted n at address)
unfolding faulted
faulted_words n at address small =
    let z : List ℕ = replicate 141 0 in
    record {
      long = ap (λ k. suc (suc (suc k))) (length-replicate {A = ℕ} 141 0);
      fit = All-cons (λ x. x < 2 ^ 64) n (at % 2 ^ 64 ∷ address % 2 ^ 64 ∷ z) small (All-cons (λ x. x < 2 ^ 64) (at % 2 ^ 64) (address % 2 ^ 64 ∷ z) (omega arith) (All-cons (λ x. x < 2 ^ 64) (address % 2 ^ 64) z (omega arith) (All-replicate (λ x. x < 2 ^ 64) 141 0 (lit< tt))));
    }

-- what an operation leaves is an image of the program, where the image before is one and its run ended in a lawful state
ended_keeps : (lines version : ℕ) (image : List ℕ) (r : RunEnd × RunState) → IsProgramImage lines version image → IsLawfulRunState lines version r.1 → IsProgramImage lines version (run_outcome image r).0
ended_keeps lines version image (Returned value, s) i g = g.image
ended_keeps lines version image (Fault kind at address, s) i g = i

-- the reply has 144 words, where the run ended in a lawful state
ended_replies : (lines version : ℕ) (image : List ℕ) (r : RunEnd × RunState) → IsLawfulRunState lines version r.1 → Words 144 (run_outcome image r).1
ended_replies lines version image (Returned value, s) g = Words-set 144 _ 1 (value % 2 ^ 64) (omega arith) (Words-set 144 s.machine.reply 0 1 (lit< tt) g.reply)
ended_replies lines version image (Fault kind at address, s) g = faulted_words (fault_number kind) at address (fault_small kind)

-- an operation leaves the image, where its run left it
ended_still : (image : List ℕ) (r : RunEnd × RunState) → r.1.image ≡ image → (run_outcome image r).0 ≡ image
ended_still image (Returned value, s) e = e
ended_still image (Fault kind at address, s) e = refl

module _ (code : List instruction_type.Instruction) (constants : List ℕ) (lines version fuel : ℕ) where
  -- the run of an operation over an image
  abbrev the_run : List ℕ → List ℕ → RunEnd × RunState
  the_run image op = run fuel (setting code constants (8 * lines) op (not (reads op))) (started lines image)

  -- the run of an operation over an image of the program ends in a lawful state
  the_run_good : (image op : List ℕ) → IsProgramImage lines version image → IsLawfulRunState lines version (the_run image op).1
  the_run_good image op i = run_good lines version fuel (setting code constants (8 * lines) op (not (reads op))) (started lines image) (started_good lines version image i)

  -- a step leaves an image of the program, whatever the words of the operation are
  step_keeps : (image op : List ℕ) → IsProgramImage lines version image → IsProgramImage lines version (program_step code constants lines fuel image op).0
  step_keeps image op i = ended_keeps lines version image (the_run image op) i (the_run_good image op i)

  -- a step leaves an image of the program
  pub program_keeps : (image op : List ℕ) → IsProgramImage lines version image → Words 144 op → IsProgramImage lines version (program_step code constants lines fuel image op).0
  program_keeps image op i w = step_keeps image op i

  -- a step replies by 144 words
  pub program_replies : (image op : List ℕ) → IsProgramImage lines version image → Words 144 op → Words 144 (program_step code constants lines fuel image op).1
  program_replies image op i w = ended_replies lines version image (the_run image op) (the_run_good image op i)

  -- a step of an operation that only reads leaves the image
  pub program_leaves : (image op : List ℕ) → IsProgramImage lines version image → Words 144 op → IsTrue (reads op) → (program_step code constants lines fuel image op).0 ≡ image
  program_leaves image op i w says = ended_still image (the_run image op) (run_still fuel (setting code constants (8 * lines) op (not (reads op))) (started lines image) (ap not says))

-- an image has eight words for each line, and its first word is the fingerprint
pub program_shape : (lines version : ℕ) (image : List ℕ) → IsProgramImage lines version image → Words (8 * lines) image × (slice_index image 0 ≡ version)
program_shape lines version image i = (i.words, i.version_is)

-- THE FORMAT BEFORE. No fingerprint is another than itself.
not_other : (version : ℕ) → is_other (Some version) version ≡ true → ⊥
not_other version h = let e : (version == version) ≡ true = eq-eqb version version refl in let f : not true ≡ true = subst (λ b. not b ≡ true) e h in cc

-- a fingerprint before that is another than `version` is not `version`
same_some : (old version : ℕ) → Some old ≡ Some version → is_other (Some old) version ≡ true → ⊥
same_some old version e h = let s : old ≡ version = cc in not_other version (subst (λ k. is_other (Some k) version ≡ true) s h)

-- an image of at least one line has a first word
some_words : (lines version : ℕ) (image : List ℕ) → 1 ≤ lines → IsProgramImage lines version image → 0 < length image
some_words lines version image some i = let e : length image ≡ 8 * lines = i.words.long in omega (arith, e, some)

-- an image whose first word is replaced by another fingerprint is an image of the program with that one
pub named : (lines old version : ℕ) (image : List ℕ) → 1 ≤ lines → version < 2 ^ 64 → IsProgramImage lines old image → IsProgramImage lines version (slice_set image 0 version)
named lines old version image some small i = record {
  words = Words-set (8 * lines) image 0 version small i.words;
  version_is = get_or-set_same image 0 version 0 (some_words lines old image some i);
}

-- what an upgrade makes of an image of the program before is an image of this one; without a program before nothing is taken over
pub program_takes_over : (code : List instruction_type.Instruction) (constants : List ℕ) (lines version fuel : ℕ) (before : Option ℕ) → 1 ≤ lines → version < 2 ^ 64 → is_other before version ≡ true →
    TakesOver lines version (IsProgramImage lines version) (old_of code constants lines fuel version before)
program_takes_over code constants lines version fuel None some small other = takes_over_nothing lines version (IsProgramImage lines version)
program_takes_over code constants lines version fuel (Some old) some small other = record {
  another = λ e. same_some old version e other;
  shape = λ image i. (i.words, ap (λ v. Some v) (sym i.version_is));
  upgrades = λ image i. step_keeps code constants lines version fuel (slice_set image 0 version) (upgrade_request old) (named lines old version image some small i);
  unchanged = λ words none. absurd cc;
}

-- words that may be upgraded, where there is a format before: there is a first one, and with it replaced they are an image
pub upgradable : (code : List instruction_type.Instruction) (constants : List ℕ) (lines version fuel old : ℕ) (before : Option ℕ) (words : List ℕ) → 1 ≤ lines → version < 2 ^ 64 → before ≡ Some old →
    CanUpgrade (old_of code constants lines fuel version before) words → (0 < length words) × IsProgramImage lines version (slice_set words 0 version)
upgradable code constants lines version fuel old None words some small e can = absurd cc
upgradable code constants lines version fuel old (Some other) words some small e can = (some_words lines other words some can, named lines other version words some small can)

-- whether words are a lawful image of the format before
pub old_lawful : (code : List instruction_type.Instruction) (constants : List ℕ) (lines version fuel old : ℕ) (before : Option ℕ) (words : List ℕ) (answer : Bool) → before ≡ Some old →
    (IsTrue answer ↔ IsProgramImage lines old words) → IsTrue answer ↔ (old_of code constants lines fuel version before).lawful words
old_lawful code constants lines version fuel old before words answer e h =
    subst (λ (x : Option ℕ). IsTrue answer ↔ (old_of code constants lines fuel version x).lawful words) (sym e) h
