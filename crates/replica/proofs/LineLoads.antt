-- What loads of the words of a replica tell, one by one and in runs.
use Rattle.std.proofs.Common.{false, true, ◌≡◌, ◌+◌, ◌<◌, ◌≤◌, ◌==◌, inl, inr, ℕ, Bool, cond, List, [], ◌∷◌, ◌++◌, length, length-append, slice_index, refl, ap, sym, subst, ◌∙◌, arith, eq-eqb, Option, Some, None}
use Rattle.std.proofs.lemmas.Bool.{cases_eq}
use Rattle.std.proofs.lemmas.List.{get_or_append_left, get_or_push, map-append}
use Rattle.std.proofs.lemmas.List.Elements.{Contains-append_left}
use Rattle.std.proofs.lemmas.Option.{none-some, same_Some}
use Rattle.std.specs.List.{Contains}
use Rattle.std.specs.Option.{option_map}
use Rattle.cx_base.specs.Noted.{Note, NotesLead, led_by_load}
use Rattle.cx_core.specs.declared.kinds.Kind.TheVariants.{LoadWord}
use Rattle.cx_core.specs.declared.local.HeldShared.{HeldShared}
use Rattle.cx_core.specs.RegionEvents.{loaded_into}
use Rattle.cx_core.specs.Rights.{exclusive_on, held_dirty, is_at, shared_on}
use Rattle.cx_core.specs.State.{Instance}
use Rattle.table_invariant.specs.declared.rule.Known.{Known}
use Rattle.table_invariant.specs.Fitting.{loaded_of, loads_of, word_noted}
use Rattle.table_invariant.specs.Seats.{known_after}
use Rattle.table_invariant.proofs.Copying.{here_or, or_there}
use Rattle.replica.specs.Copies.{AreSeen, IsSeen, StoresAsMany, read_notes, stores_in}

-- two lists of notes say the same of every word but those of which `P` holds
abbrev pub SameExcept : (ℕ → Type 0) → List Note → List Note → Type 0
SameExcept P notes notes' = (i : ℕ) → ¬ P i → word_noted None i notes' ≡ word_noted None i notes

pub noted_more : (accesses : List Note) (word : Option ℕ) (i : ℕ) (stores : Bool) (at v : ℕ) → word_noted word i (accesses ++ (stores, at, v) ∷ []) ≡ cond (at == i) (Some v) (word_noted word i accesses)
noted_more [] word i stores at v = refl
noted_more ((s, a, w) ∷ accesses) word i stores at v = noted_more accesses (cond (a == i) (Some w) word) i stores at v

pub noted_here : (accesses : List Note) (stores : Bool) (at v : ℕ) → word_noted None at (accesses ++ (stores, at, v) ∷ []) ≡ Some v
noted_here accesses stores at v = noted_more accesses None at stores at v ∙ here_or at at (Some v) (word_noted None at accesses) refl

pub noted_other : (accesses : List Note) (stores : Bool) (at v : ℕ) → SameExcept (λ i. i ≡ at) accesses (accesses ++ (stores, at, v) ∷ [])
noted_other accesses stores at v i apart = noted_more accesses None i stores at v ∙ or_there at i (Some v) (word_noted None i accesses) (λ e. apart (sym e))

-- what is noted of the replica held shared after a load
pub loads_more : (loaded : List (ℕ × ℕ)) (at v : ℕ) → loads_of (loaded ++ (at, v) ∷ []) ≡ loads_of loaded ++ (false, at, v) ∷ []
loads_more loaded at v = map-append (λ (x : ℕ × ℕ). (false, x.0, x.1)) loaded ((at, v) ∷ [])

abbrev after_load : ℕ → ℕ → ℕ → Option HeldShared → List Note
after_load r at v o = loads_of (loaded_of (option_map (loaded_into r at v) o))

loads_here : (o : Option HeldShared) (r at v : ℕ) → option_map (λ (h : HeldShared). h.replica) o ≡ Some r → word_noted None at (after_load r at v o) ≡ Some v
loads_here None r at v on = absurd (none-some r on)
loads_here (Some h) r at v on =
    ap (λ (b : Bool). word_noted None at (loads_of (cond b (h.loaded ++ (at, v) ∷ []) h.loaded))) (eq-eqb h.replica r (same_Some h.replica r on))
    ∙ ap (word_noted None at) (loads_more h.loaded at v)
    ∙ noted_here (loads_of h.loaded) false at v

still_shared : (o : Option HeldShared) (r at v : ℕ) → option_map (λ (h : HeldShared). h.replica) (option_map (loaded_into r at v) o) ≡ option_map (λ (h : HeldShared). h.replica) o
still_shared None r at v = refl
still_shared (Some h) r at v = refl

-- what is noted of the replica held exclusively after a load
abbrev with_load : Bool → List Note → ℕ → ℕ → List Note
with_load b accesses at v = cond b (accesses ++ (false, at, v) ∷ []) accesses

-- ---- how many steps are made, and how many words stored

stores_more : (accesses : List Note) (stores : Bool) (at v : ℕ) → stores_in (accesses ++ (stores, at, v) ∷ []) ≡ stores_in accesses + cond stores 1 0
stores_more [] stores at v = omega arith
stores_more ((s, a, w) ∷ accesses) stores at v = (let rest = stores_more accesses stores at v in omega (arith, rest))

-- one word more is stored
pub one_store : (accesses : List Note) (at v : ℕ) → stores_in (accesses ++ (true, at, v) ∷ []) ≡ stores_in accesses + 1
one_store accesses at v = stores_more accesses true at v

load_stores : (b : Bool) (accesses : List Note) (at v : ℕ) → stores_in (with_load b accesses at v) ≡ stores_in accesses
load_stores true accesses at v = (let e = stores_more accesses false at v in omega (arith, e))
load_stores false accesses at v = refl

-- n steps at most, and no store
abbrev pub Counts : ℕ → Known → Known → Type 0
Counts n k k' = (k'.local.steps ≤ k.local.steps + n) × StoresAsMany k k'

-- a load of one word of the replica `r` is at most one step, and no store
pub load_counts : (instance : Instance) (r at v : ℕ) (k : Known) → Counts 1 k (known_after instance (LoadWord r at false) k v)
load_counts instance r at v k = (omega arith, load_stores (is_at r (exclusive_on k.local)) k.accesses at v)

-- at most `m` steps without a store, and then at most `n`, are at most `l = m + n` steps without a store
pub counts_on : (m n l : ℕ) (k k' k'' : Known) → m + n ≡ l → Counts m k k' → Counts n k' k'' → Counts l k k''
counts_on m n l k k' k'' all one two = (let a = one.0 in let b = two.0 in (omega (arith, all, a, b), two.1 ∙ one.1))

-- ---- what loads leave

-- words at these places were loaded, of whatever replicas
pub record AreLoaded (P : ℕ → Type 0) (k k' : Known) : Type 0 where
  pub held : (first now : List ℕ) → NotesLead k'.accesses first now → NotesLead k.accesses first now
  pub read : (first now : List ℕ) → NotesLead (read_notes k') first now → NotesLead (read_notes k) first now
  pub beside : SameExcept P k.accesses k'.accesses
  pub unchanged_by_read : SameExcept P (read_notes k) (read_notes k')
  pub dirty : held_dirty k'.local.exclusive ≡ held_dirty k.local.exclusive
  pub kept : (x : ℕ × ℕ) → Contains (loaded_of k.local.shared) x → Contains (loaded_of k'.local.shared) x
  pub exclusive : exclusive_on k'.local ≡ exclusive_on k.local
  pub shared : shared_on k'.local ≡ shared_on k.local

-- a load of the word at `at` of the replica `r` is a load at that place alone
one_load : (instance : Instance) (r at v : ℕ) (k : Known) → AreLoaded (λ i. i ≡ at) k (known_after instance (LoadWord r at false) k v)
one_load instance r at v k = record {
  held = λ first now. held (is_at r (exclusive_on k.local)) first now;
  read = λ first now. read k.local.shared first now;
  beside = beside (is_at r (exclusive_on k.local));
  unchanged_by_read = unchanged_by_read k.local.shared;
  dirty = refl;
  kept = kept k.local.shared;
  exclusive = refl;
  shared = still_shared k.local.shared r at v;
}
  where
    held : (b : Bool) (first now : List ℕ) → NotesLead (with_load b k.accesses at v) first now → NotesLead k.accesses first now
    held true first now l = (led_by_load k.accesses at v first now l).0
    held false first now l = l

    beside : (b : Bool) → SameExcept (λ i. i ≡ at) k.accesses (with_load b k.accesses at v)
    beside true = noted_other k.accesses false at v
    beside false = λ i apart. refl

    read_one : (h : HeldShared) (b : Bool) (first now : List ℕ) → NotesLead (loads_of (cond b (h.loaded ++ (at, v) ∷ []) h.loaded)) first now → NotesLead (loads_of h.loaded) first now
    read_one h true first now l = (led_by_load (loads_of h.loaded) at v first now (subst (λ (ns : List Note). NotesLead ns first now) (loads_more h.loaded at v) l)).0
    read_one h false first now l = l

    read : (o : Option HeldShared) (first now : List ℕ) → NotesLead (after_load r at v o) first now → NotesLead (loads_of (loaded_of o)) first now
    read None first now l = l
    read (Some h) first now l = read_one h (h.replica == r) first now l

    unchanged_by_one : (h : HeldShared) (b : Bool) → SameExcept (λ i. i ≡ at) (loads_of h.loaded) (loads_of (cond b (h.loaded ++ (at, v) ∷ []) h.loaded))
    unchanged_by_one h true i apart = ap (word_noted None i) (loads_more h.loaded at v) ∙ noted_other (loads_of h.loaded) false at v i apart
    unchanged_by_one h false i apart = refl

    unchanged_by_read : (o : Option HeldShared) → SameExcept (λ i. i ≡ at) (loads_of (loaded_of o)) (after_load r at v o)
    unchanged_by_read None i apart = refl
    unchanged_by_read (Some h) i apart = unchanged_by_one h (h.replica == r) i apart

    kept_one : (h : HeldShared) (b : Bool) (x : ℕ × ℕ) → Contains h.loaded x → Contains (cond b (h.loaded ++ (at, v) ∷ []) h.loaded) x
    kept_one h true x has = Contains-append_left h.loaded ((at, v) ∷ []) x has
    kept_one h false x has = has

    kept : (o : Option HeldShared) (x : ℕ × ℕ) → Contains (loaded_of o) x → Contains (loaded_of (option_map (loaded_into r at v) o)) x
    kept None x has = has
    kept (Some h) x has = kept_one h (h.replica == r) x has

no_load : (P : ℕ → Type 0) (k : Known) → AreLoaded P k k
no_load P k = record {
  held = λ first now l. l;
  read = λ first now l. l;
  beside = λ i apart. refl;
  unchanged_by_read = λ i apart. refl;
  dirty = refl;
  kept = λ x has. has;
  exclusive = refl;
  shared = refl;
}

-- some were loaded, and then others
loaded_on : (P Q R : ℕ → Type 0) (k k' k'' : Known) → ((i : ℕ) → P i → R i) → ((i : ℕ) → Q i → R i) → AreLoaded P k k' → AreLoaded Q k' k'' → AreLoaded R k k''
loaded_on P Q R k k' k'' p q one two = record {
  held = λ first now l. one.held first now (two.held first now l);
  read = λ first now l. one.read first now (two.read first now l);
  beside = λ i apart. two.beside i (λ x. apart (q i x)) ∙ one.beside i (λ x. apart (p i x));
  unchanged_by_read = λ i apart. two.unchanged_by_read i (λ x. apart (q i x)) ∙ one.unchanged_by_read i (λ x. apart (p i x));
  dirty = two.dirty ∙ one.dirty;
  kept = λ x has. two.kept x (one.kept x has);
  exclusive = two.exclusive ∙ one.exclusive;
  shared = two.shared ∙ one.shared;
}

-- ---- what a load tells of its word

-- between what was known before and after, the word of the replica r at this place was loaded, and was v
pub record IsLoadOf (r at v : ℕ) (k k' : Known) : Type 0 where
  pub noted : exclusive_on k.local ≡ Some r → word_noted None at k'.accesses ≡ Some v
  pub was : exclusive_on k.local ≡ Some r → (first now : List ℕ) → NotesLead k'.accesses first now → slice_index now at ≡ v
  pub again : word_noted None at k.accesses ≡ Some v → word_noted None at k'.accesses ≡ Some v
  pub read : shared_on k.local ≡ Some r → word_noted None at (read_notes k') ≡ Some v

-- a load that found `v` at the word `at` of the replica `r` has it noted with `v`, for whichever right the caller has on `r`
load_of : (instance : Instance) (r at v : ℕ) (k : Known) → IsLoadOf r at v k (known_after instance (LoadWord r at false) k v)
load_of instance r at v k =
    let here : exclusive_on k.local ≡ Some r → is_at r (exclusive_on k.local) ≡ true = λ held. (ap (is_at r) held ∙ eq-eqb r r refl) in
    record {
      noted = λ held. ap (λ (b : Bool). word_noted None at (with_load b k.accesses at v)) (here held) ∙ noted_here k.accesses false at v;
      was = λ held first now l. (led_by_load k.accesses at v first now (subst (λ (b : Bool). NotesLead (with_load b k.accesses at v) first now) (here held) l)).1;
      again = again (is_at r (exclusive_on k.local));
      read = loads_here k.local.shared r at v;
    }
  where
    again : (b : Bool) → word_noted None at k.accesses ≡ Some v → word_noted None at (with_load b k.accesses at v) ≡ Some v
    again true is = noted_here k.accesses false at v
    again false is = is

-- others were loaded behind it, or before it
load_then : (P : ℕ → Type 0) (r at v : ℕ) (k k' k'' : Known) → ¬ P at → IsLoadOf r at v k k' → AreLoaded P k' k'' → IsLoadOf r at v k k''
load_then P r at v k k' k'' apart one two = record {
  noted = λ held. two.beside at apart ∙ one.noted held;
  was = λ held first now l. one.was held first now (two.held first now l);
  again = λ is. two.beside at apart ∙ one.again is;
  read = λ shared. two.unchanged_by_read at apart ∙ one.read shared;
}

-- a load of the word `at` of the replica `r` is that load also with loads at other places before it
then_load : (P : ℕ → Type 0) (r at v : ℕ) (k k' k'' : Known) → ¬ P at → AreLoaded P k k' → IsLoadOf r at v k' k'' → IsLoadOf r at v k k''
then_load P r at v k k' k'' apart one two = record {
  noted = λ held. two.noted (one.exclusive ∙ held);
  was = λ held. two.was (one.exclusive ∙ held);
  again = λ is. two.again (one.beside at apart ∙ is);
  read = λ shared. two.read (one.shared ∙ shared);
}

-- ---- runs of loads

-- n words, from one on
abbrev pub IsIn : ℕ → ℕ → ℕ → Type 0
IsIn from n i = (from ≤ i) × (i < from + n)

-- these words of the replica r were loaded, from one on
pub record IsRunOf (r from : ℕ) (words : List ℕ) (k k' : Known) : Type 0 where
  pub loaded : AreLoaded (IsIn from (length words)) k k'
  pub each : (i : ℕ) → i < length words → IsLoadOf r (from + i) (slice_index words i) k k'
  pub count : Counts (length words) k k'

pub no_run : (r from : ℕ) (k : Known) → IsRunOf r from [] k k
no_run r from k = record { loaded = no_load (IsIn from 0) k; each = λ i below. absurd (omega (arith, below)); count = (omega arith, refl) }

-- a run of loads of the words of the replica `r`, from `from` on, is longer by a load of the next word, which found `found`
pub longer_run : (instance : Instance) (r from found : ℕ) (words : List ℕ) (k k' : Known) → IsRunOf r from words k k' → IsRunOf r from (words ++ found ∷ []) k (known_after instance (LoadWord r (from + length words) false) k' found)
longer_run instance r from found words k k' run =
    let at = from + length words in
    let k'' = known_after instance (LoadWord r at false) k' found in
    let last = one_load instance r at found k' in
    let long : length (words ++ found ∷ []) ≡ length words + 1 = length-append words (found ∷ []) in
    record {
      loaded = loaded_on (IsIn from (length words)) (λ i. i ≡ at) (IsIn from (length (words ++ found ∷ []))) k k' k''
          (λ i x. (x.0, (let below = x.1 in omega (arith, long, below))))
          (λ i x. (omega (arith, x), omega (arith, long, x)))
          run.loaded last;
      count = counts_on (length words) 1 (length (words ++ found ∷ [])) k k' k'' (sym long) run.count (load_counts instance r at found k');
      each = λ i below. elim (cases_eq i (length words)) [
        | inl e ↦ subst (λ j. IsLoadOf r (from + j) (slice_index (words ++ found ∷ []) j) k k'') (sym e)
            (subst (λ v. IsLoadOf r at v k k'') (sym (get_or_push words found 0 (length words) refl))
            (then_load (IsIn from (length words)) r at found k k' k'' (λ x. (let under = x.1 in absurd (omega (arith, under)))) run.loaded (load_of instance r at found k')))
        | inr ne ↦
            let before : i < length words = omega (arith, long, below, ne) in
            subst (λ v. IsLoadOf r (from + i) v k k'') (sym (get_or_append_left words (found ∷ []) 0 i before))
            (load_then (λ j. j ≡ at) r (from + i) (slice_index words i) k k' k'' (λ x. absurd (omega (arith, x, before))) (run.each i before) last)
      ];
    }

-- ---- what loads of both replicas tell

-- a word of the one and then of the other
seen_of : (P : ℕ → Type 0) (h s at u v : ℕ) (k k' k'' : Known) → exclusive_on k.local ≡ Some h → shared_on k'.local ≡ Some s → IsLoadOf h at u k k' → AreLoaded P k' k'' → IsLoadOf s at v k' k'' → IsSeen at u v k''
seen_of P h s at u v k k' k'' held shared one two other = record {
  source = other.read shared;
  same = λ e. other.again (one.noted held ∙ ap Some e);
  was = λ first now l. one.was held first now (two.held first now l);
}

-- a run of the one and then of the other
pub seen_runs : (h s from n : ℕ) (us vs : List ℕ) (k k' k'' : Known) → length us ≡ n → length vs ≡ n → exclusive_on k.local ≡ Some h → shared_on k.local ≡ Some s → IsRunOf h from us k k' → IsRunOf s from vs k' k'' → AreSeen from 0 n us vs k''
seen_runs h s from n us vs k k' k'' long long' held shared one two i least below =
    seen_of (IsIn from (length vs)) h s (from + i) (slice_index us i) (slice_index vs i) k k' k'' held (one.loaded.shared ∙ shared) (one.each i (omega (arith, long, below))) two.loaded (two.each i (omega (arith, long', below)))
