-- What a step teaches a seat is what it teaches of the local state that the seat shows.
use Rattle.std.proofs.Common.{◌≡◌, ◌==◌, ℕ, Bool, true, false, cond, List, [], length, take, drop, refl, ap, sym, ◌∙◌, Option, Some, None}
use Rattle.std.proofs.Math.Seq.{drop-nil, take-nil}
use Rattle.std.proofs.lemmas.Bool.{false≢true}
use Rattle.std.specs.Prelude.{nat_lt}
use Rattle.std.specs.Option.{option_map}
use Rattle.cx_core.specs.declared.kinds.Kind.{Kind}
use Rattle.cx_core.specs.declared.kinds.Kind.TheVariants.{Link, Look, TryExclusive, TryShared, BackOff, Downgrade, ReleaseExclusive, LoadWord, StoreWord, Persist, LoadCur, Publish, Raise, Offer, NoteGap}
use Rattle.cx_core.specs.declared.local.HeldExclusive.{HeldExclusive}
use Rattle.cx_core.specs.declared.local.Local.{Local}
use Rattle.cx_core.specs.Events.{Guard, new_word, next, step_word}
use Rattle.cx_core.specs.Layout.{vol_at}
use Rattle.cx_core.specs.LockEvents.{exclusive_mark, passing, refused_by, shared_by, taken}
use Rattle.cx_core.specs.RootEvents.{outrun, published}
use Rattle.cx_core.specs.QueueEvents.{linked, lost, seen_word}
use Rattle.cx_core.specs.Rights.{is_at, shared_on}
use Rattle.cx_core.specs.Shown.{shown}
use Rattle.cx_core.specs.State.{Instance, Scene, one_more}
use Rattle.core_replica.specs.Frames.{SameRights}
use Rattle.core_replica.proofs.LockLaws.{few_same}
use Rattle.table_invariant.specs.Rule.{IsLawfulLocal}
use Rattle.table_invariant.specs.declared.rule.Known.{Known}
use Rattle.table_invariant.specs.Seats.{IsByShown, known_local, shown_next, unseen}
use Rattle.table_invariant.specs.FoundWords.{KnownOfLoad}

abbrev blank : HeldExclusive → HeldExclusive
blank h = record h { words = [] }

-- a local state with this exclusive right
abbrev holding : Local → Option HeldExclusive → Local
holding l o = record l { exclusive = o }

-- no word of an unseen replica
no_words : (from region : ℕ) → let none : List ℕ = [] in take region (drop from none) ≡ none
no_words from region = ap (take region) (drop-nil {A = ℕ} from) ∙ take-nil region

-- what backing off leaves, by the right that ends
abbrev backed_by : Bool → Bool → Local → Local
backed_by a b l =
    cond a (record l { shared = None; steps = one_more l.steps }) (cond b (record l { passer = None; steps = one_more l.steps }) (record l { downgraded = None; steps = one_more l.steps }))

-- what is shown after backing off is what backing off makes of the local state with its exclusive right `o` blanked
backed_shown : (r : ℕ) (l : Local) (o : Option HeldExclusive) (a b : Bool) → shown (backed_by a b (holding l o)) ≡ backed_by a b (holding l (option_map blank o))
backed_shown r l o true b = refl
backed_shown r l o false true = refl
backed_shown r l o false false = refl

next_holding : (instance : Instance) (scene : Scene) (kind : Kind) (l : Local) (o : Option HeldExclusive) (found : ℕ) → IsByShown kind →
    shown (next instance scene kind (holding l o) found) ≡ shown_next instance kind (holding l (option_map blank o)) found
next_holding instance scene (Link j) l o found by =
    elim (found == seen_word l.seen_slot) as (λ b. shown (cond b (linked (holding l o) j) (lost instance.callers (holding l o) found)) ≡ cond b (linked (holding l (option_map blank o)) j) (lost instance.callers (holding l (option_map blank o)) found))
    [ true ↦ refl | false ↦ refl ]
next_holding instance scene (TryExclusive r) l o found by =
    let region = length instance.base.words in
    elim (found == 0) as (λ b. shown (cond b (taken instance scene r (holding l o)) (refused_by instance.callers r (holding l o) found))
    ≡ cond b (taken instance unseen r (holding l (option_map blank o))) (refused_by instance.callers r (holding l (option_map blank o)) found)) [
      | true ↦ ap (λ (ws : List ℕ). record (taken instance unseen r l) { exclusive = Some (record { replica = r; words = ws; dirty = [] }) }) (sym (no_words (vol_at instance.callers region r 0) region))
      | false ↦ refl
    ]
next_holding instance scene (TryShared r) l o found by =
    elim (nat_lt found exclusive_mark) as (λ b. shown (cond b (shared_by r (holding l o) found) (passing instance.callers r (holding l o) found))
    ≡ cond b (shared_by r (holding l (option_map blank o)) found) (passing instance.callers r (holding l (option_map blank o)) found)) [ true ↦ refl | false ↦ refl ]
next_holding instance scene (BackOff r) l o found by = backed_shown r l o (is_at r (shared_on l)) (is_at r l.passer)
next_holding instance scene (StoreWord r i v) l None found by = refl
next_holding instance scene (StoreWord r i v) l (Some h) found by = refl
next_holding instance scene (Downgrade r) l o found by = absurd by
next_holding instance scene (ReleaseExclusive r) l o found by = absurd by
next_holding instance scene (Persist r i) l o found by = absurd by
next_holding instance scene Publish l o found by =
    elim (found == l.seen_cur) as (λ b. shown (cond b (published instance.callers (holding l o)) (outrun instance.callers (holding l o) found))
    ≡ cond b (published instance.callers (holding l (option_map blank o))) (outrun instance.callers (holding l (option_map blank o)) found)) [ true ↦ refl | false ↦ refl ]
next_holding instance scene (Raise code read) l o found by = absurd by
next_holding instance scene (Offer j) l o found by = absurd by
next_holding instance scene kind l o found by = refl

-- what is shown of the local state after a step is what the step makes of the one that is shown
pub next_shown : (instance : Instance) (scene : Scene) (kind : Kind) (l : Local) (found : ℕ) → IsByShown kind → shown (next instance scene kind l found) ≡ shown_next instance kind (shown l) found
next_shown instance scene kind l found by = next_holding instance scene kind l l.exclusive found by

-- where what is known is by what is shown
known_by_shown : (instance : Instance) (kind : Kind) (k : Known) (found : ℕ) → IsByShown kind → known_local instance kind k found ≡ shown_next instance kind k.local found
known_by_shown instance (Downgrade r) k found by = absurd by
known_by_shown instance (ReleaseExclusive r) k found by = absurd by
known_by_shown instance (Persist r i) k found by = absurd by
known_by_shown instance (Raise code read) k found by = absurd by
known_by_shown instance (Offer j) known found by = absurd by
known_by_shown instance kind k found by = refl

pub known_shown : (instance : Instance) (scene : Scene) (kind : Kind) (k : Known) (l : Local) (found : ℕ) → IsByShown kind → k.local ≡ shown l → known_local instance kind k found ≡ shown (next instance scene kind l found)
known_shown instance scene kind k l found by shows = known_by_shown instance kind k found by ∙ ap (λ (x : Local). shown_next instance kind x found) shows ∙ sym (next_shown instance scene kind l found by)

guard_holding : (instance : Instance) (scene : Scene) (kind : Kind) (l : Local) (o : Option HeldExclusive) → IsByShown kind → Guard instance scene kind (holding l (option_map blank o)) → Guard instance scene kind (holding l o)
guard_holding instance scene kind l None by g = g
guard_holding instance scene (Downgrade r) l (Some h) by g = absurd by
guard_holding instance scene (ReleaseExclusive r) l (Some h) by g = absurd by
guard_holding instance scene (Persist r i) l (Some h) by g = absurd by
guard_holding instance scene (Raise code read) l (Some h) by g = absurd by
guard_holding instance scene (Offer j) l (Some h) by g = absurd by
guard_holding instance scene kind l (Some h) by g = g

-- a guard that does not look at the scene
guard_seen : (instance : Instance) (scene : Scene) (kind : Kind) (l : Local) → IsByShown kind → Guard instance unseen kind l → Guard instance scene kind l
guard_seen instance scene (LoadWord r i true) l by g = absurd by
guard_seen instance scene (LoadWord r i false) l by g = (g.0, λ t. absurd (false≢true t))
guard_seen instance scene (Downgrade r) l by g = absurd by
guard_seen instance scene (ReleaseExclusive r) l by g = absurd by
guard_seen instance scene (Persist r i) l by g = absurd by
guard_seen instance scene (Raise code read) l by g = absurd by
guard_seen instance scene (Offer j) l by g = absurd by
guard_seen instance scene (NoteGap s i v) l by g = absurd by
guard_seen instance scene kind l by g = g

-- a guard over what is shown is the guard
pub guard_shown : (instance : Instance) (scene : Scene) (kind : Kind) (l : Local) → IsByShown kind → Guard instance unseen kind (shown l) → Guard instance scene kind l
guard_shown instance scene kind l by guard = guard_seen instance scene kind l by (guard_holding instance unseen kind l l.exclusive by guard)

-- the word that a step is on, and what it becomes
pub word_shown : (instance : Instance) (kind : Kind) (l : Local) → step_word instance kind (shown l) ≡ step_word instance kind l
word_shown instance (Link j) l = refl
word_shown instance kind l = refl

pub put_shown : (instance : Instance) (kind : Kind) (l : Local) (found : ℕ) → IsByShown kind → new_word instance kind (shown l) found ≡ new_word instance kind l found
put_shown instance (Persist r i) l found by = absurd by
put_shown instance (Raise code read) l found by = absurd by
put_shown instance (Offer j) l found by = absurd by
put_shown instance kind l found by = refl

-- the rights of a local state are those of what is shown of it
shown_rights : (l : Local) → SameRights l (shown l)
shown_rights l = record { exclusive = on l.exclusive; shared = refl; passer = refl; downgraded = refl; won = refl }
  where
    on : (o : Option HeldExclusive) → option_map (λ (h : HeldExclusive). h.replica) (option_map blank o) ≡ option_map (λ (h : HeldExclusive). h.replica) o
    on None = refl
    on (Some h) = refl

-- what the rule says of the word found
pub load_shown : (instance : Instance) (kind : Kind) (l : Local) (found : ℕ) → KnownOfLoad instance kind l found → KnownOfLoad instance kind (shown l) found
load_shown instance (Link j) l found known = record { names = known.names; later = known.later }
load_shown instance (Look s) l found known = record { names = known.names; greatest = known.greatest; live = known.live }
load_shown instance LoadCur l found known = record { most = known.most; apart = λ held. known.apart (sym (shown_rights l).exclusive ∙ held) }
load_shown instance kind l found known = known

-- what the lawful state says of a local state by itself, it says of what is shown of it
pub lawful_shown : (instance : Instance) (l : Local) → IsLawfulLocal instance l → IsLawfulLocal instance (shown l)
lawful_shown instance l law = record {
  shape = record { number = law.shape.number; cells = law.shape.cells; each = law.shape.each };
  tickets = record { numbers = law.tickets.numbers; ops = law.tickets.ops; answered = law.tickets.answered; one = law.tickets.one };
  from = law.from;
  to = law.to;
  floor = law.floor;
  cur = law.cur;
  floor_cur = law.floor_cur;
  few = few_same instance.callers l (shown l) law.few (shown_rights l);
  downgraded = law.downgraded;
  answered = law.answered;
  reads = law.reads;
}
