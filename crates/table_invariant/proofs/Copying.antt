-- Copying a replica that is held shared over one that is held exclusively, word by word, and releasing it.
use Rattle.std.proofs.Common.{false, true, ◌≡◌, ◌≢◌, ◌*◌, ◌==◌, ◌<◌, ◌⊎◌, inl, inr, ℕ, Bool, cond, List, [], ◌∷◌, ◌++◌, length, set, slice_index, refl, ap, sym, subst, ◌∙◌, eq-eqb, ne_eqb, Option, Some, None}
use Rattle.std.proofs.lemmas.Bool.{cases_eq}
use Rattle.std.proofs.lemmas.List.{append-nil, ext_get_or, get_or-set_other, get_or-set_same, length-set}
use Rattle.std.proofs.lemmas.Option.{none-some, same_Some}
use Rattle.cx_base.specs.Codes.{root_place_of}
use Rattle.cx_base.specs.Noted.{Note, NotesLead}
use Rattle.cx_core.specs.declared.entry.Base.{Base}
use Rattle.cx_core.specs.declared.kinds.Kind.TheVariants.{BackOff}
use Rattle.cx_core.specs.declared.local.HeldShared.{HeldShared}
use Rattle.cx_core.specs.declared.local.Local.{Local}
use Rattle.cx_core.specs.Events.{local_after, new_word, step_word}
use Rattle.cx_core.specs.Merge.{scene_of}
use Rattle.cx_core.specs.Region.{region_words}
use Rattle.cx_core.specs.Rights.{shared_on}
use Rattle.cx_core.specs.Shown.{shown}
use Rattle.cx_core.specs.State.{Instance, State}
use Rattle.cx_core.proofs.HeldLists.{mapped}
use Rattle.table_invariant.specs.declared.rule.ImageTimes.{ImageTimes}
use Rattle.table_invariant.specs.declared.rule.Known.{Known}
use Rattle.table_invariant.specs.Fitting.{AgreeTo, AreEqual, TellsWord, TellsWords, loaded_of, loads_of, word_noted}
use Rattle.table_invariant.specs.Rule.{IsOrigin}
use Rattle.table_invariant.specs.Seats.{known_after, place_noted}
use Rattle.table_invariant.specs.Steps.{MayReleaseKnowing, IsImageLearned, times_of}
use Rattle.table_invariant.specs.Timing.{IsImageTaken}
use Rattle.table_invariant.proofs.Behind.{shared_there}
use Rattle.table_invariant.proofs.Keeps.{learns_shown}

-- a list that accesses lead to is as long as the first
pub leads_length : (accesses : List Note) (first now : List ℕ) → NotesLead accesses first now → length now ≡ length first
leads_length [] first now leads = ap length leads
leads_length ((false, at, v) ∷ accesses) first now leads = leads_length accesses first now leads.1
leads_length ((true, at, v) ∷ accesses) first now leads = leads_length accesses (set first at v) now leads.1 ∙ length-set first at v

-- where a word is known of a place, it is the one there
abbrev IsThere : Option ℕ → ℕ → List ℕ → Type 0
IsThere word i ws = (v : ℕ) → word ≡ Some v → slice_index ws i ≡ v

-- Choose `a` where `at` is `i`, and `b` where it is not. Where `at` is `i`, the choice is `a`.
pub here_or : {X : Type 0} (at i : ℕ) (a b : X) → at ≡ i → cond (at == i) a b ≡ a
here_or at i a b same = ap (λ c. cond c a b) (eq-eqb at i same)

-- Choose `a` where `at` is `i`, and `b` where it is not. Where `at` is not `i`, the choice is `b`.
pub or_there : {X : Type 0} (at i : ℕ) (a b : X) → at ≢ i → cond (at == i) a b ≡ b
or_there at i a b apart = ap (λ c. cond c a b) (ne_eqb at i apart)

-- what is known of the word at `i` is true after an access at `at`: it is `u` where the access is at `i`, and as before where it is elsewhere
there_more : (word : Option ℕ) (at i u : ℕ) (ws ws' : List ℕ) → IsThere word i ws → (at ≡ i → slice_index ws' i ≡ u) → (at ≢ i → slice_index ws' i ≡ slice_index ws i) → IsThere (cond (at == i) (Some u) word) i ws'
there_more word at i u ws ws' known here other v is = elim (cases_eq at i) [
  | inl e ↦ here e ∙ same_Some u v (sym (here_or at i (Some u) word e) ∙ is)
  | inr ne ↦ other ne ∙ known v (sym (or_there at i (Some u) word ne) ∙ is)
]

-- the word noted last is the one that is there
noted_there : (accesses : List Note) (i : ℕ) (word : Option ℕ) (first now : List ℕ) → i < length first → IsThere word i first → NotesLead accesses first now → IsThere (word_noted word i accesses) i now
noted_there [] i word first now below known leads v is = ap (λ ws. slice_index ws i) leads ∙ known v is
noted_there ((false, at, u) ∷ accesses) i word first now below known leads v is =
    noted_there accesses i (cond (at == i) (Some u) word) first now below (there_more word at i u first first known (λ e. ap (slice_index first) (sym e) ∙ leads.0) (λ ne. refl)) leads.1 v is
noted_there ((true, at, u) ∷ accesses) i word first now below known leads v is =
    noted_there accesses i (cond (at == i) (Some u) word) (set first at u) now (subst (λ n. i < n) (sym (length-set first at u)) below)
    (there_more word at i u first (set first at u) known (λ e. ap (λ n. slice_index (set first n u) i) e ∙ get_or-set_same first i u 0 below) (λ ne. get_or-set_other first at i u 0 (λ e. ne (sym e)))) leads.1 v is

-- nothing is said of a word of which nothing is known
nothing_there : (i : ℕ) (ws : List ℕ) → IsThere None i ws
nothing_there i ws v is = absurd (none-some v is)

-- the accesses of a region tell the word noted last of a place of it
pub noted_tells : (region : ℕ) (accesses : List Note) (i v : ℕ) → i < region → word_noted None i accesses ≡ Some v → TellsWord region accesses i v
noted_tells region accesses i v below is first now long leads = noted_there accesses i None first now (subst (λ n. i < n) (sym long) below) (nothing_there i first) leads v is

-- the word noted last at address 0 is the place noted
pub noted_place : (accesses : List Note) (place v : ℕ) (word : Option ℕ) → ((w : ℕ) → word ≡ Some w → place ≡ w) → word_noted word 0 accesses ≡ Some v → place_noted place accesses ≡ v
noted_place [] place v word known is = known v is
noted_place ((s, at, u) ∷ accesses) place v word known is = noted_place accesses (cond (at == 0) u place) v (cond (at == 0) (Some u) word) (λ w e. by w (cases_eq at 0) e) is
  where
    by : (w : ℕ) → (at ≡ 0) ⊎ (at ≢ 0) → cond (at == 0) (Some u) word ≡ Some w → cond (at == 0) u place ≡ w
    by w (inl e) now = here_or at 0 u place e ∙ same_Some u w (sym (here_or at 0 (Some u) word e) ∙ now)
    by w (inr ne) now = or_there at 0 u place ne ∙ known w (sym (or_there at 0 (Some u) word ne) ∙ now)

-- lists that the notes lead to are equal where the notes agree
agree_lists : (known : Known) (n : ℕ) → AgreeTo known n → (first now from read : List ℕ) → length first ≡ n → length from ≡ n → NotesLead known.accesses first now → NotesLead (loads_of (loaded_of known.local.shared)) from read → now ≡ read
agree_lists known n agree first now from read long long' leads leads' =
    let loads = loads_of (loaded_of known.local.shared) in
    let count = leads_length known.accesses first now leads ∙ long in
    let count' = leads_length loads from read leads' ∙ long' in
    ext_get_or 0 now read (count ∙ sym count') (λ i below. (
    let small = subst (λ m. i < m) count below in
    let a = agree i small in
    noted_tells n known.accesses i a.0 small a.1 first now long leads ∙ sym (noted_tells n loads i a.0 small a.2 from read long' leads')))

-- where the notes of two replicas agree on all words, whatever fits them is equal
pub agree_equal : (lines : ℕ) (lawful : List ℕ → Type 0) (base : Base) (step : List ℕ → List ℕ → List ℕ × List ℕ) (known : Known) (n : ℕ) → n ≡ region_words lines → AgreeTo known n → AreEqual lines lawful base step known
agree_equal lines lawful base step known n is agree first now from read fits reads =
    agree_lists known n agree first now from read (fits.fits.origin.size.long ∙ sym is) (reads.fits.origin.size.long ∙ sym is) fits.fits.leads reads.fits.leads

-- The release of a shared right whose words were copied makes them what is noted of the replica held exclusively: they are a
-- full image, and they are there.
pub learns_copied : (instance : Instance) (r : ℕ) (known : Known) (word : ℕ) → r < 2 * instance.callers → shared_on known.local ≡ Some r → word ≡ step_word instance (BackOff r) known.local → AgreeTo known (length instance.base.words) →
    MayReleaseKnowing instance (BackOff r) known word (λ x. new_word instance (BackOff r) known.local x)
learns_copied instance r known word small on at agree words within locals law l of_caller shows noted traced sets own some =
    let state : State = record { words = words; locals = locals } in
    let plain = learns_shown instance (BackOff r) known words word (new_word instance (BackOff r) known.local (slice_index words word)) tt tt (small, inl on) at refl locals law l of_caller shows noted traced sets own some in
    let held = mapped (λ (x : HeldShared). x.replica) known.local.shared r on in
    let there = shared_there instance state law some known.local.number l of_caller held.0 (ap (λ (x : Local). x.shared) (sym shows) ∙ held.1) in
    let leads = subst (λ (o : Option HeldShared). NotesLead (loads_of (loaded_of o)) there.0 there.0) (sym held.1) there.2 in
    let t = plain.traced in
    let now : t.now ≡ there.0 = agree_lists known (length instance.base.words) agree t.first t.now there.0 there.0 t.origin.long there.1.long t.leads leads in
    record {
      guard = plain.guard;
      word_is = plain.word_is;
      new_is = plain.new_is;
      shows = plain.shows;
      notes = plain.notes;
      traced = record { first = there.0; now = there.0; origin = there.1; leads = leads; held = λ x has. sym now ∙ t.held x has };
      sets = record { noted = plain.sets.noted; kept = plain.sets.kept };
      timed = plain.timed;
      imaged = plain.imaged;
      fits = plain.fits;
    }

-- the times of an image are added where CUR was loaded
image_added : (instance : Instance) (known : Known) (l l' : Local) (after : Known) (b : Bool) → known.times.seen ≡ b → after.local.steps ≡ l'.steps → known.local ≡ shown l →
    (known.times.images ++ cond b (times_of instance known after ∷ []) [] ≡ known.times.images)
    ⊎ ((x : ImageTimes) × (known.times.images ++ cond b (times_of instance known after ∷ []) [] ≡ known.times.images ++ x ∷ []) × IsImageTaken instance.callers l l' known.times x)
image_added instance known l l' after true seen steps shows = inr (
  times_of instance known after,
  refl,
  record {
    seen = seen;
    begun = refl;
    ended = steps;
    place = ap (λ (x : Local). root_place_of instance.callers x.seen_cur) shows;
    durable = ap (λ (x : Local). root_place_of instance.callers x.raised) shows;
  },
)
image_added instance known l l' after false seen steps shows = inl (append-nil known.times.images)

-- The release of a shared right all of whose words were loaded makes these one image more that the caller took: they are a full image.
pub learns_taking : (instance : Instance) (r : ℕ) (image : List ℕ) (known : Known) (word : ℕ) → r < 2 * instance.callers → shared_on known.local ≡ Some r → word ≡ step_word instance (BackOff r) known.local →
    TellsWords known (length instance.base.words) image → IsImageLearned instance (BackOff r) image known word (λ x. new_word instance (BackOff r) known.local x)
learns_taking instance r image known word small on at tells words within locals law l of_caller shows noted traced sets own some =
    let state : State = record { words = words; locals = locals } in
    let plain = learns_shown instance (BackOff r) known words word (new_word instance (BackOff r) known.local (slice_index words word)) tt tt (small, inl on) at refl locals law l of_caller shows noted traced sets own some in
    let held = mapped (λ (x : HeldShared). x.replica) known.local.shared r on in
    let there = shared_there instance state law some known.local.number l of_caller held.0 (ap (λ (x : Local). x.shared) (sym shows) ∙ held.1) in
    let leads = subst (λ (o : Option HeldShared). NotesLead (loads_of (loaded_of o)) there.0 there.0) (sym held.1) there.2 in
    let n = length instance.base.words in
    let same : there.0 ≡ image = ext_get_or 0 there.0 image (there.1.long ∙ sym tells.long) (λ i below. (
    let within : i < n = subst (λ m. i < m) there.1.long below in
    noted_tells n (loads_of (loaded_of known.local.shared)) i (slice_index image i) within (tells.each i within) there.0 there.0 there.1.long leads)) in
    record {
      guard = plain.guard;
      word_is = plain.word_is;
      new_is = plain.new_is;
      shows = plain.shows;
      notes = plain.notes;
      traced = plain.traced;
      sets = record { noted = plain.sets.noted; kept = plain.sets.kept };
      timed = record {
        linked = plain.timed.linked;
        answered = plain.timed.answered;
        loaded = plain.timed.loaded;
        reads = plain.timed.reads;
        current = plain.timed.current;
        images = image_added instance known l (local_after instance (scene_of instance state) (BackOff r) l) (known_after instance (BackOff r) known (slice_index words word)) known.times.seen refl (ap (λ (x : Local). x.steps) plain.shows) shows;
      };
      imaged = inr (image, refl, subst (IsOrigin instance law.history) same there.1);
      fits = plain.fits;
    }
