-- One life more behind those that were lived.
use Rattle.std.proofs.Common.{◌≡◌, ◌+◌, ◌<◌, ◌≤◌, ℕ, Bool, List, [], ◌∷◌, ◌++◌, length, take, drop, get_or, refl, sym, ap, subst, ◌∙◌, arith, Option, Some, None}
use Rattle.std.proofs.lemmas.List.{length-append, take-append-drop}
use Rattle.std.proofs.lemmas.List.Sums.{sum_by-append}
use Rattle.std.proofs.lemmas.Option.{none-some, same_Some}
use Rattle.cx_core.proofs.HistoryLemmas.{ObjectLaws}
use Rattle.cx_core.specs.Base.{LawfulBase}
use Rattle.cx_core.specs.declared.entry.Base.{Base}
use Rattle.cx_core.specs.declared.entry.Image.{Image}
use Rattle.core_order.proofs.Composing.{all_stand, ends_as}
use Rattle.core_order.specs.CrashedLives.{AreCrashedLives, IsCrashedLife, next_base}
use Rattle.table_invariant.specs.Ending.{Ending}
use Rattle.life_records.specs.Begins.{Begun, begun_after, nothing_begun}
use Rattle.life_records.specs.Lives.{AreLivesFrom, IsLegalLife}
use Rattle.life_records.specs.Scripts.{command_count}
use Rattle.life_records.specs.Records.{Life, LifeRecord, Meaning}
use Rattle.cx_lives.specs.Lives.{AreOneObject, AreTold, AreToldFrom, BeginsLife, HasLived, HaveEnded, HaveLived, IsLifeAmong, IsNextBase, LifeEnd, begun_by, last_image, last_next, life_run, runs_of}
use Rattle.cx_lives.specs.declared.lives.Lived.{Lived}
use Rattle.cx_lives.specs.declared.lives.Ran.{Ran}
use Rattle.cx_lives.proofs.Taking.{take_next}

module _ {Op Reply Store : Type 0} (m : Meaning Op Reply Store) (life : Life Op) (report : LifeRecord Reply) where
  pub legal_then : (begun : Begun Store) (lives : List (Life Op)) (records : List (LifeRecord Reply)) → AreLivesFrom m begun.place begun.store lives records
      → IsLegalLife m (begun_by m begun lives records).place (begun_by m begun lives records).store life report
      → AreLivesFrom m begun.place begun.store (lives ++ life ∷ []) (records ++ report ∷ [])
  legal_then begun [] [] are is = (is, tt)
  legal_then begun (one ∷ lives) (first ∷ records) are is = (are.0, legal_then (begun_after m begun one first.journal first.kept) lives records are.1 is)
  legal_then begun _ _ are is = absurd are

  pub begun_then : (begun : Begun Store) (lives : List (Life Op)) (records : List (LifeRecord Reply)) → AreLivesFrom m begun.place begun.store lives records
      → begun_by m begun (lives ++ life ∷ []) (records ++ report ∷ []) ≡ begun_after m (begun_by m begun lives records) life report.journal report.kept
  begun_then begun [] [] are = refl
  begun_then begun (one ∷ lives) (first ∷ records) are = begun_then (begun_after m begun one first.journal first.kept) lives records are.1
  begun_then begun _ _ are = absurd are

module _ {Op : Type 0} where
  pub count_then : (lives : List (Life Op)) (life : Life Op) → command_count (lives ++ life ∷ []) ≡ command_count lives + length life.commands
  count_then lives life =
      let alone : command_count (life ∷ []) ≡ length life.commands = (let none : 0 + length life.commands ≡ length life.commands = omega arith in none) in
      sum_by-append (λ (l : Life Op). length l.commands) lives (life ∷ []) ∙ ap (λ n. command_count lives + n) alone

-- the base with which a life behind these would begin
abbrev base_behind : Base → List LifeEnd → Base
base_behind base [] = base
base_behind base (end_ ∷ ends) = base_behind end_.next ends

next_behind : (base : Base) (ends : List LifeEnd) → last_next (Some base) ends ≡ Some (base_behind base ends)
next_behind base [] = refl
next_behind base (end_ ∷ ends) = next_behind end_.next ends

image_more : (so_far : Option Image) (ends : List LifeEnd) (end_ : LifeEnd) → Some end_.image ≡ last_image so_far (ends ++ end_ ∷ [])
image_more so_far [] end_ = refl
image_more so_far (one ∷ ends) end_ = image_more (Some one.image) ends end_

next_more : (so_far : Option Base) (ends : List LifeEnd) (end_ : LifeEnd) → Some end_.next ≡ last_next so_far (ends ++ end_ ∷ [])
next_more so_far [] end_ = refl
next_more so_far (one ∷ ends) end_ = next_more (Some one.next) ends end_

-- the base with which one life more begins, behind these lives
abbrev pub IsLast : {Op Reply Store : Type 0} → Meaning Op Reply Store → ℕ → (List ℕ → Type 0) → List (LifeRecord Reply) → List (Life Op) → Base → Type 0
IsLast m lines is_lawful records lives base = BeginsLife m lines is_lawful (begun_by m (nothing_begun m) lives records) base × (base.place ≤ command_count lives)

module _ {Op Reply Store : Type 0} (m : Meaning Op Reply Store) (lines version : ℕ) (is_lawful : List ℕ → Type 0) (step : List ℕ → List ℕ → List ℕ × List ℕ) (reads : List ℕ → Bool) where
  -- one life more is told
  one_more_is_told : (life : Life Op) (report : LifeRecord Reply) (trail : Ending) (end_ : LifeEnd) (begun : Begun Store) (base : Base) (lives : List (Life Op)) (records : List (LifeRecord Reply)) (trails : List Ending) (ends : List LifeEnd)
      → AreToldFrom m lines version is_lawful step reads begun base lives records trails ends
      → IsLifeAmong m lines version is_lawful step reads (begun_by m begun lives records) (base_behind base ends) life report trail end_.image end_.next
      → AreToldFrom m lines version is_lawful step reads begun base (lives ++ life ∷ []) (records ++ report ∷ []) (trails ++ trail ∷ []) (ends ++ end_ ∷ [])
  one_more_is_told life report trail end_ begun base [] [] [] [] are among = (among, tt)
  one_more_is_told life report trail end_ begun base (one ∷ lives) (first ∷ records) (t ∷ trails) (e ∷ ends) are among =
      (are.0, one_more_is_told life report trail end_ (begun_after m begun one first.journal first.kept) e.next lives records trails ends are.1 among)
  one_more_is_told life report trail end_ begun base _ _ _ _ are among = absurd are

  -- the runs of lives that are told are lives over crashes
  crashed_of : (begun : Begun Store) (base : Base) (lives : List (Life Op)) (records : List (LifeRecord Reply)) (trails : List Ending) (ends : List LifeEnd) (are : AreToldFrom m lines version is_lawful step reads begun base lives records trails ends)
      → AreCrashedLives step reads base (runs_of m lines version is_lawful step reads begun base lives records trails ends are)
  crashed_of begun base [] [] [] [] are = tt
  crashed_of begun base (life ∷ lives) (report ∷ records) (trail ∷ trails) (end_ ∷ ends) are =
      let one = are.0 in
      let run = life_run one.witness.order end_.image in
      let rest = crashed_of (begun_after m begun life report.journal report.kept) end_.next lives records trails ends are.1 in
      let runs = runs_of m lines version is_lawful step reads (begun_after m begun life report.journal report.kept) end_.next lives records trails ends are.1 in
      (subst (λ b. IsCrashedLife step reads b run) one.began one.crashed, subst (λ b. AreCrashedLives step reads b runs) (one.next_is ∙ ap (λ b. next_base step reads b run) one.began) rest)
  crashed_of begun base _ _ _ _ are = absurd are

  -- the runs of all lives together are those of one durable object
  one_object : ObjectLaws lines is_lawful step → (first : Base) → LawfulBase lines is_lawful first → (lives : List (Life Op)) (records : List (LifeRecord Reply)) (trails : List Ending) (ends : List LifeEnd)
      (each : AreToldFrom m lines version is_lawful step reads (nothing_begun m) first lives records trails ends)
      → AreOneObject lines is_lawful step reads first (runs_of m lines version is_lawful step reads (nothing_begun m) first lives records trails ends each)
  one_object laws first based lives records trails ends each =
      let runs = runs_of m lines version is_lawful step reads (nothing_begun m) first lives records trails ends each in
      let are = crashed_of (nothing_begun m) first lives records trails ends each in
      record {
        crashed = are;
        stand = all_stand lines is_lawful step reads laws first runs first [] based (omega arith) (omega arith) refl are;
        ends = ends_as lines is_lawful step reads laws runs first based are;
      }

  -- where no base goes on, no life was told, and any base may be the first
  start_anew : (begun : Begun Store) (first base : Base) (lives : List (Life Op)) (records : List (LifeRecord Reply)) (trails : List Ending) (ends : List LifeEnd) → AreToldFrom m lines version is_lawful step reads begun first lives records trails ends
      → None ≡ last_next None ends → AreToldFrom m lines version is_lawful step reads begun base lives records trails ends × (base ≡ base_behind base ends)
  start_anew begun first base [] [] [] [] are none = (tt, refl)
  start_anew begun first base (life ∷ lives) (report ∷ records) (trail ∷ trails) (end_ ∷ ends) are none = absurd (none-some (base_behind end_.next ends) (none ∙ next_behind end_.next ends))
  start_anew begun first base _ _ _ _ are none = absurd are

  -- where a base goes on, it is the base behind the lives with these ends
  goes_on : (first before : Base) (ends : List LifeEnd) → Some before ≡ last_next None ends → before ≡ base_behind first ends
  goes_on first before [] is = absurd (none-some before (sym is))
  goes_on first before (end_ ∷ ends) is = same_Some before (base_behind end_.next ends) (is ∙ next_behind end_.next ends)

  -- lives, with a first base that begins with nothing, behind which this base is
  record Started (lives : List (Life Op)) (records : List (LifeRecord Reply)) (trails : List Ending) (ends : List LifeEnd) (base : Base) : Type 0 where
    first : Base
    begins : BeginsLife m lines is_lawful (nothing_begun m) first × (first.place ≡ 0)
    each : AreToldFrom m lines version is_lawful step reads (nothing_begun m) first lives records trails ends
    behind : base ≡ base_behind first ends

  started : (lives : List (Life Op)) (records : List (LifeRecord Reply)) (trails : List Ending) (witness : AreTold m lines version is_lawful step reads lives records trails) (image : Option Image) (before : Option Base) (base : Base)
      → before ≡ last_next None witness.ends → HaveEnded m lines version is_lawful (begun_by m (nothing_begun m) lives records) lives image before → IsNextBase m lines is_lawful before base → Started lives records trails witness.ends base
  started lives records trails witness None None base is ended next =
      let anew = start_anew (nothing_begun m) witness.first base lives records trails witness.ends witness.each is in
      record { first = base; begins = next; each = anew.0; behind = anew.1 }
  started lives records trails witness (Some image) (Some before) base is ended next =
      record { first = witness.first; begins = witness.begins ended.0; each = witness.each; behind = next ∙ goes_on witness.first before witness.ends is }
  started lives records trails witness _ _ base is ended next = absurd ended

  -- the lives are lived with one more
  pub lived_then : ObjectLaws lines is_lawful step → (lives : List (Life Op)) (life : Life Op) (lived : Lived Reply) (base : Base) (ran : Ran Reply) → HaveLived m lines version is_lawful step reads lives lived
      → IsNextBase m lines is_lawful lived.base base → IsLast m lines is_lawful lived.records lives base → HasLived m lines version is_lawful step reads life (begun_by m (nothing_begun m) lives lived.records) base ran
      → HaveLived m lines version is_lawful step reads (lives ++ life ∷ []) (record { records = lived.records ++ ran.report ∷ []; trails = lived.trails ++ ran.trail ∷ []; image = Some ran.image; base = Some ran.next })
  lived_then laws lives life lived base ran have is_next last has =
      let begun : Begun Store = begun_by m (nothing_begun m) lives lived.records in
      let next : begun_by m (nothing_begun m) (lives ++ life ∷ []) (lived.records ++ ran.report ∷ []) ≡ begun_after m begun life ran.report.journal ran.report.kept =
      begun_then m life ran.report (nothing_begun m) lives lived.records have.legal in
      let long : 0 < length (lives ++ life ∷ []) = omega (arith, length-append lives (life ∷ [])) in
      let s : Started lives lived.records lived.trails have.witness.ends base = started lives lived.records lived.trails have.witness lived.image lived.base base have.base_is have.ends is_next in
      let end_ : LifeEnd = record { image = ran.image; next = ran.next } in
      let among = subst (λ (b : Base). IsLifeAmong m lines version is_lawful step reads begun b life ran.report ran.trail ran.image ran.next) s.behind has.among in
      let each = one_more_is_told life ran.report ran.trail end_ (nothing_begun m) s.first lives lived.records lived.trails have.witness.ends s.each among in
      record {
        legal = legal_then m life ran.report (nothing_begun m) lives lived.records have.legal has.legal;
        witness = record {
          first = s.first;
          begins = λ some. s.begins;
          ends = have.witness.ends ++ end_ ∷ [];
          each = each;
          one = λ some. one_object laws s.first s.begins.0.lawful (lives ++ life ∷ []) (lived.records ++ ran.report ∷ []) (lived.trails ++ ran.trail ∷ []) (have.witness.ends ++ end_ ∷ []) each;
        };
        image_is = image_more None have.witness.ends end_;
        base_is = next_more None have.witness.ends end_;
        ends = (long, has.among.recovered, subst (λ (b : Begun Store). BeginsLife m lines is_lawful b ran.next) (sym next) has.next, omega (arith, has.few, last.1, count_then lives life));
      }

  -- before the first life
  pub none_lived : HaveLived m lines version is_lawful step reads [] (record { records = []; trails = []; image = None; base = None })
  none_lived = record {
    legal = tt;
    witness = record { first = record { place = 0; words = [] }; begins = λ some. absurd (omega (arith, some)); ends = []; each = tt; one = λ some. absurd (omega (arith, some)) };
    image_is = refl;
    base_is = refl;
    ends = refl;
  }

-- the base of a next life is one with which one life more begins, also before the first life
module _ {Op Reply Store : Type 0} where
  pub last_base : (m : Meaning Op Reply Store) (lines version : ℕ) (is_lawful : List ℕ → Type 0) (lives : List (Life Op)) (records : List (LifeRecord Reply)) (image : Option Image) (before : Option Base) (base : Base)
      → HaveEnded m lines version is_lawful (begun_by m (nothing_begun m) lives records) lives image before → IsNextBase m lines is_lawful before base → IsLast m lines is_lawful records lives base
  last_base m lines version is_lawful lives records None None base ended next =
      (subst (λ (ls : List (Life Op)). BeginsLife m lines is_lawful (begun_by m (nothing_begun m) ls records) base) (sym ended) next.0, omega (arith, next.1))
  last_base m lines version is_lawful lives records (Some image) (Some before) base ended next =
      subst (λ (b : Base). IsLast m lines is_lawful records lives b) (sym next) (ended.2, ended.3)
  last_base m lines version is_lawful lives records _ _ base ended next = absurd ended

-- the commands of the lives up to one are some of all
module _ {Op : Type 0} where
  pub count_taken : (lives : List (Life Op)) (i : ℕ) (life : Life Op) → i < length lives → life ≡ get_or lives i life → command_count (take i lives) + length life.commands ≤ command_count lives
  count_taken lives i life within is =
      let parts : command_count (take (i + 1) lives ++ drop (i + 1) lives) ≡ command_count (take (i + 1) lives) + command_count (drop (i + 1) lives) =
      sum_by-append (λ (l : Life Op). length l.commands) (take (i + 1) lives) (drop (i + 1) lives) in
      let all : command_count lives ≡ command_count (take (i + 1) lives ++ drop (i + 1) lives) = ap command_count (sym (take-append-drop (i + 1) lives)) in
      let here : command_count (take (i + 1) lives) ≡ command_count (take i lives) + length life.commands = ap command_count (take_next lives i life within is) ∙ count_then (take i lives) life in
      omega (arith, parts, all, here)
