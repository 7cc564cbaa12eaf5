-- A run by which a read is answered: four steps of a caller that holds no replica.
use Rattle.std.proofs.Common.{◌≡◌, ◌∙◌, ◌+◌, ◌*◌, ◌<◌, ◌==◌, inl, inr, ℕ, zero, suc, Bool, true, false, List, [], ◌∷◌, ◌++◌, Some, length, slice_index, ap, refl, sym, subst, arith}
use Rattle.std.proofs.lemmas.Bool.{eq-eqb, lt-ltb}
use Rattle.std.proofs.lemmas.List.{get_or-set_other, get_or-set_same}
use Rattle.std.proofs.lemmas.Nat.{mod_below}
use Rattle.std.specs.List.{Contains, slice_get}
use Rattle.std.specs.Prelude.{IsTrue, if◌then◌else◌}
use Rattle.core_reach.proofs.Settling.{settles}
use Rattle.core_reach.proofs.Steps.{event, keeps, made, makes, run_on, there}
use Rattle.core_reach.specs.Reaching.{ReachesRead, history_in}
use Rattle.cx_base.specs.Codes.{root_place_of, root_replica_of}
use Rattle.cx_base.specs.Memory.{Words}
use Rattle.cx_core.proofs.Locals.{slice_get-last}
use Rattle.cx_core.proofs.MergeLemmas.{history_is}
use Rattle.cx_core.proofs.Sums.{on_most, on_same, total_most, total_parts}
use Rattle.cx_core.specs.Events.{Guard, Makes}
use Rattle.cx_core.specs.Free.{HoldsNone}
use Rattle.cx_core.specs.Lawful.{Lawful}
use Rattle.cx_core.specs.LawfulLocks.{pin, total}
use Rattle.cx_core.specs.LawfulRegions.{vol_word}
use Rattle.cx_core.specs.Layout.{cur_at, lock_at}
use Rattle.cx_core.specs.LockEvents.{exclusive_mark, passing, shared_by}
use Rattle.cx_core.specs.Merge.{scene_of}
use Rattle.cx_core.specs.RegionEvents.{loaded_by}
use Rattle.cx_core.specs.Rights.{claims, downgraded_on, holds, is_on, shared_on, won_on}
use Rattle.cx_core.specs.RootEvents.{answers_below, loaded_cur, raised_by, reply_after, unanswered}
use Rattle.cx_core.specs.State.{Instance, State}
use Rattle.cx_core.specs.declared.entry.Entry.{Entry}
use Rattle.cx_core.specs.declared.kinds.Kind.{Kind}
use Rattle.cx_core.specs.declared.kinds.Kind.TheVariants.{LoadCur, LoadWord, Raise, TryShared}
use Rattle.cx_core.specs.declared.local.Local.{Local}
use Rattle.cx_core.specs.declared.local.SeenRead.{SeenRead}

module _ (instance : Instance) (caller : ℕ) where
  -- a replica that CUR pins is not held exclusively: its lock word is below an exclusive mark, since nobody holds it (`none`), and the other rights
  -- (`claimed`, `passed`) are few
  pinned_free : (s : State) → Lawful instance s → (r : ℕ) → r < 2 * instance.callers → pin instance.callers r (slice_index s.words cur_at) ≡ 1 → slice_index s.words (lock_at instance.callers r) < exclusive_mark
  pinned_free s law r small pinned =
      let word = law.locks.each r small in
      let parts = total_parts instance.callers r s.locals in
      let claimed = total_most (claims instance.callers r) 3 s.locals (λ l. omega (arith, on_most r (shared_on l), on_most r (downgraded_on l), on_most r (won_on instance.callers l))) in
      let passed = total_most (λ l. is_on r l.passer) 1 s.locals (λ l. on_most r l.passer) in
      let none : total (holds r) s.locals ≡ 0 = none_held (total (holds r) s.locals) word.alone in
      omega (arith, word.counted, parts, claimed, passed, none, pinned, law.shape.few, law.shape.count)
    where
      -- no caller holds the replica exclusively (`n` is their number), since the pin allows none
      none_held : (n : ℕ) → (0 < n → total (claims instance.callers r) s.locals + pin instance.callers r (slice_index s.words cur_at) ≡ 0) → n ≡ 0
      none_held zero alone = refl
      none_held (suc n) alone = (let all = alone (omega arith) in omega (arith, all, pinned))

-- a caller that has no right (`none`), with the local state `l` in the lawful state `s`, reads: `op` is an operation that only reads
module _ (instance : Instance) (s : State) (caller : ℕ) (l : Local) (op : List ℕ) (law : Lawful instance s) (at : slice_get s.locals caller ≡ Some l) (none : HoldsNone l) (some : 0 < length instance.base.words) (reads : IsTrue (instance.reads op)) (op_words : Words 144 op) where
  -- the number of callers
  abbrev callers : ℕ
  callers = instance.callers

  -- the code in CUR
  abbrev cur : ℕ
  cur = slice_index s.words cur_at

  -- the replica that the code in CUR names
  abbrev r : ℕ
  r = root_replica_of callers cur

  -- the code in CUR names one of the `2 * callers` replicas
  small : r < 2 * callers
  small = mod_below cur (2 * callers) (omega (arith, law.shape.some))

  -- the caller's local state after the load of CUR
  abbrev l1 : Local
  l1 = loaded_cur callers l cur

  -- the state after the load of CUR
  abbrev s1 : State
  s1 = made instance caller s l LoadCur

  -- the load of CUR is allowed, and leads from `s` to `s1`
  makes1 : Makes instance (event instance caller LoadCur) s s1
  makes1 = makes instance caller s l LoadCur at tt

  -- the state after the load of CUR is lawful
  law1 : Lawful instance s1
  law1 = keeps instance caller s l LoadCur law makes1

  -- after the load CUR has the same code
  cur1 : slice_index s1.words cur_at ≡ cur
  cur1 = get_or-set_same s.words cur_at cur 0 (omega (arith, law.shape.long))

  -- the lock word of the replica that CUR names, before the replica is taken shared
  abbrev word : ℕ
  word = slice_index s1.words (lock_at callers r)

  -- nobody holds the replica exclusively, since CUR pins it
  free : word < exclusive_mark
  free = pinned_free instance caller s1 law1 r small (ap (pin callers r) cur1 ∙ on_same r r refl)

  -- the state after the replica is taken shared
  abbrev s2 : State
  s2 = made instance caller s1 l1 (TryShared r)

  -- the caller's local state after the replica is taken shared
  abbrev l2 : Local
  l2 = shared_by r l1 word

  -- the caller may try to take the replica shared: it has no right yet
  can_try : Guard instance (scene_of instance s1) (TryShared r) l1
  can_try = rw (none.exclusive, none.shared, none.passer, none.downgraded, none.won) (small, cc, cc, omega arith, refl)

  -- the try to take the replica shared leads from `s1` to `s2`
  makes2 : Makes instance (event instance caller (TryShared r)) s1 s2
  makes2 = makes instance caller s1 l1 (TryShared r) (there instance caller s l LoadCur at) can_try

  -- the state after the replica is taken shared is lawful
  law2 : Lawful instance s2
  law2 = keeps instance caller s1 l1 (TryShared r) law1 makes2

  -- the try succeeds: the caller's local state after it is `l2`, in which it holds the replica shared
  there2 : slice_get s2.locals caller ≡ Some l2
  there2 = there instance caller s1 l1 (TryShared r) (there instance caller s l LoadCur at) ∙ ap (λ b. Some (if b then shared_by r l1 word else passing callers r l1 word)) (lt-ltb word exclusive_mark free)

  -- after the try CUR has the same code
  cur2 : slice_index s2.words cur_at ≡ cur
  cur2 = get_or-set_other s1.words (lock_at callers r) cur_at _ 0 (λ e. absurd (omega (arith, e))) ∙ cur1

  -- the state after the load of the replica's place word
  abbrev s3 : State
  s3 = made instance caller s2 l2 (LoadWord r 0 false)

  -- the place word of the replica
  abbrev found : ℕ
  found = vol_word instance s2.words r 0

  -- the caller's local state after the load of the place
  abbrev l3 : Local
  l3 = loaded_by r 0 false l2 found

  -- the place word is the place of the code
  placed : found ≡ root_place_of callers cur
  placed = subst (λ c. vol_word instance s2.words (root_replica_of callers c) 0 ≡ root_place_of callers c) cur2 law2.root.current

  -- the load of the replica's place word leads from `s2` to `s3`
  makes3 : Makes instance (event instance caller (LoadWord r 0 false)) s2 s3
  makes3 = makes instance caller s2 l2 (LoadWord r 0 false) there2 ((small, some, inr refl), λ no. cc)

  -- the caller's local state after the load of the place word is `l3`
  there3 : slice_get s3.locals caller ≡ Some l3
  there3 = there instance caller s2 l2 (LoadWord r 0 false) there2

  -- the raise of DUR by the code of CUR, which answers the read
  abbrev kind4 : Kind
  kind4 = Raise cur (Some op)

  -- the state after the raise
  abbrev s4 : State
  s4 = made instance caller s3 l3 kind4

  -- what was loaded: address 0, and the word found there
  abbrev here : ℕ × ℕ
  here = (0, found)

  -- what the raise needs to have been loaded: address 0, and the place of the code in CUR
  abbrev wanted : ℕ × ℕ
  wanted = (0, root_place_of callers cur)

  -- what was loaded is what the raise needs
  same_pair : here ≡ wanted
  same_pair = λ i. (0, placed i)

  -- where the flag `b` is set, the list of what was loaded has what the raise needs
  shows : (b : Bool) → b ≡ true → Contains {X = ℕ × ℕ} (if b then here ∷ [] else []) wanted
  shows b is = subst (λ c. Contains {X = ℕ × ℕ} (if c then here ∷ [] else []) wanted) (sym is) (subst (λ w. Contains {X = ℕ × ℕ} (here ∷ []) w) same_pair (0, omega arith, refl))

  -- the raise of DUR, which answers the read, is allowed, and leads from `s3` to `s4`
  makes4 : Makes instance (event instance caller kind4) s3 s4
  makes4 = makes instance caller s3 l3 kind4 there3 (inl refl, (reads, refl, refl, (refl, shows (r == r) (eq-eqb r r refl)), op_words))

  -- the state after the raise is lawful
  law4 : Lawful instance s4
  law4 = keeps instance caller s3 l3 kind4 (keeps instance caller s2 l2 (LoadWord r 0 false) law2 makes3) makes4

  -- the caller's local state after the raise
  abbrev l4 : Local
  l4 = raised_by instance (scene_of instance s3) cur (Some op) l3

  -- the caller's local state after the raise is `l4`
  there4 : slice_get s4.locals caller ≡ Some l4
  there4 = there instance caller s3 l3 kind4 there3

  -- the read as it was answered
  abbrev read : SeenRead
  read = record { place = root_place_of callers cur; op = op; reply = reply_after instance (history_in instance s3) (root_place_of callers cur) op; before = length l3.answered + length (answers_below instance (history_in instance s3) (root_place_of callers cur) (unanswered l3)) }

  -- the reply is that of the history that the state after it has: the invariant says so of the caller's last acknowledged read
  replied : read.reply ≡ reply_after instance (history_in instance s4) read.place op
  replied =
      ((law4.answers.each caller l4 there4).reads (length l.seen_reads) read (slice_get-last l.seen_reads read)).reply
      ∙ ap (λ (h : List Entry). reply_after instance h read.place op) (sym (history_is instance.base.place law4.history s4.locals law4.tickets.merged))

  -- the load of CUR, the try, the load of the place and the raise lead to a state in which the read is answered
  reads_at_rest : ReachesRead instance s caller l op
  reads_at_rest = record {
    events = event instance caller LoadCur ∷ event instance caller (TryShared r) ∷ event instance caller (LoadWord r 0 false) ∷ event instance caller kind4 ∷ [];
    to = s4;
    ran = (s1, makes1, (s2, makes2, (s3, makes3, (s4, makes4, refl))));
    after = l4;
    of_caller = there4;
    read = read;
    op_is = refl;
    reply = replied;
    reads = refl;
  }

-- whatever a caller holds, some run answers a read of it: the run `first` puts down what it holds, and `then_` reads
pub reaches_read : (instance : Instance) (s : State) (caller : ℕ) (l : Local) (op : List ℕ) → Lawful instance s → slice_get s.locals caller ≡ Some l → 0 < length instance.base.words →
    IsTrue (instance.reads op) → Words 144 op → ReachesRead instance s caller l op
reaches_read instance s caller l op law at some reads op_words =
    let history = history_in instance s in
    let first = settles instance caller history s l (record { law = law; at = at; of_history = refl }) some in
    let then_ = reads_at_rest instance first.to caller first.after op first.here.law first.here.at first.holds.rests some reads op_words in
    record {
      events = first.events ++ then_.events;
      to = then_.to;
      ran = run_on instance s first.to then_.to first.events then_.events first.ran then_.ran;
      after = then_.after;
      of_caller = then_.of_caller;
      read = then_.read;
      op_is = then_.op_is;
      reply = then_.reply;
      reads = then_.reads ∙ ap (λ (xs : List SeenRead). xs ++ then_.read ∷ []) first.holds.same.reads;
    }
