-- The chain of codes, read off the wins that are not retired.
use Rattle.std.proofs.Common.{◌≡◌, ◌≢◌, ◌+◌, ◌<◌, ◌≤◌, ◌⊎◌, inl, inr, ℕ, zero, suc, List, [], ◌∷◌, ◌++◌, length, map, slice_index, refl, ap, sym, subst, ◌∙◌, arith, Option, Some, None, append_assoc}
use Rattle.std.proofs.lemmas.List.{append-nil}
use Rattle.std.proofs.lemmas.List.Elements.{Contains-append_cases, Contains-append_left, Contains-append_right}
use Rattle.std.proofs.lemmas.Option.{none-some, same_Some}
use Rattle.std.specs.List.{Contains, remove, slice_get}
use Rattle.std.specs.Option.{option_to_list}
use Rattle.cx_core.specs.declared.local.Local.{Local}
use Rattle.cx_core.specs.declared.local.WonCode.{WonCode}
use Rattle.cx_core.specs.Chain.{HasWon, Leads}
use Rattle.cx_core.specs.LawfulRoot.{Root}
use Rattle.cx_core.specs.Shown.{shown}
use Rattle.cx_core.specs.State.{Instance}
use Rattle.cx_core.proofs.HeldLists.{contains_cases, contains_first, contains_rest}
use Rattle.cx_core.proofs.RootCodes.{code_up}
use Rattle.caller_cache.specs.Wins.{IsWinTaken, IsWayBy, LeadsBy, wins_of}

-- an item that was taken out of a list, and those that stay
pub removed_keeps : {X : Type 0} (xs : List X) (i : ℕ) (y x : X) → slice_get xs i ≡ Some y → Contains xs x → (y ≡ x) ⊎ Contains (remove xs i) x
removed_keeps [] i y x at there = absurd (none-some y at)
removed_keeps (z ∷ zs) zero y x at there = elim (contains_cases z zs x there) [ inl e ↦ inl (sym (same_Some z y at) ∙ e) | inr a ↦ inr a ]
removed_keeps (z ∷ zs) (suc i) y x at there =
    elim (contains_cases z zs x there) [
      | inl e ↦ inr (contains_first z (remove zs i) x e)
      | inr a ↦ elim (removed_keeps zs i y x at a) [ inl e ↦ inl e | inr b ↦ inr (contains_rest z (remove zs i) x b) ]
    ]

-- an item `x` of a list without its item at `i` is an item of the list
pub removed_among : {X : Type 0} (xs : List X) (i : ℕ) (y x : X) → slice_get xs i ≡ Some y → Contains (remove xs i) x → Contains xs x
removed_among [] i y x at there = absurd (none-some y at)
removed_among (z ∷ zs) zero y x at there = contains_rest z zs x there
removed_among (z ∷ zs) (suc i) y x at there =
    elim (contains_cases z (remove zs i) x there) [
      | inl e ↦ contains_first z zs x e
      | inr a ↦ contains_rest z zs x (removed_among zs i y x at a)
    ]

-- an item at an index is in the list, and an item of the list has an index
pub item_among : {X : Type 0} (xs : List X) (i : ℕ) (x : X) → slice_get xs i ≡ Some x → Contains xs x
item_among [] i x at = absurd (none-some x at)
item_among (z ∷ zs) zero x at = contains_first z zs x (same_Some z x at)
item_among (z ∷ zs) (suc i) x at = contains_rest z zs x (item_among zs i x at)

pub among_item : {X : Type 0} (xs : List X) (x : X) → Contains xs x → (i : ℕ) × (i < length xs) × (slice_get xs i ≡ Some x)
among_item [] x there = (let below : there.0 < 0 = there.1 in absurd (omega arith))
among_item (z ∷ zs) x there =
    elim (contains_cases z zs x there) [
      | inl e ↦ (0, omega arith, ap (λ y. Some y) e)
      | inr a ↦ (let r = among_item zs x a in (suc r.0, (let below = r.1 in omega arith), r.2))
    ]

-- a win that was found is taken out
pub taken_out : (wins : List WonCode) (i before : ℕ) (w : WonCode) (new : List WonCode) → slice_get wins i ≡ Some w → w.before ≡ before → new ≡ remove wins i → length new + 1 ≡ length wins → IsWinTaken before w.code wins new
taken_out wins i before w new at over is fewer = record {
  among = subst (λ n. Contains wins (record { code = w.code; before = n })) over (item_among wins i w at);
  fewer = fewer;
  others = λ v there apart. elim (removed_keeps wins i w v at there) [
    | inl e ↦ absurd (apart (ap (λ (x : WonCode). x.before) (sym e) ∙ over))
    | inr a ↦ subst (λ ws. Contains ws v) (sym is) a
  ];
  still = λ v there. removed_among wins i w v at (subst (λ ws. Contains ws v) is there);
}

-- How far the codes go, where wins lead from a code by those above to another: the rest leads on by wins that are all left.
pub record Goes (all left : List WonCode) (from : ℕ) (above : List ℕ) (to code : ℕ) (codes : List ℕ) : Type 0 where
  pub rest : List ℕ
  pub whole : codes ++ rest ≡ from ∷ above
  pub leads : LeadsBy all code rest to
  pub ahead : (w : WonCode) → Contains all w → code ≤ w.before → Contains left w
  pub only : (w : WonCode) → Contains left w → Contains all w

-- one code more
module _ (all left left' : List WonCode) (from : ℕ) (above : List ℕ) (to code next : ℕ) (codes : List ℕ) (way : IsWayBy all from above to) (taken : IsWinTaken code next left left') where
  goes_by : (rest : List ℕ) → codes ++ rest ≡ from ∷ above → LeadsBy all code rest to → ((w : WonCode) → Contains all w → code ≤ w.before → Contains left w) →
      ((w : WonCode) → Contains left w → Contains all w) → Goes all left' from above to next (codes ++ next ∷ [])
  goes_by [] whole leads ahead only = absurd (way.ends (record { code = next; before = code }) (only _ taken.among) leads)
  goes_by (x ∷ xs) whole leads ahead only =
      let up = leads.0 in
      let e : x ≡ next = way.apart (record { code = x; before = code }) (record { code = next; before = code }) leads.1 (only _ taken.among) refl in
      record {
        rest = xs;
        whole = append_assoc codes (next ∷ []) xs ∙ ap (λ n. codes ++ n ∷ xs) (sym e) ∙ whole;
        leads = subst (λ n. LeadsBy all n xs to) e leads.2;
        ahead = λ w there le. taken.others w (ahead w there (omega arith)) (λ same. omega (arith, le, same, up, e));
        only = λ w there. only w (taken.still w there);
      }

  pub goes_on : Goes all left from above to code codes → Goes all left' from above to next (codes ++ next ∷ [])
  goes_on goes = goes_by goes.rest goes.whole goes.leads goes.ahead goes.only

-- where no win is left over the last code, it is the end
goes_no_more : (all left : List WonCode) (from : ℕ) (above : List ℕ) (to code : ℕ) (codes rest : List ℕ) → codes ++ rest ≡ from ∷ above → LeadsBy all code rest to →
    ((w : WonCode) → Contains all w → code ≤ w.before → Contains left w) → ((w : WonCode) → Contains left w → w.before ≢ code) → codes ≡ from ∷ above
goes_no_more all left from above to code codes [] whole leads ahead none = sym (append-nil codes) ∙ whole
goes_no_more all left from above to code codes (x ∷ xs) whole leads ahead none = absurd (none (record { code = x; before = code }) (ahead _ leads.1 (omega arith)) refl)

pub goes_to_the_end : (all left : List WonCode) (from : ℕ) (above : List ℕ) (to code : ℕ) (codes : List ℕ) → Goes all left from above to code codes →
    ((w : WonCode) → Contains left w → w.before ≢ code) → codes ≡ from ∷ above
goes_to_the_end all left from above to code codes goes none = goes_no_more all left from above to code codes goes.rest goes.whole goes.leads goes.ahead none

-- the wins of callers, one caller more
pub wins_append : (ks ls : List Local) → wins_of (ks ++ ls) ≡ wins_of ks ++ wins_of ls
wins_append [] ls = refl
wins_append (k ∷ ks) ls = ap (λ ws. option_to_list k.won ++ ws) (wins_append ks ls) ∙ sym (append_assoc (option_to_list k.won) (wins_of ks) (wins_of ls))

pub wins_shown : (ls : List Local) → wins_of (map shown ls) ≡ wins_of ls
wins_shown [] = refl
wins_shown (l ∷ ls) = ap (λ ws. option_to_list l.won ++ ws) (wins_shown ls)

pub no_win : (o : Option WonCode) → ((w : WonCode) → o ≡ Some w → ⊥) → o ≡ None
no_win None none = refl
no_win (Some w) none = absurd (none w refl)

option_among : (o : Option WonCode) (w : WonCode) → Contains (option_to_list o) w → o ≡ Some w
option_among None w there = (let below : there.0 < 0 = there.1 in absurd (omega arith))
option_among (Some v) w there = elim (contains_cases v [] w there) [ inl e ↦ ap (λ x. Some x) e | inr a ↦ (let below : a.0 < 0 = a.1 in absurd (omega arith)) ]

-- a win is a caller's, and each win of a caller is among them
pub wins_among : (ls : List Local) (w : WonCode) → Contains (wins_of ls) w → HasWon ls w.before w.code
wins_among [] w there = (let below : there.0 < 0 = there.1 in absurd (omega arith))
wins_among (l ∷ ls) w there =
    elim (Contains-append_cases (option_to_list l.won) (wins_of ls) w there) [
      | inl here ↦ record { caller = 0; local = l; of_caller = refl; won = option_among l.won w here }
      | inr later ↦ (let r = wins_among ls w later in record { caller = suc r.caller; local = r.local; of_caller = r.of_caller; won = r.won })
    ]

-- the win `w` of the caller `c` is among the wins of all callers
won_at : (ls : List Local) (c : ℕ) (l : Local) (w : WonCode) → slice_get ls c ≡ Some l → l.won ≡ Some w → Contains (wins_of ls) w
won_at [] c l w at won = absurd (none-some l at)
won_at (x ∷ ls) zero l w at won =
    let same : x.won ≡ Some w = ap (λ (y : Local). y.won) (same_Some x l at) ∙ won in
    Contains-append_left (option_to_list x.won) (wins_of ls) w (subst (λ o. Contains (option_to_list o) w) (sym same) (contains_first w [] w refl))
won_at (x ∷ ls) (suc c) l w at won = Contains-append_right (option_to_list x.won) (wins_of ls) w (won_at ls c l w at won)

leads_by : (ls : List Local) (from : ℕ) (codes : List ℕ) (to : ℕ) → Leads ls from codes to → LeadsBy (wins_of ls) from codes to
leads_by ls from [] to leads = leads
leads_by ls from (code ∷ codes) to leads = (let w = leads.1 in (leads.0, won_at ls w.caller w.local _ w.of_caller w.won, leads_by ls code codes to leads.2))

-- where a caller has a local state, a seat shows that without the words of the replica held exclusively
shown_at : (ls : List Local) (c : ℕ) (l : Local) → slice_get ls c ≡ Some l → slice_get (map shown ls) c ≡ Some (shown l)
shown_at [] c l at = absurd (none-some l at)
shown_at (x ∷ ls) zero l at = ap (λ (y : Local). Some (shown y)) (same_Some x l at)
shown_at (x ∷ ls) (suc c) l at = shown_at ls c l at

pub leads_shown : (ls : List Local) (from : ℕ) (codes : List ℕ) (to : ℕ) → Leads ls from codes to → Leads (map shown ls) from codes to
leads_shown ls from [] to leads = leads
leads_shown ls from (code ∷ codes) to leads =
    let w = leads.1 in
    (leads.0, record { caller = w.caller; local = shown w.local; of_caller = shown_at ls w.caller w.local w.of_caller; won = w.won }, leads_shown ls code codes to leads.2)

-- in a lawful state the wins lead from DUR to CUR
pub way_up : (instance : Instance) (words : List ℕ) (locals : List Local) → 1 ≤ instance.callers → (root : Root instance words locals) → IsWayBy (wins_of locals) (slice_index words 1) root.above (slice_index words 0)
way_up instance words locals some root = record {
  leads = leads_by locals (slice_index words 1) root.above (slice_index words 0) root.leads;
  apart = λ v w in_v in_w same. (
      let a = wins_among locals v in_v in
      let b = wins_among locals w in_w in
      let callers = root.apart a.caller b.caller a.local b.local _ _ a.of_caller b.of_caller a.won b.won same in
      let one : a.local ≡ b.local = same_Some a.local b.local (sym a.of_caller ∙ ap (slice_get locals) callers ∙ b.of_caller) in
      ap (λ (x : WonCode). x.code) (same_Some v w (sym a.won ∙ ap (λ (l : Local). l.won) one ∙ b.won)));
  ends = λ w there same. (
      let has = wins_among locals w there in
      let stands = (root.each has.caller has.local has.of_caller).won _ has.won in
      let up = code_up instance.callers w.before w.code some stands.rises in
      let most = stands.stands.most in
      omega arith);
}
