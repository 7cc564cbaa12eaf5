-- A replica of which the lines alone are copied that changed between its place and the source's.
use Rattle.std.proofs.Common.{false, true, cond, ◌≡◌, ◌+◌, ◌*◌, ◌/◌, ◌<◌, ◌≤◌, ◌==◌, inl, inr, ℕ, Bool, All, List, [], ◌∷◌, slice_index, slice_index_or, refl, ap, sym, subst, ◌∙◌, arith, Option, Some}
use Rattle.std.proofs.lemmas.Bool.{cases_Bool, cases_eq, false≢true, true≢false}
use Rattle.std.proofs.lemmas.List.Elements.{All-head, All-tail}
use Rattle.std.proofs.lemmas.Option.{get_or_from_slice_get}
use Rattle.std.specs.List.{Contains, slice_get}
use Rattle.cx_base.specs.declared.object.Object.{Ghosts}
use Rattle.cx_base.specs.Noted.{Note, NotesLead}
use Rattle.cx_core.specs.Region.{place_of, region_words}
use Rattle.cx_core.specs.declared.local.HeldExclusive.{HeldExclusive}
use Rattle.cx_core.specs.declared.local.Local.{Local}
use Rattle.cx_core.specs.Rights.{exclusive_on, held_dirty, shared_on}
use Rattle.cx_core.specs.State.{Instance}
use Rattle.table_invariant.specs.declared.rule.Known.{Known}
use Rattle.table_invariant.specs.declared.rule.Noted.{Noted}
use Rattle.table_invariant.specs.Fitting.{SomeFits, loaded_of, loads_of}
use Rattle.table_invariant.specs.Listed.{HasGap}
use Rattle.table_invariant.specs.Running.{Running, StepsWithin, instance_at}
use Rattle.table_invariant.specs.Seats.{Seated, StepsBy, place_noted}
use Rattle.table_invariant.proofs.Stepping.{on_then}
use Rattle.cx_table.specs.Gaps.{IsListedFrom}
use Rattle.cx_table.specs.Right.{Right}
use Rattle.cx_table.specs.GapMarks.{IsMarked, KeepsLoads, MarksChanged, with_gaps}
use Rattle.cx_table.proofs.GapWalks.{walk_by}
use Rattle.replica.specs.Copies.{HaltsUnchanged, HoldsBoth, HoldsBothIn, IsCopiedTo, IsListed, MayList, Renews, RenewsListed, unchanged_by_copy, unchanged_by_listed_copy, piece_at, skips_by, skips_piece, without_shared}
use Rattle.replica.specs.Laws.{shared_held}
use Rattle.replica.specs.Replays.{StoresNone, noted_place}
use Rattle.replica.proofs.Renewing.{loaded_once}
use Rattle.replica.proofs.Replaying.{place_one, unchanged}

-- the place that the words have is noted, where nothing was stored
unstored_place : (accesses : List Note) (ws now : List ℕ) (place : ℕ) → place_of ws ≡ place → StoresNone accesses → NotesLead accesses ws now → place_of ws ≡ place_noted place accesses
unstored_place [] ws now place at none leads = at
unstored_place ((false, a, w) ∷ accesses) ws now place at none leads =
    unstored_place accesses ws now (cond (a == 0) w place)
    (place_one a w place (λ p. place_of ws ≡ p) (λ is. ap (slice_index ws) (sym is) ∙ leads.0) (λ off. at))
    (All-tail (λ (note : Note). note.0 ≡ false) (false, a, w) accesses none) leads.1
unstored_place ((true, a, w) ∷ accesses) ws now place at none leads = absurd (true≢false (All-head (λ (note : Note). note.0 ≡ false) (true, a, w) accesses none))

-- a piece that is marked is not skipped, and neither is the first
marked_kept : (marks : List Bool) (piece : ℕ) → IsMarked marks piece → skips_piece false marks piece ≡ false
marked_kept marks piece is = by (piece == 0) (slice_index_or marks piece false) (get_or_from_slice_get marks piece true false is)
  where
    by : (a b : Bool) → b ≡ true → cond a false (cond b false true) ≡ false
    by true b e = refl
    by false b e = ap (λ x. cond x false true) e

-- a gap is had by what is noted
has_by : (instance : Instance) (known known' : Known) → known'.noted ≡ known.noted → (g : _) → HasGap instance known g → HasGap instance known' g
has_by instance known known' same g has = record { n = has.n; note = has.note; at = ap (λ (ns : List Noted). slice_get ns has.n) same ∙ has.at; loaded = has.loaded; is = has.is }

in_piece : (n k : ℕ) → k < 8 → piece_at (8 * n + k) ≡ (n + 7) / 8
in_piece n k small = omega arith

module _ {O : Type 0} (o : Ghosts O) (r : Running O) (to : ℕ) (marks : List Bool) (held source : Right) (before after : Seated) (may : MayList to before) (listed : IsListed o r to marks before)
    (copied : IsCopiedTo (skips_by false marks) (region_words (o.line_count r.object)) (region_words (o.line_count r.object)) before.known after.known) (rest : unchanged_by_copy after ≡ unchanged_by_copy before)
    (both : HoldsBothIn o r after held source) where
  abbrev region : ℕ
  region = region_words (o.line_count r.object)

  lines_are : region ≡ 8 * (146 + r.lines)
  lines_are = (let same = both.exclusive.sized.lines_are in omega (arith, same))

  -- a line of a piece that is skipped did not change
  listed_line : (n : ℕ) → n < 146 + r.lines → skips_piece false marks ((n + 7) / 8) ≡ true → (0 < n) × ((t : ℕ) → noted_place before ≤ t → t < to → Contains (listed.changed.lists t) n → ⊥)
  listed_line n below skip = (
    elim (cases_eq n 0) [
      | inl none ↦ absurd (false≢true (ap (λ p. skips_piece false marks p) (let z : 0 ≡ (n + 7) / 8 = omega (arith, none) in z) ∙ skip))
      | inr some ↦ omega (arith, some)
    ],
    λ t least under has. false≢true (sym (marked_kept marks ((n + 7) / 8) (listed.changed.marked t least under n has)) ∙ skip),
  )

  -- whatever the accesses lead from has the place that was noted
  first_begins : (first was : List ℕ) → NotesLead before.known.accesses first was → slice_index first 0 ≡ noted_place before
  first_begins first was leads =
      unstored_place before.known.accesses first was (place_of first) refl may.unstored leads ∙ may.begun (place_of first)

  pub listed_from : IsListedFrom (instance_at r o.step o.only_reads) after held source
  listed_from =
      let instance = instance_at r o.step o.only_reads in
      let noted : after.known.noted ≡ before.known.noted = ap (λ (s : Seated). s.known.noted) rest in
      let place = copied.agree 0 (omega arith) refl in
      let loads = loads_of (loaded_of after.known.local.shared) in
      let at : place.0 ≡ to = loaded_once (o.line_count r.object) (o.lawful r.object) r.base (loaded_of after.known.local.shared) place.0 to both.shared.some place.2 (copied.loaded (0, to) may.source) in
      let long = both.exclusive.sized.region ∙ lines_are in
      record {
        held = both.exclusive.right;
        source = both.shared.right;
        lines = 146 + r.lines;
        from = noted_place before;
        to = to;
        lists = listed.changed.lists;
        long = long;
        agree = record {
          order = listed.order;
          walked = λ t least under. walk_by (HasGap instance before.known) (HasGap instance after.known) (has_by instance before.known after.known noted) t 0 (listed.changed.lists t) (146 + r.lines) (listed.changed.walked t least under);
          begins = λ first is leads. (let was = copied.began first is leads in first_begins first was.0 was.1);
          ends = place.2 ∙ ap Some at;
          each = λ n below. elim (cases_Bool (skips_piece false marks ((n + 7) / 8))) [
            | inl skip ↦ inr (
              listed_line n below skip,
              λ first is leads k small. (
                  let was = copied.began first is leads in
                  copied.rest first was.0 is was.1 leads (8 * n + k) (inr (ap (skips_piece false marks) (in_piece n k small) ∙ skip))
                  ∙ ap (λ ws. slice_index ws (8 * n + k)) (unchanged before.known.accesses first was.0 may.unstored was.1)),
            )
            | inr kept ↦ inl (λ k small. copied.agree (8 * n + k) (omega (arith, small, below, lines_are)) (ap (skips_piece false marks) (in_piece n k small) ∙ kept))
          ];
        };
        dirty = λ i below there. elim (copied.stored i there) [
          | inl old ↦ absurd (listed.clean i (subst (λ n. i < n) (ap (λ (s : Seated). s.region) rest) below) old)
          | inr new ↦ copied.agree i new.0 new.1
        ];
      }

-- what loads of gaps leave of two replicas that are held
module _ {O : Type 0} (o : Ghosts O) (r : Running O) (held source : Right) (before after : Seated) (leaves : KeepsLoads o r before after) where
  local_is : after.known.local ≡ record before.known.local { steps = after.known.local.steps }
  local_is = ap (λ (s : Seated). s.known.local) leaves.seat

  pub both_loaded : HoldsBothIn o r before held source → HoldsBothIn o r after held source
  both_loaded both =
      let lines = o.line_count r.object in
      elim leaves.fits [
        | inl same ↦ subst (λ (s : Seated). HoldsBoth lines r (o.lawful r.object) (o.step r.object) s held source) (sym same) both
        | inr fits ↦ record {
          exclusive = record {
            sized = both.exclusive.sized;
            of = leaves.of;
            right = record { few = both.exclusive.right.few; caller = both.exclusive.right.caller ∙ sym (ap (λ (l : Local). l.number) local_is); holds = ap exclusive_on local_is ∙ both.exclusive.right.holds };
            some = subst (λ n. SomeFits n (o.lawful r.object) r.base (o.step r.object) after.known) both.exclusive.sized.lines_are fits.exclusive;
            dirty = subst (λ (l : Local). All (λ i. i < region_words lines) (held_dirty l.exclusive)) (sym local_is) both.exclusive.dirty;
          };
          shared = shared_held lines r (o.lawful r.object) o.step after source both.shared.sized leaves.of
              (record { few = both.shared.right.few; caller = both.shared.right.caller ∙ sym (ap (λ (l : Local). l.number) local_is); holds = ap shared_on local_is ∙ both.shared.right.holds }) fits;
        }
      ]

  abbrev unnoted : Seated → Seated
  unnoted s = record s { known = record s.known { noted = [] } }

  pub renewed_listed : (at : ℕ) (last : Seated) → Renews o r held at after last → RenewsListed o r held at before last
  renewed_listed at last renews = record {
    ready = renews.ready;
    placed = λ p has. renews.placed p (subst (λ (l : Local). Contains (loaded_of l.shared) (0, p)) (sym local_is) has);
    rest = ap unnoted renews.rest ∙ ap (λ s. without_shared (unchanged_by_listed_copy s)) leaves.seat;
  }

  pub listed_halts : (last : Seated) → HaltsUnchanged unchanged_by_copy after last → HaltsUnchanged unchanged_by_listed_copy before last
  listed_halts last halts = record { rest = ap unnoted halts.rest ∙ ap unchanged_by_listed_copy leaves.seat; limit = halts.limit }

  -- at most `m` steps from `before` to `after`, and then at most `n` to `last`, are at most `l = m + n` in the copy of the listed lines
  pub listed_within : (m n l : ℕ) (last : Seated) → m + n ≡ l → StepsBy m before after → StepsWithin r n after last → StepsWithin r l before last
  listed_within m n l last all some within = record { seat = within.seat; since = on_then before after last leaves.since within.since; most = (let more = within.most in omega (arith, all, some, more)) }

-- the lines that changed are marked where nothing is dirty
pub listed_marks : {O : Type 0} (o : Ghosts O) (r : Running O) (to lines from : ℕ) (marks : List Bool) (before mid after : Seated) → mid ≡ before → KeepsLoads o r mid after →
    ((at : ℕ) → at < before.region → ¬ Contains (held_dirty before.known.local.exclusive) at) → lines ≡ 146 + r.lines → from ≡ place_noted 0 mid.known.accesses → from ≤ to →
    MarksChanged (instance_at r o.step o.only_reads) lines from to marks after.known → IsListed o r to marks after
listed_marks o r to lines from marks before mid after same leaves clean count place order changed =
    let is : after ≡ with_gaps after.known.local.steps leaves.notes before = leaves.seat ∙ ap (with_gaps after.known.local.steps leaves.notes) same in
    let here : from ≡ noted_place after = place ∙ sym (ap (λ (s : Seated). place_noted 0 s.known.accesses) leaves.seat) in
    record {
      clean = λ at below there. clean at (subst (λ n. at < n) (ap (λ (s : Seated). s.region) is) below) (subst (λ (h : Option HeldExclusive). Contains (held_dirty h) at) (ap (λ (s : Seated). s.known.local.exclusive) is) there);
      order = subst (λ p. p ≤ to) here order;
      changed = subst (λ p. MarksChanged (instance_at r o.step o.only_reads) (146 + r.lines) p to marks after.known) here
          (subst (λ n. MarksChanged (instance_at r o.step o.only_reads) n from to marks after.known) count changed);
    }
