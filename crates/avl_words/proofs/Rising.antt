-- Up a way, node by node: each is balanced, until one is as high as it was.
use Rattle.std.proofs.Common.{◌≡◌, ◌+◌, ◌-◌, ◌<◌, ◌≤◌, ℕ, List, [], ◌∷◌, get_or, refl, sym, ap, subst, ◌∙◌, arith}
use Rattle.avl_words.specs.Tree.{Tree, height, node_on}
use Rattle.avl_words.specs.Ways.{Turn, under, whole, mended}
use Rattle.avl_words.proofs.Stopping.{mended_level}
use Rattle.avl_words.specs.Lines.{word_of, IsWithin}
use Rattle.avl_words.specs.Words.{root, times, RepresentsTree}
use Rattle.avl_words.specs.Links.{SameExcept, IsTreeMade, IsHigh}
use Rattle.avl_words.specs.Mending.{IsHanging, CanHang, Hangs, times_way, IsHung, Stood, Settled, CanRelink, Relinks, CanMend, Mends, IsMending, Mending}
use Rattle.avl_words.proofs.Frames.{times_on, except_then, except_more}
use Rattle.avl_words.proofs.Hanging.{spine_kept, hanging_is, hung_at, side_at, last_is, under_times, whole_times}
use Rattle.avl_words.proofs.Relinking.{stood_kept, settled_kept}
use Rattle.avl_words.proofs.Rotations.{height_seen}

-- one node up
record IsUp (ws now nodes sides : List ℕ) (depth settled : ℕ) (turn : Turn ℕ) (way : List (Turn ℕ)) (t : Tree ℕ) (top high : ℕ) : Type 0 where
  hung : IsHung now nodes sides depth way (under turn.side t turn.item turn.sibling) top
  high_is : height (under turn.side t turn.item turn.sibling) ≡ high
  settled_way : Settled now settled way
  stood : (old : Tree ℕ) → Stood ws way old → Stood now way old
  lines : (line : ℕ) → times_way line way + times line (under turn.side t turn.item turn.sibling) ≡ times_way line (turn ∷ way) + times line t
  but : (big : Tree ℕ) → ((line : ℕ) → times line big ≡ times_way line (turn ∷ way) + times line t) → SameExcept ws now big

up : (ws now nodes sides : List ℕ) (depth settled : ℕ) (turn : Turn ℕ) (way : List (Turn ℕ)) (t : Tree ℕ) (node top high : ℕ) → IsHung ws nodes sides depth (turn ∷ way) t node → Settled ws settled (turn ∷ way) →
    Hangs (get_or nodes (depth - 1) 0) (get_or sides (depth - 1) 0) node top high ws now → IsUp ws now nodes sides (depth - 1) settled turn way t top high
up ws now nodes sides depth settled turn way t node top high h stays hangs =
    let e = last_is depth turn way h.long in
    let s : turn.side ≡ get_or sides (depth - 1) 0 = sym h.noted.1 ∙ ap (λ k. get_or sides k 0) e in
    let hanging = subst (λ k. IsHanging ws k t turn.item turn.sibling) s (hanging_is ws nodes sides depth turn way t node h) in
    let m = subst (λ k. IsHigh ws now (node_on k t turn.item turn.sibling) (under k t turn.item turn.sibling) top high) (sym s)
    (hangs t turn.item turn.sibling hanging (sym h.noted.0 ∙ ap (λ k. get_or nodes k 0) e) h.root_is) in
    let on = λ (k : ℕ). times_on k turn.side t turn.item turn.sibling in
    let un = λ (k : ℕ). under_times k turn.side t turn.item turn.sibling in
    let apart : (k : ℕ) → times_way k way + times k (node_on turn.side t turn.item turn.sibling) ≤ 1 = λ k. (let n = h.once k in let o = on k in omega (arith, n, o)) in
    record {
      hung = record {
        noted = h.noted.3;
        long = e;
        spine = spine_kept ws now (node_on turn.side t turn.item turn.sibling) way m.made.but apart h.spine.4;
        stands = m.made.stands;
        root_is = m.made.root_is;
        once = λ k. (let n = h.once k in let o = on k in let u = un k in omega (arith, n, o, u));
        low = h.low.1;
      };
      high_is = m.high_is;
      settled_way = settled_kept ws now nodes sides (node_on turn.side t turn.item turn.sibling) settled way m.made.but h.noted.3 apart stays.1;
      stood = λ old. stood_kept ws now nodes sides (node_on turn.side t turn.item turn.sibling) way old m.made.but h.noted.3 apart;
      lines = λ k. (let o = on k in let u = un k in omega (arith, o, u));
      but = λ big b. except_more ws now (node_on turn.side t turn.item turn.sibling) big (λ k. (let o = on k in let c = b k in omega (arith, o, c))) m.made.but;
    }

-- the way up begins with no word changed and all of the way left to mend
pub mending_begins : (ws nodes sides : List ℕ) (depth settled node high : ℕ) → Mending nodes sides depth settled node high depth node high ws ws
mending_begins ws nodes sides depth settled node high way t h tall s =
    record { rest = way; tree = t; hung = h; high_is = height_seen ws t node high h.stands h.root_is tall; settled_way = s; same = refl; lines = λ line. refl; but = record { long = refl; same = λ line i l n. refl } }

-- one node up of those that are left
went_on : (before mid now nodes sides : List ℕ) (rest settled : ℕ) (way : List (Turn ℕ)) (t : Tree ℕ) (top top_high next next_high : ℕ) → 1 ≤ rest → (left : List (Turn ℕ)) (tree : Tree ℕ) → IsHung mid nodes sides rest left tree top → Settled mid settled left →
    mended left tree ≡ mended way t → ((line : ℕ) → times_way line left + times line tree ≡ times_way line way + times line t) → SameExcept before mid (whole way t) →
    Hangs (get_or nodes (rest - 1) 0) (get_or sides (rest - 1) 0) top next next_high mid now → IsMending before now nodes sides (rest - 1) settled way t next next_high
went_on before mid now nodes sides rest settled way t top top_high next next_high some [] tree h s same lines but hangs = absurd (let l = h.long in omega arith)
went_on before mid now nodes sides rest settled way t top top_high next next_high some (turn ∷ left) tree h s same lines but hangs =
    let u = up mid now nodes sides rest settled turn left tree top next next_high h s hangs in
    record {
      rest = left;
      tree = under turn.side tree turn.item turn.sibling;
      hung = u.hung;
      high_is = u.high_is;
      settled_way = u.settled_way;
      same = same;
      lines = λ k. u.lines k ∙ lines k;
      but = except_then before mid now (whole way t) but (u.but (whole way t) (λ k. whole_times k way t ∙ sym (lines k)));
    }

-- where the tree so far is hung at the last node left of the way, the way up goes on above that node, from the new words
pub mending_goes_on : (before mid now nodes sides : List ℕ) (depth settled node high rest top top_high next next_high : ℕ) → 1 ≤ rest → Mending nodes sides depth settled node high rest top top_high before mid →
    Hangs (get_or nodes (rest - 1) 0) (get_or sides (rest - 1) 0) top next next_high mid now → Mending nodes sides depth settled node high (rest - 1) next next_high before now
mending_goes_on before mid now nodes sides depth settled node high rest top top_high next next_high some m hangs way t h tall s =
    let a = m way t h tall s in
    went_on before mid now nodes sides rest settled way t top top_high next next_high some a.rest a.tree a.hung a.settled_way a.same a.lines a.but hangs

-- where no node of the way is left, the tree that stands is the mended whole
ends : (before now nodes sides : List ℕ) (way : List (Turn ℕ)) (t : Tree ℕ) (top : ℕ) (rest : List (Turn ℕ)) (tree : Tree ℕ) → IsHung now nodes sides 0 rest tree top → mended rest tree ≡ mended way t → SameExcept before now (whole way t) →
    IsTreeMade before now (whole way t) (mended way t) top
ends before now nodes sides way t top [] tree h e b = record { stands = subst (RepresentsTree now) e h.stands; root_is = ap root (sym e) ∙ h.root_is; but = b }
ends before now nodes sides way t top (turn ∷ rest) tree h e b = absurd (let l = h.long in omega arith)

-- a way up on which no node is left to mend has mended the way
pub mending_ends : (before now nodes sides : List ℕ) (depth settled node high top top_high : ℕ) → Mending nodes sides depth settled node high 0 top top_high before now → Mends nodes sides depth settled node high top before now
mending_ends before now nodes sides depth settled node high top top_high m way t h tall s = (let a = m way t h tall s in ends before now nodes sides way t top a.rest a.tree a.hung a.same a.but)

-- a node is as high as it was: those above it stay as they are
record IsLeveled (mid now nodes sides : List ℕ) (rest : ℕ) (turn : Turn ℕ) (way : List (Turn ℕ)) (tree : Tree ℕ) (next : ℕ) : Type 0 where
  old : Tree ℕ
  hung : IsHung now nodes sides (rest - 1) way (under turn.side tree turn.item turn.sibling) next
  stood : Stood now way old
  level : height old ≡ height (under turn.side tree turn.item turn.sibling)
  same : mended way (under turn.side tree turn.item turn.sibling) ≡ whole way (under turn.side tree turn.item turn.sibling)
  lines : (line : ℕ) → times_way line way + times line (under turn.side tree turn.item turn.sibling) ≡ times_way line (turn ∷ way) + times line tree
  but : (big : Tree ℕ) → ((line : ℕ) → times line big ≡ times_way line (turn ∷ way) + times line tree) → SameExcept mid now big

-- a settled node that is balanced to the height it had leaves each node above it as it stood
leveled : (mid now nodes sides : List ℕ) (rest settled : ℕ) (turn : Turn ℕ) (way : List (Turn ℕ)) (tree : Tree ℕ) (top next next_high high : ℕ) → IsHung mid nodes sides rest (turn ∷ way) tree top → Settled mid settled (turn ∷ way) →
    rest ≤ settled → word_of mid (get_or nodes (rest - 1) 0) 2 ≡ high → next_high ≡ high → Hangs (get_or nodes (rest - 1) 0) (get_or sides (rest - 1) 0) top next next_high mid now → IsLeveled mid now nodes sides rest turn way tree next
leveled mid now nodes sides rest settled turn way tree top next next_high high h s le seen e hangs =
    let u = up mid now nodes sides rest settled turn way tree top next next_high h s hangs in
    let i = s.0 (subst (λ k. k ≤ settled) (sym h.long) le) in
    let l = last_is rest turn way h.long in
    let here : word_of mid turn.item 2 ≡ high = ap (λ k. word_of mid k 2) (sym h.noted.0 ∙ ap (λ k. get_or nodes k 0) l) ∙ seen in
    let old : Tree ℕ = node_on turn.side i.tree turn.item turn.sibling in
    let level : height old ≡ height (under turn.side tree turn.item turn.sibling) = sym i.stood.1 ∙ here ∙ sym e ∙ sym u.high_is in
    record {
      old = old;
      hung = u.hung;
      stood = u.stood old i.stood.2;
      level = level;
      same = mended_level way old (under turn.side tree turn.item turn.sibling) i.balanced level;
      lines = u.lines;
      but = u.but;
    }

-- at a settled node that is balanced to the height it had the way up may stop, and the way above be relinked
pub can_relink : (before mid now nodes sides : List ℕ) (depth settled node first_high rest top top_high next next_high high : ℕ) → CanMend before nodes sides depth settled node first_high → Mending nodes sides depth settled node first_high rest top top_high before mid →
    1 ≤ rest → rest ≤ settled → word_of mid (get_or nodes (rest - 1) 0) 2 ≡ high → next_high ≡ high → Hangs (get_or nodes (rest - 1) 0) (get_or sides (rest - 1) 0) top next next_high mid now → CanRelink now nodes sides (rest - 1) next
can_relink before mid now nodes sides depth settled node first_high rest top top_high next next_high high c m some le seen e hangs =
    (let a = m c.way c.tree c.hung c.high_is c.settled_way in by_way a.rest a.tree a.hung a.settled_way)
  where
    by_way : (left : List (Turn ℕ)) (tree : Tree ℕ) → IsHung mid nodes sides rest left tree top → Settled mid settled left → CanRelink now nodes sides (rest - 1) next
    by_way [] tree h s = absurd (let l = h.long in omega arith)
    by_way (turn ∷ way) tree h s =
        let v = leveled mid now nodes sides rest settled turn way tree top next next_high high h s le seen e hangs in
        record { way = way; tree = under turn.side tree turn.item turn.sibling; old = v.old; hung = v.hung; stood = v.stood; level = v.level }

-- a way up that stops at a settled node as high as it was, and stores the link to it from above, has mended the way
pub mending_stops : (before mid now last nodes sides : List ℕ) (depth settled node first_high rest top top_high next next_high high root_now : ℕ) → Mending nodes sides depth settled node first_high rest top top_high before mid →
    1 ≤ rest → rest ≤ settled → word_of mid (get_or nodes (rest - 1) 0) 2 ≡ high → next_high ≡ high → Hangs (get_or nodes (rest - 1) 0) (get_or sides (rest - 1) 0) top next next_high mid now →
    Relinks nodes sides (rest - 1) next root_now now last → Mends nodes sides depth settled node first_high root_now before last
mending_stops before mid now last nodes sides depth settled node first_high rest top top_high next next_high high root_now m some le seen e hangs relinks way t h0 tall s0 =
    (let a = m way t h0 tall s0 in by_way a.rest a.tree a.hung a.settled_way a.same a.lines a.but)
  where
    by_way : (left : List (Turn ℕ)) (tree : Tree ℕ) → IsHung mid nodes sides rest left tree top → Settled mid settled left → mended left tree ≡ mended way t →
        ((line : ℕ) → times_way line left + times line tree ≡ times_way line way + times line t) → SameExcept before mid (whole way t) → IsTreeMade before last (whole way t) (mended way t) root_now
    by_way [] tree h s same lines but = absurd (let l = h.long in omega arith)
    by_way (turn ∷ left) tree h s same lines but =
        let v = leveled mid now nodes sides rest settled turn left tree top next next_high high h s le seen e hangs in
        let new = under turn.side tree turn.item turn.sibling in
        let made = relinks left new v.old v.hung v.stood v.level in
        let is : whole left new ≡ mended way t = sym v.same ∙ same in
        let counted : (k : ℕ) → times k (whole way t) ≡ times_way k (turn ∷ left) + times k tree = λ k. whole_times k way t ∙ sym (lines k) in
        record {
          stands = subst (RepresentsTree last) is made.stands;
          root_is = ap root (sym is) ∙ made.root_is;
          but = except_then before mid last (whole way t) but
              (except_then mid now last (whole way t) (v.but (whole way t) counted)
              (except_more now last (whole left new) (whole way t) (λ k. (let w = whole_times k left new in let o = v.lines k in let c = counted k in omega (arith, w, o, c))) made.but));
        }

-- where a part of the way is not mended yet, what is mended can hang at the last node of that part
pub can_go_on : (before mid nodes sides : List ℕ) (depth settled node high rest top top_high : ℕ) → CanMend before nodes sides depth settled node high → Mending nodes sides depth settled node high rest top top_high before mid → 1 ≤ rest →
    CanHang mid (get_or nodes (rest - 1) 0) (get_or sides (rest - 1) 0) top top_high
can_go_on before mid nodes sides depth settled node high rest top top_high c m some = (let a = m c.way c.tree c.hung c.high_is c.settled_way in hung_at mid nodes sides rest a.rest a.tree top top_high a.hung a.high_is some)

-- the side noted last of the way that is not mended yet is 0 or 1
pub side_below : (before mid nodes sides : List ℕ) (depth settled node high rest top top_high : ℕ) → CanMend before nodes sides depth settled node high → Mending nodes sides depth settled node high rest top top_high before mid → 1 ≤ rest → get_or sides (rest - 1) 0 < 2
side_below before mid nodes sides depth settled node high rest top top_high c m some = (let a = m c.way c.tree c.hung c.high_is c.settled_way in side_at mid nodes sides rest a.rest a.tree top a.hung some)

-- the node noted last of the way that is not mended yet is within the words
pub node_within : (before mid nodes sides : List ℕ) (depth settled node high rest top top_high : ℕ) → CanMend before nodes sides depth settled node high → Mending nodes sides depth settled node high rest top top_high before mid → 1 ≤ rest → IsWithin mid (get_or nodes (rest - 1) 0)
node_within before mid nodes sides depth settled node high rest top top_high c m some = (let h = can_go_on before mid nodes sides depth settled node high rest top top_high c m some in subst (IsWithin mid) h.node_is h.hanging.within)
