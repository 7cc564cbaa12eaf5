-- Having a list of words in a cell: the first is written, and each other that differs.
use Rattle.std.proofs.Common.{◌≡◌, ◌≢◌, ◌+◌, ◌-◌, ◌<◌, ◌≤◌, ◌⊎◌, ◌==◌, inl, inr, ℕ, zero, suc, min, Bool, true, false, cond, List, [], ◌∷◌, ◌++◌, length, get_or, set, take, drop, slice_index, refl, sym, ap, subst, ◌∙◌, arith, add-one, None}
use Rattle.std.proofs.lemmas.Bool.{cases_eq, eq-eqb, ne_eqb}
use Rattle.std.proofs.lemmas.List.{append-nil, drop_all, get_or-set_other, get_or-set_same, length-drop, set-set, take_all}
use Rattle.std.proofs.lemmas.Option.{slice_get-get_or}
use Rattle.cx_core.specs.declared.kinds.Kind.TheVariants.{WriteCell}
use Rattle.cx_core.specs.declared.local.Cell.{Cell}
use Rattle.cx_core.specs.declared.local.Local.{Local}
use Rattle.cx_core.specs.QueueEvents.{IsIdle, IsIdleAt, cell_of, next_number, written}
use Rattle.cx_core.specs.State.{Instance, one_more}
use Rattle.cx_table.specs.Running.{IsSeatOf, Running, instance_at}
use Rattle.cx_core.specs.Layout.{max_word}
use Rattle.table_invariant.specs.declared.rule.Noted.{Noted}
use Rattle.cx_table.specs.Seats.{HasCells, IsAtLimit, IsWithinLimit, Seated, stepped}
use Rattle.cx_table.specs.Steps.{Steps}
use Rattle.mutation_queue.specs.Cells.{Announces, HaltsIn, IsAnnounced, differing}

-- one word more put over a list
put_next : (ws old : List ℕ) (n : ℕ) → n < length ws → length old ≡ length ws → set (take n ws ++ drop n old) n (get_or ws n 0) ≡ take (suc n) ws ++ drop (suc n) old
put_next [] old n below same = absurd (omega arith)
put_next (w ∷ ws) [] n below same = absurd (omega arith)
put_next (w ∷ ws) (o ∷ os) zero below same = refl
put_next (w ∷ ws) (o ∷ os) (suc n) below same = ap (λ xs. w ∷ xs) (put_next ws os n (omega arith) (omega arith))

-- Words are copied one after another over an old list. Where word n is equal in both lists, the list with n words copied is as well that with n + 1.
keep_next : (ws old : List ℕ) (n : ℕ) → n < length ws → length old ≡ length ws → get_or old n 0 ≡ get_or ws n 0 → take n ws ++ drop n old ≡ take (suc n) ws ++ drop (suc n) old
keep_next [] old n below long same = absurd (omega arith)
keep_next (w ∷ ws) [] n below long same = absurd (omega arith)
keep_next (w ∷ ws) (o ∷ os) zero below long same = ap (λ x. x ∷ os) same
keep_next (w ∷ ws) (o ∷ os) (suc n) below long same = ap (λ xs. w ∷ xs) (keep_next ws os n (omega arith) (omega arith) same)

-- the next word is still the old one
at_next : (ws old : List ℕ) (n : ℕ) → n < length ws → length old ≡ length ws → get_or (take n ws ++ drop n old) n 0 ≡ get_or old n 0
at_next [] old n below long = absurd (omega arith)
at_next (w ∷ ws) [] n below long = absurd (omega arith)
at_next (w ∷ ws) (o ∷ os) zero below long = refl
at_next (w ∷ ws) (o ∷ os) (suc n) below long = at_next ws os n (omega arith) (omega arith)

-- each word is an old or a new one
old_or_new : (ws old : List ℕ) (n k : ℕ) → length old ≡ length ws → (get_or (take n ws ++ drop n old) k 0 ≡ get_or old k 0) ⊎ (get_or (take n ws ++ drop n old) k 0 ≡ get_or ws k 0)
old_or_new [] [] zero k long = inl refl
old_or_new [] [] (suc n) k long = inl refl
old_or_new [] (o ∷ os) n k long = absurd (omega arith)
old_or_new (w ∷ ws) [] n k long = absurd (omega arith)
old_or_new (w ∷ ws) (o ∷ os) zero k long = inl refl
old_or_new (w ∷ ws) (o ∷ os) (suc n) zero long = inr refl
old_or_new (w ∷ ws) (o ∷ os) (suc n) (suc k) long = old_or_new ws os n k (omega arith)

-- how many places of the first differ, and one place more
differ_more : (xs ys : List ℕ) (n : ℕ) → n < length xs → length xs ≡ length ys → get_or xs n 0 ≢ get_or ys n 0 → differing (take (suc n) xs) (take (suc n) ys) ≡ differing (take n xs) (take n ys) + 1
unfolding differing
differ_more [] ys n below long ne = absurd (omega arith)
differ_more (x ∷ xs) [] n below long ne = absurd (omega arith)
differ_more (x ∷ xs) (y ∷ ys) zero below long ne = ap (λ b. cond b 0 1 + 0) (ne_eqb x y ne)
differ_more (x ∷ xs) (y ∷ ys) (suc n) below long ne = (let rest = differ_more xs ys n (omega arith) (omega arith) ne in omega (arith, rest))

same_more : (xs ys : List ℕ) (n : ℕ) → n < length xs → length xs ≡ length ys → get_or xs n 0 ≡ get_or ys n 0 → differing (take (suc n) xs) (take (suc n) ys) ≡ differing (take n xs) (take n ys)
unfolding differing
same_more [] ys n below long e = absurd (omega arith)
same_more (x ∷ xs) [] n below long e = absurd (omega arith)
same_more (x ∷ xs) (y ∷ ys) zero below long e = ap (λ b. cond b 0 1 + 0) (eq-eqb x y e)
same_more (x ∷ xs) (y ∷ ys) (suc n) below long e = (let rest = same_more xs ys n (omega arith) (omega arith) e in omega (arith, rest))

differ_first : (xs ys : List ℕ) (n : ℕ) → differing (take n xs) (take n ys) ≤ differing xs ys
unfolding differing
differ_first [] ys zero = omega arith
differ_first [] ys (suc n) = omega arith
differ_first (x ∷ xs) [] zero = omega arith
differ_first (x ∷ xs) [] (suc n) = omega arith
differ_first (x ∷ xs) (y ∷ ys) zero = omega arith
differ_first (x ∷ xs) (y ∷ ys) (suc n) = (let rest = differ_first xs ys n in omega (arith, rest))

differ_none : (xs ys : List ℕ) → differing (take 0 xs) (take 0 ys) ≡ 0
unfolding differing
differ_none xs ys = refl

differ_most : (xs ys : List ℕ) → differing xs ys ≤ length ys
unfolding differing
differ_most [] ys = omega arith
differ_most (x ∷ xs) [] = omega arith
differ_most (x ∷ xs) (y ∷ ys) =
    let rest = differ_most xs ys in
    elim (x == y) as (λ b. cond b 0 1 + differing xs ys ≤ length (y ∷ ys)) [ true ↦ omega (arith, rest) | false ↦ omega (arith, rest) ]

-- a seat whose caller's cells and steps are these, and which has nothing fresh
abbrev pub wrote : Seated → List Cell → ℕ → List Noted → Seated
wrote s cells steps noted = record s { known = record s.known { local = record s.known.local { cells = cells; fresh = false; steps = steps }; noted = noted } }

-- the cell after the first words
abbrev pub cell_with : Local → ℕ → List ℕ → ℕ → Cell
cell_with l j ws n = record (cell_of l j) { words = take n ws ++ drop n (cell_of l j).words; ticket = None }

abbrev default : Cell
default = record { words = []; ticket = None; set = []; offer = 0 }

-- a step of writing, from what the seat is
write_one : (instance : Instance) (s : Seated) (j n v : ℕ) (cells cells' : List Cell) (steps : ℕ) → written (wrote s cells steps s.known.noted).known.local j n v ≡ cells' →
    stepped instance (WriteCell j n v) (wrote s cells steps s.known.noted) 0 ≡ wrote s cells' (one_more steps) s.known.noted
write_one instance s j n v cells cells' steps c =
    ap (λ x. wrote s x (one_more steps) (s.known.noted ++ [])) c
    ∙ ap (wrote s cells' (one_more steps)) (append-nil s.known.noted)

-- writing the first word `v` of a list into the cell `j` is a step to the cells with that word, which notes nothing
first_one : (instance : Instance) (s : Seated) (j v : ℕ) (cells' : List Cell) → written s.known.local j 0 v ≡ cells' →
    stepped instance (WriteCell j 0 v) s 0 ≡ wrote s cells' (one_more s.known.local.steps) s.known.noted
first_one instance s j v cells' c =
    ap (λ x. wrote s x (one_more s.known.local.steps) (s.known.noted ++ [])) c
    ∙ ap (wrote s cells' (one_more s.known.local.steps)) (append-nil s.known.noted)

-- the first word and n others are in the cell
pub record HasTo (j : ℕ) (ws : List ℕ) (n : ℕ) (s t : Seated) : Type 0 where
  pub is : t ≡ wrote s (set s.known.local.cells j (cell_with s.known.local j ws (suc n))) t.known.local.steps s.known.noted
  pub count : t.known.local.steps ≡ min (s.known.local.steps + (1 + differing (take n (drop 1 (cell_of s.known.local j).words)) (take n (drop 1 ws)))) max_word
  pub allowed : ¬ IsAtLimit s.known.local
  pub within : IsWithinLimit t.known.local

module _ (s : Seated) (j : ℕ) (ws : List ℕ) (cells : HasCells s.known.local) (small : j < 16) (long : length ws ≡ 145) where
  there : j < length s.known.local.cells
  there = omega (arith, cells.count)

  words_long : length (cell_of s.known.local j).words ≡ length ws
  words_long = (cells.each j (cell_of s.known.local j) (slice_get-get_or s.known.local.cells j default there)).words ∙ sym long

  -- what the seat's caller has in the cell
  cell_is : (n : ℕ) (t : Seated) → HasTo j ws n s t → cell_of t.known.local j ≡ cell_with s.known.local j ws (suc n)
  cell_is n t to = ap (λ (x : Seated). cell_of x.known.local j) to.is ∙ get_or-set_same s.known.local.cells j (cell_with s.known.local j ws (suc n)) default there

  next_is : (n : ℕ) (t : Seated) → n < 144 → HasTo j ws n s t → get_or (cell_of t.known.local j).words (suc n) 0 ≡ get_or (cell_of s.known.local j).words (suc n) 0
  next_is n t below to = ap (λ (x : Cell). get_or x.words (suc n) 0) (cell_is n t to) ∙ at_next ws (cell_of s.known.local j).words (suc n) (omega (arith, long)) words_long

  -- the old words and the new ones behind the first
  rest_long : length (drop 1 (cell_of s.known.local j).words) ≡ length (drop 1 ws)
  rest_long = length-drop 1 (cell_of s.known.local j).words ∙ ap (λ n. n - 1) words_long ∙ sym (length-drop 1 ws)

  rest_count : length (drop 1 ws) ≡ 144
  rest_count = omega (arith, length-drop 1 ws, long)

  behind : (xs : List ℕ) (n : ℕ) → get_or (drop 1 xs) n 0 ≡ get_or xs (suc n) 0
  behind [] n = refl
  behind (x ∷ xs) n = refl

  -- the first word was written
  pub has_first : {O : Type 0} (r : Running O) (step : O → List ℕ → List ℕ → List ℕ × List ℕ) (reads : O → List ℕ → Bool) (v : ℕ) (t : Seated) → v ≡ slice_index ws 0 → Steps r step reads (WriteCell j 0 v) 0 s t → HasTo j ws 0 s t
  has_first r step reads v t value made =
      let l = s.known.local in
      let words : set (cell_of l j).words 0 v ≡ take 1 ws ++ drop 1 (cell_of l j).words = ap (set (cell_of l j).words 0) value ∙ put_next ws (cell_of l j).words 0 (omega (arith, long)) words_long in
      let e = made.made ∙ first_one (instance_at r step reads) s j v (set l.cells j (cell_with l j ws 1)) (ap (λ x. set l.cells j (record (cell_of l j) { words = x; ticket = None })) words) in
      let steps : t.known.local.steps ≡ one_more l.steps = ap (λ (x : Seated). x.known.local.steps) e in
      record {
        is = e ∙ ap (λ n. wrote s (set l.cells j (cell_with l j ws 1)) n s.known.noted) (sym steps);
        count = steps ∙ ap (λ n. min (l.steps + (1 + n)) max_word) (sym (differ_none (drop 1 (cell_of l j).words) (drop 1 ws)));
        allowed = made.allowed;
        within = made.within;
      }

  -- one word more stands there already
  one_more_same : (n : ℕ) (t : Seated) → n < 144 → HasTo j ws n s t → slice_index (cell_of t.known.local j).words (n + 1) ≡ slice_index ws (suc n) → HasTo j ws (suc n) s t
  one_more_same n t below to same =
      let l = s.known.local in
      let old = (cell_of l j).words in
      let e : get_or old (suc n) 0 ≡ get_or ws (suc n) 0 = sym (next_is n t below to) ∙ ap (λ i. get_or (cell_of t.known.local j).words i 0) (sym (add-one n)) ∙ same in
      let words = keep_next ws old (suc n) (omega (arith, long)) words_long e in
      record {
        is = to.is ∙ ap (λ x. wrote s (set l.cells j (record (cell_of l j) { words = x; ticket = None })) t.known.local.steps s.known.noted) words;
        count = to.count ∙ ap (λ m. min (l.steps + (1 + m)) max_word) (sym (same_more (drop 1 old) (drop 1 ws) n (omega (arith, rest_long, rest_count)) rest_long (behind old n ∙ e ∙ sym (behind ws n))));
        allowed = to.allowed;
        within = to.within;
      }

  -- the words up to a further place stand there already
  pub has_run : (n m : ℕ) (t : Seated) → n ≤ m → m ≤ 144 → HasTo j ws n s t → ((k : ℕ) → n ≤ k → k < m → slice_index (cell_of t.known.local j).words (k + 1) ≡ slice_index ws (suc k)) → HasTo j ws m s t
  has_run n zero t least most to same = subst (λ k. HasTo j ws k s t) (let e : n ≡ 0 = omega arith in e) to
  has_run n (suc m) t least most to same = elim (cases_eq n (suc m)) [
    | inl e ↦ subst (λ k. HasTo j ws k s t) e to
    | inr ne ↦ one_more_same m t (omega arith) (has_run n m t (omega arith) (omega arith) to (λ k from below. same k from (omega arith))) (same m (omega arith) (omega arith))
  ]

  -- one word more was written
  pub has_new : {O : Type 0} (r : Running O) (step : O → List ℕ → List ℕ → List ℕ × List ℕ) (reads : O → List ℕ → Bool) (n v : ℕ) (t u : Seated) → n < 144 → v ≡ slice_index ws (suc n) → HasTo j ws n s t →
      slice_index (cell_of t.known.local j).words (suc n) ≢ v → Steps r step reads (WriteCell j (suc n) v) 0 t u → HasTo j ws (suc n) s u
  has_new r step reads n v t u below value to differs made =
      let l = s.known.local in
      let old = (cell_of l j).words in
      let cell = cell_with l j ws (suc n) in
      let cells' = set l.cells j cell in
      let steps = t.known.local.steps in
      let here : cell_of (wrote s cells' steps s.known.noted).known.local j ≡ cell = get_or-set_same l.cells j cell default there in
      let words : set (take (suc n) ws ++ drop (suc n) old) (suc n) v ≡ take (suc (suc n)) ws ++ drop (suc (suc n)) old =
      ap (set (take (suc n) ws ++ drop (suc n) old) (suc n)) value ∙ put_next ws old (suc n) (omega (arith, long)) words_long in
      let to_cells : written (wrote s cells' steps s.known.noted).known.local j (suc n) v ≡ set l.cells j (cell_with l j ws (suc (suc n))) =
      ap (λ (x : Cell). set cells' j (record x { words = set x.words (suc n) v; ticket = None })) here
      ∙ set-set l.cells j cell (record cell { words = set cell.words (suc n) v; ticket = None })
      ∙ ap (λ x. set l.cells j (record (cell_of l j) { words = x; ticket = None })) words in
      let e = made.made
      ∙ ap (λ x. stepped (instance_at r step reads) (WriteCell j (suc n) v) x 0) to.is
      ∙ write_one (instance_at r step reads) s j (suc n) v cells' (set l.cells j (cell_with l j ws (suc (suc n)))) steps to_cells in
      let steps' : u.known.local.steps ≡ one_more steps = ap (λ (x : Seated). x.known.local.steps) e in
      let ne : get_or (drop 1 old) n 0 ≢ get_or (drop 1 ws) n 0 = λ same. differs (next_is n t below to ∙ sym (behind old n) ∙ same ∙ behind ws n ∙ sym value) in
      let more = differ_more (drop 1 old) (drop 1 ws) n (omega (arith, rest_long, rest_count)) rest_long ne in
      let count = to.count in
      record {
        is = e ∙ ap (λ m. wrote s (set l.cells j (cell_with l j ws (suc (suc n)))) m s.known.noted) (sym steps');
        count = omega (arith, steps', count, more);
        allowed = to.allowed;
        within = made.within;
      }

  -- the cell is idle after the first word
  pub still_idle : (n : ℕ) (t : Seated) → HasTo j ws n s t → IsIdle t.known.local j
  still_idle n t to = subst (IsIdleAt t.known.local.seen_free) (sym (ap (λ (x : Cell). x.ticket) (cell_is n t to))) tt

  -- the next word differs, and the seat is at its limit
  pub halts_at : (n : ℕ) (t u : Seated) (v : ℕ) → n < 144 → v ≡ slice_index ws (suc n) → HasTo j ws n s t → slice_index (cell_of t.known.local j).words (suc n) ≢ v → u ≡ t → IsAtLimit t.known.local → HaltsIn j ws s u
  halts_at n t u v below value to differs same limit = subst (HaltsIn j ws s) (sym same) (record {
    limit = limit;
    short = (
        let ne : get_or (drop 1 old) n 0 ≢ get_or (drop 1 ws) n 0 = λ e. differs (next_is n t below to ∙ sym (behind old n) ∙ e ∙ behind ws n ∙ sym value) in
        let more = differ_more (drop 1 old) (drop 1 ws) n (omega (arith, rest_long, rest_count)) rest_long ne in
        let first = differ_first (drop 1 old) (drop 1 ws) (suc n) in
        let kept : t.known.local.limit ≡ l.limit = ap (λ (x : Seated). x.known.local.limit) to.is in
        let count = to.count in
        let at = limit.0 in
        let few = limit.1 in
        omega (arith, more, first, kept, count, at, few));
    since = (let count = to.count in omega (arith, count));
    none = λ at. absurd (to.allowed at);
    idle = still_idle n t to;
    cell = λ i. (
        let words = ap (λ (x : Cell). get_or x.words i 0) (cell_is n t to) in
        elim (old_or_new ws old (suc n) i words_long) [ inl e ↦ inl (words ∙ e) | inr e ↦ inr (words ∙ e) ]);
    others = λ k ne. ap (λ (x : Seated). cell_of x.known.local k) to.is ∙ get_or-set_other l.cells j k (cell_with l j ws (suc n)) default ne;
    rest = to.is
        ∙ ap (λ (x : Seated). record s { known = record s.known { local = record s.known.local { cells = x.known.local.cells; fresh = x.known.local.fresh; steps = t.known.local.steps } } }) (sym to.is);
  })
    where
      l : Local
      l = s.known.local

      old : List ℕ
      old = (cell_of s.known.local j).words

  pub announces : (t : Seated) → HasTo j ws 144 s t → Announces j ws s t
  announces t to =
      let l = s.known.local in
      let old = (cell_of l j).words in
      let cell = cell_with l j ws 145 in
      let words : take 145 ws ++ drop 145 old ≡ ws = ap (λ xs. xs ++ drop 145 old) (take_all 145 ws (omega (arith, long))) ∙ ap (λ xs. ws ++ xs) (drop_all 145 old (omega (arith, words_long, long))) ∙ append-nil ws in
      let all : differing (take 144 (drop 1 old)) (take 144 (drop 1 ws)) ≡ differing (drop 1 old) (drop 1 ws) =
      ap (λ xs. differing xs (take 144 (drop 1 ws))) (take_all 144 (drop 1 old) (omega (arith, rest_long, rest_count))) ∙ ap (differing (drop 1 old)) (take_all 144 (drop 1 ws) (omega (arith, rest_count))) in
      let count = to.count ∙ ap (λ n. min (l.steps + (1 + n)) max_word) all in
      let most = differ_most (drop 1 old) (drop 1 ws) in
      record {
        allowed = to.allowed;
        within = to.within;
        cell = cell_is 144 t to ∙ ap (λ x. record (cell_of l j) { words = x; ticket = None }) words;
        others = λ k ne. ap (λ (x : Seated). cell_of x.known.local k) to.is ∙ get_or-set_other l.cells j k cell default ne;
        rest = to.is ∙ ap (λ (x : Seated). wrote s x.known.local.cells t.known.local.steps s.known.noted) (sym to.is);
        count = count;
        most = omega (arith, count, most, rest_count);
      }

-- an announced entry may be linked, and the seat is still its caller's
pub announced_ready : {O : Type 0} (r : Running O) (j : ℕ) (op : List ℕ) (s t : Seated) → Announces j (next_number r.base s.known.local ∷ op) s t → IsSeatOf r s →
    IsAnnounced r.base j t × IsSeatOf r t × (t.known.local.number ≡ s.known.local.number)
announced_ready r j op s t done of =
    let e : t ≡ wrote s t.known.local.cells t.known.local.steps s.known.noted = done.rest in
    let ticket : (cell_of t.known.local j).ticket ≡ None = ap (λ (x : Cell). x.ticket) done.cell in (
      record {
        idle = subst (IsIdleAt t.known.local.seen_free) (sym ticket) tt;
        number = ap (λ (x : Cell). slice_index x.words 0) done.cell ∙ sym (ap (λ (x : Seated). next_number r.base x.known.local) e);
      },
      subst (IsSeatOf r) (sym e) (record { table = of.table; caller = of.caller; before = of.before; region = of.region }),
      ap (λ (x : Seated). x.known.local.number) e,
    )
