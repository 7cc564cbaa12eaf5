-- What a seat keeps in plain memory follows each step.
use Rattle.std.proofs.Common.{◌≡◌, ◌≢◌, ◌+◌, ◌*◌, ◌<◌, ◌==◌, ◌↔◌, ◌⊎◌, inl, inr, ℕ, zero, suc, nat_lt, Bool, true, false, cond, List, [], ◌∷◌, ◌++◌, length, filter, get_or, set, slice_index, refl, ap, sym, subst, ◌∙◌, arith, eq-eqb, Option, Some, None}
use Rattle.std.proofs.lemmas.Bool.{cases_Bool, cases_eq}
use Rattle.std.proofs.lemmas.List.{get_or-set_other, get_or-set_same, length-set}
use Rattle.std.proofs.lemmas.Option.{slice_get-get_or}
use Rattle.std.proofs.lemmas.List.Elements.{Contains-append_cases, Contains-append_left, Contains-append_right, Contains-push_cases}
use Rattle.std.specs.List.{Contains, slice_get}
use Rattle.std.specs.Option.{option_map}
use Rattle.cx_base.specs.Noted.{Note, led_by_load, led_by_store}
use Rattle.cx_core.specs.declared.kinds.Kind.{Kind}
use Rattle.cx_core.specs.declared.kinds.Kind.TheVariants.{WriteCell, Link, TryExclusive, TryShared, BackOff, Downgrade, ReleaseExclusive, LoadWord, StoreWord, Persist, Publish, WriteSet, Offer}
use Rattle.cx_core.specs.declared.local.Cell.{Cell}
use Rattle.cx_core.specs.declared.local.HeldExclusive.{HeldExclusive}
use Rattle.cx_core.specs.declared.local.Local.{Local}
use Rattle.cx_core.specs.Lawful.{CellShape}
use Rattle.cx_core.specs.LockEvents.{exclusive_mark, is_in, passing, refused_by, shared_by, taken, with_number}
use Rattle.cx_core.specs.RootEvents.{outrun, published}
use Rattle.cx_core.specs.QueueEvents.{cell_of, linked, lost, seen_word}
use Rattle.cx_core.specs.RegionEvents.{persisted, stored_into}
use Rattle.cx_core.specs.Rights.{exclusive_on, held_dirty, is_at, shared_on}
use Rattle.cx_core.specs.SetEvents.{offer_of}
use Rattle.cx_core.specs.State.{Instance, one_more}
use Rattle.cx_core.proofs.ListLemmas.{slice_get-set_same, slice_get-set_other}
use Rattle.cx_core.proofs.HeldLists.{Contains-filter, Contains-still, Contains-with, is_none, other_passes}
use Rattle.table_invariant.specs.declared.rule.KeptSet.{KeptSet}
use Rattle.table_invariant.specs.declared.rule.Known.{Known}
use Rattle.table_invariant.specs.Fitting.{IsKeptSet, TellsWord}
use Rattle.table_invariant.specs.Seats.{HasCells, SeenGuard, known_after, known_local, place_noted, unseen}
use Rattle.table_invariant.proofs.Copying.{leads_length}
use Rattle.caller_cache.specs.Copies.{Copied, HasCellWords, HasRows, HasSetWords, IsCopied, IsKeptAs, copied_after}
use Rattle.caller_cache.proofs.Rows.{row_before, same_row}

-- the place after one access more
place_more : (place : ℕ) (accesses : List Note) (stores : Bool) (at word : ℕ) → place_noted place (accesses ++ (stores, at, word) ∷ []) ≡ cond (at == 0) word (place_noted place accesses)
place_more place [] stores at word = refl
place_more place ((s, a, w) ∷ accesses) stores at word = place_more (cond (a == 0) w place) accesses stores at word

-- accesses with a load more at their end tell of a place what they told before
tells_load : (region : ℕ) (accesses : List Note) (i v at word : ℕ) → TellsWord region accesses at word → TellsWord region (accesses ++ (false, i, v) ∷ []) at word
tells_load region accesses i v at word tells first now long leads = tells first now long (led_by_load accesses i v first now leads).0

-- accesses with a store of `v` to the place `i` at their end tell that `v` stands there
tells_store : (region : ℕ) (accesses : List Note) (i v : ℕ) → i < region → TellsWord region (accesses ++ (true, i, v) ∷ []) i v
tells_store region accesses i v below first now long leads =
    let led = led_by_store accesses i v first now leads in
    let same = leads_length accesses first led.0 led.1 in
    ap (λ ws. slice_index ws i) led.2 ∙ get_or-set_same led.0 i v 0 (omega arith)

-- accesses with a store elsewhere at their end tell of a place what they told before
tells_other : (region : ℕ) (accesses : List Note) (i v at word : ℕ) → at ≢ i → TellsWord region accesses at word → TellsWord region (accesses ++ (true, i, v) ∷ []) at word
tells_other region accesses i v at word apart tells first now long leads =
    let led = led_by_store accesses i v first now leads in
    ap (λ ws. slice_index ws at) led.2 ∙ get_or-set_other led.0 i at v 0 apart ∙ tells first led.0 long led.1

-- a number that is in a list with another is that one, or was in it
with_cases : (xs : List ℕ) (x y : ℕ) → Contains (with_number xs x) y → (y ≡ x) ⊎ Contains xs y
with_cases xs x y there = by (is_in xs x) there
  where
    by : (b : Bool) → Contains (cond b xs (xs ++ x ∷ [])) y → (y ≡ x) ⊎ Contains xs y
    by true there = inr there
    by false there = elim (Contains-push_cases xs x y there) [ inl was ↦ inr was | inr now ↦ inl (sym now) ]

-- the first item of a list, and the rest
one_item : (y x : ℕ) → Contains (y ∷ []) x → y ≡ x
one_item y x here = elim (Contains-push_cases [] y x here) [ inl none ↦ (let below : none.0 < 0 = none.1 in absurd (omega arith)) | inr same ↦ same ]

abbrev Passes : (ℕ → Bool) → List ℕ → ℕ → Type 0
Passes p xs x = Contains xs x × (p x ≡ true)

-- an item `x` of `ys` that passes the test `p` is an item of `y ∷ ys` that passes it
passes_later : (p : ℕ → Bool) (y : ℕ) (ys : List ℕ) (x : ℕ) → Passes p ys x → Passes p (y ∷ ys) x
passes_later p y ys x r = (Contains-append_right (y ∷ []) ys x r.0, r.1)

-- where `y` passes the test `p`, and each item left of `ys` is one of `ys` that passes it, so is each item left of `y ∷ ys`
passes_kept : (p : ℕ → Bool) (y : ℕ) (ys left : List ℕ) (x : ℕ) → p y ≡ true → (Contains left x → Passes p ys x) → Contains (y ∷ left) x → Passes p (y ∷ ys) x
passes_kept p y ys left x e rest there = elim (Contains-append_cases (y ∷ []) left x there) [
  | inl here ↦ (Contains-append_left (y ∷ []) ys x here, ap p (sym (one_item y x here)) ∙ e)
  | inr later ↦ passes_later p y ys x (rest later)
]

-- an item that is left by a test is from before, and passes it
filtered : (p : ℕ → Bool) (xs : List ℕ) (x : ℕ) → Contains (filter p xs) x → Passes p xs x
filtered p [] x there = (let below : there.0 < 0 = there.1 in absurd (omega arith))
filtered p (y ∷ ys) x there =
    let P : Bool → Type 0 = λ b. Contains (cond b (y ∷ filter p ys) (filter p ys)) x in
    elim (cases_Bool (p y)) [
      | inl e ↦ passes_kept p y ys (filter p ys) x e (filtered p ys x) (subst P e there)
      | inr e ↦ passes_later p y ys x (filtered p ys x (subst P e there))
    ]

-- no item is in a list that is empty
none_in : (xs : List ℕ) (x : ℕ) → xs ≡ [] → Contains xs x → ⊥
none_in xs x none there = (let here = subst (λ (ys : List ℕ). Contains ys x) none there in let below : here.0 < 0 = here.1 in absurd (omega arith))

abbrev dirty_of : Local → List ℕ
dirty_of l = held_dirty l.exclusive

abbrev words_in : Cell → List ℕ
words_in c = c.words

abbrev set_in : Cell → List ℕ
set_in c = c.set

-- the words of the cells and of their sets are as they were
abbrev SameRows : (Cell → List ℕ) → Local → Local → Type 0
SameRows row l l' = (j : ℕ) → row (cell_of l' j) ≡ row (cell_of l j)

abbrev SameCells : Local → Local → Type 0
SameCells l l' = (j : ℕ) → (words_in (cell_of l' j) ≡ words_in (cell_of l j)) × (set_in (cell_of l' j) ≡ set_in (cell_of l j))

-- a list with a row of words of each cell of `l` has those of `l'`, where the rows of the cells are as they were
same_rows : (n : ℕ) (row : Cell → List ℕ) (l l' : Local) (rows : List ℕ) → SameRows row l l' → HasRows n row l rows → HasRows n row l' rows
same_rows n row l l' rows same has = record { long = has.long; each = λ j i small below. has.each j i small below ∙ ap (λ ws. slice_index ws i) (sym (same j)) }

-- words kept of a caller's cells stay theirs where the cells stay
same_cells : (l l' : Local) (cells : List ℕ) → SameCells l l' → HasCellWords l cells → HasCellWords l' cells
same_cells l l' cells same has = same_rows 145 words_in l l' cells (λ j. (same j).0) has

-- words kept of the write sets of a caller's cells stay theirs where the cells stay
same_sets : (l l' : Local) (sets : List ℕ) → SameCells l l' → HasSetWords l sets → HasSetWords l' sets
same_sets l l' sets same has = same_rows 513 set_in l l' sets (λ j. (same j).1) has

abbrev no_cell : Cell
no_cell = record { words = []; ticket = None; set = []; offer = 0 }

-- a cell that keeps its row was put
row_kept : (row : Cell → List ℕ) (cells : List Cell) (j i : ℕ) (f : Cell → Cell) → ((c : Cell) → row (f c) ≡ row c) → row (get_or (set cells j (f (get_or cells j no_cell))) i no_cell) ≡ row (get_or cells i no_cell)
row_kept row [] j i f same = refl
row_kept row (c ∷ cells) zero zero f same = same c
row_kept row (c ∷ cells) zero (suc i) f same = refl
row_kept row (c ∷ cells) (suc j) zero f same = refl
row_kept row (c ∷ cells) (suc j) (suc i) f same = row_kept row cells j i f same

-- a word was put into the row of a cell
row_put : (n : ℕ) (row : Cell → List ℕ) (l l' : Local) (rows : List ℕ) (j i v : ℕ) (new : Cell) → length l.cells ≡ 16 → j < 16 → i < n → length (row (cell_of l j)) ≡ n → l'.cells ≡ set l.cells j new → row new ≡ set (row (cell_of l j)) i v →
    HasRows n row l rows → HasRows n row l' (set rows (n * j + i) v)
row_put n row l l' rows j i v new count small below long is put has =
    let place = n * j + i in
    let there : j < length l.cells = omega (arith, count) in
    let old = row (cell_of l j) in
    let here : row (cell_of l' j) ≡ set old i v = ap (λ (cs : List Cell). row (get_or cs j no_cell)) is ∙ ap row (get_or-set_same l.cells j new no_cell there) ∙ put in
    let within : place < length rows = (let gap = row_before n j 16 small in let size = has.long in omega (arith, gap, size, below)) in
    record {
      long = length-set rows place v ∙ has.long;
      each = λ k m k_small m_below. (
          let at = n * k + m in
          elim (cases_eq k j) [
            | inl same ↦ (
                let words : row (cell_of l' k) ≡ set old i v = ap (λ q. row (cell_of l' q)) same ∙ here in
                elim (cases_eq m i) [
                  | inl e ↦
                      ap (λ q. get_or (set rows place v) (n * q + m) 0) same
                      ∙ ap (λ x. get_or (set rows place v) (n * j + x) 0) e
                      ∙ get_or-set_same rows place v 0 within
                      ∙ sym (get_or-set_same old i v 0 (omega (arith, long)))
                      ∙ ap (λ x. get_or (set old i v) x 0) (sym e)
                      ∙ ap (λ ws. get_or ws m 0) (sym words)
                  | inr ne ↦
                      get_or-set_other rows place at v 0 (λ e. ne (same_row n k j m i m_below below e).1)
                      ∙ has.each k m k_small m_below
                      ∙ ap (λ q. get_or (row (cell_of l q)) m 0) same
                      ∙ sym (get_or-set_other old i m v 0 ne)
                      ∙ ap (λ ws. get_or ws m 0) (sym words)
                ])
            | inr ne ↦
                get_or-set_other rows place at v 0 (λ e. ne (same_row n k j m i m_below below e).0)
                ∙ has.each k m k_small m_below
                ∙ ap (λ (c : Cell). get_or (row c) m 0) (sym (ap (λ (cs : List Cell). get_or cs k no_cell) is ∙ get_or-set_other l.cells j k new no_cell ne))
          ]);
    }

-- what the cells of a caller have
shape_of : (l : Local) (j : ℕ) → HasCells l → j < 16 → CellShape (cell_of l j)
shape_of l j shape small = shape.each j (cell_of l j) (slice_get-get_or l.cells j no_cell (omega (arith, small, shape.count)))

abbrev KeepsAs : ℕ → Known → Option KeptSet → Type 0
KeepsAs size k kept = (set : KeptSet) → kept ≡ Some set → IsKeptAs size k set

-- the set that is kept in plain memory stays one that the seat knows, where what it knows of kept sets stays
kept_still : (k k' : Known) (size : ℕ) (kept : Option KeptSet) → k'.kept ≡ k.kept → KeepsAs size k kept → KeepsAs size k' kept
kept_still k k' size kept same is set there = (let was = is set there in record { known_as = subst (λ ks. IsKeptSet ks set.ticket set.set) (sym same) was.known_as; within = was.within })

-- a copy in plain memory stays that of a seat where its kept sets, its accesses, its dirty words and its cells stay
still : (k k' : Known) (c : Copied) → k'.kept ≡ k.kept → k'.accesses ≡ k.accesses → dirty_of k'.local ≡ dirty_of k.local → SameCells k.local k'.local → IsCopied k c → IsCopied k' c
still k k' c same accesses dirty cells is = record {
  cells = same_cells k.local k'.local c.cells cells is.cells;
  sets = same_sets k.local k'.local c.sets cells is.sets;
  kept = kept_still k k' (length c.words) c.kept same is.kept;
  long = is.long;
  place = is.place ∙ ap (place_noted 0) (sym accesses);
  marks = λ i below. subst (λ ds. (slice_get c.dirty i ≡ Some true) ↔ Contains ds i) (sym dirty) (is.marks i below);
  words = λ i below there. subst (λ (ns : List Note). TellsWord (length c.words) ns i (slice_index c.words i)) (sym accesses) (is.words i below (subst (λ ds. Contains ds i) dirty there));
}

-- a replica taken, or none: nothing is noted of it
begun : (k k' : Known) (c : Copied) → k'.kept ≡ k.kept → k'.accesses ≡ [] → dirty_of k'.local ≡ [] → dirty_of k.local ≡ [] → SameCells k.local k'.local → IsCopied k c → IsCopied k' (record c { place = 0 })
begun k k' c same accesses none clean cells is = record {
  cells = same_cells k.local k'.local c.cells cells is.cells;
  sets = same_sets k.local k'.local c.sets cells is.sets;
  kept = kept_still k k' (length c.words) c.kept same is.kept;
  long = is.long;
  place = ap (place_noted 0) (sym accesses);
  marks = λ i below. subst (λ ds. (slice_get c.dirty i ≡ Some true) ↔ Contains ds i) (clean ∙ sym none) (is.marks i below);
  words = λ i below there. absurd (none_in (dirty_of k'.local) i none there);
}

-- a word loaded
loaded : (k k' : Known) (c : Copied) (i found : ℕ) → k'.kept ≡ k.kept → k'.accesses ≡ k.accesses ++ (false, i, found) ∷ [] → dirty_of k'.local ≡ dirty_of k.local → SameCells k.local k'.local → IsCopied k c → IsCopied k' (record c { place = cond (i == 0) found c.place })
loaded k k' c i found same accesses dirty cells is = record {
  cells = same_cells k.local k'.local c.cells cells is.cells;
  sets = same_sets k.local k'.local c.sets cells is.sets;
  kept = kept_still k k' (length c.words) c.kept same is.kept;
  long = is.long;
  place = ap (λ p. cond (i == 0) found p) is.place ∙ sym (place_more 0 k.accesses false i found) ∙ ap (place_noted 0) (sym accesses);
  marks = λ j below. subst (λ ds. (slice_get c.dirty j ≡ Some true) ↔ Contains ds j) (sym dirty) (is.marks j below);
  words = λ j below there. subst (λ (ns : List Note). TellsWord (length c.words) ns j (slice_index c.words j)) (sym accesses)
      (tells_load (length c.words) k.accesses i found j (slice_index c.words j) (is.words j below (subst (λ ds. Contains ds j) dirty there)));
}

-- a word stored
stored : (k k' : Known) (c : Copied) (i v : ℕ) → i < length c.words → k'.kept ≡ k.kept → k'.accesses ≡ k.accesses ++ (true, i, v) ∷ [] → dirty_of k'.local ≡ with_number (dirty_of k.local) i → SameCells k.local k'.local → IsCopied k c →
    IsCopied k' (record { words = set c.words i v; dirty = set c.dirty i true; place = cond (i == 0) v c.place; cells = c.cells; sets = c.sets; kept = c.kept })
stored k k' c i v small same accesses dirty cells is =
    let n = length c.words in
    let n' = length-set c.words i v in
    let ds = dirty_of k.local in
    let within : i < length c.dirty = omega (arith, is.long) in
    let tells : (j word : ℕ) → TellsWord n (k.accesses ++ (true, i, v) ∷ []) j word → TellsWord (length (set c.words i v)) k'.accesses j word = λ j word t.
    subst (λ (ns : List Note). TellsWord (length (set c.words i v)) ns j word) (sym accesses) (subst (λ m. TellsWord m (k.accesses ++ (true, i, v) ∷ []) j word) (sym n') t) in
    record {
      cells = same_cells k.local k'.local c.cells cells is.cells;
      sets = same_sets k.local k'.local c.sets cells is.sets;
      kept = subst (λ m. KeepsAs m k' c.kept) (sym n') (kept_still k k' n c.kept same is.kept);
      long = length-set c.dirty i true ∙ is.long ∙ sym n';
      place = ap (λ p. cond (i == 0) v p) is.place ∙ sym (place_more 0 k.accesses true i v) ∙ ap (place_noted 0) (sym accesses);
      marks = λ j below. subst (λ xs. (slice_get (set c.dirty i true) j ≡ Some true) ↔ Contains xs j) (sym dirty) (elim (cases_eq j i) [
        | inl e ↦ (λ _. subst (Contains (with_number ds i)) (sym e) (Contains-with ds i), λ _. subst (λ m. slice_get (set c.dirty i true) m ≡ Some true) (sym e) (slice_get-set_same c.dirty i true within))
        | inr ne ↦ (
            let was = is.marks j (omega (arith, n', below)) in
            let same = slice_get-set_other c.dirty i j true ne in (
              λ marked. Contains-still ds i j (was.0 (sym same ∙ marked)),
              λ there. same ∙ was.1 (elim (with_cases ds i j there) [ inl e ↦ absurd (ne e) | inr w ↦ w ]),
            ))
      ]);
      words = λ j below there. elim (cases_eq j i) [
        | inl e ↦ subst (λ m. TellsWord (length (set c.words i v)) k'.accesses m (slice_index (set c.words i v) m)) (sym e)
            (subst (TellsWord (length (set c.words i v)) k'.accesses i) (sym (get_or-set_same c.words i v 0 small)) (tells i v (tells_store n k.accesses i v small)))
        | inr ne ↦ (
            let was : Contains ds j = elim (with_cases ds i j (subst (λ xs. Contains xs j) dirty there)) [ inl e ↦ absurd (ne e) | inr w ↦ w ] in
            let old = is.words j (omega (arith, n', below)) was in
            subst (TellsWord (length (set c.words i v)) k'.accesses j) (sym (get_or-set_other c.words i j v 0 ne)) (tells j (slice_index c.words j) (tells_other n k.accesses i v j (slice_index c.words j) ne old)))
      ];
    }

-- a word persisted
cleaned : (k k' : Known) (c : Copied) (i : ℕ) → i < length c.words → k'.kept ≡ k.kept → k'.accesses ≡ k.accesses → dirty_of k'.local ≡ filter (λ x. cond (x == i) false true) (dirty_of k.local) → SameCells k.local k'.local → IsCopied k c →
    IsCopied k' (record c { dirty = set c.dirty i false })
cleaned k k' c i small same accesses dirty cells is =
    let ds = dirty_of k.local in
    let p : ℕ → Bool = λ x. cond (x == i) false true in
    let within : i < length c.dirty = omega (arith, is.long) in
    record {
      cells = same_cells k.local k'.local c.cells cells is.cells;
      sets = same_sets k.local k'.local c.sets cells is.sets;
      kept = kept_still k k' (length c.words) c.kept same is.kept;
      long = length-set c.dirty i false ∙ is.long;
      place = is.place ∙ ap (place_noted 0) (sym accesses);
      marks = λ j below. subst (λ xs. (slice_get (set c.dirty i false) j ≡ Some true) ↔ Contains xs j) (sym dirty) (elim (cases_eq j i) [
        | inl e ↦ (
          λ marked. absurd (off (sym (slice_get-set_same c.dirty i false within) ∙ subst (λ m. slice_get (set c.dirty i false) m ≡ Some true) e marked)),
          λ there. absurd (fails j e (filtered p ds j there).1),
        )
        | inr ne ↦ (
            let was = is.marks j below in
            let same = slice_get-set_other c.dirty i j false ne in (
              λ marked. Contains-filter p ds j (was.0 (sym same ∙ marked)) (other_passes i j ne),
              λ there. same ∙ was.1 (filtered p ds j there).0,
            ))
      ]);
      words = λ j below there. subst (λ (ns : List Note). TellsWord (length c.words) ns j (slice_index c.words j)) (sym accesses) (is.words j below (filtered p ds j (subst (λ xs. Contains xs j) dirty there)).0);
    }
  where
    off : Some false ≡ Some true → ⊥
    off e = cc

    -- the number `j` of the word that was persisted, `i`, does not pass the test that leaves it out of the dirty words
    fails : (j : ℕ) → j ≡ i → cond (j == i) false true ≡ true → ⊥
    fails j e t = (let on : (j == i) ≡ true = eq-eqb j i e in cc)

-- the dirty words of the exclusive right after steps on it
dirty_stored : (o : Option HeldExclusive) (r i v : ℕ) → option_map (λ (h : HeldExclusive). h.replica) o ≡ Some r → held_dirty (option_map (stored_into i v) o) ≡ with_number (held_dirty o) i
dirty_stored None r i v e = cc
dirty_stored (Some h) r i v e = refl

dirty_persisted : (o : Option HeldExclusive) (i : ℕ) → held_dirty (option_map (persisted i) o) ≡ filter (λ x. cond (x == i) false true) (held_dirty o)
dirty_persisted None i = refl
dirty_persisted (Some h) i = refl

-- a right that is backed off from: the shared one, the passer's mark, or the downgraded one
abbrev backed_off_by : Bool → Bool → Local → Local
backed_off_by a b l = cond a (record l { shared = None; steps = one_more l.steps }) (cond b (record l { passer = None; steps = one_more l.steps }) (record l { downgraded = None; steps = one_more l.steps }))

-- what a seat keeps in plain memory follows a step of any kind: it has as many words, and is the copy of what the caller knows after the step
pub copy_kept : (instance : Instance) (kind : Kind) (k : Known) (found : ℕ) (c : Copied) → SeenGuard instance kind k.local → HasCells k.local → length c.words ≡ length instance.base.words → IsCopied k c →
    (length (copied_after kind k found c).words ≡ length c.words) × IsCopied (known_after instance kind k found) (copied_after kind k found c)
copy_kept instance (WriteCell j i v) k found c guard shape long is = (
  refl,
  record {
    long = is.long;
    place = is.place;
    marks = is.marks;
    words = is.words;
    kept = λ x there. (let was = is.kept x there in record { known_as = was.known_as; within = was.within });
    cells = row_put 145 words_in k.local _ c.cells j i v (record (cell_of k.local j) { words = set (cell_of k.local j).words i v; ticket = None }) shape.count guard.0 guard.1 (shape_of k.local j shape guard.0).words refl refl is.cells;
    sets = same_rows 513 set_in k.local _ c.sets (λ n. row_kept set_in k.local.cells j n (λ x. record x { words = set x.words i v; ticket = None }) (λ x. refl)) is.sets;
  },
)
copy_kept instance (Link j) k found c guard shape long is = (
  refl,
  still k _ c refl refl (elim (found == seen_word k.local.seen_slot) as (λ b. dirty_of (cond b (linked k.local j) (lost instance.callers k.local found)) ≡ dirty_of k.local) [ true ↦ refl | false ↦ refl ])
      (elim (found == seen_word k.local.seen_slot) as (λ b. SameCells k.local (cond b (linked k.local j) (lost instance.callers k.local found))) [
        | true ↦ (λ i. (row_kept words_in k.local.cells j i (λ x. record x { ticket = Some k.local.front }) (λ x. refl), row_kept set_in k.local.cells j i (λ x. record x { ticket = Some k.local.front }) (λ x. refl)))
        | false ↦ (λ i. (refl, refl))
      ]) is,
)
copy_kept instance (TryExclusive r) k found c guard shape long is =
    let none : dirty_of k.local ≡ [] = ap held_dirty (is_none k.local.exclusive guard.1) in (
      refl,
      begun k _ c refl refl (elim (found == 0) as (λ b. dirty_of (cond b (taken instance unseen r k.local) (refused_by instance.callers r k.local found)) ≡ []) [ true ↦ refl | false ↦ none ]) none
          (elim (found == 0) as (λ b. SameCells k.local (cond b (taken instance unseen r k.local) (refused_by instance.callers r k.local found))) [ true ↦ (λ j. (refl, refl)) | false ↦ (λ j. (refl, refl)) ]) is,
    )
copy_kept instance (TryShared r) k found c guard shape long is = (
  refl,
  still k _ c refl refl (elim (nat_lt found exclusive_mark) as (λ b. dirty_of (cond b (shared_by r k.local found) (passing instance.callers r k.local found)) ≡ dirty_of k.local) [ true ↦ refl | false ↦ refl ])
      (elim (nat_lt found exclusive_mark) as (λ b. SameCells k.local (cond b (shared_by r k.local found) (passing instance.callers r k.local found))) [ true ↦ (λ j. (refl, refl)) | false ↦ (λ j. (refl, refl)) ]) is,
)
copy_kept instance (BackOff r) k found c guard shape long is = (let b = backed (is_at r (shared_on k.local)) (is_at r k.local.passer) in (refl, still k _ c refl refl b.0 b.1 is))
  where
    backed : (a b : Bool) → (dirty_of (backed_off_by a b k.local) ≡ dirty_of k.local) × SameCells k.local (backed_off_by a b k.local)
    backed true b = (refl, λ j. (refl, refl))
    backed false true = (refl, λ j. (refl, refl))
    backed false false = (refl, λ j. (refl, refl))
copy_kept instance (Downgrade r) k found c guard shape long is = (refl, still k _ c refl refl (sym guard.3) (λ j. (refl, refl)) is)
copy_kept instance (ReleaseExclusive r) k found c guard shape long is = (refl, still k _ c refl refl (sym guard.3) (λ j. (refl, refl)) is)
copy_kept instance (LoadWord r i refused) k found c guard shape long is =
    let known' : Bool → Known = λ b. record { local = known_local instance (LoadWord r i refused) k found; noted = k.noted ++ []; accesses = cond b (k.accesses ++ (false, i, found) ∷ []) k.accesses; sets = k.sets; times = k.times; images = k.images; kept = k.kept } in
    let after : Bool → Copied = λ b. cond b (record c { place = cond (i == 0) found c.place }) c in
    elim (is_at r (exclusive_on k.local)) as (λ b. (length (after b).words ≡ length c.words) × IsCopied (known' b) (after b)) [
      | true ↦ (refl, loaded k (known' true) c i found refl refl refl (λ j. (refl, refl)) is)
      | false ↦ (refl, still k (known' false) c refl refl refl (λ j. (refl, refl)) is)
    ]
copy_kept instance (StoreWord r i v) k found c guard shape long is =
    let below = guard.1 in
    (length-set c.words i v, stored k _ c i v (omega arith) refl refl (dirty_stored k.local.exclusive r i v guard.2) (λ j. (refl, refl)) is)
copy_kept instance (Persist r i) k found c guard shape long is =
    let below = guard.0.1 in
    (refl, cleaned k _ c i (omega arith) refl refl (dirty_persisted k.local.exclusive i) (λ j. (refl, refl)) is)
copy_kept instance Publish k found c guard shape long is = (
  refl,
  still k _ c refl refl (elim (found == k.local.seen_cur) as (λ b. dirty_of (cond b (published instance.callers k.local) (outrun instance.callers k.local found)) ≡ dirty_of k.local) [ true ↦ refl | false ↦ refl ])
      (elim (found == k.local.seen_cur) as (λ b. SameCells k.local (cond b (published instance.callers k.local) (outrun instance.callers k.local found))) [ true ↦ (λ j. (refl, refl)) | false ↦ (λ j. (refl, refl)) ]) is,
)
copy_kept instance (WriteSet j i v) k found c guard shape long is = (
  refl,
  record {
    long = is.long;
    place = is.place;
    marks = is.marks;
    words = is.words;
    kept = λ x there. (let was = is.kept x there in record { known_as = was.known_as; within = was.within });
    cells = same_rows 145 words_in k.local _ c.cells (λ n. row_kept words_in k.local.cells j n (λ x. record x { set = set x.set i v }) (λ x. refl)) is.cells;
    sets = row_put 513 set_in k.local _ c.sets j i v (record (cell_of k.local j) { set = set (cell_of k.local j).set i v }) shape.count guard.0.0 guard.1 (shape_of k.local j shape guard.0.0).set refl refl is.sets;
  },
)
copy_kept instance (Offer j) k found c guard shape long is = (
  refl,
  still k _ c refl refl refl (λ n. (row_kept words_in k.local.cells j n (λ x. record x { offer = offer_of x.ticket x.offer }) (λ x. refl), row_kept set_in k.local.cells j n (λ x. record x { offer = offer_of x.ticket x.offer }) (λ x. refl))) is,
)
copy_kept instance kind k found c guard shape long is = (refl, still k _ c refl refl refl (λ j. (refl, refl)) is)
