-- What a load, a store and a word more that is held back do to the pairs that a buffer shows.
use Rattle.std.proofs.Common.{◌≡◌, ◌≢◌, ◌^◌, ◌+◌, ◌<◌, ◌≤◌, ℕ, List, length, slice_index, slice_set, refl, sym, ap, subst, ◌∙◌, inl, inr, arith}
use Rattle.std.proofs.lemmas.Bool.{cases_eq}
use Rattle.std.proofs.lemmas.List.{length-set, get_or-set_same, get_or-set_other, set-set, set-get_or, ext_get_or}
use Rattle.cx_base.specs.Memory.{Words, Loaded, Stored, Always, Becomes}
use Rattle.cx_base.specs.WordLaws.{Words-set, Words-at}
use Rattle.cx_base.proofs.MemoryLemmas.{always_at_most}
use Rattle.write_buffer.specs.Buffering.{IsFree, Covers, IsHeldBack, Shows}

-- a number put into a list at `n` stands there
there : (xs : List ℕ) (n v : ℕ) → n < length xs → slice_index (slice_set xs n v) n ≡ v
there xs n v l = get_or-set_same xs n v 0 l

-- a number put into a list at `n` leaves what stands at another index `i` as it was
beside : (xs : List ℕ) (n i v : ℕ) → i ≢ n → slice_index (slice_set xs n v) i ≡ slice_index xs i
beside xs n i v ne = get_or-set_other xs n i v 0 ne

-- where nothing is held back, the words are those behind
pub covers_none : (places values under now : List ℕ) → Covers 0 places values under now → now ≡ under
covers_none places values under now c =
    ext_get_or 0 now under c.long (λ at l. c.free at (λ i below. absurd (omega (arith, below))))

-- where the memory behind has `x` at a free place, the words in front are also the words behind with one word more put over them, `x` at this place
pub covers_more : (count at x : ℕ) (places values under now : List ℕ) → count < length places → count < length values → IsFree places count at → Covers count places values under now → slice_index under at ≡ x →
    Covers (count + 1) (slice_set places count at) (slice_set values count x) under now
covers_more count at x places values under now p v free c e = record {
  long = c.long;
  held = λ i l. elim (cases_eq i count) [
    | inl same ↦ subst (λ k. slice_index now (slice_index (slice_set places count at) k) ≡ slice_index (slice_set values count x) k) (sym same)
        (ap (slice_index now) (there places count at p) ∙ c.free at free ∙ e ∙ sym (there values count x v))
    | inr other ↦ ap (slice_index now) (beside places count i at other) ∙ c.held i (let d : i ≢ count = other in omega (arith, l, d)) ∙ sym (beside values count i x other)
  ];
  free = λ a f. c.free a (λ i l e'. f i (omega (arith, l)) (beside places count i at (λ same. omega (arith, l, same)) ∙ e'));
}

-- where the last word held back is what the memory behind has there, the words in front are also the words behind with the others alone put over them
pub covers_less : (count at x : ℕ) (places values under now : List ℕ) → count < length places → count < length values → slice_index under at ≡ x →
    Covers (count + 1) (slice_set places count at) (slice_set values count x) under now → Covers count places values under now
covers_less count at x places values under now p v e c = record {
  long = c.long;
  held = λ i l. (
      let other : i ≢ count = λ same. omega (arith, l, same) in
      ap (slice_index now) (sym (beside places count i at other)) ∙ c.held i (omega (arith, l)) ∙ beside values count i x other);
  free = λ a f. elim (cases_eq a at) [
    | inl same ↦ subst (λ k. slice_index now k ≡ slice_index under k) (sym same)
        (ap (slice_index now) (sym (there places count at p)) ∙ c.held count (omega arith) ∙ there values count x v ∙ sym e)
    | inr other ↦ c.free a (λ i l e'. elim (cases_eq i count) [
      | inl same ↦ absurd (other (sym e' ∙ ap (slice_index (slice_set places count at)) same ∙ there places count at p))
      | inr before ↦ f i (let d : i ≢ count = before in omega (arith, l, d)) (sym (beside places count i at before) ∙ e')
    ])
  ];
}

-- where a word held back gets another value, so does the word in front at its place
pub covers_put : (count i at v : ℕ) (places values under now : List ℕ) → i < count → count ≤ length values → slice_index places i ≡ at → at < length now →
    ((j k : ℕ) → j < count → k < count → slice_index places j ≡ slice_index places k → j ≡ k) →
    Covers count places values under now → Covers count places (slice_set values i v) under (slice_set now at v)
covers_put count i at v places values under now l few e within apart c = record {
  long = length-set now at v ∙ c.long;
  held = λ j m. elim (cases_eq j i) [
    | inl same ↦ subst (λ k. slice_index (slice_set now at v) (slice_index places k) ≡ slice_index (slice_set values i v) k) (sym same)
        (ap (slice_index (slice_set now at v)) e ∙ there now at v within ∙ sym (there values i v (omega (arith, l, few))))
    | inr other ↦ beside now at (slice_index places j) v (λ s. other (apart j i m l (s ∙ sym e))) ∙ c.held j m ∙ sym (beside values i j v other)
  ];
  free = λ a f. beside now at a v (λ s. f i l (e ∙ sym s)) ∙ c.free a f;
}

-- where a free word is replaced both behind and in front, the words in front are still those behind with the words held back put over them
pub covers_both : (count at v : ℕ) (places values under now : List ℕ) → at < length under → IsFree places count at → Covers count places values under now →
    Covers count places values (slice_set under at v) (slice_set now at v)
covers_both count at v places values under now within free c = record {
  long = length-set now at v ∙ c.long ∙ sym (length-set under at v);
  held = λ i l. beside now at (slice_index places i) v (free i l) ∙ c.held i l;
  free = λ a f. elim (cases_eq a at) [
    | inl same ↦ subst (λ k. slice_index (slice_set now at v) k ≡ slice_index (slice_set under at v) k) (sym same)
        (there now at v (let long = c.long in omega (arith, within, long)) ∙ sym (there under at v within))
    | inr other ↦ beside now at a v other ∙ c.free a f ∙ sym (beside under at a v other)
  ];
}

-- a number that was replaced in a list and is put back gives the list again
put_back : (xs : List ℕ) (i v w : ℕ) → slice_index xs i ≡ w → slice_set (slice_set xs i v) i w ≡ xs
put_back xs i v w e = set-set xs i v w ∙ ap (slice_set xs i) (sym e) ∙ set-get_or xs i 0

module _ {Key : Type 0} where
  -- a load of a place that is held back gives what was found there, for the memory behind has it still
  pub found_there : {old new : Key → List ℕ → Type 0} (size count i at x : ℕ) (places found values : List ℕ) → i < count → slice_index places i ≡ at →
      ∥ ((key : Key) × (now : List ℕ) × new key now) ∥₁ → IsHeldBack old size count places found values → Loaded at x old new → x ≡ slice_index found i
  found_there {new = new} size count i at x places found values l e some h d =
      let f = slice_index found i in
      let same : Always new (λ _. x ≡ f) = λ key u s. (let p = d.back key u s in sym p.1 ∙ ap (slice_index u) (sym e) ∙ h.known key u p.0 i l) in
      let up : x ≤ f = always_at_most new some x f (λ key u s. (let q = same key u s in omega (arith, q))) in
      let down : f ≤ x = always_at_most new some f x (λ key u s. (let q = same key u s in omega (arith, q))) in
      omega (arith, up, down)

  -- a load of a free word in front is the load of it behind
  pub shows_load : {old new : Key → List ℕ → Type 0} (size count at x : ℕ) (places values : List ℕ) → IsFree places count at → Loaded at x old new →
      Loaded at x (Shows old size count places values) (Shows new size count places values)
  shows_load size count at x places values free d = record {
    back = λ key now s. (let p = d.back key s.under s.stood in (record { under = s.under; stood = p.0; over = s.over; words = s.words }, s.over.free at free ∙ p.1));
    on = λ key now s e. record { under = s.under; stood = d.on key s.under s.stood (sym (s.over.free at free) ∙ e); over = s.over; words = s.words };
  }

  -- a load of a free word in front is the load of it behind, also where the word is held back from then on
  pub shows_push : {old new : Key → List ℕ → Type 0} (size count at x : ℕ) (places found values : List ℕ) → count < 192 → IsHeldBack old size count places found values → IsFree places count at → Loaded at x old new →
      Loaded at x (Shows old size count places values) (Shows new size (count + 1) (slice_set places count at) (slice_set values count x))
  shows_push size count at x places found values room h free d =
      let p : count < length places = (let e = h.places_long in omega (arith, e, room)) in
      let v : count < length values = (let e = h.values_long in omega (arith, e, room)) in
      let plain = shows_load size count at x places values free d in
      record {
        back = λ key now s. plain.back key now (record {
          under = s.under;
          stood = s.stood;
          over = covers_less count at x places values s.under now p v (d.back key s.under s.stood).1 s.over;
          words = s.words;
        });
        on = λ key now s e. (
            let t = plain.on key now s e in
            record { under = t.under; stood = t.stood; over = covers_more count at x places values t.under now p v free t.over (d.back key t.under t.stood).1; words = t.words });
      }

  -- a load of a word that is held back gives its value, for a load of its place behind
  pub shows_held : {old new : Key → List ℕ → Type 0} (size count i at x : ℕ) (places found values : List ℕ) → i < count → slice_index places i ≡ at → x ≡ slice_index found i →
      IsHeldBack old size count places found values → Loaded at x old new → Loaded at (slice_index values i) (Shows old size count places values) (Shows new size count places values)
  shows_held size count i at x places found values l e same h d = record {
    back = λ key now s. (
        let p = d.back key s.under s.stood in
        (record { under = s.under; stood = p.0; over = s.over; words = s.words }, ap (slice_index now) (sym e) ∙ s.over.held i l));
    on = λ key now s _. record {
      under = s.under;
      stood = d.on key s.under s.stood (ap (slice_index s.under) (sym e) ∙ h.known key s.under s.stood i l ∙ sym same);
      over = s.over;
      words = s.words;
    };
  }

  -- a store to a word that is held back replaces its value alone, for a load of its place behind
  pub shows_put : {old new : Key → List ℕ → Type 0} (size count i at x v : ℕ) (places found values : List ℕ) → i < count → v < 2 ^ 64 → slice_index places i ≡ at → x ≡ slice_index found i →
      IsHeldBack old size count places found values → Loaded at x old new → Stored at v (Shows old size count places values) (Shows new size count places (slice_set values i v))
  shows_put size count i at x v places found values l fits e same h d =
      let few : count ≤ length values = (let f = h.few in let long = h.values_long in omega (arith, f, long)) in
      let inside : at < size = subst (λ n. n < size) e (h.within i l) in
      let w = slice_index values i in
      record {
        back = λ key now s. (
            let within : at < length now = (let long = s.words.long in omega (arith, inside, long)) in
            let there_now : slice_index now at ≡ v = ap (slice_index now) (sym e) ∙ s.over.held i l ∙ there values i v (omega (arith, l, few)) in
            let few' : count ≤ length (slice_set values i v) = subst (λ n. count ≤ n) (sym (length-set values i v)) few in (
              slice_set now at w,
              record {
                under = s.under;
                stood = (d.back key s.under s.stood).0;
                over = subst (λ xs. Covers count places xs s.under (slice_set now at w)) (put_back values i v w refl)
                    (covers_put count i at w places (slice_set values i v) s.under now l few' e within h.apart s.over);
                words = Words-set size now at w (h.small i l) s.words;
              },
              sym (put_back now at w v there_now),
            ));
        on = λ key before s. record {
          under = s.under;
          stood = d.on key s.under s.stood (ap (slice_index s.under) (sym e) ∙ h.known key s.under s.stood i l ∙ sym same);
          over = covers_put count i at v places values s.under before l few e (let long = s.words.long in omega (arith, inside, long)) h.apart s.over;
          words = Words-set size before at v fits s.words;
        };
      }

  -- a store to a free word in front is the store to it behind
  pub shows_store : {old new : Key → List ℕ → Type 0} (size count at v : ℕ) (places values : List ℕ) → at < size → v < 2 ^ 64 → ((key : Key) (u : List ℕ) → old key u → Words size u) → IsFree places count at → Stored at v old new →
      Stored at v (Shows old size count places values) (Shows new size count places values)
  shows_store size count at v places values inside fits words free d = record {
    back = λ key now s. (
        let p = d.back key s.under s.stood in
        let w = slice_index p.0 at in
        let long = (words key p.0 p.1).long in
        let behind : at < length p.0 = omega (arith, inside, long) in
        let within : at < length s.under = subst (λ n. at < n) (sym (ap length p.2 ∙ length-set p.0 at v)) behind in
        let there_now : slice_index now at ≡ v = s.over.free at free ∙ ap (λ xs. slice_index xs at) p.2 ∙ there p.0 at v behind in
        let under_is : slice_set s.under at w ≡ p.0 = ap (λ xs. slice_set xs at w) p.2 ∙ put_back p.0 at v w refl in (
          slice_set now at w,
          record {
            under = p.0;
            stood = p.1;
            over = subst (λ xs. Covers count places values xs (slice_set now at w)) under_is (covers_both count at w places values s.under now within free s.over);
            words = Words-set size now at w (Words-at size p.0 at (words key p.0 p.1)) s.words;
          },
          sym (put_back now at w v there_now),
        ));
    on = λ key before s. (
        let long = (words key s.under s.stood).long in
        record {
          under = slice_set s.under at v;
          stood = d.on key s.under s.stood;
          over = covers_both count at v places values s.under before (omega (arith, inside, long)) free s.over;
          words = Words-set size before at v fits s.words;
        });
  }

-- once the first `i` words held back are put over the words before, and word `i` is stored, the first `i + 1` are
pub covers_stored : (i count : ℕ) (places values before now : List ℕ) → i < count → slice_index places i < length now →
    ((j k : ℕ) → j < count → k < count → slice_index places j ≡ slice_index places k → j ≡ k) →
    Covers i places values before now → Covers (i + 1) places values before (slice_set now (slice_index places i) (slice_index values i))
covers_stored i count places values before now l within apart c =
    let at = slice_index places i in
    let v = slice_index values i in
    record {
      long = length-set now at v ∙ c.long;
      held = λ j m. elim (cases_eq j i) [
        | inl same ↦ subst (λ k. slice_index (slice_set now at v) (slice_index places k) ≡ slice_index values k) (sym same) (there now at v within)
        | inr other ↦ beside now at (slice_index places j) v (λ s. other (apart j i (omega (arith, l, m)) l s)) ∙ c.held j (let d : j ≢ i = other in omega (arith, m, d))
      ];
      free = λ a f. beside now at a v (λ s. f i (omega arith) (sym s)) ∙ c.free a (λ j m. f j (omega (arith, m)));
    }

-- once the first `i` words held back are put over the words before, and word `i` is what was found behind it, the first `i + 1` are
pub covers_kept : (i count : ℕ) (places found values before now : List ℕ) → i < count → slice_index values i ≡ slice_index found i → slice_index before (slice_index places i) ≡ slice_index found i →
    ((j k : ℕ) → j < count → k < count → slice_index places j ≡ slice_index places k → j ≡ k) →
    Covers i places values before now → Covers (i + 1) places values before now
covers_kept i count places found values before now l same known apart c = record {
  long = c.long;
  held = λ j m. elim (cases_eq j i) [
    | inl e ↦ subst (λ k. slice_index now (slice_index places k) ≡ slice_index values k) (sym e)
        (c.free (slice_index places i) (λ k o s. (let q = apart k i (omega (arith, o, l)) l s in omega (arith, o, q))) ∙ known ∙ sym same)
    | inr other ↦ c.held j (let d : j ≢ i = other in omega (arith, m, d))
  ];
  free = λ a f. c.free a (λ j m. f j (omega (arith, m)));
}

module _ {Key : Type 0} where
  -- what holds of all words behind holds of all in front, where nothing is held back yet
  pub always_over : {stands : Key → List ℕ → Type 0} {P : List ℕ → Type 0} (size count : ℕ) (places values : List ℕ) → count ≡ 0 → Always stands P → Always (Shows stands size count places values) P
  always_over {P = P} size count places values e all key now s =
      subst P (sym (covers_none places values s.under now (subst (λ n. Covers n places values s.under now) e s.over))) (all key s.under s.stood)

  -- a change in front, whose words are then stored, is a change behind
  pub becomes_behind : {old mid new : Key → List ℕ → Type 0} {R : List ℕ → List ℕ → Type 0} (size size' none count : ℕ) (places values places' values' : List ℕ) → none ≡ 0 →
      ((key : Key) (now : List ℕ) → new key now → Words size' now) →
      Becomes (Shows old size none places values) (Shows mid size' count places' values') R → Becomes mid new (Covers count places' values') → Becomes old new R
  becomes_behind {R = R} size size' none count places values places' values' e words b d = record {
    from = λ key now s. (
        let q = d.from key now s in
        let p = b.from key now (record { under = q.0; stood = q.1; over = q.2; words = words key now s }) in (
          p.1.under,
          p.1.stood,
          subst (λ xs. R xs now) (covers_none places values p.1.under p.0 (subst (λ n. Covers n places values p.1.under p.0) e p.1.over)) p.2,
        ));
  }

module _ {Key : Type 0} where
  -- for all words that may stand: once the first `i` words held back are put over those before, and word `i` is stored, the first `i + 1` are
  pub becomes_stored : {old mid new : Key → List ℕ → Type 0} (size i count : ℕ) (places found values : List ℕ) → i < count → IsHeldBack old size count places found values →
      ((key : Key) (now : List ℕ) → mid key now → Words size now) → Becomes old mid (Covers i places values) → Stored (slice_index places i) (slice_index values i) mid new → Becomes old new (Covers (i + 1) places values)
  becomes_stored size i count places found values l h words b d = record {
    from = λ key now s. (
        let q = d.back key now s in
        let p = b.from key q.0 q.1 in
        let within : slice_index places i < length q.0 = (let w = h.within i l in let long = (words key q.0 q.1).long in omega (arith, w, long)) in
        (p.0, p.1, subst (λ xs. Covers (i + 1) places values p.0 xs) (sym q.2) (covers_stored i count places values p.0 q.0 l within h.apart p.2)));
  }

  -- where held-back word `i` is what was found behind it, the first `i + 1` words are put over once the first `i` are
  pub becomes_kept : {old mid : Key → List ℕ → Type 0} (size i count : ℕ) (places found values : List ℕ) → i < count → slice_index values i ≡ slice_index found i → IsHeldBack old size count places found values →
      Becomes old mid (Covers i places values) → Becomes old mid (Covers (i + 1) places values)
  becomes_kept size i count places found values l same h b = record {
    from = λ key now s. (let p = b.from key now s in (p.0, p.1, covers_kept i count places found values p.0 now l same (h.known key p.0 p.1 i l) h.apart p.2));
  }
