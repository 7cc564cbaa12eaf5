-- A write at the place of a key, and what a put and a put on condition answer.
use Rattle.std.proofs.Common.{◌≡◌, ◌≢◌, ℕ, ◌+◌, eqb, Bool, true, false, cond, List, ◌∷◌, ◌++◌, set, take, drop, Result, Ok, refl, sym, ap, ◌∙◌, subst, add-one, is_some}
use Rattle.std.proofs.lemmas.Bool.{ne_eqb, eq-eqb}
use Rattle.std.proofs.lemmas.List.{set_split, map-append}
use Rattle.std.specs.Ordering.{is_lt}
use Rattle.cx_base.specs.Store.{key_cmp}
use Rattle.doc_model.specs.Meaning.{pairs_above, with_pair, has_room, put_reply, put_if_reply, store_after_put, store_after_put_if, standing_revision, document_at, set_reply}
use Rattle.doc_model.specs.Place.{DoesOp, IsAtPlace, IsGapFor, pairs_of}
use Rattle.doc_model.specs.Revisions.{RevisedStore, next_revision, triples_below, triples_above, store_written, pairs_in}
use Rattle.doc_model.specs.declared.operations.Reply.{Reply}
use Rattle.doc_model.specs.declared.operations.Reply.TheVariants.{New, Replaced, NoRoom, Stale}
use Rattle.doc_model.proofs.Revised.{pairs_written, kept_pairs}

module _ (triples : List ((List ℕ × List ℕ) × ℕ)) (key document : List ℕ) (last : ℕ) where
  abbrev new : (List ℕ × List ℕ) × ℕ
  new = ((key, document), next_revision last)

  abbrev store : RevisedStore
  store = record { last = last; triples = triples }

  -- the triples with one more between those below and those above
  pairs_with : (front back : List ((List ℕ × List ℕ) × ℕ)) → triples_below key triples ≡ front → triples_above key triples ≡ back → pairs_of front ++ (key, document) ∷ pairs_of back ≡ with_pair key document (pairs_of triples)
  pairs_with front back below above =
      sym (map-append (λ t. t.0) front (new ∷ back)) ∙ ap (λ s. pairs_of (s ++ new ∷ back)) (sym below) ∙ ap (λ s. pairs_of (triples_below key triples ++ new ∷ s)) (sym above) ∙ pairs_written key document store

  pub room_at : (lines at : ℕ) (b : Bool) → IsAtPlace triples key at → b ≡ has_room lines (pairs_of (take at triples) ++ (key, document) ∷ pairs_of (drop (at + 1) triples)) → has_room lines (with_pair key document (pairs_of triples)) ≡ b
  room_at lines at b here e = ap (has_room lines) (sym (pairs_with (take at triples) (drop (at + 1) triples) here.below here.above)) ∙ sym e

  pub room_in : (lines at : ℕ) (b : Bool) → IsGapFor triples key at → b ≡ has_room lines (pairs_of (take at triples) ++ (key, document) ∷ pairs_of (drop at triples)) → has_room lines (with_pair key document (pairs_of triples)) ≡ b
  room_in lines at b gap e = ap (has_room lines) (sym (pairs_with (take at triples) (drop at triples) gap.below gap.above)) ∙ sym e

  written_over : (at : ℕ) → IsAtPlace triples key at → set triples at new ≡ (store_written key document store).triples
  written_over at here = rw (set_split triples at new here.within, ← add-one at, here.below, here.above) refl

  written_between : (at : ℕ) → IsGapFor triples key at → take at triples ++ new ∷ drop at triples ≡ (store_written key document store).triples
  written_between at gap = rw (gap.below, gap.above) refl

  -- a write at the place of its key, and where the key goes
  pub written_at : (at given : ℕ) (items : List ((List ℕ × List ℕ) × ℕ)) (k d : List ℕ) → IsAtPlace triples key at → items ≡ triples → k ≡ key → d ≡ document → given ≡ next_revision last →
      (let after : RevisedStore = record { last = given; triples = set items at ((k, d), given) } in after) ≡ store_written key document store
  written_at at given items k d here items_are key_is document_is given_is =
      rw (items_are, key_is, document_is, given_is) (ap (λ s. record { last = next_revision last; triples = s }) (written_over at here))

  pub written_in : (at given : ℕ) (items : List ((List ℕ × List ℕ) × ℕ)) (k d : List ℕ) → IsGapFor triples key at → items ≡ triples → k ≡ key → d ≡ document → given ≡ next_revision last →
      (let after : RevisedStore = record { last = given; triples = take at items ++ ((k, d), given) ∷ drop at items } in after) ≡ store_written key document store
  written_in at given items k d gap items_are key_is document_is given_is =
      rw (items_are, key_is, document_is, given_is) (ap (λ s. record { last = next_revision last; triples = s }) (written_between at gap))

module _ {E : Type 0} (lines : ℕ) (store : RevisedStore) (key document : List ℕ) where
  -- a put for which there is no room, and one that is done
  pub no_room : has_room lines (with_pair key document (pairs_in store)) ≡ false → DoesOp {E = E} (put_reply lines (pairs_in store) key document) (store_after_put lines store key document) store store (Ok NoRoom)
  no_room fails = record {
    reply_is = sym (ap (λ b. cond b (cond (is_some (document_at key (pairs_in store))) Replaced New) NoRoom) fails);
    next_is = sym (ap (λ b. cond b (store_written key document store) store) fails);
    err = tt;
  }

  pub is_put : (there : Bool) (after : RevisedStore) → has_room lines (with_pair key document (pairs_in store)) ≡ true → is_some (document_at key (pairs_in store)) ≡ there → after ≡ store_written key document store →
      DoesOp {E = E} (put_reply lines (pairs_in store) key document) (store_after_put lines store key document) store after (Ok (cond there Replaced New))
  is_put there after fits is e = record {
    reply_is = sym (ap (λ b. cond b (cond (is_some (document_at key (pairs_in store))) Replaced New) NoRoom) fits ∙ ap (λ b. cond b Replaced New) is);
    next_is = e ∙ sym (ap (λ b. cond b (store_written key document store) store) fits);
    err = tt;
  }

  -- a put on condition of another revision, and one whose revision stands
  pub is_stale : (revision standing : ℕ) → standing ≡ standing_revision key store → standing ≢ revision → DoesOp {E = E} (put_if_reply lines store key revision document) (store_after_put_if lines store key revision document) store store (Ok (Stale standing))
  is_stale revision standing is other =
      let fails : eqb (standing_revision key store) revision ≡ false = ap (λ n. eqb n revision) (sym is) ∙ ne_eqb standing revision other in
      record {
        reply_is = ap Stale is ∙ sym (ap (λ b. cond b (set_reply lines store key document) (Stale (standing_revision key store))) fails);
        next_is = sym (ap (λ b. cond b (store_after_put lines store key document) store) fails);
        err = tt;
      }

  pub is_current : (revision standing : ℕ) (after : RevisedStore) (r : Result Reply E) → standing ≡ standing_revision key store → standing ≡ revision →
      DoesOp (set_reply lines store key document) (store_after_put lines store key document) store after r → DoesOp (put_if_reply lines store key revision document) (store_after_put_if lines store key revision document) store after r
  is_current revision standing after r is same does =
      let holds : eqb (standing_revision key store) revision ≡ true = eq-eqb (standing_revision key store) revision (sym is ∙ same) in
      subst (λ reply. DoesOp reply (store_after_put_if lines store key revision document) store after r) (sym (ap (λ b. cond b (set_reply lines store key document) (Stale (standing_revision key store))) holds))
      (subst (λ next. DoesOp (set_reply lines store key document) next store after r) (sym (ap (λ b. cond b (store_after_put lines store key document) store) holds)) does)

-- the least key of those above
pub above_at : (triples : List ((List ℕ × List ℕ) × ℕ)) (key : List ℕ) (rest : List ((List ℕ × List ℕ) × ℕ)) → triples_above key triples ≡ rest → pairs_above key (pairs_of triples) ≡ pairs_of rest
above_at triples key rest e = sym (kept_pairs (λ p. is_lt (key_cmp key p.0)) triples) ∙ ap pairs_of e
