-- Stores whose pairs have revisions, by their pairs.
use Rattle.std.proofs.Common.{◌≡◌, ℕ, ◌+◌, ◌-◌, ◌^◌, ◌<◌, ◌≤◌, Bool, true, false, cond, List, [], ◌∷◌, ◌++◌, filter, Option, Some, refl, ap, ◌∙◌, ltb, arith, subst, sym}
use Rattle.std.specs.List.{find}
use Rattle.std.specs.Option.{option_map}
use Rattle.std.specs.Ordering.{is_lt, is_eq}
use Rattle.std.proofs.lemmas.Bool.{ltb-true, ltb-false}
use Rattle.std.proofs.lemmas.List.{map-append}
use Rattle.std.proofs.lemmas.List.Elements.{All-append, All-cons, All-filter, All-weaker}
use Rattle.cx_base.specs.Store.{key_cmp, IsKey, IsDocument, IsStore}
use Rattle.doc_model.specs.Meaning.{document_at, pairs_below, with_pair, without_key}
use Rattle.doc_model.specs.Place.{pairs_of}
use Rattle.doc_model.specs.Revisions.{RevisedStore, IsRevisedStore, pairs_in, next_revision, triples_below, triples_above, store_written, removed}
use Rattle.doc_model.proofs.Stores.{IsStore-with_pair, IsStore-without_key}

-- what a test of pairs keeps of triples
pub kept_pairs : (test : List ℕ × List ℕ → Bool) (triples : List ((List ℕ × List ℕ) × ℕ)) → pairs_of (filter (λ t. test t.0) triples) ≡ filter test (pairs_of triples)
kept_pairs test [] = refl
kept_pairs test (t ∷ triples) =
    let rest = kept_pairs test triples in
    elim (test t.0) as (λ b. pairs_of (cond b (t ∷ filter (λ u. test u.0) triples) (filter (λ u. test u.0) triples)) ≡ cond b (t.0 ∷ filter test (pairs_of triples)) (filter test (pairs_of triples))) [
      | true ↦ ap (λ s. t.0 ∷ s) rest
      | false ↦ rest
    ]

-- the pairs after a write, and without a key
pub pairs_written : (key document : List ℕ) (store : RevisedStore) → pairs_in (store_written key document store) ≡ with_pair key document (pairs_in store)
pairs_written key document store =
    let new : (List ℕ × List ℕ) × ℕ = ((key, document), next_revision store.last) in
    map-append (λ t. t.0) (triples_below key store.triples) (new ∷ triples_above key store.triples)
    ∙ ap (λ s. s ++ (key, document) ∷ pairs_of (triples_above key store.triples)) (kept_pairs (λ p. is_lt (key_cmp p.0 key)) store.triples)
    ∙ ap (λ s. pairs_below key (pairs_in store) ++ (key, document) ∷ s) (kept_pairs (λ p. is_lt (key_cmp key p.0)) store.triples)

pub pairs_removed : (key : List ℕ) (store : RevisedStore) → pairs_in (removed key store) ≡ without_key key (pairs_in store)
pairs_removed key store =
    map-append (λ t. t.0) (triples_below key store.triples) (triples_above key store.triples)
    ∙ ap (λ s. s ++ pairs_of (triples_above key store.triples)) (kept_pairs (λ p. is_lt (key_cmp p.0 key)) store.triples)
    ∙ ap (λ s. pairs_below key (pairs_in store) ++ s) (kept_pairs (λ p. is_lt (key_cmp key p.0)) store.triples)

-- the document of a key whose triple is found
pub found_pair : (test : List ℕ × List ℕ → Bool) (triples : List ((List ℕ × List ℕ) × ℕ)) → find test (pairs_of triples) ≡ option_map (λ t. t.0) (find (λ t. test t.0) triples)
found_pair test [] = refl
found_pair test (t ∷ triples) =
    let rest = found_pair test triples in
    elim (test t.0) as (λ b. cond b (Some t.0) (find test (pairs_of triples)) ≡ option_map (λ u. u.0) (cond b (Some t) (find (λ u. test u.0) triples))) [
      | true ↦ refl
      | false ↦ rest
    ]

pub document_of_found : (key : List ℕ) (triples : List ((List ℕ × List ℕ) × ℕ)) (found : Option ((List ℕ × List ℕ) × ℕ)) → find (λ t. is_eq (key_cmp t.0.0 key)) triples ≡ found → document_at key (pairs_of triples) ≡ option_map (λ p. p.1) (option_map (λ t. t.0) found)
document_of_found key triples found e = ap (option_map (λ p. p.1)) (found_pair (λ p. is_eq (key_cmp p.0 key)) triples ∙ ap (option_map (λ t. t.0)) e)

-- the next revision
pub record IsNext (last next : ℕ) : Type 0 where
  pub some : 1 ≤ next
  pub no_less : last ≤ next
  pub fits : next < 2 ^ 64

pub next_is : (last : ℕ) → last < 2 ^ 64 → IsNext last (next_revision last)
next_is last small = by (ltb last (2 ^ 64 - 1)) refl
  where
    by : (b : Bool) → ltb last (2 ^ 64 - 1) ≡ b → IsNext last (cond b (last + 1) last)
    by true e = (let lt = ltb-true last (2 ^ 64 - 1) e in record { some = omega arith; no_less = omega arith; fits = omega arith })
    by false e = (let le = ltb-false last (2 ^ 64 - 1) e in record { some = omega arith; no_less = omega arith; fits = omega arith })

-- a write and a removal keep a store within the limits
pub IsRevisedStore-written : (key document : List ℕ) (store : RevisedStore) → IsKey key → IsDocument document → IsRevisedStore store → IsRevisedStore (store_written key document store)
IsRevisedStore-written key document store is_key is_document lawful =
    let next = next_is store.last lawful.fits in
    let Given : ℕ → (List ℕ × List ℕ) × ℕ → Type 0 = λ last t. (1 ≤ t.1) × (t.1 ≤ last) in
    let still = All-weaker (Given store.last) (Given (next_revision store.last)) (λ t h. (h.0, omega (arith, h.1, next.no_less))) store.triples lawful.given in
    record {
      pairs = subst IsStore (sym (pairs_written key document store)) (IsStore-with_pair key document (pairs_in store) is_key is_document lawful.pairs);
      fits = next.fits;
      given =
          All-append (Given (next_revision store.last)) (triples_below key store.triples) (((key, document), next_revision store.last) ∷ triples_above key store.triples)
          (All-filter (λ t. is_lt (key_cmp t.0.0 key)) (Given (next_revision store.last)) store.triples still)
          (All-cons (Given (next_revision store.last)) ((key, document), next_revision store.last) (triples_above key store.triples) (next.some, omega arith)
          (All-filter (λ t. is_lt (key_cmp key t.0.0)) (Given (next_revision store.last)) store.triples still));
    }

pub IsRevisedStore-removed : (key : List ℕ) (store : RevisedStore) → IsRevisedStore store → IsRevisedStore (removed key store)
IsRevisedStore-removed key store lawful =
    let Given : (List ℕ × List ℕ) × ℕ → Type 0 = λ t. (1 ≤ t.1) × (t.1 ≤ store.last) in
    record {
      pairs = subst IsStore (sym (pairs_removed key store)) (IsStore-without_key key (pairs_in store) lawful.pairs);
      fits = lawful.fits;
      given =
          All-append Given (triples_below key store.triples) (triples_above key store.triples) (All-filter (λ t. is_lt (key_cmp t.0.0 key)) Given store.triples lawful.given)
          (All-filter (λ t. is_lt (key_cmp key t.0.0)) Given store.triples lawful.given);
    }
