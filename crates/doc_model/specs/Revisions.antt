-- A store whose pairs have revisions: each write of a pair gives it the next number.
use Rattle.std.specs.Prelude.{◌-◌, ◌+◌, ◌^◌, ◌<◌, ◌≤◌, nat_lt, ℕ, List, [], ◌∷◌, ◌++◌, map, filter, Option, All, if◌then◌else◌}
use Rattle.std.specs.Option.{option_map}
use Rattle.std.specs.Ordering.{is_lt, is_eq}
use Rattle.std.specs.List.{find}
use Rattle.cx_base.specs.Store.{Store, IsStore, key_cmp}

-- the last revision that was given, and pairs of a key and a document, each with its revision
pub record RevisedStore : Type 0 where
  pub last : ℕ
  pub triples : List ((List ℕ × List ℕ) × ℕ)

-- the pairs of a store, without their revisions
abbrev pub pairs_in : RevisedStore → Store
pairs_in store = map (λ t. t.0) store.triples

-- a store whose revisions were all given, and none of them is behind the last
pub record IsRevisedStore (store : RevisedStore) : Type 0 where
  pub pairs : IsStore (pairs_in store)
  pub fits : store.last < 2 ^ 64
  pub given : All (λ t. (1 ≤ t.1) × (t.1 ≤ store.last)) store.triples

-- nothing was written yet
abbrev pub empty_store : RevisedStore
empty_store = record { last = 0; triples = [] }

-- the revision that the next write gives; the greatest number of 64 bits is given again
abbrev pub next_revision : ℕ → ℕ
next_revision last = if nat_lt last (2 ^ 64 - 1) then last + 1 else last

-- the triples whose keys are below, and those whose keys are above
abbrev pub triples_below : List ℕ → List ((List ℕ × List ℕ) × ℕ) → List ((List ℕ × List ℕ) × ℕ)
triples_below key triples = filter (λ t. is_lt (key_cmp t.0.0 key)) triples

abbrev pub triples_above : List ℕ → List ((List ℕ × List ℕ) × ℕ) → List ((List ℕ × List ℕ) × ℕ)
triples_above key triples = filter (λ t. is_lt (key_cmp key t.0.0)) triples

-- the store after a write of this document at the key
abbrev pub store_written : List ℕ → List ℕ → RevisedStore → RevisedStore
store_written key document store = record {
  last = next_revision store.last;
  triples = triples_below key store.triples ++ ((key, document), next_revision store.last) ∷ triples_above key store.triples;
}

-- the store without the key
abbrev pub removed : List ℕ → RevisedStore → RevisedStore
removed key store = record { last = store.last; triples = triples_below key store.triples ++ triples_above key store.triples }

-- the revision of a key
abbrev pub revision_at : List ℕ → RevisedStore → Option ℕ
revision_at key store = option_map (λ t. t.1) (find (λ t. is_eq (key_cmp t.0.0 key)) store.triples)
