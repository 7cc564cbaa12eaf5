-- Where a key stands in a store, or where it would go.
use Rattle.std.specs.Prelude.{◌≡◌, ◌+◌, ◌<◌, ◌≤◌, ℕ, List, length, take, drop, map, Option, Some, None, slice_index_or, Result, IfOk, OnOk, OnErr}
use Rattle.std.specs.List.{find}
use Rattle.std.specs.Option.{option_map}
use Rattle.std.specs.Ordering.{is_eq}
use Rattle.cx_base.specs.Store.{Store, key_cmp}
use Rattle.doc_model.specs.Meaning.{document_at}
use Rattle.doc_model.specs.Revisions.{RevisedStore, triples_below, triples_above}
use Rattle.doc_model.specs.declared.operations.Reply.{Reply}

-- the pairs of triples
abbrev pub pairs_of : List ((List ℕ × List ℕ) × ℕ) → Store
pairs_of triples = map (λ t. t.0) triples

-- the revision of a key
abbrev pub revision_in : List ℕ → List ((List ℕ × List ℕ) × ℕ) → Option ℕ
revision_in key triples = option_map (λ t. t.1) (find (λ t. is_eq (key_cmp t.0.0 key)) triples)

-- the triple at this place has the key: those before it are below, and those behind it above
pub record IsAtPlace (triples : List ((List ℕ × List ℕ) × ℕ)) (key : List ℕ) (at : ℕ) : Type 0 where
  pub within : at < length triples
  pub below : triples_below key triples ≡ take at triples
  pub above : triples_above key triples ≡ drop (at + 1) triples
  pub has_key : (t : (List ℕ × List ℕ) × ℕ) → let triple = slice_index_or triples at t in triple.0.0 ≡ key
  pub has_document : (t : (List ℕ × List ℕ) × ℕ) → let triple = slice_index_or triples at t in document_at key (pairs_of triples) ≡ Some triple.0.1
  pub has_revision : (t : (List ℕ × List ℕ) × ℕ) → let triple = slice_index_or triples at t in revision_in key triples ≡ Some triple.1

-- none has the key, and it would go here
pub record IsGapFor (triples : List ((List ℕ × List ℕ) × ℕ)) (key : List ℕ) (at : ℕ) : Type 0 where
  pub within : at ≤ length triples
  pub below : triples_below key triples ≡ take at triples
  pub above : triples_above key triples ≡ drop at triples
  pub missing : document_at key (pairs_of triples) ≡ None
  pub has_none : revision_in key triples ≡ None

-- what an operation answers and leaves of a store; an Err leaves it
pub record DoesOp {E : Type 0} (reply : Reply) (next old new : RevisedStore) (result : Result Reply E) : Type 0 where
  pub reply_is : IfOk result (λ r. r ≡ reply)
  pub next_is : OnOk result (new ≡ next)
  pub err : OnErr result (new ≡ old)
