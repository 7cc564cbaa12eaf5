-- Media of two regions of 210 lines.
use Rattle.std.proofs.Common.{◌≡◌, ◌/◌, ℕ, List, length, map, replicate, ap, ◌∙◌, arith}
use Rattle.std.proofs.lemmas.List.{length-map, length-replicate, length-set}
use Rattle.std.proofs.lemmas.List.FromFn.{length-map-range_with_len}
use Rattle.pmem_model.specs.Medium.{MediumState, after_store, durable_word, fenced, image_of, left_in_medium, counted_up, word_stored, medium_word}
use Rattle.std.specs.List.{slice_index}
use Rattle.recovery.specs.Reopened.{HasReplicas}

-- what a medium is made of
pub replicas_of : (words : List ℕ) (m : MediumState) → length words ≡ 3360 → m.words ≡ map durable_word words → m.stores ≡ replicate (length words / 8) 0 → HasReplicas 1 64 m
replicas_of words m long made counts = record {
  some = omega arith;
  few = omega arith;
  enough = omega arith;
  small = omega arith;
  words = ap length made ∙ length-map words durable_word ∙ long;
  stores = ap length counts ∙ length-replicate (length words / 8) 0 ∙ ap (λ n. n / 8) long;
}

-- it has them as long as it is as long
pub same_replicas : (old new : MediumState) → HasReplicas 1 64 old → length new.words ≡ length old.words → length new.stores ≡ length old.stores → HasReplicas 1 64 new
same_replicas old new has words stores = record {
  some = omega arith;
  few = omega arith;
  enough = omega arith;
  small = omega arith;
  words = words ∙ has.words;
  stores = stores ∙ has.stores;
}

pub stored_replicas : (old new : MediumState) (at v : ℕ) → HasReplicas 1 64 old → new ≡ after_store old at v → HasReplicas 1 64 new
stored_replicas old new at v has is =
    same_replicas old new has
    (ap (λ (m : MediumState). length m.words) is ∙ length-set old.words at (word_stored (medium_word old at) v))
    (ap (λ (m : MediumState). length m.stores) is ∙ length-set old.stores (at / 8) (counted_up (slice_index old.stores (at / 8))))

pub fenced_replicas : (old new : MediumState) → HasReplicas 1 64 old → new.words ≡ map fenced old.words → new.stores ≡ old.stores → HasReplicas 1 64 new
fenced_replicas old new has words stores = same_replicas old new has (ap length words ∙ length-map old.words fenced) (ap length stores)

pub image_long : (m : MediumState) (choice : ℕ) (image : List ℕ) → HasReplicas 1 64 m → image ≡ image_of choice m → length image ≡ 3360
image_long m choice image has is = ap length is ∙ length-map-range_with_len (left_in_medium choice m) 0 (length m.words) ∙ has.words
