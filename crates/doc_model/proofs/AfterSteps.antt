-- What an operation keeps of a store whose pairs have revisions.
use Rattle.std.proofs.Common.{◌≡◌, ℕ, eqb, Bool, true, false, cond, List, Option, Some, None, Result, Ok, Err, OnOk, OnErr, refl, sym, subst}
use Rattle.std.specs.Prelude.{ℤ, ◌+ℤ◌}
use Rattle.std.specs.Fmt.{signed_decimal}
use Rattle.cx_base.specs.Store.{KeysRise}
use Rattle.doc_model.specs.Meaning.{IsOp, with_pair, has_room, number_at, standing_revision, store_after_put, store_after_put_if, store_after_sum, store_after_add, store_after, only_reads}
use Rattle.doc_model.specs.Revisions.{RevisedStore, IsRevisedStore, pairs_in, store_written}
use Rattle.plain_text.specs.Number.{is_i64}
use Rattle.doc_model.specs.declared.operations.Op.{Op}
use Rattle.doc_model.specs.declared.operations.Op.TheVariants.{Put, Del, Add, PutIf}
use Rattle.doc_model.specs.declared.operations.Reply.{Reply}
use Rattle.doc_model.proofs.Revised.{pairs_written, pairs_removed, IsRevisedStore-written, IsRevisedStore-removed}
use Rattle.doc_model.proofs.Stores.{with_pair_rises, without_key_rises, IsDocument-signed_decimal}

-- one of two stores, both of which have a property
either : (P : RevisedStore → Type 0) (b : Bool) (x y : RevisedStore) → P x → P y → P (cond b x y)
either P true x y p q = p
either P false x y p q = q

-- what holds of the store, and of each store after a lawful write or a removal, holds after each operation
module _ (P : RevisedStore → Type 0) (lines : ℕ) (store : RevisedStore) (before : P store) where
  after_put : (key document : List ℕ) → P (store_written key document store) → P (store_after_put lines store key document)
  after_put key document changed = either P (has_room lines (with_pair key document (pairs_in store))) (store_written key document store) store changed before

  after_put_if : (key : List ℕ) (revision : ℕ) (document : List ℕ) → P (store_written key document store) → P (store_after_put_if lines store key revision document)
  after_put_if key revision document changed = either P (eqb (standing_revision key store) revision) (store_after_put lines store key document) store (after_put key document changed) before

  after_sum : (key : List ℕ) (sum : ℤ) → (is_i64 sum ≡ true → P (store_written key (signed_decimal sum) store)) → P (store_after_sum lines store key sum)
  after_sum key sum changed =
      elim (is_i64 sum) as (λ b. (b ≡ true → P (store_written key (signed_decimal sum) store)) → P (cond b (store_after_put lines store key (signed_decimal sum)) store)) [
        | true ↦ λ f. after_put key (signed_decimal sum) (f refl)
        | false ↦ λ f. before
      ] changed

  after_add : (key : List ℕ) (amount : ℤ) (number : Option ℤ) → ((sum : ℤ) → is_i64 sum ≡ true → P (store_written key (signed_decimal sum) store)) → P (store_after_add lines store key amount number)
  after_add key amount None changed = before
  after_add key amount (Some number) changed = after_sum key (number +ℤ amount) (changed (number +ℤ amount))

-- the keys go on rising
abbrev Rising : RevisedStore → Type 0
Rising store = KeysRise (pairs_in store)

written_rises : (key document : List ℕ) (store : RevisedStore) → Rising store → Rising (store_written key document store)
written_rises key document store rising = subst KeysRise (sym (pairs_written key document store)) (with_pair_rises key document (pairs_in store) rising)

keys_rise_after : (lines : ℕ) (store : RevisedStore) (op : Op) → Rising store → Rising (store_after lines store op)
keys_rise_after lines store (Put key document) rising = after_put Rising lines store rising key document (written_rises key document store rising)
keys_rise_after lines store (PutIf key revision document) rising = after_put_if Rising lines store rising key revision document (written_rises key document store rising)
keys_rise_after lines store (Del key) rising = subst KeysRise (sym (pairs_removed key store)) (without_key_rises key (pairs_in store) rising)
keys_rise_after lines store (Add key amount) rising = after_add Rising lines store rising key amount (number_at key (pairs_in store)) (λ sum fits. written_rises key (signed_decimal sum) store rising)
keys_rise_after lines store op rising = rising

-- where the keys of a store rise, they rise after a step that may have failed
pub rise_after_step : {E : Type 0} (lines : ℕ) (store new : RevisedStore) (op : Op) (r : Result Reply E) → KeysRise (pairs_in store) → OnOk r (new ≡ store_after lines store op) → OnErr r (new ≡ store) → KeysRise (pairs_in new)
rise_after_step lines store new op (Ok reply) rising next err = subst Rising (sym next) (keys_rise_after lines store op rising)
rise_after_step lines store new op (Err e) rising next err = subst Rising (sym err) rising

pub IsRevisedStore-after : (lines : ℕ) (store : RevisedStore) (op : Op) → IsRevisedStore store → IsOp op → IsRevisedStore (store_after lines store op)
IsRevisedStore-after lines store (Put key document) lawful within = after_put IsRevisedStore lines store lawful key document (IsRevisedStore-written key document store within.0 within.1 lawful)
IsRevisedStore-after lines store (PutIf key revision document) lawful within =
    after_put_if IsRevisedStore lines store lawful key revision document (IsRevisedStore-written key document store within.0 within.1 lawful)
IsRevisedStore-after lines store (Del key) lawful within = IsRevisedStore-removed key store lawful
IsRevisedStore-after lines store (Add key amount) lawful within =
    after_add IsRevisedStore lines store lawful key amount (number_at key (pairs_in store)) (λ sum fits. IsRevisedStore-written key (signed_decimal sum) store within (IsDocument-signed_decimal sum fits) lawful)
IsRevisedStore-after lines store op lawful within = lawful

-- an operation that only reads leaves the store
pub reading_leaves : (lines : ℕ) (store : RevisedStore) (op : Op) → only_reads op ≡ true → store_after lines store op ≡ store
reading_leaves lines store (Put key document) h = cc
reading_leaves lines store (Del key) h = cc
reading_leaves lines store (Add key amount) h = cc
reading_leaves lines store (PutIf key revision document) h = cc
reading_leaves lines store op h = refl
