-- What each operation of the document store means: its reply, and the store after it. Of the store a reply depends on the pairs alone, but for those to
-- `PutIf` and `Rev`.
use Rattle.std.specs.Prelude.{◌-◌, ℕ, Bool, true, false, nat_le, ◌==◌, List, [], ◌∷◌, ◌++◌, length, filter, Option, None, Some, is_some, if◌then◌else◌, ℤ, pos, ◌+ℤ◌}
use Rattle.std.specs.Option.{option_map, option_map_or}
use Rattle.std.specs.Ordering.{is_lt, is_eq}
use Rattle.std.specs.List.{find}
use Rattle.std.specs.Fmt.{signed_decimal}
use Rattle.cx_base.specs.Store.{Store, key_cmp, lines_of, IsKey, IsDocument}
use Rattle.plain_text.specs.Number.{integer_of, is_i64}
use Rattle.doc_model.specs.Revisions.{RevisedStore, pairs_in, revision_at, next_revision, store_written, removed}
use Rattle.doc_model.specs.declared.operations.Op.{Op}
use Rattle.doc_model.specs.declared.operations.Op.TheVariants.{Put, Del, Add, Get, Next, Count, PutIf, Rev}
use Rattle.doc_model.specs.declared.operations.Reply.{Reply}
use Rattle.doc_model.specs.declared.operations.Reply.TheVariants.{New, Replaced, Deleted, Absent, Doc, Sum, NotNumber, Overflow, NoRoom, Key, Number, Set, Stale, Revision}

-- an operation whose key and document are within the limits
abbrev pub IsOp : Op → Type 0
IsOp (Put key document) = IsKey key × IsDocument document
IsOp (Del key) = IsKey key
IsOp (Add key amount) = IsKey key
IsOp (Get key) = IsKey key
IsOp (Next []) = Unit {0}
IsOp (Next (b ∷ above)) = IsKey (b ∷ above)
IsOp Count = Unit {0}
IsOp (PutIf key revision document) = IsKey key × IsDocument document
IsOp (Rev key) = IsKey key

-- the document of a key
abbrev pub document_at : List ℕ → Store → Option (List ℕ)
document_at key store = option_map (λ p. p.1) (find (λ p. is_eq (key_cmp p.0 key)) store)

-- the pairs whose keys are below, and those whose keys are above
abbrev pub pairs_below : List ℕ → Store → Store
pairs_below key store = filter (λ p. is_lt (key_cmp p.0 key)) store

abbrev pub pairs_above : List ℕ → Store → Store
pairs_above key store = filter (λ p. is_lt (key_cmp key p.0)) store

-- the store with this document at the key, and the store without the key
abbrev pub with_pair : List ℕ → List ℕ → Store → Store
with_pair key document store = pairs_below key store ++ (key, document) ∷ pairs_above key store

abbrev pub without_key : List ℕ → Store → Store
without_key key store = pairs_below key store ++ pairs_above key store

-- whether the given number of lines holds the store; the first line holds no pair
abbrev pub has_room : ℕ → Store → Bool
has_room lines store = nat_le (lines_of store) (lines - 1)

-- the number that an addition begins with: what the document says, and 0 where the key is missing
abbrev pub number_at : List ℕ → Store → Option ℤ
number_at key store = option_map_or integer_of (document_at key store) (Some (pos 0))

-- the reply to a put, and the store after it
abbrev pub put_reply : ℕ → Store → List ℕ → List ℕ → Reply
put_reply lines store key document =
    if has_room lines (with_pair key document store)
    then (if is_some (document_at key store) then Replaced else New)
    else NoRoom

abbrev pub store_after_put : ℕ → RevisedStore → List ℕ → List ℕ → RevisedStore
store_after_put lines store key document =
    if has_room lines (with_pair key document (pairs_in store)) then store_written key document store else store

-- the revision of a key, and 0 where it is missing
abbrev pub standing_revision : List ℕ → RevisedStore → ℕ
standing_revision key store = option_map_or (λ r. r) (revision_at key store) 0

-- the reply to a put that tells the revision it gives
abbrev pub set_reply : ℕ → RevisedStore → List ℕ → List ℕ → Reply
set_reply lines store key document =
    if has_room lines (with_pair key document (pairs_in store)) then Set (next_revision store.last) else NoRoom

-- the reply to a put on condition of the revision, and the store after it
abbrev pub put_if_reply : ℕ → RevisedStore → List ℕ → ℕ → List ℕ → Reply
put_if_reply lines store key revision document =
    if standing_revision key store == revision
    then set_reply lines store key document
    else Stale (standing_revision key store)

abbrev pub store_after_put_if : ℕ → RevisedStore → List ℕ → ℕ → List ℕ → RevisedStore
store_after_put_if lines store key revision document =
    if standing_revision key store == revision then store_after_put lines store key document else store

-- the reply to an addition that makes this sum, and the store after it
abbrev pub sum_reply : ℕ → Store → List ℕ → ℤ → Reply
sum_reply lines store key sum =
    if is_i64 sum
    then (if has_room lines (with_pair key (signed_decimal sum) store) then Sum sum else NoRoom)
    else Overflow

abbrev pub store_after_sum : ℕ → RevisedStore → List ℕ → ℤ → RevisedStore
store_after_sum lines store key sum =
    if is_i64 sum then store_after_put lines store key (signed_decimal sum) else store

-- the reply to an addition to what stands there
abbrev pub add_reply : ℕ → Store → List ℕ → ℤ → Option ℤ → Reply
add_reply lines store key amount None = NotNumber
add_reply lines store key amount (Some before) = sum_reply lines store key (before +ℤ amount)

abbrev pub store_after_add : ℕ → RevisedStore → List ℕ → ℤ → Option ℤ → RevisedStore
store_after_add lines store key amount None = store
store_after_add lines store key amount (Some before) = store_after_sum lines store key (before +ℤ amount)

-- the least key of the pairs
abbrev pub least_key : Store → Reply
least_key [] = Absent
least_key (p ∷ store) = Key p.0

-- the reply to an operation, in a store that has the given number of lines
abbrev pub reply_to : ℕ → RevisedStore → Op → Reply
reply_to lines store (Put key document) = put_reply lines (pairs_in store) key document
reply_to lines store (Del key) = if is_some (document_at key (pairs_in store)) then Deleted else Absent
reply_to lines store (Add key amount) = add_reply lines (pairs_in store) key amount (number_at key (pairs_in store))
reply_to lines store (Get key) = option_map_or Doc (document_at key (pairs_in store)) Absent
reply_to lines store (Next above) = least_key (pairs_above above (pairs_in store))
reply_to lines store Count = Number (length (pairs_in store))
reply_to lines store (PutIf key revision document) = put_if_reply lines store key revision document
reply_to lines store (Rev key) = option_map_or Revision (revision_at key store) Absent

-- the store after an operation, in a store that has the given number of lines
abbrev pub store_after : ℕ → RevisedStore → Op → RevisedStore
store_after lines store (Put key document) = store_after_put lines store key document
store_after lines store (Del key) = removed key store
store_after lines store (Add key amount) = store_after_add lines store key amount (number_at key (pairs_in store))
store_after lines store (PutIf key revision document) = store_after_put_if lines store key revision document
store_after lines store op = store

-- whether an operation only reads
abbrev pub only_reads : Op → Bool
only_reads (Put key document) = false
only_reads (Del key) = false
only_reads (Add key amount) = false
only_reads (PutIf key revision document) = false
only_reads op = true
