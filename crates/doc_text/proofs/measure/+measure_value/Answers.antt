use Rattle.std.proofs.Common.{◌≡◌, ℕ, ◌-◌, ◌<◌, ◌||◌, [], ◌∷◌, length, Some, None, string_bytes, refl, sym, ap, ap₂, subst, ◌∙◌, arith, rules, List}
use Rattle.std.proofs.lemmas.Result.{IfOk-weaker}
use Rattle.json.specs.Token.{Token}
use Rattle.json.specs.Json.{parse_map, after_end_array, read_key, items, members, value}
use Rattle.json.specs.Reads.{token_of}
use Rattle.json.proofs.Grammar.{value_is, value-begin_array, value-begin_object, read_key-shorter}
use Rattle.serde_json.specs.Data.{null, boolean, number, string, array, object, item, no_items, put}
use Rattle.serde_json.specs.Read.{of_json, of_items, converted}
use Rattle.serde_json.specs.Written.{has_float, items_have_float}
use Rattle.doc_text.proofs.JsonLoops.{converted-array, converted-object, item_read, item_refused, items_over, member_read, member_refused, key_refused, members_over, none_before}
use Rattle.doc_text.specs.Measure.{ReadsNumber, ReadsItems, ReadsMembers, Describes}
use Rattle.doc_text.proofs.Measures.{quoted_longer, word_long, items_heavy, item_behind, or_assoc, or_false}
use Rattle.doc_text.proofs.measure.+measure_value.Goals as goal

-- ---- a value

pub measure_value-returns-in_err-token-clause-refused : goal.measure_value-returns-in_err-token-clause-refused
measure_value-returns-in_err-token-clause-refused t c refused =
    let empty : c.args.reader.now ≡ [] = grind arith in
    ap (converted of_json) (ap (value c.args.depth) empty ∙ value_is c.args.depth [])

pub measure_value-returns-then-depth-eq0-clause-refused : goal.measure_value-returns-then-depth-eq0-clause-refused
unfolding value
measure_value-returns-then-depth-eq0-clause-refused t c never =
    let first : c.args.reader.now ≡ token_of c.in_ok-token.token ∷ c.next.new.self = grind arith in
    let none : c.args.depth ≡ 0 = omega arith in
    ap (converted of_json) (ap₂ value none (first ∙ ap (λ k. token_of k ∷ c.next.new.self) c.in-BeginArray.is))

pub measure_value-returns-then-depth-eq0-2-clause-refused : goal.measure_value-returns-then-depth-eq0-2-clause-refused
unfolding value
measure_value-returns-then-depth-eq0-2-clause-refused t c never =
    let first : c.args.reader.now ≡ token_of c.in_ok-token.token ∷ c.next.new.self = grind arith in
    let none : c.args.depth ≡ 0 = omega arith in
    ap (converted of_json) (ap₂ value none (first ∙ ap (λ k. token_of k ∷ c.next.new.self) c.in-BeginObject.is))

pub measure_value-returns-in-EndObject-clause-refused : goal.measure_value-returns-in-EndObject-clause-refused
measure_value-returns-in-EndObject-clause-refused t c refused =
    let first : c.args.reader.now ≡ token_of c.in_ok-token.token ∷ c.next.new.self = grind arith in
    let none : value c.args.depth c.args.reader.now ≡ None = rw (value_is c.args.depth c.args.reader.now, first) (grind arith) in
    ap (converted of_json) none

pub measure_value-returns-in-String-clause-ok : goal.measure_value-returns-in-String-clause-ok
measure_value-returns-in-String-clause-ok t c =
    let first : c.args.reader.now ≡ token_of c.in_ok-token.token ∷ c.next.new.self = grind arith in
    let is : c.args.reader.now ≡ Token.string c.in-String.text.now ∷ c.next.new.self = grind (arith, first) in (
      string c.in-String.text.now,
      ap (converted of_json) (ap (value c.args.depth) is ∙ value_is c.args.depth _),
      record { float = refl; least = omega (arith, quoted_longer c.in-String.text.now) },
    )

pub measure_value-returns-in-Bool-clause-ok : goal.measure_value-returns-in-Bool-clause-ok
measure_value-returns-in-Bool-clause-ok t c =
    let first : c.args.reader.now ≡ token_of c.in_ok-token.token ∷ c.next.new.self = grind arith in
    let is : c.args.reader.now ≡ Token.boolean c.in-Bool.field-0 ∷ c.next.new.self = grind (arith, first) in
    (boolean c.in-Bool.field-0, ap (converted of_json) (ap (value c.args.depth) is ∙ value_is c.args.depth _), record { float = refl; least = word_long c.in-Bool.field-0 })

pub measure_value-returns-in-Null-clause-ok : goal.measure_value-returns-in-Null-clause-ok
measure_value-returns-in-Null-clause-ok t c =
    let first : c.args.reader.now ≡ token_of c.in_ok-token.token ∷ c.next.new.self = grind arith in
    let is : c.args.reader.now ≡ Token.null ∷ c.next.new.self = grind (arith, first) in
    (null, ap (converted of_json) (ap (value c.args.depth) is ∙ value_is c.args.depth _), record { float = refl; least = omega arith })

pub measure_value-returns-in-Number-clause-ok : goal.measure_value-returns-in-Number-clause-ok
measure_value-returns-in-Number-clause-ok t c =
    let first : c.args.reader.now ≡ token_of c.in_ok-token.token ∷ c.next.new.self = grind arith in
    let is : c.args.reader.now ≡ Token.number c.in-Number.text.now ∷ c.next.new.self = grind (arith, first) in
    IfOk-weaker c.measure_number.result (ReadsNumber c.in-Number.text.now) _
    (λ m (n, e, measure). (number n, ap (converted of_json) (ap (value c.args.depth) is ∙ value_is c.args.depth _) ∙ rw e, measure)) c.measure_number.ensures.ok

pub measure_value-returns-in-Number-clause-refused : goal.measure_value-returns-in-Number-clause-refused
measure_value-returns-in-Number-clause-refused t c refused =
    let first : c.args.reader.now ≡ token_of c.in_ok-token.token ∷ c.next.new.self = grind arith in
    let is : c.args.reader.now ≡ Token.number c.in-Number.text.now ∷ c.next.new.self = grind (arith, first) in
    let none = c.measure_number.ensures.refused refused in
    ap (converted of_json) (ap (value c.args.depth) is ∙ value_is c.args.depth _) ∙ rw none

pub measure_value-returns-else-depth-eq0-clause-ok : goal.measure_value-returns-else-depth-eq0-clause-ok
measure_value-returns-else-depth-eq0-clause-ok t c =
    let first : c.args.reader.now ≡ token_of c.in_ok-token.token ∷ c.next.new.self = grind arith in
    let opened = ap (converted of_json) (ap (value c.args.depth) (first ∙ ap (λ k. token_of k ∷ c.next.new.self) c.in-BeginArray.is) ∙ value-begin_array c.args.depth c.next.new.self (omega arith)) ∙ converted-array (items (value (c.args.depth - 1)) (length c.next.new.self) c.next.new.self) in
    IfOk-weaker c.measure_items.result (ReadsItems (c.args.depth - 1) c.next.new.self c.measure_items.new.reader) _
    (λ m (ds, e, measure). (array ds, opened ∙ ap (parse_map array) e, measure)) c.measure_items.ensures.ok

pub measure_value-returns-else-depth-eq0-clause-refused : goal.measure_value-returns-else-depth-eq0-clause-refused
measure_value-returns-else-depth-eq0-clause-refused t c refused =
    let first : c.args.reader.now ≡ token_of c.in_ok-token.token ∷ c.next.new.self = grind arith in
    let opened = ap (converted of_json) (ap (value c.args.depth) (first ∙ ap (λ k. token_of k ∷ c.next.new.self) c.in-BeginArray.is) ∙ value-begin_array c.args.depth c.next.new.self (omega arith)) ∙ converted-array (items (value (c.args.depth - 1)) (length c.next.new.self) c.next.new.self) in
    opened ∙ ap (parse_map array) (c.measure_items.ensures.refused refused)

pub measure_value-returns-else-depth-eq0-2-clause-ok : goal.measure_value-returns-else-depth-eq0-2-clause-ok
measure_value-returns-else-depth-eq0-2-clause-ok t c =
    let first : c.args.reader.now ≡ token_of c.in_ok-token.token ∷ c.next.new.self = grind arith in
    let opened = ap (converted of_json) (ap (value c.args.depth) (first ∙ ap (λ k. token_of k ∷ c.next.new.self) c.in-BeginObject.is) ∙ value-begin_object c.args.depth c.next.new.self (omega arith)) ∙ converted-object (members (value (c.args.depth - 1)) (length c.next.new.self) c.next.new.self) in
    IfOk-weaker c.measure_members.result (ReadsMembers (c.args.depth - 1) c.next.new.self c.measure_members.new.reader) _
    (λ m (ms, e, measure). (object ms, opened ∙ ap (parse_map object) e, measure)) c.measure_members.ensures.ok

pub measure_value-returns-else-depth-eq0-2-clause-refused : goal.measure_value-returns-else-depth-eq0-2-clause-refused
measure_value-returns-else-depth-eq0-2-clause-refused t c refused =
    let first : c.args.reader.now ≡ token_of c.in_ok-token.token ∷ c.next.new.self = grind arith in
    let opened = ap (converted of_json) (ap (value c.args.depth) (first ∙ ap (λ k. token_of k ∷ c.next.new.self) c.in-BeginObject.is) ∙ value-begin_object c.args.depth c.next.new.self (omega arith)) ∙ converted-object (members (value (c.args.depth - 1)) (length c.next.new.self) c.next.new.self) in
    opened ∙ ap (parse_map object) (c.measure_members.ensures.refused refused)

-- ---- items

pub measure_items-items-init : goal.measure_items-items-init
measure_items-items-init t c =
    let all = converted of_items (items (value c.args.depth) (length c.args.reader.now) c.args.reader.now) in
    (length c.args.reader.now, (λ rest. rest), omega arith, none_before all, (λ rest. refl), (λ rest. omega arith), omega arith)

pub measure_items-returns-in_err-item-clause-refused : goal.measure_items-returns-in_err-item-clause-refused
measure_items-returns-in_err-item-clause-refused t c refused =
    let p = value c.args.depth in
    let l = c.items in
    let n = l.invariant.0 in
    let going : (after_end_array l.reader ≡ None) × (c.take_end_array.new.self ≡ l.reader) = grind arith in
    l.invariant.3 ∙ ap (parse_map l.invariant.1) (item_refused p n l.reader going.0 (rw (← going.1) (c.measure_value.ensures.refused (grind arith))))

pub measure_items-items-preserved : goal.measure_items-items-preserved
measure_items-items-preserved t c =
    let p = value c.args.depth in
    let l = c.items in
    let n = l.invariant.0 in
    let before = l.invariant.1 in
    let going : (after_end_array l.reader ≡ None) × (c.take_end_array.new.self ≡ l.reader) = grind arith in
    let done = c.in_ok-item.ensures in
    let d = done.ok.0 in
    let m = c.in_ok-item.item in
    let r = c.measure_value.new.reader in
    let less : length r < length l.reader = rw (← going.1) done.shorter in
    let turn = item_read p n l.reader r d (omega (arith, l.invariant.2)) going.0 (rw (← going.1) done.ok.1) in (
      n - 1,
      (λ rest. before (item d rest)),
      omega (arith, l.invariant.2),
      l.invariant.3 ∙ ap (parse_map before) turn ∙ item_behind before d _,
      (λ rest. l.invariant.4 (item d rest) ∙ or_assoc l.has_float (has_float d) (items_have_float rest) ∙ ap (λ b. (l.has_float || b) || items_have_float rest) (sym done.ok.2.float)),
      (λ rest. omega (arith, l.invariant.5 (item d rest), done.ok.2.least)),
      omega (arith, l.invariant.6),
    )

pub measure_items-returns-clause-ok : goal.measure_items-returns-clause-ok
measure_items-returns-clause-ok t c =
    let p = value c.args.depth in
    let l = c.items in
    let n = l.invariant.0 in
    let before = l.invariant.1 in
    let r = c.take_end_array.new.self in (
      before no_items,
      l.invariant.3 ∙ ap (parse_map before) (items_over p n l.reader r l.invariant.2 (grind arith)),
      record {
        float = sym (l.invariant.4 no_items ∙ or_false l.has_float);
        least = omega (arith, l.invariant.5 no_items, items_heavy (before no_items));
      },
    )

-- ---- members

pub measure_members-returns-in_err-name-clause-refused : goal.measure_members-returns-in_err-name-clause-refused
measure_members-returns-in_err-name-clause-refused t c refused =
    let p = value c.args.depth in
    let l = c.members in
    l.invariant.3 ∙ key_refused p l.invariant.1 l.invariant.0 l.reader c.in_err-name.ensures.value

pub measure_members-returns-in_err-member-clause-refused : goal.measure_members-returns-in_err-member-clause-refused
measure_members-returns-in_err-member-clause-refused t c refused =
    let p = value c.args.depth in
    let l = c.members in
    let k = c.in-Some.name.now in
    let s = c.next_key.new.self in
    let named : read_key l.reader ≡ Some (Some k, s) = grind arith in
    l.invariant.3 ∙ member_refused p l.invariant.1 l.invariant.0 k l.reader s named (c.measure_value.ensures.refused (grind arith))

pub measure_members-members-preserved : goal.measure_members-members-preserved
measure_members-members-preserved t c =
    let p = value c.args.depth in
    let l = c.members in
    let n = l.invariant.0 in
    let ms = l.invariant.1 in
    let k = c.in-Some.name.now in
    let s = c.next_key.new.self in
    let named : read_key l.reader ≡ Some (Some k, s) = grind arith in
    let done = c.in_ok-member.ensures in
    let d = done.ok.0 in
    let r = c.measure_value.new.reader in
    let less = read_key-shorter l.reader (Some k) s named in
    let lesser = done.shorter in
    let copied : string_bytes c.in_ok-key.key ≡ k = search rules in (
      n - 1,
      put k d ms,
      omega (arith, l.invariant.2),
      l.invariant.3 ∙ member_read p ms n k l.reader s r d (omega (arith, l.invariant.2)) named done.ok.1,
      subst (λ (name : List ℕ). Describes c.add.new.self (put name d ms)) copied (c.in_ok-add.ensures.ok d ms done.ok.2 l.invariant.4),
      omega (arith, l.invariant.5),
    )

pub measure_members-returns-clause-ok : goal.measure_members-returns-clause-ok
measure_members-returns-clause-ok t c =
    let p = value c.args.depth in
    let l = c.members in
    (l.invariant.1, l.invariant.3 ∙ members_over p l.invariant.1 l.invariant.0 l.reader c.next_key.new.self l.invariant.2 (grind arith), c.measure.ensures l.invariant.1 l.invariant.4)
