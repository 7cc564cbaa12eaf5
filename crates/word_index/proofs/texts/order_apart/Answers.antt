use Rattle.std.proofs.Common.{◌+◌, ◌*◌, ◌≤◌, ◌⊎◌, inl, inr, ◌∙◌, sym, arith}
use Rattle.std.proofs.lemmas.Bool.{cases_lt}
use Rattle.word_index.proofs.KeyOrders.{apart_at, alike_to}
use Rattle.word_index.proofs.WordsApart.{byte_of, bytes_before}
use Rattle.word_index.proofs.texts.order_apart.Goals as goal

pub returns-then-at-byte : goal.returns-then-at-byte
returns-then-at-byte c = λ these those same l r. (
    let a = c.args in
    let byte = c.first_apart-byte.result in
    let e = c.first_apart-byte.ensures in
    c.cmp.ensures
    ∙ apart_at these those a.left_len a.right_len (8 * a.at + byte) _ _ (omega (arith, c.min.ensures, c.if-at-byte.true)) (omega (arith, c.min.ensures, c.if-at-byte.true))
    (bytes_before these those a.at byte a.left a.right (omega (arith, e.below)) same l r e.alike)
    (sym (byte_of these a.at byte a.left e.below l)) (sym (byte_of those a.at byte a.right e.below r)) e.apart)

pub returns-else-at-byte : goal.returns-else-at-byte
returns-else-at-byte c = λ these those same l r. (
    let a = c.args in
    let byte = c.first_apart-byte.result in
    let e = c.first_apart-byte.ensures in
    let past = c.if-at-byte.false in
    let ends : a.left_len ≤ 8 * a.at + byte ⊎ a.right_len ≤ 8 * a.at + byte = elim (cases_lt a.right_len a.left_len) [ inl h ↦ inr (omega (arith, c.min.ensures, past, h)) | inr h ↦ inl (omega (arith, c.min.ensures, past, h)) ] in
    c.cmp-else-at-byte.ensures
    ∙ alike_to these those a.left_len a.right_len (8 * a.at + byte) ends (bytes_before these those a.at byte a.left a.right (omega (arith, e.below)) same l r e.alike))
