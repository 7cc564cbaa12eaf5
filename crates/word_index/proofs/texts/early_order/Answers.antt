use Rattle.std.proofs.Common.{◌+◌, ◌*◌, inr, ◌∙◌, sym, arith}
use Rattle.word_index.proofs.KeyOrders.{alike_to, early_at}
use Rattle.word_index.proofs.WordsApart.{byte_of, bytes_before}
use Rattle.word_index.proofs.texts.early_order.Goals as goal

pub returns-then-at-byte : goal.returns-then-at-byte
returns-then-at-byte c = λ these those len behind same l r. (
    let a = c.args in
    let byte = c.first_apart-byte.result in
    let e = c.first_apart-byte.ensures in
    c.cmp.ensures
    ∙ early_at these those len a.right_len (8 * a.at + byte) _ _ (λ past. behind (8 * a.at + byte) past (omega (arith, e.below))) (omega (arith, c.if-at-byte.true))
    (bytes_before these those a.at byte a.left a.right (omega (arith, e.below)) same l r e.alike)
    (sym (byte_of these a.at byte a.left e.below l)) (sym (byte_of those a.at byte a.right e.below r)) e.apart)

pub returns-else-at-byte : goal.returns-else-at-byte
returns-else-at-byte c = λ these those len behind same l r. (
    let a = c.args in
    let byte = c.first_apart-byte.result in
    let e = c.first_apart-byte.ensures in
    alike_to these those len a.right_len (8 * a.at + byte) (inr (omega (arith, c.if-at-byte.false))) (bytes_before these those a.at byte a.left a.right (omega (arith, e.below)) same l r e.alike))
