use Rattle.std.proofs.Common.{◌≡◌, ◌+◌, ◌-◌, ap, ◌∙◌, drop, take, arith}
use Rattle.recovery.proofs.Slots.{reply_is}
use Rattle.recovery.proofs.region.reply_words.Goals as goal

pub returns-clause-reply : goal.returns-clause-reply
returns-clause-reply c =
    let from = c.slot_start.result + 1 in
    let count : from + 144 - from ≡ 144 = omega arith in
    ap (λ n. take n (drop from c.args.words.now)) count ∙ reply_is c.args.words.now c.args.caller from (ap (λ n. n + 1) c.slot_start.ensures)
