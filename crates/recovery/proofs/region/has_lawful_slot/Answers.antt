use Rattle.std.proofs.Common.{◌≡◌, get_or, ap, sym, ◌∙◌}
use Rattle.cx_core.specs.Region.{slot_number}
use Rattle.recovery.proofs.Slots.{blank_same, same_blank}
use Rattle.recovery.proofs.region.has_lawful_slot.Goals as goal

pub returns-else-words-slot_start-ne0 : goal.returns-else-words-slot_start-ne0
returns-else-words-slot_start-ne0 c =
    let reply = c.reply_words.result.now in
    let none : slot_number c.args.caller c.args.words.now ≡ 0 = ap (λ n. get_or c.args.words.now n 0) (sym c.slot_start.ensures) ∙ c.if-words-slot_start-ne0.false in (
      (λ yes _. sym c.reply_words.ensures.reply ∙ blank_same reply 144 c.reply_words.ensures.long (c.is_blank.ensures.0 yes)),
      λ lawful. c.is_blank.ensures.1 (same_blank reply 144 (c.reply_words.ensures.reply ∙ lawful none)),
    )
