use Rattle.std.proofs.Common.{◌≡◌, ◌-◌, take, drop, length, ap, sym, subst, ◌∙◌, arith, length-drop}
use Rattle.std.proofs.lemmas.List.{take_all}
use Rattle.cx_base.specs.VecMemory.{words_of}
use Rattle.cx_core.specs.Region.{object_part}
use Rattle.core_events.proofs.replies.part_after.Goals as goal

pub loop-entry-init : goal.loop-entry-init
unfolding object_part
loop-entry-init g c =
    let ws = c.as_slice.result.now in
    let all : take (length ws - 1168) (drop 1168 ws) ≡ drop 1168 ws = take_all (length ws - 1168) (drop 1168 ws) (omega (arith, length-drop 1168 ws)) in
    let is : words_of c.of-memory.result ≡ object_part c.args.base.now.words = c.of-memory.ensures.words ∙ c.in_ok-words.ensures.items ∙ all ∙ ap (drop 1168) c.as_slice.ensures in
    (is, subst (g.O.Object.lawful c.args.object.now) (sym is) c.requires.base.object, c.of-memory.ensures.left)
