use Rattle.std.proofs.Common.{◌-◌, ◌∙◌, List, ℕ, ◌++◌, ap, drop, length, subst, sym, take}
use Rattle.cx_core.proofs.Upgrading.{old_lawful}
use Rattle.recovery.proofs.Slots.{part_is}
use Rattle.recovery.proofs.OldParts.{can_upgrade, named_old, named_other, put_behind, version_is}
use Rattle.recovery.proofs.versions.upgrade.Goals as goal

pub upgrade-requires : goal.upgrade-requires
upgrade-requires g c =
    let o = c.args.object.now in
    let words = c.args.words.now in
    let old = g.O.Object.old_format o in
    can_upgrade old (take (length words - 1168) (drop 1168 words)) (subst old.lawful (sym (part_is words)) (old_lawful (g.O.Object.line_count o) (g.O.Object.version_number o) (g.O.Object.lawful o) old (g.met.O.Object.takes_over o) (g.met.O.Object.shape o) words c.requires.lawful
    (version_is old words (sym c.is_old.ensures ∙ c.if-is_old.true))))

pub returns-then-is_old : goal.returns-then-is_old
returns-then-is_old g c =
    let words = c.args.words.now in
    let old = g.O.Object.old_format c.args.object.now in
    put_behind words c.upgrade.new.words
    ∙ ap (λ (ws : List ℕ). take 1168 words ++ ws) (c.upgrade.ensures ∙ ap old.upgraded (part_is words))
    ∙ sym (named_old old words (sym c.is_old.ensures ∙ c.if-is_old.true))

pub returns-else-is_old : goal.returns-else-is_old
returns-else-is_old g c = sym (named_other (g.O.Object.old_format c.args.object.now) c.args.words.now (sym c.is_old.ensures ∙ c.if-is_old.false))
