use Rattle.std.proofs.Common.{◌≡◌, ◌∙◌, ℕ, List, ap, sym, subst, drop, IfOk}
use Rattle.cx_core.specs.Region.{object_part}
use Rattle.cx_lives.proofs.crash.count_items.Goals as goal

pub items_in-requires : goal.items_in-requires
unfolding object_part
items_in-requires g c =
    subst (g.O.Object.lawful c.args.object.now) (sym (c.split_at.ensures.back ∙ ap (drop 1168) c.as_slice.ensures)) c.requires.lawful.object

pub returns : goal.returns
unfolding object_part
returns g c =
    let m = g.O.TypedObject.meaning c.args.object.now in
    subst (λ (part : List ℕ). IfOk c.items_in.result (λ n. (store : g.O.TypedObject.Store) → m.stands part store → n ≡ m.items store)) (c.split_at.ensures.back ∙ ap (drop 1168) c.as_slice.ensures) c.items_in.ensures
