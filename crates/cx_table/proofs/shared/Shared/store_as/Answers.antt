use Rattle.std.proofs.Common.{ap, rules, sym}
use Rattle.table_invariant.proofs.Keeps.{allows_of_same, key_instance}
use Rattle.cx_table.proofs.shared.Shared.store_as.Goals as goal

pub store-requires : goal.store-requires
store-requires g c =
    let key = c.self.invariant in
    let view = c.self.view_is in
    let same = key_instance g.O.Object.step g.O.Object.only_reads _ _ _ _ _ view key.1 key.2 key.3 in
    (search rules, search rules, allows_of_same _ _ _ _ _ _ _ (λ _. c.args.new) (λ _. g.J.StepEffect.tells c.args.new) same (sym (ap (λ r. r.table.slots) view)) c.requires.allows)
