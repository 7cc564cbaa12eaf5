use Rattle.std.proofs.Common.{◌≡◌, ℕ, List, ap, rules, subst, sym}
use Rattle.atomic_table.specs.Table.{Allows, Me}
use Rattle.cx_core.specs.State.{Instance}
use Rattle.table_invariant.specs.declared.rule.Known.{Known}
use Rattle.table_invariant.specs.Rule.{RuleHolds}
use Rattle.table_invariant.proofs.Keeps.{allows_of_same, key_instance}
use Rattle.cx_table.specs.declared.events.Instruction.{Instruction}
use Rattle.cx_table.specs.declared.events.Instruction.TheVariants.{Load, Exchange, Add, Subtract, Raise}
use Rattle.cx_table.specs.Words.{put_by}
use Rattle.cx_table.proofs.shared.Shared.run.Goals as goal

-- what is allowed of an instruction is allowed of the one that it is
allows_same : (instance : Instance) (slots id word : ℕ) (me : Me ℕ (List Known)) (tells : ℕ → Me ℕ (List Known) → Type 0) (i j : Instruction) → i ≡ j →
    Allows (RuleHolds instance) slots id me word (put_by i) tells → Allows (RuleHolds instance) slots id me word (put_by j) tells
allows_same instance slots id word me tells i j = subst (λ (x : Instruction). Allows (RuleHolds instance) slots id me word (put_by x) tells)

pub load-requires : goal.load-requires
load-requires g c =
    let same = key_instance g.O.Object.step g.O.Object.only_reads _ _ _ _ _ c.self.view_is c.self.invariant.1 c.self.invariant.2 c.self.invariant.3 in
    (search rules, search rules, allows_of_same _ _ _ _ _ _ _ (put_by Load) g.J.StepEffect.tells same (sym (ap (λ r. r.table.slots) c.self.view_is)) (allows_same _ _ _ _ _ g.J.StepEffect.tells _ Load c.in-Load.is c.requires.allows))

pub compare_exchange-requires : goal.compare_exchange-requires
compare_exchange-requires g c =
    let same = key_instance g.O.Object.step g.O.Object.only_reads _ _ _ _ _ c.self.view_is c.self.invariant.1 c.self.invariant.2 c.self.invariant.3 in
    (search rules, search rules, allows_of_same _ _ _ _ _ _ _ (put_by (Exchange c.in-Exchange.old c.in-Exchange.new)) g.J.StepEffect.tells same (sym (ap (λ r. r.table.slots) c.self.view_is)) (allows_same _ _ _ _ _ g.J.StepEffect.tells _ (Exchange c.in-Exchange.old c.in-Exchange.new) c.in-Exchange.is c.requires.allows))

pub fetch_add-requires : goal.fetch_add-requires
fetch_add-requires g c =
    let same = key_instance g.O.Object.step g.O.Object.only_reads _ _ _ _ _ c.self.view_is c.self.invariant.1 c.self.invariant.2 c.self.invariant.3 in
    (search rules, search rules, allows_of_same _ _ _ _ _ _ _ (put_by (Add c.in-Add.k)) g.J.StepEffect.tells same (sym (ap (λ r. r.table.slots) c.self.view_is)) (allows_same _ _ _ _ _ g.J.StepEffect.tells _ (Add c.in-Add.k) c.in-Add.is c.requires.allows))

pub fetch_sub-requires : goal.fetch_sub-requires
fetch_sub-requires g c =
    let same = key_instance g.O.Object.step g.O.Object.only_reads _ _ _ _ _ c.self.view_is c.self.invariant.1 c.self.invariant.2 c.self.invariant.3 in
    (search rules, search rules, allows_of_same _ _ _ _ _ _ _ (put_by (Subtract c.in-Subtract.k)) g.J.StepEffect.tells same (sym (ap (λ r. r.table.slots) c.self.view_is)) (allows_same _ _ _ _ _ g.J.StepEffect.tells _ (Subtract c.in-Subtract.k) c.in-Subtract.is c.requires.allows))

pub fetch_max-requires : goal.fetch_max-requires
fetch_max-requires g c =
    let same = key_instance g.O.Object.step g.O.Object.only_reads _ _ _ _ _ c.self.view_is c.self.invariant.1 c.self.invariant.2 c.self.invariant.3 in
    (search rules, search rules, allows_of_same _ _ _ _ _ _ _ (put_by (Raise c.in-Raise.v)) g.J.StepEffect.tells same (sym (ap (λ r. r.table.slots) c.self.view_is)) (allows_same _ _ _ _ _ g.J.StepEffect.tells _ (Raise c.in-Raise.v) c.in-Raise.is c.requires.allows))
