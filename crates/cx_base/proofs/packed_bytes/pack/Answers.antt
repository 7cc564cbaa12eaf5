use Rattle.std.proofs.Common.{◌*◌, ◌≤◌, length, sym, ◌∙◌, inl, inr, arith, rules}
use Rattle.std.proofs.lemmas.Bool.{cases_lt}
use Rattle.std.proofs.lemmas.List.FromFn.{fill_by_all}
use Rattle.cx_base.specs.Packing.{packed_at}
use Rattle.cx_base.proofs.PackingLemmas.{packed_at-past}
use Rattle.cx_base.proofs.packed_bytes.pack.Goals as goal

pub returns : goal.returns
returns c =
    let used = c.div_ceil-used.result in
    let bytes = c.args.bytes.now in
    let enough : length bytes ≤ 8 * used = omega arith in
    fill_by_all (packed_at bytes) c.clear_from.new.into _ 0 (search rules) (λ k below. elim (cases_lt k used) [
      | inl lt ↦ c.clear_from.ensures.front k lt ∙ c.pack_front.ensures k lt
      | inr ge ↦ c.clear_from.ensures.rest k ge ∙ sym (packed_at-past bytes k (omega arith))
    ])
