use Rattle.std.proofs.Common.{◌≡◌, ◌^◌, ◌<◌, ◌≤◌, ℕ, [], List, length, sym, ap, subst, ◌∙◌, arith, rules}
use Rattle.atomic_table.specs.Table as atomic
use Rattle.cx_core.specs.declared.entry.Base.{Base}
use Rattle.cx_core.specs.Region.{place_of as place_at}
use Rattle.cx_core.specs.State.{Instance, opening_words}
use Rattle.table_invariant.specs.Rule.{RuleHolds}
use Rattle.table_invariant.specs.Seats.{opening_view}
use Rattle.cx_table.proofs.Closing.{all_seated}
use Rattle.table_invariant.proofs.Opening.{opening_held}
use Rattle.cx_table.proofs.shared.Shared.make.Goals as goal

abbrev base_of : ℕ → List ℕ → Base
base_of place words = record { place = place; words = words }

pub of_words-requires : goal.of_words-requires
of_words-requires g c =
    let base = c.of-3.result.value in
    let e : base ≡ c.args.base.now = c.of-3.ensures ∙ ap (base_of c.args.base.now.place) (c.of.ensures ∙ c.in_ok-from_slice.ensures.items ∙ c.as_slice.ensures) in
    let place : base.place ≤ 2 ^ 40 = omega (arith, ap (λ b. b.place) e, c.requires.base.place_within) in
    let words : c.deref.result.now ≡ opening_words c.args.callers base = c.deref.ensures.value ∙ c.in_ok-opening.ensures ∙ ap (opening_words c.args.callers) (sym e) in
    let instance : Instance = record { callers = c.args.callers; base = base; step = g.O.Object.step c.of-4.result.value; reads = g.O.Object.only_reads c.of-4.result.value } in
    subst (λ (ws : List ℕ). RuleHolds instance (atomic.opening ws [] (opening_view c.args.callers base.place c.of-2.result))) (sym words)
    (opening_held instance c.of-2.result c.requires.callers.some c.requires.callers.few place (subst (λ (b : Base). place_at b.words ≡ b.place) (sym e) c.requires.base.at_place)
    (let long = c.requires.base.size.long in subst (λ (b : Base). 0 < length b.words) (sym e) (omega (arith, long))))

pub returns : goal.returns
returns g c = record {
  table = search rules;
  seats = c.in_ok-seats-2.ensures;
  all = all_seated _ c.args.limits.now _ c.in_ok-seats-2.ensures;
}
