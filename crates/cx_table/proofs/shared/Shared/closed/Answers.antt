use Rattle.std.proofs.Common.{◌≡◌, ◌+◌, ◌*◌, ℕ, List, length, add-zero, sym, refl, ap, subst, ◌∙◌, arith}
use Rattle.std.specs.Slots.{slots_len}
use mathlib.Core.Option.{some}
use lib.ListN.{get_elem?}
use Rattle.cx_core.specs.Layout.{vol_at, per_at}
use Rattle.cx_core.specs.Region.{region_words}
use Rattle.cx_core.specs.State.{Instance}
use Rattle.cx_core.specs.Merge.{history_of}
use Rattle.table_invariant.specs.Ending.{locals_known}
use Rattle.table_invariant.specs.Rule.{RuleHolds}
use Rattle.table_invariant.specs.Running.{instance_at}
use Rattle.caller_cache.specs.Wins.{IsWayBy}
use Rattle.cx_table.proofs.Closing.{leaves, same_part}
use Rattle.table_invariant.proofs.Keeps.{key_instance}
use Rattle.cx_table.proofs.shared.Shared.closed.Goals as goal

twice : (n c : ℕ) → n * (2 * c) + n * (2 * c) ≡ n * (4 * c)
twice n c = omega arith

pub copy_words-requires-2-clause-within : goal.copy_words-requires-2-clause-within
copy_words-requires-2-clause-within g c =
    let running = c.self.invariant.0 in
    let long : length c.self.inside.base.words ≡ 8 * (146 + c.self.inside.lines) = running.base.size.long in
    let count : slots_len c.close_with-closed.result.words ≡ 4 + 18755 * c.self.inside.callers.number + 8 * (146 + c.self.inside.lines) * (4 * c.self.inside.callers.number) =
    c.close_with-closed.ensures.counts.0 ∙ running.words ∙ ap (λ n. 4 + 18755 * c.self.inside.callers.number + n * (4 * c.self.inside.callers.number)) long in
    omega (arith, twice (8 * (146 + c.self.inside.lines)) c.self.inside.callers.number, count)

-- where the words of the replicas end, and where the medium's end
vol_end : (n c m d : ℕ) → c ≡ d → n ≡ m → 4 + 18755 * c + n * (2 * c) ≡ vol_at d m (2 * d) 0
vol_end n c m d e f = ap (λ k. 4 + 18755 * k + n * (2 * k)) e ∙ ap (λ k. 4 + 18755 * d + k * (2 * d)) f ∙ sym (add-zero (4 + 18755 * d + m * (2 * d)))

per_end : (n c m d : ℕ) → c ≡ d → n ≡ m → 4 + 18755 * c + n * (2 * c) + n * (2 * c) ≡ per_at d m (2 * d) 0
per_end n c m d e f = ap (λ k. 4 + 18755 * k + n * (2 * k) + n * (2 * k)) e ∙ ap (λ k. 4 + 18755 * d + k * (2 * d) + k * (2 * d)) f ∙ sym (add-zero (4 + 18755 * d + m * (2 * d) + m * (2 * d)))

no_row : (a m : ℕ) → a ≡ a + m * 0 + 0
no_row a m = omega arith

per_start : (n c m d : ℕ) → c ≡ d → n ≡ m → 4 + 18755 * c + n * (2 * c) ≡ per_at d m 0 0
per_start n c m d e f = ap (λ k. 4 + 18755 * k + n * (2 * k)) e ∙ ap (λ k. 4 + 18755 * d + k * (2 * d)) f ∙ no_row (4 + 18755 * d + m * (2 * d)) m

pub returns : goal.returns
returns g c = λ seats are knows marked won.
    let inside = c.self.inside in
    let t = c.args.self in
    let view = c.self.view_is in
    let running = c.self.invariant.0 in
    let me = ap (λ m. m.0) knows in
    let end = c.close_with-closed.ensures.values.2 in
    let key = c.self.invariant in
    let same = key_instance g.O.Object.step g.O.Object.only_reads _ _ _ _ _ view key.1 key.2 key.3 in
    let instance : Instance = instance_at t g.O.Object.step g.O.Object.only_reads in
    let held : RuleHolds instance end.0 = subst (λ (l : Instance). RuleHolds l end.0) (sym same) end.1.0 in
    let callers : inside.callers.number ≡ t.callers = ap (λ s. s.callers) view in
    let region : 8 * (146 + inside.lines) ≡ length t.base.words = sym running.base.size.long ∙ ap (λ s. length s.base.words) view in
    let lines : length t.base.words ≡ region_words t.lines = sym region ∙ ap (λ s. region_words s.lines) view in
    let at = c.replicas_at-from.ensures in
    let count = 8 * (146 + inside.lines) * (2 * inside.callers.number) in
    let from : c.replicas_at-from.result ≡ vol_at t.callers (length t.base.words) 0 0 = at ∙ ap (λ k. 4 + 18755 * k) callers ∙ no_row (4 + 18755 * t.callers) (length t.base.words) in
    let half : c.replicas_at-from.result + count ≡ vol_at t.callers (length t.base.words) (2 * t.callers) 0 = ap (λ n. n + count) at ∙ vol_end _ _ _ _ callers region in
    leaves t instance seats _ end.0 c.args.closing.id refl refl are held (end.1.1 ∙ ap some me) (record {
      callers = callers;
      lines = ap (λ s. s.lines) view;
      first = ap (λ s. s.base.place) view;
      published = sym (ap (λ v. v.items) c.of-2.ensures);
      dur = c.word.result;
      read = ap (λ (ws : List ℕ). get_elem? ws 1) end.2 ∙ c.word.ensures;
      chain = λ above to way. ap (λ v. v.items) c.of-2.ensures ∙ c.lead_on.ensures above to (subst (λ ws. IsWayBy ws c.word.result above to) (sym won) way);
      of = ap (λ s. s.table_id) c.of-end.ensures ∙ c.requires.table;
      base = c.of.ensures ∙ ap (λ s. s.base) view;
      locals = ap (λ s. locals_known s.me.0) c.of-end.ensures ∙ ap locals_known me;
      history = ap (λ b. history_of b.place (locals_known c.of-end.result.value.me.0)) (c.of.ensures ∙ ap (λ s. s.base) view) ∙ ap (history_of t.base.place) (ap (λ s. locals_known s.me.0) c.of-end.ensures ∙ ap locals_known me);
      volatile = c.copy_words.ensures ∙ same_part end.0.words c.close_with-closed.result.words.items _ _ _ _ end.2 from half;
      durable = c.copy_words-2.ensures ∙ same_part end.0.words c.close_with-closed.result.words.items _ _ _ _ end.2 (ap (λ n. n + count) at ∙ per_start _ _ _ _ callers region) (ap (λ n. n + count + count) at ∙ per_end _ _ _ _ callers region);
      dirty = marked;
    })
