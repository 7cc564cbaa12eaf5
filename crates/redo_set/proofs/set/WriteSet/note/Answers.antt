use Rattle.std.proofs.Common.{◌≡◌, ◌+◌, ◌*◌, ◌<◌, List, ℕ, slice_index, slice_set, sym, subst, ◌∙◌, arith}
use Rattle.std.proofs.lemmas.Grind.{get_or_default_zero}
use Rattle.redo_set.specs.Sets.{put_over}
use Rattle.redo_set.proofs.SetLaws.{pair_put}
use Rattle.redo_set.proofs.set.WriteSet.note.Goals as goal

pub returns-clause-last : goal.returns-clause-last
returns-clause-last c = λ _ words.
    let set : List ℕ = c.self.inside.words.items in
    let at = c.args.at in
    let v = c.args.v in
    let count : c.index-count.result.now ≡ slice_index set 0 =
    c.index-count.ensures ∙ get_or_default_zero set 0 c.index-count.result.now (omega (arith, c.self.invariant.long)) in
    let room : slice_index set 0 < 256 = omega (arith, c.if-count-eq-MOST_PAIRS.false, c.self.invariant.few, count) in
    let put = subst (λ n. put_over (slice_set (slice_set (slice_set set (2 * n + 1) at) (2 * n + 2) v) 0 (n + 1)) words ≡ slice_set (put_over set words) at v) (sym count) (pair_put set at v c.self.invariant.long room words) in
    subst (λ s. put_over (slice_set (slice_set (slice_set set (2 * c.index-count.result.now + 1) at) (2 * c.index-count.result.now + 2) v) 0 (c.index-count.result.now + 1)) words ≡ slice_set (put_over s words) at v) c.self.view_is put
