use Rattle.std.proofs.Common.{◌≡◌, ◌<◌, ℕ, zero, suc, slice_index, arith, sym, ap}
use Rattle.std.proofs.lemmas.List.{get_or-replicate}
use Rattle.cx_base.specs.Tally.{tally_opening}
use Rattle.cx_base.proofs.tally.opening_word.Goals as goal

behind_version : (at : ℕ) → 0 < at → at < 512 → slice_index tally_opening at ≡ 0
unfolding tally_opening
behind_version zero some within = absurd (omega arith)
behind_version (suc n) some within = get_or-replicate 511 n 0 0 (omega arith)

pub returns-then-at-eq0 : goal.returns-then-at-eq0
unfolding tally_opening
returns-then-at-eq0 c = sym (ap (slice_index tally_opening) c.if-at-eq0.true)

pub returns-else-at-eq0 : goal.returns-else-at-eq0
returns-else-at-eq0 c = sym (behind_version c.args.at (omega arith) c.requires)
