use Rattle.std.proofs.Common.{rules, ◌≡◌, ◌+◌, ◌-◌, ◌*◌, ◌<◌, ◌≤◌, ◌∙◌, ℕ, zero, suc, List, length, slice_index, slice_set, take, arith}
use Rattle.std.proofs.lemmas.List.{get_or-replicate, length-replicate, take_more, take_more_set}
use Rattle.cx_base.proofs.MemoryLemmas.{Becomes-store, Framed-access, Framed-then}
use Rattle.bank.specs.Meaning.{blank}
use Rattle.bank.proofs.accounts.Bank.clear.Goals as goal

blank_at : (lines at : ℕ) → 1 ≤ at → at < 8 * lines → slice_index (blank lines) at ≡ 0
blank_at lines zero some within = absurd (omega (arith, some))
blank_at lines (suc k) some within = get_or-replicate (8 * lines - 1) k 0 0 (omega (arith, within))

-- one more word is the image's
one_more : (lines at : ℕ) (ws : List ℕ) → 1 ≤ at → at < 8 * lines → length ws ≡ 8 * lines → take at ws ≡ take at (blank lines) → take (at + 1) (slice_set ws at 0) ≡ take (at + 1) (blank lines)
one_more lines at ws some within long front =
    let here : at < length ws = omega arith in
    let there : at < length (blank lines) = omega (arith, within, length-replicate {A = ℕ} (8 * lines - 1) 0) in
    let a = take_more_set ws at 0 here in
    let b = take_more (blank lines) at 0 there in
    let z = blank_at lines at some within in
    cc

pub loop-at-preserved : goal.loop-at-preserved
loop-at-preserved g c =
    let i = c.loop-at.invariant in
    let e = c.in_ok-store-2.ensures in
    record {
      done = Becomes-store i.done e.stands (λ first x y s front. one_more c.args.self.now.lines c.loop-at.at y c.loop-at.auto.at c.loop-at-test.true ((g.met.M.Memory.words c.loop-at.mem first y s).long ∙ i.size) front);
      size = e.access.size_kept ∙ i.size;
      writable = search rules;
      framed = Framed-then i.framed (Framed-access e.access);
    }
