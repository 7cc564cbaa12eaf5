use Rattle.std.proofs.Common.{◌≡◌, ◌<◌, ◌≤◌, ◌+◌, ℕ, List, length, slice_index, slice_set, take, rules, arith, sym, ap, ◌∙◌}
use Rattle.std.proofs.lemmas.List.{take_more, take_more_set, take_all, length-replicate}
use Rattle.cx_base.specs.Tally.{tally_opening}
use Rattle.cx_base.proofs.MemoryLemmas.{Becomes-store, Becomes-weaker, Framed-access, Framed-then}
use Rattle.cx_base.proofs.tally.TallyObject.format.Goals as goal

opening_length : length tally_opening ≡ 512
unfolding tally_opening
opening_length = ap (λ n. n + 1) (length-replicate {A = ℕ} 511 0)

-- one more word is the opening image's
one_more : (at v : ℕ) (ws : List ℕ) → at < 512 → length ws ≡ 512 → v ≡ slice_index tally_opening at → take at ws ≡ take at tally_opening → take (at + 1) (slice_set ws at v) ≡ take (at + 1) tally_opening
one_more at v ws within long word front =
    let here : at < length ws = omega arith in
    let there : at < length tally_opening = omega (arith, opening_length) in
    let a = take_more_set ws at v here in
    let b = take_more tally_opening at 0 there in
    cc

all_there : (at : ℕ) (ws : List ℕ) → 512 ≤ at → length ws ≡ 512 → take at ws ≡ take at tally_opening → ws ≡ tally_opening
all_there at ws past long front =
    sym (take_all at ws (omega arith)) ∙ front ∙ take_all at tally_opening (omega (arith, opening_length))

pub loop-at-preserved : goal.loop-at-preserved
loop-at-preserved g c =
    let i = c.loop-at.invariant in
    let e = c.in_ok-store.ensures in
    record {
      done = Becomes-store i.done e.stands (λ first x y s front. one_more c.loop-at.at c.opening_word.result y c.loop-at-test.true ((g.met.M.Memory.words c.loop-at.mem first y s).long ∙ i.size) c.opening_word.ensures front);
      size = e.access.size_kept ∙ i.size;
      writable = search rules;
      framed = Framed-then i.framed (Framed-access e.access);
    }

pub returns : goal.returns
returns g c =
    let i = c.loop-at.invariant in
    record { done = Becomes-weaker i.done (λ first x y s front. all_there c.loop-at.at y c.loop-at-test.false ((g.met.M.Memory.words c.loop-at.mem first y s).long ∙ i.size) front); halts = search rules; framed = search rules }
