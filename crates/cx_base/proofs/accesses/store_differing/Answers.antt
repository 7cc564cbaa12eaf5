use Rattle.std.proofs.Common.{◌≡◌, ◌≢◌, ◌+◌, ◌<◌, ◌≤◌, ℕ, List, length, take, slice_index, slice_set, sym, ◌∙◌, arith}
use Rattle.std.proofs.lemmas.List.{get_or-set_other}
use Rattle.line_lanes.specs.Lines.{AgreeFrom}
use Rattle.cx_base.specs.Memory.{AreAt, overwritten}
use Rattle.cx_base.proofs.MemoryLemmas.{Becomes-same, Becomes-store, Becomes-weaker, Framed-access, Framed-same, Framed-then}
use Rattle.cx_base.proofs.WordLemmas.{overwritten_agreed, overwritten_next, overwritten_none}
use Rattle.cx_base.proofs.accesses.store_differing.Goals as goal

-- up to the first word that differs nothing is to be put
nothing_put : (vs there before ws : List ℕ) (at to : ℕ) → before ≡ ws → to ≤ length vs → length there ≡ length vs → AgreeFrom vs there 0 to → AreAt at there ws →
    (ws ≡ overwritten at (take to vs) before) × ((j : ℕ) → to ≤ j → j < length there → slice_index ws (at + j) ≡ slice_index there j)
nothing_put vs there before ws at to e most long agree known = (
  overwritten_agreed vs before ws at 0 to (omega arith) most (sym e ∙ sym (overwritten_none at before)) (λ j from below. agree j from below ∙ sym (known j (omega (arith, below, most, long)))),
  λ j from below. known j below,
)

-- a word was put, and up to the next one that differs nothing is to be put
one_put : (vs there before ws : List ℕ) (at i to : ℕ) → i < length vs → i + 1 ≤ to → to ≤ length vs → length there ≡ length vs → AgreeFrom vs there (i + 1) to →
    (ws ≡ overwritten at (take i vs) before) × ((j : ℕ) → i ≤ j → j < length there → slice_index ws (at + j) ≡ slice_index there j) →
    (slice_set ws (at + i) (slice_index vs i) ≡ overwritten at (take to vs) before) × ((j : ℕ) → to ≤ j → j < length there → slice_index (slice_set ws (at + i) (slice_index vs i)) (at + j) ≡ slice_index there j)
one_put vs there before ws at i to less next most long agree m =
    let stays : (j : ℕ) → i + 1 ≤ j → j < length there → slice_index (slice_set ws (at + i) (slice_index vs i)) (at + j) ≡ slice_index there j = λ j from below. (
    let apart : at + j ≢ at + i = λ same. omega (arith, same, from) in
    get_or-set_other ws (at + i) (at + j) (slice_index vs i) 0 apart ∙ m.1 j (omega (arith, from)) below) in (
      overwritten_agreed vs before (slice_set ws (at + i) (slice_index vs i)) at (i + 1) to next most (overwritten_next vs before ws at i less m.0)
          (λ j from below. agree j from below ∙ sym (stays j from (omega (arith, below, most, long)))),
      λ j from below. stays j (omega (arith, from, next)) below,
    )

pub loop-next-init : goal.loop-next-init
loop-next-init g c =
    let e = c.first_apart-next.ensures in
    record {
      within = e.most;
      done = Becomes-weaker (Becomes-same _) (λ first x y s same. nothing_put c.args.words.now c.args.there.now x y c.args.at c.first_apart-next.result same e.most c.requires.long e.same (c.requires.known first y s));
      framed = Framed-same _;
    }

pub loop-next-preserved : goal.loop-next-preserved
loop-next-preserved g c =
    let i = c.loop-next.invariant in
    let e = c.first_apart-next-in-loop-next.ensures in
    record {
      within = e.most;
      done = Becomes-store i.done c.in_ok-store.ensures.stands (λ first x y s m. one_put c.args.words.now c.args.there.now x y c.args.at c.loop-next.next c.first_apart-next-in-loop-next.result c.loop-next-test.true e.least e.most c.requires.long e.same m);
      framed = Framed-then i.framed (Framed-access c.in_ok-store.ensures.access);
    }
