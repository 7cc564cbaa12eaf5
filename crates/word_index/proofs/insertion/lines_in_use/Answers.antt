use Rattle.std.proofs.Common.{◌≡◌, ◌+◌, ◌-◌, ◌≤◌, ℕ, List, [], arith, rules}
use Rattle.cx_base.specs.Store.{Store, lines_of}
use Rattle.cx_base.proofs.MemoryLemmas.{always_at_most}
use Rattle.cx_base.proofs.ReadLemmas.{Reads-none, Reads-loaded, Reads-weaker}
use Rattle.avl_words.specs.Lines.{word_of}
use Rattle.index_validation.proofs.Totals.{all_lines}
use Rattle.index_validation.specs.Layout.{StandsFor, IsIndex, head_of}
use Rattle.word_index.proofs.Putting.{lines_of_places}
use Rattle.avl_words.proofs.Memories.{found}
use Rattle.word_index.proofs.insertion.lines_in_use.Goals as goal

used : (ws : List ℕ) (version : ℕ) (store : Store) → StandsFor ws version store → lines_of store + word_of ws 0 4 + 1 ≡ word_of ws 0 3
used ws version store s =
    let a = s.arranged in
    omega (arith, all_lines ws (head_of version s.last) store s.tree s.places s.given [] a, lines_of_places ws s.places store a.nodes.pairs, a.given_count)

some : (ws : List ℕ) (end : ℕ) → IsIndex ws → word_of ws 0 3 ≡ end → 1 ≤ end
some ws end i e = omega (arith, used ws 2 i.store i.stands)

fewer : (ws : List ℕ) (end given : ℕ) → IsIndex ws → word_of ws 0 3 ≡ end → word_of ws 0 4 ≡ given → given ≤ end - 1
fewer ws end given i e f = omega (arith, used ws 2 i.store i.stands)

is : (ws : List ℕ) (end given version : ℕ) (store : Store) → StandsFor ws version store → word_of ws 0 3 ≡ end → word_of ws 0 4 ≡ given → end - 1 - given ≡ lines_of store
is ws end given version store s e f = omega (arith, used ws version store s)

pub overflow_sub-result : goal.overflow_sub-result
overflow_sub-result g c =
    let m = c.word-2.new.mem in
    let r = Reads-loaded (Reads-loaded (Reads-none _ c.requires.all) c.in_ok-end.ensures.done) c.in_ok-given.ensures.done in
    always_at_most (g.M.Memory.stands m) (g.met.M.Memory.some_stands m) 1 c.in_ok-end.end (λ first now s. (let p = (r.from first now s).1 in some now c.in_ok-end.end p.0.0 p.0.1))

pub overflow_sub-result-2 : goal.overflow_sub-result-2
overflow_sub-result-2 g c =
    let m = c.word-2.new.mem in
    let r = Reads-loaded (Reads-loaded (Reads-none _ c.requires.all) c.in_ok-end.ensures.done) c.in_ok-given.ensures.done in
    always_at_most (g.M.Memory.stands m) (g.met.M.Memory.some_stands m) c.in_ok-given.given (c.in_ok-end.end - 1) (λ first now s. (let p = (r.from first now s).1 in fewer now c.in_ok-end.end c.in_ok-given.given p.0.0 p.0.1 p.1))

pub returns : goal.returns
returns g c =
    let r = Reads-loaded (Reads-loaded (Reads-none _ c.requires.all) c.in_ok-end.ensures.done) c.in_ok-given.ensures.done in
    found (Reads-weaker r (λ ws p version store s. is ws c.in_ok-end.end c.in_ok-given.given version store s p.0.1 p.1)) (search rules) (search rules) (search rules)
