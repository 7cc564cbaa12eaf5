use Rattle.std.proofs.Common.{◌≡◌, ◌≤◌, ℕ, List, arith}
use Rattle.cx_base.proofs.MemoryLemmas.{always_at_most}
use Rattle.cx_base.proofs.ReadLemmas.{Reads-none, Reads-loaded}
use Rattle.avl_words.specs.Lines.{word_of}
use Rattle.word_index.proofs.taken.take_given.Goals as goal

some : (ws : List ℕ) (number : ℕ) → 1 ≤ word_of ws 0 4 → word_of ws 0 4 ≡ number → 1 ≤ number
some ws number least e = omega arith

pub overflow_sub-number : goal.overflow_sub-number
overflow_sub-number g c =
    let m = c.word-2.new.mem in
    let number = c.in_ok-number.number in
    let r = Reads-loaded (Reads-loaded (Reads-none _ c.requires.all) c.in_ok-next.ensures.done) c.in_ok-number.ensures.done in
    always_at_most (g.M.Memory.stands m) (g.met.M.Memory.some_stands m) 1 number (λ first now s. (let p = (r.from first now s).1 in some now number p.0.0.1 p.1))
