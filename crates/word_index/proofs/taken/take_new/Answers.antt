use Rattle.std.proofs.Common.{◌≡◌, ◌^◌, ◌≤◌, ℕ, List, arith}
use Rattle.cx_base.proofs.MemoryLemmas.{always_at_most}
use Rattle.cx_base.proofs.ReadLemmas.{Reads-none, Reads-loaded}
use Rattle.avl_words.specs.Lines.{word_of}
use Rattle.word_index.proofs.taken.take_new.Goals as goal

small : (ws : List ℕ) (line : ℕ) → word_of ws 0 3 ≤ 2 ^ 32 → word_of ws 0 3 ≡ line → line ≤ 2 ^ 32
small ws line few e = omega arith

pub overflow_add-line : goal.overflow_add-line
overflow_add-line g c =
    let m = c.word.new.mem in
    let line = c.in_ok-line.line in
    let r = Reads-loaded (Reads-none _ c.requires.all) c.in_ok-line.ensures.done in
    let few : line ≤ 2 ^ 32 = always_at_most (g.M.Memory.stands m) (g.met.M.Memory.some_stands m) line (2 ^ 32) (λ first now s. (let p = (r.from first now s).1 in small now line p.0 p.1)) in
    omega arith
