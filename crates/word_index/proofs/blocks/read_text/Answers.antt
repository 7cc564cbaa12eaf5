use Rattle.std.proofs.Common.{◌≡◌, ◌+◌, ◌≤◌, ℕ, List, length, arith, ◌/◌}
use Rattle.cx_base.proofs.MemoryLemmas.{always_at_most}
use Rattle.cx_base.proofs.ReadLemmas.{Reads-none, Reads-loaded}
use Rattle.avl_words.specs.Lines.{word_of}
use Rattle.index_validation.specs.Blocks.{HasText}
use Rattle.word_index.proofs.blocks.read_text.Goals as goal

len_short : (ws : List ℕ) (node at n len : ℕ) → HasText ws node at n → word_of ws node (at + 1) ≡ len → (len + 7) / 8 ≤ n
len_short ws node at n len h e = omega (arith, h.text.long, h.short)

pub read_words-requires-clause-room : goal.read_words-requires-clause-room
read_words-requires-clause-room g c =
    let m = c.word-2.new.mem in
    let r = Reads-loaded (Reads-loaded (Reads-none _ c.requires.memory.all) c.in_ok-first.ensures.done) c.in_ok-len.ensures.done in
    let short : (c.in_ok-len.len + 7) / 8 ≤ length c.args.into.now = always_at_most (g.M.Memory.stands m) (g.met.M.Memory.some_stands m) ((c.in_ok-len.len + 7) / 8) (length c.args.into.now)
    (λ first now s. (let p = r.from first now s in len_short now c.args.node c.args.at (length c.args.into.now) c.in_ok-len.len p.1.0.0 p.1.1)) in
    omega (arith, c.div_ceil.ensures)
