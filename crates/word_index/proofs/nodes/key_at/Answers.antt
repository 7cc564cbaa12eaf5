use Rattle.std.proofs.Common.{◌≤◌, sym, subst, rules}
use Rattle.cx_base.proofs.MemoryLemmas.{always_at_most}
use Rattle.cx_base.proofs.ReadLemmas.{Reads-weaker, always_read}
use Rattle.word_index.proofs.NodeReads.{has_key, key_text}
use Rattle.avl_words.proofs.Memories.{found, loadable}
use Rattle.word_index.proofs.nodes.key_at.Goals as goal

pub read_text-requires-clause-memory : goal.read_text-requires-clause-memory
read_text-requires-clause-memory g c = loadable (search rules) (λ first now s. has_key now c.args.node (c.requires.all first now s))

pub returns : goal.returns
returns g c = found (Reads-weaker c.in_ok-len.ensures.done (λ ws p pair is. p is.place.key_lines pair.0 (key_text ws c.args.node pair is))) (search rules) (search rules) (search rules)

pub invariant_of-result : goal.invariant_of-result
invariant_of-result g c =
    let m = c.read_text.new.mem in
    record {
      short = always_at_most (g.M.Memory.stands m) (g.met.M.Memory.some_stands m) c.in_ok-len.len 64 (always_read c.requires.all c.in_ok-len.ensures.done
          (λ ws h packs. subst (λ n. n ≤ 64) (sym (packs h.is.place.key_lines h.pair.0 (key_text ws c.args.node h.pair h.is)).long) h.is.is_key.short));
    }
