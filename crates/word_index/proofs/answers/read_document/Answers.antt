use Rattle.std.proofs.Common.{◌≡◌, length, ap, sym, subst, ◌∙◌, rules}
use Rattle.std.proofs.lemmas.List.{length-replicate}
use Rattle.std.proofs.lemmas.Result.{IfOk-weaker}
use Rattle.std.specs.Prelude.{ℕ, List, replicate}
use Rattle.cx_base.specs.Memory.{Reads}
use Rattle.cx_base.proofs.ReadLemmas.{Reads-weaker}
use Rattle.index_validation.specs.Blocks.{HasText, IsTextAt}
use Rattle.word_index.specs.Answers.{IsPackOf}
use Rattle.word_index.proofs.NodeReads.{has_document, document_text}
use Rattle.avl_words.proofs.Memories.{found, loadable}
use Rattle.word_index.proofs.answers.read_document.Goals as goal

pub read_text-requires-clause-zero : goal.read_text-requires-clause-zero
read_text-requires-clause-zero g c =
    let long : length c.args.into.now ≡ 128 = ap length c.requires.zero ∙ length-replicate {A = ℕ} 128 0 in
    c.requires.zero ∙ ap (λ n. replicate n 0) (sym long)

pub read_text-requires-clause-memory : goal.read_text-requires-clause-memory
read_text-requires-clause-memory g c =
    let long : length c.args.into.now ≡ 128 = ap length c.requires.zero ∙ length-replicate {A = ℕ} 128 0 in
    loadable (search rules) (λ first now s. subst (HasText now c.args.node 5) (sym long) (has_document now c.args.node (c.requires.memory.all first now s)))

pub returns : goal.returns
returns g c =
    let long : length c.args.into.now ≡ 128 = ap length c.requires.zero ∙ length-replicate {A = ℕ} 128 0 in
    found (IfOk-weaker c.read_text.result
    (λ len. Reads (g.M.Memory.stands c.args.mem.now) (g.M.Memory.stands c.read_text.new.mem) (λ ws. (lines bytes : List ℕ) → IsTextAt ws c.args.node 5 lines bytes → IsPackOf (length c.args.into.now) len c.read_text.new.into bytes)) _
    (λ len r. Reads-weaker r (λ ws p pair is. subst (λ n. IsPackOf n len c.read_text.new.into pair.1) long (p is.place.document_lines pair.1 (document_text ws c.args.node pair is)))) c.read_text.ensures.done) (search rules) (search rules) (search rules)
