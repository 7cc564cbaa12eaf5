use Rattle.std.proofs.Common.{◌≡◌, ◌*◌, ℕ, false, List, ap, ◌∙◌, rules}
use Rattle.cx_base.specs.Memory.{Words, Reads, Always}
use Rattle.cx_base.specs.Packing.{unpacked}
use Rattle.cx_base.specs.Store.{Store, lines_of}
use Rattle.cx_base.proofs.MemoryLemmas.{Becomes-then}
use Rattle.cx_base.proofs.ReadLemmas.{Becomes-from-read, always_read, Reads-then}
use Rattle.index_validation.specs.Layout.{StandsFor, IsIndex}
use Rattle.word_index.specs.Exact.{inserted_in, with_document}
use Rattle.word_index.specs.Insertion.{IsInsertKnown, LinesAt}
use Rattle.word_index.specs.Walk.{AtSpot}
use Rattle.word_index.proofs.Cutting.{visits_read}
use Rattle.word_index.proofs.Inserting.{can_have_node}
use Rattle.avl_words.proofs.Memories.{changed, storable, loadable}
use Rattle.word_index.proofs.insertion.insert.Goals as goal

known_from : {Key : Type 0} {a b d e : Key → List ℕ → Type 0} (key nodes sides : List ℕ) (depth node above used old n lines : ℕ) → Always a IsIndex → Reads a b (AtSpot false key nodes sides depth node above) →
    Reads b d (λ ws. (version : ℕ) (store : Store) → StandsFor ws version store → used ≡ lines_of store) → Reads d e (LinesAt node old) → ((first : Key) (now : List ℕ) → e first now → Words n now) → n ≡ 8 * lines →
    Reads a e (IsInsertKnown key nodes sides depth node above used old lines)
known_from key nodes sides depth node above used old n lines all r u l words size = record {
  from = λ first now s. (
      let p = l.from first now s in let q = u.from first now p.0 in let t = r.from first now q.0 in
      (t.0, record { index = all first now t.0; spot = t.1; in_use = q.1; here = p.1; long = (words first now s).long ∙ size }));
}

pub lines_in_use-requires : goal.lines_in_use-requires
lines_in_use-requires g c = loadable (search rules) (always_read c.requires.memory.all c.in_ok-end.ensures.finds.done (λ ws i s. i))

pub lines_at-requires : goal.lines_at-requires
lines_at-requires g c =
    let key = unpacked c.args.key.now.len c.args.key.now.words in
    let way = c.seek_place.new.way in
    let end = c.in_ok-end.end in
    loadable (search rules) (always_read c.requires.memory.all (Reads-then c.in_ok-end.ensures.finds.done c.in_ok-used.ensures.done (λ ws s u. s)) (λ ws i s ne. can_have_node ws key way.nodes way.sides way.depth end.node end.above s i ne))

pub put_at-requires-clause-memory : goal.put_at-requires-clause-memory
put_at-requires-clause-memory g c =
    let m = c.lines_at.new.mem in
    let way = c.seek_place.new.way in
    let end = c.in_ok-end.end in
    let known = known_from (unpacked c.args.key.now.len c.args.key.now.words) way.nodes way.sides way.depth end.node end.above c.in_ok-used.used c.in_ok-old.old (g.M.Memory.size m) c.args.lines c.requires.memory.all
    c.in_ok-end.ensures.finds.done c.in_ok-used.ensures.done c.in_ok-old.ensures.done (g.met.M.Memory.words m)
    (c.in_ok-old.ensures.framed.size_kept ∙ c.in_ok-used.ensures.framed.size_kept ∙ c.in_ok-end.ensures.finds.framed.size_kept ∙ c.requires.lines) in
    storable (search rules) (search rules) (λ first now s. (known.from first now s).1)

-- what is read before leaves the words
read_over : {Key : Type 0} {a b d e : Key → List ℕ → Type 0} {P Q R : List ℕ → Type 0} → Reads a b P → Reads b d Q → Reads d e R → Reads a e P
read_over r u l = Reads-then (Reads-then r u (λ ws p q. p)) l (λ ws p q. p)

pub returns-clause-changes : goal.returns-clause-changes
returns-clause-changes g c =
    let key = unpacked c.args.key.now.len c.args.key.now.words in
    let doc = unpacked c.args.doc.now.len c.args.doc.now.words.now in
    changed (Becomes-then (Becomes-from-read (read_over c.in_ok-end.ensures.finds.done c.in_ok-used.ensures.done c.in_ok-old.ensures.done)) c.in_ok-inserted.ensures.done
    (λ x y w r a. (a.0 ∙ ap (inserted_in key doc) r.0, a.1 ∙ ap (with_document key doc) r.0))) (search rules) (search rules)

pub returns-clause-visits : goal.returns-clause-visits
returns-clause-visits g c =
    let v = visits_read c.in_ok-end.ensures.finds.kept c.in_ok-end.ensures.visits.few in
    Becomes-then (Becomes-then (Becomes-then v (Becomes-from-read c.in_ok-used.ensures.done) (λ x y z p q. p)) (Becomes-from-read c.in_ok-old.ensures.done) (λ x y z p q. p)) c.in_ok-inserted.ensures.done (λ x y z p q. p)
