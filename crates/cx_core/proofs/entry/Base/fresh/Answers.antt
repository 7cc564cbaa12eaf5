use Rattle.std.proofs.Common.{◌≡◌, ◌^◌, ◌<◌, refl, ◌∙◌, rules}
use Rattle.std.proofs.lemmas.List.Elements.{All-same}
use Rattle.cx_base.proofs.MemoryLemmas.{known_after}
use Rattle.cx_core.specs.Region.{region_words}
use Rattle.cx_core.proofs.BaseLemmas.{fresh_made, fresh_lawful}
use Rattle.cx_core.proofs.entry.Base.fresh.Goals as goal

pub returns : goal.returns
returns g c =
    let o = c.args.object.now in
    let opens = g.met.O.Object.opens o in
    let shape = g.met.O.Object.shape o (g.O.Object.opening o) opens in
    let memory = c.format_part.new.mem in
    let done = known_after c.of-memory.result.words.items memory.words.items memory.fit c.in-Ok.ensures.done in
    let count : c.in_ok-count.count ≡ region_words (g.O.Object.line_count o) = search rules in
    let made = fresh_made (g.O.Object.line_count o) c.in_ok-count.count (g.O.Object.opening o) c.of-memory.result.words.items memory.words.items count (search rules) shape.0.long done in
    let words : c.of.result ≡ memory.words.items = c.of.ensures ∙ c.into_words.ensures in
    let fit = All-same (λ x. x < 2 ^ 64) c.of.result memory.words.items words memory.fit in
    record {
      place = refl;
      words = words ∙ made;
      lawful = fresh_lawful (g.O.Object.line_count o) (g.O.Object.lawful o) (g.O.Object.opening o) c.of.result (words ∙ made) shape.0 fit opens;
    }
