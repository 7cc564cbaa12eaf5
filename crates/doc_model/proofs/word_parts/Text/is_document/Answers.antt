use Rattle.std.proofs.Common.{◌≡◌, ◌<◌, ◌⊎◌, inl, inr, refl, sym, ap, ◌∙◌, arith}
use Rattle.doc_model.specs.WordParts.{is_document}
use Rattle.doc_model.proofs.WordTexts.{too_short_or_long, long_enough, document_by_test, plain_unpacked}
use Rattle.doc_model.proofs.word_parts.Text.is_document.Goals as goal
use Rattle.doc_model.proofs.word_parts.Text.is_document.Goals.{then-self-eq0-via-then-self-eq0, then-self-eq0-via-else-self-eq0+then-self-gt1024}

pub returns-then-self-eq0 : goal.returns-then-self-eq0
returns-then-self-eq0 g c =
    let t = c.self.inside in
    let out : (t.len ≡ 0) ⊎ (1024 < t.len) = elim c.then-self-eq0.branch [
      | then-self-eq0-via-then-self-eq0 w ↦ inl (omega arith)
      | then-self-eq0-via-else-self-eq0+then-self-gt1024 w ↦ inr (omega arith)
    ] in
    too_short_or_long t.len 1024 _ out ∙ sym (document_by_test t.words.now t.len _ refl) ∙ ap is_document c.self.view_is

pub returns : goal.returns
returns g c =
    let t = c.self.inside in
    let answer = c.are_between.result in
    let plain = plain_unpacked t.words.now t.len answer c.are_between.ensures in
    long_enough t.len 1024 answer (omega arith) (omega arith) ∙ sym (document_by_test t.words.now t.len answer plain) ∙ ap is_document c.self.view_is
