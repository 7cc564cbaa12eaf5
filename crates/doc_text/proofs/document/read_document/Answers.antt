use Rattle.std.proofs.Common.{◌∙◌, sym, ap, rules, subst, arith, string_bytes}
use Rattle.std.proofs.lemmas.Str.{IsUtf8-string_bytes}
use Rattle.cx_base.specs.Store.{IsDocument}
use Rattle.doc_text.proofs.Documents.{is_document}
use Rattle.doc_text.proofs.document.read_document.Goals as goal

pub returns : goal.returns
returns c =
    let whole = sym c.has_float.ensures ∙ c.if-has_float.false in
    let text = string_bytes c.in_ok-text.text in
    let same = c.in_ok-text.ensures.text whole in
    record {
      is = search rules;
      within = subst IsDocument (sym (c.of_vec.ensures ∙ ap (λ bytes. bytes.items) c.into_bytes.ensures.value))
          (is_document text _ (IsUtf8-string_bytes c.in_ok-text.text) same whole (omega (arith, c.if-len-gt-MAX_DOCUMENT.false, c.len.ensures)));
    }
