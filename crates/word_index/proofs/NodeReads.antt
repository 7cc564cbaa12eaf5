-- What a node names.
use Rattle.std.proofs.Common.{◌≡◌, ◌*◌, ◌<◌, ◌≤◌, ℕ, List, ◌++◌, length, get_or, sym, ap, subst, ◌∙◌}
use Rattle.std.proofs.lemmas.List.Elements.{All-head, All-tail}
use Rattle.cx_base.proofs.PackingLemmas.{unpacked-packed}
use Rattle.cx_base.specs.Packing.{unpacked}
use Rattle.index_validation.proofs.Texts.{key_small, text_is}
use Rattle.index_validation.specs.Reading.{text_at}
use Rattle.avl_words.specs.Lines.{IsWithin, word_of}
use Rattle.index_validation.proofs.Lines.{all_left, all_right}
use Rattle.index_validation.specs.Blocks.{IsTextAt, HasText}
use Rattle.index_validation.specs.Layout.{Holds}
use Rattle.word_index.specs.Answers.{IsNodeOf, IsPackOf}
use Rattle.word_index.specs.Walk.{HasNode}

pub key_text : (ws : List ℕ) (node : ℕ) (pair : List ℕ × List ℕ) (is : IsNodeOf ws node pair) → IsTextAt ws node 3 is.place.key_lines pair.0
key_text ws node pair is =
    let place = is.place in
    let lines = All-tail (IsWithin ws) place.node (place.key_lines ++ place.document_lines) is.within in
    record {
      holds = subst (λ n. Holds ws (word_of ws n 3) place.key_lines pair.0) (sym is.here) is.holds.key;
      long = subst (λ n. word_of ws n 4 ≡ length pair.0) (sym is.here) is.holds.key_length;
      node_within = subst (IsWithin ws) (sym is.here) (All-head (IsWithin ws) place.node (place.key_lines ++ place.document_lines) is.within);
      within = all_left (IsWithin ws) place.key_lines place.document_lines lines;
    }

pub document_text : (ws : List ℕ) (node : ℕ) (pair : List ℕ × List ℕ) (is : IsNodeOf ws node pair) → IsTextAt ws node 5 is.place.document_lines pair.1
document_text ws node pair is =
    let place = is.place in
    let lines = All-tail (IsWithin ws) place.node (place.key_lines ++ place.document_lines) is.within in
    record {
      holds = subst (λ n. Holds ws (word_of ws n 5) place.document_lines pair.1) (sym is.here) is.holds.document;
      long = subst (λ n. word_of ws n 6 ≡ length pair.1) (sym is.here) is.holds.document_length;
      node_within = subst (IsWithin ws) (sym is.here) (All-head (IsWithin ws) place.node (place.key_lines ++ place.document_lines) is.within);
      within = all_right (IsWithin ws) place.key_lines place.document_lines lines;
    }

pub has_key : (ws : List ℕ) (node : ℕ) → HasNode ws node → HasText ws node 3 8
has_key ws node h = record { lines = h.is.place.key_lines; bytes = h.pair.0; text = key_text ws node h.pair h.is; short = h.is.is_key.short }

pub has_document : (ws : List ℕ) (node : ℕ) → HasNode ws node → HasText ws node 5 128
has_document ws node h = record { lines = h.is.place.document_lines; bytes = h.pair.1; text = document_text ws node h.pair h.is; short = h.is.is_document.short }

-- bytes that are packed and unpacked again are these bytes
pub unpacks : (n len : ℕ) (words bytes : List ℕ) → IsPackOf n len words bytes → ((i : ℕ) → get_or bytes i 0 < 256) → length bytes ≤ 8 * n → unpacked len words ≡ bytes
unpacks n len words bytes is small short =
    ap (λ k. unpacked k words) is.long ∙ ap (λ ws. unpacked (length bytes) ws) is.packs ∙ unpacked-packed n bytes small short

pub node_within : (ws : List ℕ) (node : ℕ) → HasNode ws node → IsWithin ws node
node_within ws node h = (key_text ws node h.pair h.is).node_within

pub node_key : (ws : List ℕ) (node : ℕ) (pair : List ℕ × List ℕ) → IsNodeOf ws node pair → text_at node 3 ws ≡ pair.0
node_key ws node pair is =
    ap (λ n. text_at n 3 ws) is.here ∙ text_is ws is.place.node 3 is.place.key_lines pair.0 is.holds.key is.holds.key_length (key_small pair.0 is.is_key)
