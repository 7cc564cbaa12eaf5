use Rattle.std.proofs.Common.{◌≡◌, ℕ, List, [], ◌∷◌, ◌++◌, length, ap, ◌∙◌}
use Rattle.cx_base.specs.Packing.{packed}
use Rattle.doc_model.specs.Words.{words_in, words_with}
use Rattle.doc_model.proofs.word_parts.words_of_packed.Goals as goal

words_are : (kind key_len document_len : ℕ) (key document words name text : List ℕ) → words ≡ (kind ∷ key_len ∷ document_len ∷ 0 ∷ 0 ∷ 0 ∷ 0 ∷ 0 ∷ []) ++ (key ++ document) →
    key_len ≡ length name → key ≡ packed 8 name → document_len ≡ length text → document ≡ packed 128 text → words ≡ words_with kind name text 0
unfolding words_in
words_are kind key_len document_len key document words name text e name_long name_packed text_long text_packed =
    e
    ∙ ap (λ n. (kind ∷ n ∷ document_len ∷ 0 ∷ 0 ∷ 0 ∷ 0 ∷ 0 ∷ []) ++ (key ++ document)) name_long
    ∙ ap (λ n. (kind ∷ length name ∷ n ∷ 0 ∷ 0 ∷ 0 ∷ 0 ∷ 0 ∷ []) ++ (key ++ document)) text_long
    ∙ ap (λ w. (kind ∷ length name ∷ length text ∷ 0 ∷ 0 ∷ 0 ∷ 0 ∷ 0 ∷ []) ++ (w ++ document)) name_packed
    ∙ ap (λ w. (kind ∷ length name ∷ length text ∷ 0 ∷ 0 ∷ 0 ∷ 0 ∷ 0 ∷ []) ++ (packed 8 name ++ w)) text_packed

pub returns : goal.returns
returns c = λ name text. words_are c.args.kind c.args.key_len c.args.document_len c.args.key.now c.args.document.now _ name text c.write_packed.ensures
