use Rattle.std.proofs.Common.{◌≡◌, ℕ, List, [], ◌∷◌, ◌++◌, length, replicate, set, ap, ◌∙◌}
use borrow.Rule.Slice.PartMut.{put_mid}
use Rattle.cx_base.specs.Packing.{packed}
use Rattle.doc_model.specs.Words.{words_in, words_with}
use Rattle.doc_store.proofs.word_parts.key_reply.Goals as goal

-- a reply that is a key of `len` bytes, in these words
abbrev headed : ℕ → List ℕ → List ℕ
headed len words = 10 ∷ len ∷ 0 ∷ 0 ∷ 0 ∷ 0 ∷ 0 ∷ 0 ∷ (words ++ replicate 128 0)

reply_is : (len : ℕ) (words name reply : List ℕ) → reply ≡ headed len words → len ≡ length name → words ≡ packed 8 name → reply ≡ words_with 10 name [] 0
unfolding words_in
reply_is len words name reply e long packs = e ∙ ap (λ n. headed n words) long ∙ ap (λ t. headed (length name) t) packs

pub returns : goal.returns
returns c = λ name is.
    let len = c.args.key.now.len in
    let copied = c.copy_from_slice.new.self in
    reply_is len c.args.key.now.words name _
    (ap (λ (r : List ℕ). put_mid 8 8 (set (set r 0 10) 1 len) copied) c.requires.zero ∙ ap (λ w. headed len w) c.copy_from_slice.ensures.after)
    is.long is.packs
