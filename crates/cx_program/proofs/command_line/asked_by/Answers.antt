use Rattle.std.proofs.Common.{◌≡◌, ◌∙◌, sym, ap, subst, map, string_bytes, codes, ℕ, List, [], ◌∷◌, arith}
use Rattle.cx_program.specs.Commands.{command_asked}
use Rattle.cx_program.specs.Words.{IsLoadOf, IsPoolOf}
use Rattle.cx_program.proofs.Forms.{are_of_load, are_of_pool, none_of_load, none_of_pool, one_two_or_four, one_word}
use Rattle.cx_program.proofs.command_line.asked_by.Goals as goal

pub returns-in-None : goal.returns-in-None
returns-in-None c =
    let words : List (List ℕ) = map string_bytes c.args.words.now in
    let are = are_of_pool c.args.words.now c.seats-item.result c.requires (omega (arith, c.in-len2.len_at_least, c.in-len2.len_below)) c.seats-item.is in
    let read : words ≡ codes "pool" ∷ c.deref.result.now ∷ [] = cc (are) in
    none_of_pool words c.deref.result.now read (λ n is. c.in-None.ensures.none n (subst (IsPoolOf n) read is))

pub returns-in-None-read : goal.returns-in-None-read
returns-in-None-read c =
    let words : List (List ℕ) = map string_bytes c.args.words.now in
    let are = are_of_load c.args.words.now c.from-item.result c.clients-item.result c.ops-item.result c.requires c.in-len4.len_at_least c.from-item.is c.clients-item.is c.ops-item.is in
    let read : words ≡ codes "load" ∷ c.deref-in-len4.result.now ∷ c.deref-in-len4-2.result.now ∷ c.deref-in-len4-3.result.now ∷ [] = cc (are) in
    none_of_load words c.deref-in-len4.result.now c.deref-in-len4-2.result.now c.deref-in-len4-3.result.now read (λ a b d is. c.in-None-read.ensures.none a b d (subst (IsLoadOf a b d) read is))

pub returns-in-len1 : goal.returns-in-len1
returns-in-len1 c =
    let are : map string_bytes c.args.words.now ≡ string_bytes c.word-item.result ∷ [] = one_word c.args.words.now c.word-item.result (omega (arith, c.in-len1.len_at_least, c.in-len1.len_below)) c.word-item.is in
    subst (λ (words : List (List ℕ)). (command_asked c.asked_alone.result).asked words) (ap (λ (word : List ℕ). word ∷ []) c.as_str.ensures.value ∙ sym are) c.asked_alone.ensures

pub returns-in_default : goal.returns-in_default
returns-in_default c asked asks = absurd (one_two_or_four c.args.words.now c.requires (λ one. omega (arith, one)) (λ two. omega (arith, two)) (λ four. omega (arith, four)))
