-- A lawful base at another place, as the tests open from.
use Rattle.std.proofs.Common.{◌≡◌, ◌+◌, ◌*◌, ◌^◌, ◌<◌, ◌≤◌, ℕ, List, set, take, sym, ap, subst, ◌∙◌, arith, length-set}
use Rattle.std.proofs.lemmas.List.{drop-set-lt, get_or-set_other, get_or-set_same}
use Rattle.std.proofs.lemmas.List.Elements.{All-set}
use Rattle.cx_core.specs.declared.entry.Base.{Base}
use Rattle.cx_core.specs.Base.{LawfulBase}
use Rattle.cx_core.specs.Region.{object_part, slot_reply}

-- the reply in a caller's slot stays where the place word is put
same_reply : (ws : List ℕ) (caller v : ℕ) → slot_reply caller (set ws 0 v) ≡ slot_reply caller ws
unfolding slot_reply
same_reply ws caller v = ap (take 144) (drop-set-lt (8 + 145 * caller + 1) ws 0 v (omega arith))

-- the object part stays where the place word is put
same_object : (ws : List ℕ) (v : ℕ) → object_part (set ws 0 v) ≡ object_part ws
unfolding object_part
same_object ws v = drop-set-lt 1168 ws 0 v (omega arith)

-- a lawful base at another place, whose words are the same but for it
pub moved : (lines : ℕ) (lawful : List ℕ → Type 0) (base : Base) (place : ℕ) (words : List ℕ) → LawfulBase lines lawful base → base.place ≤ place → place ≤ 2 ^ 40 → words ≡ set base.words 0 place →
    LawfulBase lines lawful (record { place = place; words = words })
moved lines lawful base place words was from to are = subst (λ (ws : List ℕ). LawfulBase lines lawful (record { place = place; words = ws })) (sym are) (record {
  size = record { long = length-set base.words 0 place ∙ was.size.long; fit = All-set (λ x. x < 2 ^ 64) base.words 0 place (omega arith) was.size.fit };
  at_place = get_or-set_same base.words 0 place 0 (omega (arith, was.size.long));
  place_within = to;
  results = record {
    zeros = λ at some few. get_or-set_other base.words 0 at place 0 (λ e. omega arith) ∙ was.results.zeros at some few;
    empty = λ caller below none. same_reply base.words caller place ∙ was.results.empty caller below (sym (get_or-set_other base.words 0 (8 + 145 * caller) place 0 (λ e. omega arith)) ∙ none);
  };
  object = subst lawful (sym (same_object base.words place)) was.object;
  numbers = λ caller below. (let n = get_or-set_other base.words 0 (8 + 145 * caller) place 0 (λ e. omega arith) in omega (arith, n, was.numbers caller below));
})
