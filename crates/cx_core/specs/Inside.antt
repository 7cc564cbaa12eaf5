-- A part of a memory as a memory.
use Rattle.std.specs.Prelude.{◌≡◌, ◌+◌, ◌-◌, ◌^◌, ◌<◌, ◌≤◌, ℕ, List, length, ◌++◌, take, drop, All, slice_index, slice_set, refl}
use Rattle.std.proofs.Common.{sym, ap, ◌∙◌, subst, arith, append_assoc}
use Rattle.std.proofs.lemmas.List.{get_or_append_left, get_or-append-add, set-append_left, set-append_right, length-append, length-set, length-drop, take-append-drop, set-set, set-get_or, get_or-set_same, take_at, drop_at, length-take-le}
use Rattle.std.proofs.lemmas.List.Elements.{All-same, All-drop, All-take}
use Rattle.std.proofs.Math.Logic.{∥∥₁_map}
use Rattle.cx_base.specs.Memory.{Words, Stored}

-- the part's words stand where they do between some words in front and some behind; the part's key keeps those
pub record Inside {Key : Type 0} (stands : Key → List ℕ → Type 0) (from len : ℕ) (key : Key × List ℕ × List ℕ) (part : List ℕ) : Type 0 where
  pub whole : stands key.0 (key.1 ++ part ++ key.2)
  pub front : length key.1 ≡ from
  pub long : length part ≡ len

-- what no access changes of a part: the reference to the whole, what no access changes of it, and where the part is
pub record PartFixed (Name Fixed : Type 0) : Type 0 where
  pub name : Name
  pub inner : Fixed
  pub whole : ℕ
  pub from : ℕ
  pub len : ℕ

-- a word of the middle
middle_at : (front part behind : List ℕ) (from at : ℕ) → length front ≡ from → at < length part → slice_index (front ++ part ++ behind) (from + at) ≡ slice_index part at
middle_at front part behind from at f l =
    get_or_append_left (front ++ part) behind 0 (from + at) (simp length-append (omega arith))
    ∙ ap (λ n. slice_index (front ++ part) (n + at)) (sym f)
    ∙ get_or-append-add front part at 0

-- a word put into the middle
middle_set : (front part behind : List ℕ) (from at v : ℕ) → length front ≡ from → at < length part → slice_set (front ++ part ++ behind) (from + at) v ≡ front ++ slice_set part at v ++ behind
middle_set front part behind from at v f l =
    let far : from + at - from ≡ at = omega arith in
    set-append_left (front ++ part) behind (from + at) v (simp length-append (omega arith))
    ∙ ap (λ xs. xs ++ behind) (set-append_right front part from (from + at) v f (omega arith) ∙ ap (λ n. front ++ slice_set part n v) far)

-- the list before a word was put: the list after it, with the old word there
put_back : (before now : List ℕ) (i v : ℕ) → now ≡ slice_set before i v → slice_set now i (slice_index before i) ≡ before
put_back before now i v e =
    ap (λ xs. slice_set xs i (slice_index before i)) e ∙ set-set before i v (slice_index before i) ∙ set-get_or before i 0

-- where a word was put at a place of a list, it stands there
put_there : (before now : List ℕ) (i v : ℕ) → i < length now → now ≡ slice_set before i v → slice_index now i ≡ v
put_there before now i v below e =
    ap (λ xs. slice_index xs i) e ∙ get_or-set_same before i v 0 (omega (arith, ap length e, length-set before i v))

module _ {Key : Type 0} where
  -- a store of a word within a part of the words is a store into the part
  pub inside_store : {old new : Key → List ℕ → Type 0} (from len at v : ℕ) → at < len → Stored (from + at) v old new → Stored at v (Inside old from len) (Inside new from len)
  inside_store {old = old} {new = new} from len at v below d = record {
    back = λ key now s. (
        let whole = key.1 ++ now ++ key.2 in
        let p = d.back key.0 whole s.whole in
        let word = slice_index p.0 (from + at) in
        let within : at < length now = omega (arith, s.long) in
        let inside : from + at < length (key.1 ++ now ++ key.2) = simp length-append (omega (arith, s.front)) in
        let same : key.1 ++ slice_set now at word ++ key.2 ≡ p.0 = sym (middle_set key.1 now key.2 from at word s.front within) ∙ put_back p.0 whole (from + at) v p.2 in
        let there : slice_index now at ≡ v = sym (middle_at key.1 now key.2 from at s.front within) ∙ put_there p.0 whole (from + at) v inside p.2 in (
          slice_set now at word,
          record {
            whole = subst (old key.0) (sym same) p.1;
            front = s.front;
            long = length-set now at word ∙ s.long;
          },
          sym (set-set now at word v ∙ ap (slice_set now at) (sym there) ∙ set-get_or now at 0),
        ));
    on = λ key before s. record {
      whole = subst (new key.0) (middle_set key.1 before key.2 from at v s.front (omega (arith, s.long))) (d.on key.0 (key.1 ++ before ++ key.2) s.whole);
      front = s.front;
      long = length-set before at v ∙ s.long;
    };
  }

-- a fact of each word of a list holds of each word of its middle
all_middle : (P : ℕ → Type 0) (front part behind : List ℕ) → All P (front ++ part ++ behind) → All P part
all_middle P front part behind fit =
    let whole = All-same P (front ++ (part ++ behind)) (front ++ part ++ behind) (sym (append_assoc front part behind)) fit in
    let rest = subst (λ xs. All P xs) (drop_at front (part ++ behind) (length front) refl) (All-drop P (length front) (front ++ (part ++ behind)) whole) in
    subst (λ xs. All P xs) (take_at part behind (length part) refl) (All-take P (length part) (part ++ behind) rest)

module _ {Key : Type 0} where
  -- a part of words is words, as many as it is long
  pub inside_words : {stands : Key → List ℕ → Type 0} (size from len : ℕ) → ((first : Key) (now : List ℕ) → stands first now → Words size now) →
      (key : Key × List ℕ × List ℕ) (part : List ℕ) → Inside stands from len key part → Words len part
  inside_words size from len words key part s =
      let w = words key.0 (key.1 ++ part ++ key.2) s.whole in
      record { long = s.long; fit = all_middle (λ x. x < 2 ^ 64) key.1 part key.2 w.fit }

-- a list as a front, a middle and a rest
three_parts : (from len : ℕ) (ws : List ℕ) → take from ws ++ take len (drop from ws) ++ drop len (drop from ws) ≡ ws
three_parts from len ws =
    append_assoc (take from ws) (take len (drop from ws)) (drop len (drop from ws))
    ∙ ap (λ xs. take from ws ++ xs) (take-append-drop len (drop from ws))
    ∙ take-append-drop from ws

module _ {Key : Type 0} where
  -- where some words stand, they have a part of this length from this place on
  pub inside_some : {stands : Key → List ℕ → Type 0} (size from len : ℕ) → from + len ≤ size → ((first : Key) (now : List ℕ) → stands first now → Words size now) →
      ∥ ((first : Key) × (now : List ℕ) × stands first now) ∥₁ →
      ∥ ((key : Key × List ℕ × List ℕ) × (part : List ℕ) × Inside stands from len key part) ∥₁
  inside_some {stands = stands} size from len within words some =
      ∥∥₁_map some (λ p. (
      let ws = p.1 in
      let w = words p.0 ws p.2 in
      let front : from ≤ length ws = omega (arith, w.long) in
      let rest : len ≤ length (drop from ws) = simp length-drop (omega (arith, w.long)) in (
        (p.0, take from ws, drop len (drop from ws)),
        take len (drop from ws),
        record {
          whole = subst (stands p.0) (sym (three_parts from len ws)) p.2;
          front = length-take-le from ws front;
          long = length-take-le len (drop from ws) rest;
        },
      )))
