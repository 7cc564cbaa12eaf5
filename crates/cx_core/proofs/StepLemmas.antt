-- What is done on a part of a memory, said of the whole, and the full step put together.
use Rattle.std.proofs.Common.{◌≡◌, ◌+◌, ◌<◌, ℕ, List, [], ◌∷◌, ◌++◌, length, take, drop, slice_index, slice_set, Result, Ok, Err, refl, sym, ap, ◌∙◌, subst, arith, append_assoc}
use Rattle.std.specs.Result.{IfOk}
use Rattle.std.proofs.lemmas.List.{append-nil, take-append-drop, length-append, length-take-le, length-drop, drop_at, nil_from_length, set_at, length_push}
use Rattle.cx_base.specs.Memory.{Loaded, Stored, Becomes, Always, overwritten}
use Rattle.cx_core.specs.Inside.{Inside, inside_store}
use Rattle.cx_core.specs.Region.{place_of, slot_start, object_part}
use Rattle.cx_core.specs.Step.{IsStepped, full_step_of, OnPart}
use Rattle.cx_core.specs.declared.entry.Entry.{Entry}

module _ {Key : Type 0} where
  -- a store into a part
  pub store_inside : {X E : Type 0} (old new : Key → List ℕ → Type 0) (r : Result X E) (from len at v : ℕ) → at < len →
      IfOk r (λ _. Stored (from + at) v old new) → IfOk r (λ _. Stored at v (Inside old from len) (Inside new from len))
  store_inside old new (Ok x) from len at v below s = inside_store from len at v below s
  store_inside old new (Err e) from len at v below s = s

-- a list that is as long as its front and its middle has nothing behind them
none_behind : (front part behind : List ℕ) (from len : ℕ) → length front ≡ from → length part ≡ len → length (front ++ part ++ behind) ≡ from + len → behind ≡ []
none_behind front part behind from len f l whole =
    nil_from_length behind (omega (arith, length-append (front ++ part) behind, length-append front part))

-- where nothing is behind the middle, the middle is what comes from its beginning on
drop_front : (front part behind : List ℕ) (from : ℕ) → length front ≡ from → behind ≡ [] → drop from (front ++ part ++ behind) ≡ part
drop_front front part behind from f e =
    ap (drop from) (append_assoc front part behind ∙ ap (λ xs. front ++ (part ++ xs)) e)
    ∙ drop_at front (part ++ []) from f
    ∙ append-nil part

-- words put over as many
pub overwritten_middle : (vs front part behind : List ℕ) (from : ℕ) → length front ≡ from → length vs ≡ length part → overwritten from vs (front ++ part ++ behind) ≡ front ++ vs ++ behind
unfolding overwritten
overwritten_middle [] front [] behind from f e = refl
overwritten_middle [] front (y ∷ part) behind from f e = absurd (omega (arith, e))
overwritten_middle (v ∷ vs) front [] behind from f e = absurd (omega (arith, e))
overwritten_middle (v ∷ vs) front (y ∷ part) behind from f e =
    let one : slice_set (front ++ (y ∷ part) ++ behind) from v ≡ (front ++ v ∷ []) ++ part ++ behind =
    ap (λ xs. slice_set xs from v) (append_assoc front (y ∷ part) behind)
    ∙ set_at front y (part ++ behind) v from f
    ∙ sym (append_assoc front (v ∷ part) behind)
    ∙ ap (λ xs. xs ++ behind) (sym (append_assoc front (v ∷ []) part)) in
    let rest = overwritten_middle vs (front ++ v ∷ []) part behind (from + 1) (length_push front v ∙ ap (λ n. n + 1) f) (omega (arith, e)) in
    ap (overwritten (from + 1) vs) one ∙ rest ∙ ap (λ xs. xs ++ behind) (append_assoc front (v ∷ []) vs)

module _ {Key : Type 0} where
  -- what holds of the words from a place on holds of that part
  pub part_always : {stands : Key → List ℕ → Type 0} (P : List ℕ → Type 0) (from len : ℕ) → ((first : Key) (now : List ℕ) → stands first now → length now ≡ from + len) →
      Always stands (λ now. P (drop from now)) → Always (Inside stands from len) P
  part_always P from len long always key part s =
      let whole = key.1 ++ part ++ key.2 in
      let none = none_behind key.1 part key.2 from len s.front s.long (long key.0 whole s.whole) in
      subst P (drop_front key.1 part key.2 from s.front none) (always key.0 whole s.whole)

  -- what was done on that part was done on the whole
  pub part_becomes : {old new : Key → List ℕ → Type 0} {R : List ℕ → List ℕ → Type 0} (from len : ℕ) → ((first : Key) (now : List ℕ) → new first now → length now ≡ from + len) →
      Becomes (Inside old from len) (Inside new from len) R → Becomes old new (OnPart from R)
  part_becomes {old = old} {new = new} {R = R} from len long b = record {
    from = λ first ws s. (
        let front = take from ws in
        let part = drop from ws in
        let size = long first ws s in
        let split : front ++ part ++ [] ≡ ws = append-nil (front ++ part) ∙ take-append-drop from ws in
        let front_long : length front ≡ from = length-take-le from ws (omega (arith, size)) in
        let part_long : length part ≡ len = length-drop from ws ∙ omega (arith, size) in
        let p = b.from (first, front, []) part (record { whole = subst (new first) (sym split) s; front = front_long; long = part_long }) in
        let same_length : length part ≡ length p.0 = part_long ∙ sym p.1.long in (
          front ++ p.0 ++ [],
          p.1.whole,
          record {
            part = subst (λ xs. R xs part) (sym (drop_front front p.0 [] from front_long refl)) p.2;
            rest = sym (overwritten_middle part front p.0 [] from front_long same_length ∙ split);
          },
        ));
  }

  -- what a call does to a part of the words it does to the whole, where the part begins and ends where it did; where the call halts, nothing is said
  pub part_done : {X E : Type 0} (old new : Key → List ℕ → Type 0) (R : X → List ℕ → List ℕ → Type 0) (r : Result X E) (from len from' len' : ℕ) →
      from' ≡ from → len' ≡ len → ((first : Key) (now : List ℕ) → new first now → length now ≡ from + len) →
      IfOk r (λ x. Becomes (Inside old from len) (Inside new from' len') (R x)) → IfOk r (λ x. Becomes old new (OnPart from (R x)))
  part_done old new R (Ok x) from len from' len' f l long b =
      part_becomes from len long (subst (λ m. Becomes (Inside old from len) (Inside new from m) (R x)) l (subst (λ n. Becomes (Inside old from len) (Inside new n len') (R x)) f b))
  part_done old new R (Err e) from len from' len' f l long b = b

-- the five changes of a full step, one after another
step_of_changes : (step : List ℕ → List ℕ → List ℕ × List ℕ) (entry : Entry) (place : ℕ) (reply ws a b c d : List ℕ) →
    slice_index ws 0 ≡ place → OnPart 1168 (λ before now. step before entry.op ≡ (now, reply)) ws a →
    b ≡ slice_set a (slot_start entry.caller) entry.number → c ≡ overwritten (slot_start entry.caller + 1) reply b → d ≡ slice_set c 0 (place + 1) →
    IsStepped step entry reply ws d
unfolding overwritten full_step_of object_part
step_of_changes step entry place reply ws a b c d at_place done number reply_put last =
    let slot = slot_start entry.caller in
    let image : drop 1168 a ≡ (step (drop 1168 ws) entry.op).0 = ap (λ p. p.0) (sym done.part) in
    let answer : reply ≡ (step (drop 1168 ws) entry.op).1 = ap (λ p. p.1) (sym done.part) in
    let object : a ≡ overwritten 1168 (step (drop 1168 ws) entry.op).0 ws = done.rest ∙ ap (λ vs. overwritten 1168 vs ws) image in
    record {
      words =
          last
          ∙ ap (λ n. slice_set c 0 (n + 1)) (sym at_place)
          ∙ ap (λ xs. slice_set xs 0 (place_of ws + 1)) (reply_put ∙ ap (overwritten (slot + 1) reply) number ∙ ap (λ vs. overwritten (slot + 1) vs (slice_set a slot entry.number)) answer ∙ ap (λ xs. overwritten (slot + 1) (step (drop 1168 ws) entry.op).1 (slice_set xs slot entry.number)) object);
      replied = answer;
    }

module _ {Key : Type 0} where
  -- what the five changes of a full step, one after another, do to the words that may stand
  pub full_step_done : {old m₁ m₂ m₃ m₄ new : Key → List ℕ → Type 0} (step : List ℕ → List ℕ → List ℕ × List ℕ) (entry : Entry) (place slot : ℕ) (reply : List ℕ) →
      slot ≡ slot_start entry.caller →
      Loaded 0 place old m₁ →
      Becomes m₁ m₂ (OnPart 1168 (λ before now. step before entry.op ≡ (now, reply))) →
      Becomes m₂ m₃ (λ before now. now ≡ slice_set before slot entry.number) →
      Becomes m₃ m₄ (λ before now. now ≡ overwritten (slot + 1) reply before) →
      Stored 0 (place + 1) m₄ new →
      Becomes old new (IsStepped step entry reply)
  full_step_done step entry place slot reply there loaded object number reply_put stored = record {
    from = λ first now s. (
        let d = stored.back first now s in
        let c = reply_put.from first d.0 d.1 in
        let b = number.from first c.0 c.1 in
        let a = object.from first b.0 b.1 in
        let l = loaded.back first a.0 a.1 in
        let number_at : c.0 ≡ slice_set b.0 (slot_start entry.caller) entry.number = b.2 ∙ ap (λ n. slice_set b.0 n entry.number) there in
        let reply_put_at : d.0 ≡ overwritten (slot_start entry.caller + 1) reply c.0 = c.2 ∙ ap (λ n. overwritten (n + 1) reply c.0) there in
        (a.0, l.0, step_of_changes step entry place reply a.0 b.0 c.0 d.0 now l.1 a.2 number_at reply_put_at d.2));
  }
