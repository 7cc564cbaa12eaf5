-- What a full step leaves at each place of a region, and that it keeps a base lawful.
use Rattle.std.proofs.Common.{◌≡◌, ◌+◌, ◌*◌, ◌^◌, ◌<◌, ◌≤◌, ◌⊎◌, inl, inr, ⊎_elim, ℕ, suc, List, [], ◌∷◌, length, take, drop, slice_index, refl, sym, ap, ◌∙◌, subst, arith, add-zero}
use Rattle.std.specs.List.{All}
use Rattle.std.proofs.lemmas.List.{length-drop, length-take-le, get_or-drop, get_or-take, ext_get_or}
use Rattle.std.proofs.lemmas.List.Elements.{All-cons, All-nil}
use Rattle.std.proofs.lemmas.Bool.{cases_order}
use Rattle.cx_base.specs.Memory.{Words, overwritten}
use Rattle.cx_base.proofs.WordLemmas.{Words-overwritten, length-overwritten, overwritten_before, overwritten_behind, overwritten_within}
use Rattle.cx_core.specs.Region.{region_words, place_of, slot_start, slot_number, slot_reply, object_part, LawfulResults}
use Rattle.cx_core.specs.Base.{Keeps, LawfulBase}
use Rattle.cx_core.specs.Step.{full_step_of}
use Rattle.cx_core.specs.declared.entry.Base.{Base}
use Rattle.cx_core.specs.declared.entry.Entry.{Entry}

-- words `vs` were put into words `ws` from place `at` on: at the place `i` of word k of them that word stands
overwritten_at : (vs ws : List ℕ) (at k i : ℕ) → k < length vs → i ≡ at + k → i < length ws → slice_index (overwritten at vs ws) i ≡ slice_index vs k
overwritten_at vs ws at k i below e inside = ap (λ n. slice_index (overwritten at vs ws) n) e ∙ overwritten_within vs ws at k below (omega (arith, e, inside))

-- a region after its full step: image, number and reply are the ones put there
module _ (lines : ℕ) (region image reply : List ℕ) (caller number place : ℕ) (few : caller < 8)
    (size : length region ≡ region_words lines) (image_long : length image ≡ 8 * lines) (reply_long : length reply ≡ 144) where
  -- a region with a new image
  with_object : List ℕ
  with_object = overwritten 1168 image region

  -- a region with a new image, and with the entry's number and reply in its caller's slot
  with_slot : List ℕ
  with_slot = overwritten (slot_start caller) (number ∷ reply) with_object

  -- a region after a full step: with a new image, the entry's number and reply, and the next place
  stepped : List ℕ
  stepped = overwritten 0 (place ∷ []) with_slot

  stepped_long : length stepped ≡ region_words lines
  unfolding stepped with_slot with_object
  stepped_long = length-overwritten (place ∷ []) with_slot 0 ∙ length-overwritten (number ∷ reply) with_object (slot_start caller) ∙ length-overwritten image region 1168 ∙ size

  slot_long : length with_slot ≡ region_words lines
  unfolding with_slot with_object
  slot_long = length-overwritten (number ∷ reply) with_object (slot_start caller) ∙ length-overwritten image region 1168 ∙ size

  object_long : length with_object ≡ region_words lines
  unfolding with_object
  object_long = length-overwritten image region 1168 ∙ size

  at_start : slice_index stepped 0 ≡ place
  unfolding stepped
  at_start = overwritten_at (place ∷ []) with_slot 0 0 0 (omega arith) refl (omega (arith, slot_long))

  in_front : (i : ℕ) → 0 < i → i < 1168 → (i < slot_start caller) ⊎ (slot_start caller + 145 ≤ i) → slice_index stepped i ≡ slice_index region i
  unfolding stepped with_slot with_object
  in_front i some below apart =
      overwritten_behind (place ∷ []) with_slot 0 i (omega arith)
      ∙ ⊎_elim (λ l. overwritten_before (number ∷ reply) with_object (slot_start caller) i l) (λ r. overwritten_behind (number ∷ reply) with_object (slot_start caller) i (omega (arith, reply_long))) apart
      ∙ overwritten_before image region 1168 i below

  in_slot : (k i : ℕ) → k < 145 → i ≡ slot_start caller + k → slice_index stepped i ≡ slice_index (number ∷ reply) k
  unfolding stepped with_slot
  in_slot k i below e =
      overwritten_behind (place ∷ []) with_slot 0 i (omega (arith, e))
      ∙ overwritten_at (number ∷ reply) with_object (slot_start caller) k i (omega (arith, reply_long)) e (omega (arith, e, object_long))

  in_object : (k i : ℕ) → k < length image → i ≡ 1168 + k → slice_index stepped i ≡ slice_index image k
  unfolding stepped with_slot with_object
  in_object k i below e =
      overwritten_behind (place ∷ []) with_slot 0 i (omega (arith, e))
      ∙ overwritten_behind (number ∷ reply) with_object (slot_start caller) i (omega (arith, e, reply_long))
      ∙ overwritten_at image region 1168 k i below e (omega (arith, e, size, image_long))

  -- the object part is the image put there
  its_object : object_part stepped ≡ image
  unfolding object_part
  its_object =
      ext_get_or 0 (drop 1168 stepped) image (length-drop 1168 stepped ∙ omega (arith, stepped_long, image_long))
      (λ k below. get_or-drop 1168 stepped k 0 ∙ in_object k (1168 + k) (omega (arith, below, length-drop 1168 stepped, stepped_long, image_long)) refl)

  -- the number in the entry's caller's slot is the one put there
  its_number : slot_number caller stepped ≡ number
  its_number = in_slot 0 (slot_start caller) (omega arith) (sym (add-zero (slot_start caller)))

  reply_size : (c : ℕ) → c < 8 → length (take 144 (drop (slot_start c + 1) stepped)) ≡ 144
  reply_size c small = length-take-le 144 (drop (slot_start c + 1) stepped) (omega (arith, length-drop (slot_start c + 1) stepped, stepped_long))

  -- the reply in the entry's caller's slot is the one put there
  its_reply : slot_reply caller stepped ≡ reply
  unfolding slot_reply
  its_reply =
      ext_get_or 0 (take 144 (drop (slot_start caller + 1) stepped)) reply (reply_size caller few ∙ sym reply_long)
      (λ k below. (
      let small : k < 144 = omega (arith, below, reply_size caller few) in
      get_or-take 144 (drop (slot_start caller + 1) stepped) k 0 small ∙ get_or-drop (slot_start caller + 1) stepped k 0
      ∙ in_slot (suc k) (slot_start caller + 1 + k) (omega arith) (omega arith)))

  -- the number in another caller's slot stays
  other_number : (c : ℕ) → c < 8 → (c < caller) ⊎ (caller < c) → slot_number c stepped ≡ slot_number c region
  other_number c small other =
      in_front (slot_start c) (omega arith) (omega arith) (⊎_elim (λ l. inl (omega arith)) (λ r. inr (omega arith)) other)

  -- the reply in another caller's slot stays
  other_reply : (c : ℕ) → c < 8 → (c < caller) ⊎ (caller < c) → slot_reply c stepped ≡ slot_reply c region
  unfolding slot_reply
  other_reply c small other =
      ext_get_or 0 (take 144 (drop (slot_start c + 1) stepped)) (take 144 (drop (slot_start c + 1) region))
      (reply_size c small ∙ sym (length-take-le 144 (drop (slot_start c + 1) region) (omega (arith, length-drop (slot_start c + 1) region, size))))
      (λ k below. (
      let in_reply : k < 144 = omega (arith, below, reply_size c small) in
      get_or-take 144 (drop (slot_start c + 1) stepped) k 0 in_reply ∙ get_or-drop (slot_start c + 1) stepped k 0
      ∙ in_front (slot_start c + 1 + k) (omega arith) (omega arith) (⊎_elim (λ l. inl (omega arith)) (λ r. inr (omega arith)) other)
      ∙ sym (get_or-take 144 (drop (slot_start c + 1) region) k 0 in_reply ∙ get_or-drop (slot_start c + 1) region k 0)))

-- the full step is that
full_step_is : (lines : ℕ) (step : List ℕ → List ℕ → List ℕ × List ℕ) (entry : Entry) (region : List ℕ) (few : entry.caller < 8) (size : length region ≡ region_words lines) →
    (image_long : length ((step (object_part region) entry.op).0) ≡ 8 * lines) (reply_long : length ((step (object_part region) entry.op).1) ≡ 144) →
    full_step_of step entry region ≡ stepped lines region (step (object_part region) entry.op).0 (step (object_part region) entry.op).1 entry.caller entry.number (place_of region + 1) few size image_long reply_long
unfolding full_step_of stepped with_slot with_object
full_step_is lines step entry region few size image_long reply_long = refl

-- a lawful base with a lawful image, a number and a reply put into it
module _ (lines : ℕ) (lawful : List ℕ → Type 0) (base : Base) (image reply : List ℕ) (caller number : ℕ) (few : caller < 8)
    (law : LawfulBase lines lawful base) (image_words : Words (8 * lines) image) (reply_words : Words 144 reply) where
  next_words : List ℕ
  next_words = stepped lines base.words image reply caller number (base.place + 1) few law.size.long image_words.long reply_words.long

  next_fit : base.place < 2 ^ 40 → number < 2 ^ 64 → All (λ x. x < 2 ^ 64) next_words
  unfolding next_words stepped with_slot with_object
  next_fit below small =
      (Words-overwritten (region_words lines) ((base.place + 1) ∷ []) (overwritten (slot_start caller) (number ∷ reply) (overwritten 1168 image base.words)) 0
      (All-cons (λ x. x < 2 ^ 64) (base.place + 1) [] (omega arith) (All-nil (λ x. x < 2 ^ 64)))
      (Words-overwritten (region_words lines) (number ∷ reply) (overwritten 1168 image base.words) (slot_start caller)
      (All-cons (λ x. x < 2 ^ 64) number reply small reply_words.fit)
      (Words-overwritten (region_words lines) image base.words 1168 image_words.fit law.size))).fit

  next_results : 0 < number → LawfulResults next_words
  unfolding next_words
  next_results some = record {
    zeros = λ at from to. in_front lines base.words image reply caller number (base.place + 1) few law.size.long image_words.long reply_words.long at (omega arith) (omega arith) (inl (omega arith)) ∙ law.results.zeros at from to;
    empty = λ c small none. (⊎_elim
        (λ e. absurd (omega (arith, some, ap (λ n. slot_number n (stepped lines base.words image reply caller number (base.place + 1) few law.size.long image_words.long reply_words.long)) e, none, its_number lines base.words image reply caller number (base.place + 1) few law.size.long image_words.long reply_words.long)))
        (λ other. other_reply lines base.words image reply caller number (base.place + 1) few law.size.long image_words.long reply_words.long c small other
        ∙ law.results.empty c small (sym (other_number lines base.words image reply caller number (base.place + 1) few law.size.long image_words.long reply_words.long c small other) ∙ none))
        (cases_order c caller));
  }

  next_numbers : number ≤ base.place + 1 → (c : ℕ) → c < 8 → slot_number c next_words ≤ base.place + 1
  unfolding next_words
  next_numbers most c small = ⊎_elim
      (λ e. omega (arith, most, ap (λ n. slot_number n (stepped lines base.words image reply caller number (base.place + 1) few law.size.long image_words.long reply_words.long)) e, its_number lines base.words image reply caller number (base.place + 1) few law.size.long image_words.long reply_words.long))
      (λ other. omega (arith, law.numbers c small, other_number lines base.words image reply caller number (base.place + 1) few law.size.long image_words.long reply_words.long c small other))
      (cases_order c caller)

  next_lawful : base.place < 2 ^ 40 → 0 < number → number ≤ base.place + 1 → lawful image → LawfulBase lines lawful (record { place = base.place + 1; words = next_words })
  unfolding next_words
  next_lawful below some most image_lawful = record {
    size = record {
      long = stepped_long lines base.words image reply caller number (base.place + 1) few law.size.long image_words.long reply_words.long;
      fit = next_fit below (omega arith);
    };
    at_place = at_start lines base.words image reply caller number (base.place + 1) few law.size.long image_words.long reply_words.long;
    place_within = omega arith;
    results = next_results some;
    object = subst lawful (sym (its_object lines base.words image reply caller number (base.place + 1) few law.size.long image_words.long reply_words.long)) image_lawful;
    numbers = next_numbers most;
  }

-- a full step keeps these of a lawful base
pub keeps : (lines : ℕ) (lawful : List ℕ → Type 0) (step : List ℕ → List ℕ → List ℕ × List ℕ) (base : Base) (entry : Entry) (next : Base) →
    LawfulBase lines lawful base → base.place < 2 ^ 40 → entry.caller < 8 → 0 < entry.number → entry.number ≤ base.place + 1 →
    lawful (step (object_part base.words) entry.op).0 → Words (8 * lines) (step (object_part base.words) entry.op).0 → Words 144 (step (object_part base.words) entry.op).1 →
    next.place ≡ base.place + 1 → next.words ≡ full_step_of step entry base.words → Keeps lines lawful step base entry next
unfolding next_words
keeps lines lawful step base entry next law below few some most image_lawful image_words reply_words place words =
    let done = step (object_part base.words) entry.op in
    let is : next.words ≡ stepped lines base.words done.0 done.1 entry.caller entry.number (base.place + 1) few law.size.long image_words.long reply_words.long =
    words ∙ full_step_is lines step entry base.words few law.size.long image_words.long reply_words.long
    ∙ ap (λ p. stepped lines base.words done.0 done.1 entry.caller entry.number (p + 1) few law.size.long image_words.long reply_words.long) law.at_place in
    let whole : next ≡ record { place = base.place + 1; words = stepped lines base.words done.0 done.1 entry.caller entry.number (base.place + 1) few law.size.long image_words.long reply_words.long } =
    ap (λ p. (let b : Base = record { place = p; words = next.words } in b)) place
    ∙ ap (λ ws. (let b : Base = record { place = base.place + 1; words = ws } in b)) is in
    record {
      lawful_next = subst (λ b. LawfulBase lines lawful b) (sym whole) (next_lawful lines lawful base done.0 done.1 entry.caller entry.number few law image_words reply_words below some most image_lawful);
      object = ap object_part is ∙ its_object lines base.words done.0 done.1 entry.caller entry.number (base.place + 1) few law.size.long image_words.long reply_words.long;
      number = ap (slot_number entry.caller) is ∙ its_number lines base.words done.0 done.1 entry.caller entry.number (base.place + 1) few law.size.long image_words.long reply_words.long;
      reply = ap (slot_reply entry.caller) is ∙ its_reply lines base.words done.0 done.1 entry.caller entry.number (base.place + 1) few law.size.long image_words.long reply_words.long;
      others = λ c small other. (
        ap (slot_number c) is ∙ other_number lines base.words done.0 done.1 entry.caller entry.number (base.place + 1) few law.size.long image_words.long reply_words.long c small other,
        ap (slot_reply c) is ∙ other_reply lines base.words done.0 done.1 entry.caller entry.number (base.place + 1) few law.size.long image_words.long reply_words.long c small other,
      );
    }

-- what a full step makes of a region: its size stays, its place is the next one, and its object part is the object's next image
pub region_kept : (lines : ℕ) (step : List ℕ → List ℕ → List ℕ × List ℕ) (entry : Entry) (region : List ℕ) → entry.caller < 8 → length region ≡ region_words lines →
    length ((step (object_part region) entry.op).0) ≡ 8 * lines → length ((step (object_part region) entry.op).1) ≡ 144 →
    (length (full_step_of step entry region) ≡ region_words lines) × (place_of (full_step_of step entry region) ≡ place_of region + 1) × (object_part (full_step_of step entry region) ≡ (step (object_part region) entry.op).0)
region_kept lines step entry region few size image_long reply_long =
    let done = step (object_part region) entry.op in
    let is = full_step_is lines step entry region few size image_long reply_long in (
      ap length is ∙ stepped_long lines region done.0 done.1 entry.caller entry.number (place_of region + 1) few size image_long reply_long,
      ap place_of is ∙ at_start lines region done.0 done.1 entry.caller entry.number (place_of region + 1) few size image_long reply_long,
      ap object_part is ∙ its_object lines region done.0 done.1 entry.caller entry.number (place_of region + 1) few size image_long reply_long,
    )
