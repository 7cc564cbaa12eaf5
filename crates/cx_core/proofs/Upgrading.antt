-- A region whose object part is upgraded.
use Rattle.std.proofs.Common.{◌≡◌, ◌≢◌, ◌+◌, ◌*◌, ◌^◌, ◌<◌, ◌≤◌, ◌⊎◌, inl, inr, ℕ, Bool, true, false, cond, List, ◌++◌, Option, None, Some, length, take, drop, slice_index, nat_eq, refl, sym, ap, ◌∙◌, subst, arith, ne_eqb, eq-eqb}
use Rattle.std.specs.Option.{option_eq}
use Rattle.std.proofs.lemmas.List.{drop-append-le, drop_at, get_or_append_left, length-append, length-drop, length-take-le, take-append-drop, take-append-le}
use Rattle.std.proofs.lemmas.List.Elements.{All-append, All-take}
use Rattle.cx_base.specs.Memory.{Words}
use Rattle.cx_base.specs.OldFormat.{OldFormat, TakesOver}
use Rattle.cx_core.specs.Base.{LawfulBase}
use Rattle.cx_core.specs.Recovered.{recovered_base, upgraded_region, version_of}
use Rattle.cx_core.specs.Region.{LawfulResults, object_part, place_of, region_words, slot_number, slot_reply, slot_start}

-- which version it is
other_version : (version : Option ℕ) (found : ℕ) → version ≢ Some found → option_eq nat_eq version (Some found) ≡ false
other_version None found other = refl
other_version (Some n) found other = ne_eqb n found (λ same. other (ap Some same))

same_version : (version : Option ℕ) (found : ℕ) → version ≡ Some found → option_eq nat_eq version (Some found) ≡ true
same_version version found same = subst (λ (v : Option ℕ). option_eq nat_eq v (Some found) ≡ true) (sym same) (eq-eqb found found refl)

-- words behind the front of a region
module _ (front part : List ℕ) (long : length front ≡ 1168) where
  word_in_front : (at : ℕ) → at < 1168 → slice_index (front ++ part) at ≡ slice_index front at
  word_in_front at below = get_or_append_left front part 0 at (omega (arith, below, long))

  words_in_front : (at n : ℕ) → at + n ≤ 1168 → take n (drop at (front ++ part)) ≡ take n (drop at front)
  words_in_front at n within =
      ap (take n) (drop-append-le at front part (omega (arith, long, within)))
      ∙ take-append-le n (drop at front) part (omega (arith, length-drop at front, long, within))

-- another object part leaves the place and the results
module _ (region part : List ℕ) (long : 1168 ≤ length region) where
  abbrev front : List ℕ
  front = take 1168 region

  front_long : length front ≡ 1168
  front_long = length-take-le 1168 region long

  whole : front ++ drop 1168 region ≡ region
  whole = take-append-drop 1168 region

  pub same_word : (at : ℕ) → at < 1168 → slice_index (front ++ part) at ≡ slice_index region at
  same_word at below =
      word_in_front front part front_long at below
      ∙ sym (word_in_front front (drop 1168 region) front_long at below)
      ∙ ap (λ (ws : List ℕ). slice_index ws at) whole

  same_words : (at n : ℕ) → at + n ≤ 1168 → take n (drop at (front ++ part)) ≡ take n (drop at region)
  same_words at n within =
      words_in_front front part front_long at n within
      ∙ sym (words_in_front front (drop 1168 region) front_long at n within)
      ∙ ap (λ (ws : List ℕ). take n (drop at ws)) whole

  pub same_reply : (caller : ℕ) → caller < 8 → slot_reply caller (front ++ part) ≡ slot_reply caller region
  unfolding slot_reply
  same_reply caller few = same_words (slot_start caller + 1) 144 (omega (arith, few))

  part_there : object_part (front ++ part) ≡ part
  unfolding object_part
  part_there = drop_at front part 1168 front_long

  same_results : LawfulResults region → LawfulResults (front ++ part)
  same_results law = record {
    zeros = λ at some few. same_word at (omega (arith, few)) ∙ law.zeros at some few;
    empty = λ caller few none. same_reply caller few ∙ law.empty caller few (sym (same_word (slot_start caller) (omega (arith, few))) ∙ none);
  }

  words_fit : (lines : ℕ) → Words (region_words lines) region → Words (8 * lines) part → Words (region_words lines) (front ++ part)
  words_fit lines ws ps = record {
    long = length-append front part ∙ omega (arith, front_long, ps.long);
    fit = All-append (λ (x : ℕ). x < 2 ^ 64) front part (All-take (λ (x : ℕ). x < 2 ^ 64) 1168 region ws.fit) ps.fit;
  }

module _ (lines version : ℕ) (lawful : List ℕ → Type 0) (old : OldFormat) (takes : TakesOver lines version lawful old)
    (shape : (image : List ℕ) → lawful image → Words (8 * lines) image × (slice_index image 0 ≡ version)) (region : List ℕ) where
  -- a region of the object's own version stays
  pub own_stays : version_of region ≡ version → upgraded_region old region ≡ region
  own_stays own =
      ap (λ (b : Bool). cond b (take 1168 region ++ old.upgraded (object_part region)) region)
      (other_version old.version (version_of region) (λ same. takes.another (same ∙ ap Some own)))

  old_upgraded : old.version ≡ Some (version_of region) → upgraded_region old region ≡ take 1168 region ++ old.upgraded (object_part region)
  old_upgraded is_old =
      ap (λ (b : Bool). cond b (take 1168 region ++ old.upgraded (object_part region)) region) (same_version old.version (version_of region) is_old)

  -- an image that begins with the old version is lawful for it, and one that begins with the object's own for that
  pub old_lawful : lawful (object_part region) ⊎ old.lawful (object_part region) → old.version ≡ Some (version_of region) → old.lawful (object_part region)
  old_lawful (inl own) is_old = absurd (takes.another (is_old ∙ ap Some (shape (object_part region) own).1))
  old_lawful (inr was) is_old = was

  -- what is recovered from a region whose object part is lawful in the new format or the old one is a lawful base
  pub recovered_lawful : (place : ℕ) → Words (region_words lines) region → place_of region ≡ place → place ≤ 2 ^ 40 → LawfulResults region
      → lawful (object_part region) ⊎ old.lawful (object_part region)
      → ((caller : ℕ) → caller < 8 → slot_number caller (upgraded_region old region) ≤ place)
      → LawfulBase lines lawful (recovered_base old place region)
  recovered_lawful place size at_place within results (inl own) numbers =
      let same : upgraded_region old region ≡ region = own_stays (shape (object_part region) own).1 in
      record {
        size = subst (Words (region_words lines)) (sym same) size;
        at_place = ap place_of same ∙ at_place;
        place_within = within;
        results = subst LawfulResults (sym same) results;
        object = subst (λ (ws : List ℕ). lawful (object_part ws)) (sym same) own;
        numbers = numbers;
      }
  recovered_lawful place size at_place within results (inr was) numbers =
      let now : List ℕ = old.upgraded (object_part region) in
      let same : upgraded_region old region ≡ take 1168 region ++ now = old_upgraded (takes.shape (object_part region) was).1 in
      let long : 1168 ≤ length region = omega (arith, size.long) in
      let made : lawful now = takes.upgrades (object_part region) was in
      record {
        size = subst (Words (region_words lines)) (sym same) (words_fit region now long lines size (shape now made).0);
        at_place = ap place_of same ∙ same_word region now long 0 (omega arith) ∙ at_place;
        place_within = within;
        results = subst LawfulResults (sym same) (same_results region now long results);
        object = subst (λ (ws : List ℕ). lawful (object_part ws)) (sym same) (subst lawful (sym (part_there region now long)) made);
        numbers = numbers;
      }
