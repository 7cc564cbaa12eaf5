-- The opening state has the part on the root: one code, which names replica 0 at the base's place.
use Rattle.std.proofs.Common.{◌≡◌, ◌-◌, ◌*◌, ◌≤◌, ℕ, zero, suc, List, [], ◌∷◌, ◌++◌, length, replicate, slice_index, refl, ap, sym, subst, ◌∙◌, arith, length-append}
use Rattle.std.proofs.lemmas.List.{get_or-append_right, length-replicate}
use Rattle.std.proofs.lemmas.Option.{none-some}
use Rattle.cx_base.specs.Codes.{root_place_of, root_replica_of}
use Rattle.cx_core.specs.declared.entry.Base.{Base}
use Rattle.cx_core.specs.declared.local.Local.{Local}
use Rattle.cx_core.specs.LawfulRegions.{vol_word}
use Rattle.cx_core.specs.LawfulRoot.{InChain, IsPlaced, OnChain, Root}
use Rattle.cx_core.specs.Layout.{cur_at, dur_at, max_word, replicas_at, vol_at}
use Rattle.cx_core.specs.Region.{place_of}
use Rattle.cx_core.specs.State.{Instance, copies, opening_code, opening_locals, opening_words}
use Rattle.cx_core.proofs.RootCodes.{code_place, code_replica}
use Rattle.cx_core.proofs.StateLemmas.{opening_at}

-- what stands in front of the words of replicas
abbrev head : ℕ → Base → List ℕ
head callers base =
    (opening_code callers base.place ∷ opening_code callers base.place ∷ base.place ∷ base.place ∷ [])
    ++ replicate callers max_word
    ++ (1 ∷ [])
    ++ replicate (2 * callers - 1) 0
    ++ replicate (18752 * callers) 0

head_long : (callers : ℕ) (base : Base) → 1 ≤ callers → length (head callers base) ≡ replicas_at callers
head_long callers base some = simp (length-append {A = ℕ}, length-replicate {A = ℕ}) (omega arith)

-- the first word of some copies of a list
no_words : (n : ℕ) → copies n [] ≡ []
no_words zero = refl
no_words (suc n) = no_words n

first_word : (n : ℕ) (xs : List ℕ) → 1 ≤ n → slice_index (copies n xs) 0 ≡ slice_index xs 0
first_word zero xs some = absurd (omega arith)
first_word (suc n) [] some = ap (λ ys. slice_index ys 0) (no_words n)
first_word (suc n) (x ∷ xs) some = refl

module _ (instance : Instance) (some : 1 ≤ instance.callers) where
  abbrev words : List ℕ
  words = opening_words instance.callers instance.base

  abbrev code : ℕ
  code = opening_code instance.callers instance.base.place

  -- CUR and DUR are the one code
  cur_there : slice_index words cur_at ≡ code
  unfolding opening_words
  cur_there = refl

  dur_there : slice_index words dur_at ≡ code
  unfolding opening_words
  dur_there = refl

  -- replica 0 has the place of the base's words
  place_there : vol_word instance words 0 0 ≡ place_of instance.base.words
  unfolding opening_words
  place_there =
      let callers = instance.callers in
      let from = replicas_at callers in
      let all = copies (4 * callers) instance.base.words in
      let at : vol_at callers (length instance.base.words) 0 0 ≡ from = omega arith in
      let here : from - from ≡ 0 = omega arith in
      ap (slice_index words) at
      ∙ get_or-append_right (head callers instance.base) all from from 0 (head_long callers instance.base some) (omega arith)
      ∙ ap (slice_index all) here
      ∙ first_word (4 * callers) instance.base.words (omega arith)

  pub opening_root : place_of instance.base.words ≡ instance.base.place → Root instance words (opening_locals instance.callers instance.base.place)
  opening_root placed =
      let callers = instance.callers in
      let place = instance.base.place in
      let replica : root_replica_of callers code ≡ 0 = code_replica callers place 0 (omega arith) in
      let its : vol_word instance words (root_replica_of callers code) 0 ≡ root_place_of callers code =
      ap (λ r. vol_word instance words r 0) replica ∙ place_there ∙ placed ∙ sym (code_place callers place 0 (omega arith)) in
      let stands : OnChain words [] code = record { most = omega (arith, cur_there); among = λ up. absurd (omega (arith, dur_there)) } in
      record {
        above = [];
        leads = dur_there ∙ sym cur_there;
        apart = λ a b la lb wa wb at_a at_b won_a won_b same. absurd (none-some wa (sym (ap (λ (x : Local). x.won) (opening_at callers place a la at_a).1) ∙ won_a));
        current = subst (IsPlaced instance words) (sym cur_there) its;
        each = λ c l there. subst (InChain instance words []) (sym (opening_at callers place c l there).1)
            (record { seen = stands; won = λ w has. absurd (none-some w has); downgraded = λ h has. absurd (none-some h has) });
      }
