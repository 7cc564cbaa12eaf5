-- What a crash leaves: each image recovers to a full image that holds all that was answered.
use Rattle.std.proofs.Common.{◌≡◌, ◌+◌, ◌*◌, ◌<◌, ◌≤◌, inl, inr, ℕ, zero, suc, List, [], ◌∷◌, drop, length, slice_index, Option, Some, refl, ap, sym, subst, ◌∙◌, arith}
use Rattle.std.proofs.lemmas.Bool.{cases_Bool, cases_eq}
use Rattle.std.proofs.lemmas.List.{get_or-drop, get_or-take, length-drop, length-take-le}
use Rattle.std.proofs.lemmas.List.FromFn.{get_or-map-range_with_len, length-map-range_with_len}
use Rattle.std.proofs.lemmas.Nat.{mod_below}
use Rattle.std.specs.List.{Contains, slice_get}
use Rattle.std.specs.Option.{option_map}
use Rattle.cx_base.specs.Codes.{root_replica_of}
use Rattle.cx_core.specs.declared.entry.Entry.{Entry}
use Rattle.cx_core.specs.declared.local.HeldExclusive.{HeldExclusive}
use Rattle.cx_core.specs.declared.local.Local.{Local}
use Rattle.cx_core.specs.Chain.{IsCodeChain}
use Rattle.cx_core.specs.Crash.{CrashImage, IsCrashImage, IsDirtyIn, IsKept, IsMediumOf, image_at, recovered}
use Rattle.cx_core.specs.History.{full_image}
use Rattle.cx_core.specs.Lawful.{Shape}
use Rattle.cx_core.specs.LawfulAnswers.{Answers}
use Rattle.cx_core.specs.LawfulLocks.{total}
use Rattle.cx_core.specs.LawfulRegions.{IsUnheld, Regions, per_word, vol_word}
use Rattle.cx_core.specs.Rights.{exclusive_on, holds, is_at, is_on}
use Rattle.cx_core.specs.State.{Instance, State}
use Rattle.cx_core.proofs.Claims.{unheld_none}
use Rattle.cx_core.proofs.HeldLists.{at_true, mapped}
use Rattle.cx_core.proofs.LayoutLemmas.{replica_within}
use Rattle.pmem_model.specs.Medium.{MediumState, IsDirtyMark, image_of, left_at, left_in_medium, medium_word}
use Rattle.pmem_model.specs.declared.medium.Mark.{Mark}
use Rattle.pmem_model.specs.declared.medium.Mark.TheVariants.{Durable, Dirty, Pending}
use Rattle.pmem_model.specs.declared.medium.Word.{Word}
use Rattle.core_replica.specs.Crashing.{ChainStands}

-- no word of a replica is dirty that nobody holds exclusively
pub unheld_clean : (locals : List Local) (r i : ℕ) → IsUnheld locals r → IsDirtyIn locals r i → ⊥
unheld_clean locals r i nobody d = nobody d.caller d.local d.of_caller (ap (option_map (λ (h : HeldExclusive). h.replica)) d.has ∙ ap Some d.replica)

-- a replica's words lie within an image
within_image : (instance : Instance) (r : ℕ) → r < 2 * instance.callers → image_at instance r 0 + length instance.base.words ≤ length instance.base.words * (2 * instance.callers)
within_image instance r small = omega (arith, replica_within instance.callers (length instance.base.words) r small)

module _ (instance : Instance) (history : List Entry) (s : State) (image : CrashImage) (shape : Shape instance s.words s.locals) (regions : Regions instance history s.words s.locals)
    (answers : Answers instance history s.words s.locals) (chain : ChainStands instance s) (crash : IsCrashImage instance s image) where
  abbrev region : ℕ
  region = length instance.base.words

  abbrev replica : ℕ
  replica = root_replica_of instance.callers image.root

  abbrev from : ℕ
  from = image_at instance replica 0

  small : replica < 2 * instance.callers
  small = mod_below image.root (2 * instance.callers) (omega (arith, shape.some))

  recovered_long : length (recovered instance image).words ≡ region
  recovered_long = length-take-le region (drop from image.words) (omega (arith, length-drop from image.words, crash.long, within_image instance replica small))

  recovered_at : (i : ℕ) → i < region → slice_index (recovered instance image).words i ≡ slice_index image.words (image_at instance replica i)
  recovered_at i below =
      let there : from + i ≡ image_at instance replica i = omega arith in
      get_or-take region (drop from image.words) i 0 below ∙ get_or-drop from image.words i 0 ∙ ap (slice_index image.words) there

  -- what is recovered is the full image after a place that holds all that was answered
  pub recovered_kept : IsKept instance history s (recovered instance image)
  recovered_kept =
      let stands = chain.each crash.chain image.root crash.is_chain crash.root in
      let there = regions.unheld replica small stands.unheld in
      let full = full_image instance.step instance.base history in
      record {
        from = omega (arith, there.from, stands.placed);
        durable = stands.durable;
        to = omega (arith, there.to, stands.placed);
        long = recovered_long;
        full = λ i below.
            recovered_at i below
            ∙ crash.settled replica i small below (unheld_clean s.locals replica i stands.unheld)
            ∙ there.per i below
            ∙ ap (λ p. slice_index (full p) i) stands.placed;
        answered = λ c l at i x item. (let is = (answers.each c l at).entries i x item in omega (arith, is.durable, stands.durable));
        reads = λ c l at i x item. (let is = (answers.each c l at).reads i x item in omega (arith, is.durable, stands.durable));
      }

-- a sum that is not 0 has a local state that adds to it
total_some : (f : Local → ℕ) (ls : List Local) → 0 < total f ls → (i : ℕ) × (l : Local) × (slice_get ls i ≡ Some l) × (0 < f l)
total_some f [] some = absurd (omega arith)
total_some f (x ∷ xs) some =
    elim (cases_eq (f x) 0) [
      | inl none ↦ (let rest = total_some f xs (omega (arith, none)) in (suc rest.0, rest.1, rest.2, rest.3))
      | inr adds ↦ (zero, x, refl, omega (arith, adds))
    ]

on_there : (r : ℕ) (o : Option ℕ) → 0 < is_on r o → o ≡ Some r
on_there r o some =
    elim (cases_Bool (is_at r o)) [
      | inl e ↦ at_true r o e
      | inr e ↦ (let none : is_on r o ≡ 0 = rw e refl in absurd (omega arith))
    ]

-- a word that is not dirty is the medium's
pub clean_same : (instance : Instance) (history : List Entry) (s : State) (r i : ℕ) → Regions instance history s.words s.locals → r < 2 * instance.callers → i < length instance.base.words →
    (IsDirtyIn s.locals r i → ⊥) → vol_word instance s.words r i ≡ per_word instance s.words r i
clean_same instance history s r i regions small below clean =
    elim (cases_eq (total (holds r) s.locals) 0) [
      | inl none ↦ (let image = regions.unheld r small (unheld_none s.locals r none) in image.vol i below ∙ sym (image.per i below))
      | inr some ↦ (
          let holder = total_some (holds r) s.locals (omega (arith, some)) in
          let m = mapped (λ (h : HeldExclusive). h.replica) holder.1.exclusive r (on_there r (exclusive_on holder.1) holder.3) in
          let has = regions.held holder.0 holder.1 holder.2 m.0 m.1 in
          let tidy : Contains m.0.dirty i → ⊥ = λ there. clean (record { caller = holder.0; local = holder.1; held = m.0; of_caller = holder.2; has = m.1; replica = m.2; dirty = there }) in
          subst (λ q. vol_word instance s.words q i ≡ per_word instance s.words q i) m.2 (has.vol i below ∙ sym (has.per i below tidy)))
    ]

-- a word that may not be lost keeps its value
left_clean : (mark : Mark) (choice at : ℕ) (w : Word) → (IsDirtyMark mark → ⊥) → left_at mark choice at w ≡ w.value
left_clean Durable choice at w clean = refl
left_clean Dirty choice at w clean = absurd (clean tt)
left_clean Pending choice at w clean = absurd (clean tt)

-- what a medium leaves by choice, with any root of the chain, is a crash image
pub medium_image : (instance : Instance) (history : List Entry) (s : State) (medium : MediumState) (chain : List ℕ) (root choice : ℕ) → Regions instance history s.words s.locals → IsMediumOf instance s medium →
    IsCodeChain s.words s.locals chain → Contains chain root → IsCrashImage instance s (record { root = root; words = image_of choice medium })
medium_image instance history s medium chain root choice regions is is_chain among = record {
  chain = chain;
  is_chain = is_chain;
  root = among;
  long = length-map-range_with_len (left_in_medium choice medium) 0 (length medium.words) ∙ is.long;
  settled = λ r i small below clean. (
      let at = image_at instance r i in
      let within : at < length medium.words = omega (arith, is.long, below, within_image instance r small) in
      let w = medium_word medium at in
      get_or-map-range_with_len (left_in_medium choice medium) 0 (length medium.words) at at 0 within (omega arith)
      ∙ left_clean w.mark choice at w (λ may. clean (is.dirty r i small below may))
      ∙ is.value r i small below
      ∙ clean_same instance history s r i regions small below clean);
}
