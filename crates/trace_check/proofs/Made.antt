-- A lawful state leaves an image by each choice.
use Rattle.std.proofs.Common.{◌≡◌, ◌≢◌, ◌+◌, ◌*◌, ◌/◌, ◌%◌, ◌<◌, ◌⊎◌, inl, inr, ℕ, zero, suc, List, [], ◌∷◌, ◌++◌, length, slice_index, refl, sym, ap, subst, ◌∙◌, arith, Option, Some, None}
use Rattle.std.proofs.Math.Nat.{mod-eq_of_lt, mul-add-mod_self_left, mul-add-div, div-eq_of_lt}
use Rattle.std.proofs.lemmas.Bool.{cases_lt}
use Rattle.std.proofs.lemmas.Option.{none-some, same_Some}
use Rattle.std.specs.List.{Contains, slice_get}
use Rattle.cx_core.specs.declared.entry.Image.{Image}
use Rattle.cx_core.specs.declared.local.HeldExclusive.{HeldExclusive}
use Rattle.cx_core.specs.declared.local.Local.{Local}
use Rattle.cx_core.specs.Crash.{IsDirtyIn, image_at}
use Rattle.cx_core.specs.Lawful.{Lawful}
use Rattle.cx_core.specs.LawfulRegions.{per_word, vol_word}
use Rattle.cx_core.specs.Layout.{dur_at}
use Rattle.cx_core.specs.State.{Instance, State}
use Rattle.cx_core.proofs.HeldLists.{contains_cases, contains_first, contains_rest}
use Rattle.pmem_model.specs.Medium.{any_value}
use Rattle.pmem_model.specs.declared.medium.Mark.TheVariants.{Dirty}
use Rattle.recovery.specs.Images.{Gives}
use Rattle.recovery.proofs.Pairs.{gives_none, gives_word, gives_zero}
use Rattle.trace_check.specs.Images.{IsImageOf}

same_or_not : (a b : ℕ) → (a ≡ b) ⊎ (a ≢ b)
same_or_not a b = elim (cases_lt a b) [ inl less ↦ inr (λ e. omega arith) | inr more ↦ elim (cases_lt b a) [ inl up ↦ inr (λ e. omega arith) | inr down ↦ inl (omega arith) ] ]

contains_or_not : (xs : List ℕ) (i : ℕ) → Contains xs i ⊎ (Contains xs i → ⊥)
contains_or_not [] i = inr (λ there. (let below : there.0 < 0 = there.1 in omega arith))
contains_or_not (x ∷ xs) i =
    elim (same_or_not x i) [
      | inl e ↦ inl (contains_first x xs i e)
      | inr apart ↦ elim (contains_or_not xs i) [
        | inl there ↦ inl (contains_rest x xs i there)
        | inr none ↦ inr (λ there. elim (contains_cases x xs i there) [ inl e ↦ apart e | inr later ↦ none later ])
      ]
    ]

-- what is held exclusively makes a word dirty
record Dirties (o : Option HeldExclusive) (r i : ℕ) : Type 0 where
  held : HeldExclusive
  has : o ≡ Some held
  replica : held.replica ≡ r
  dirty : Contains held.dirty i

dirties_or_not : (o : Option HeldExclusive) (r i : ℕ) → Dirties o r i ⊎ (Dirties o r i → ⊥)
dirties_or_not None r i = inr (λ d. none-some d.held d.has)
dirties_or_not (Some h) r i =
    elim (same_or_not h.replica r) [
      | inr apart ↦ inr (λ d. apart (ap (λ (y : HeldExclusive). y.replica) (same_Some h d.held d.has) ∙ d.replica))
      | inl e ↦ elim (contains_or_not h.dirty i) [
        | inl there ↦ inl (record { held = h; has = refl; replica = e; dirty = there })
        | inr none ↦ inr (λ d. none (subst (λ (y : HeldExclusive). Contains y.dirty i) (sym (same_Some h d.held d.has)) d.dirty))
      ]
    ]

-- where neither the first caller's local state `l` nor the others' `ls` make word `i` of replica `r` dirty, no caller's does
neither : (l : Local) (ls : List Local) (r i : ℕ) → (Dirties l.exclusive r i → ⊥) → (IsDirtyIn ls r i → ⊥) → (caller : ℕ) (local : Local) → slice_get (l ∷ ls) caller ≡ Some local → Dirties local.exclusive r i → ⊥
neither l ls r i here later zero local at d = here (subst (λ (y : Local). Dirties y.exclusive r i) (sym (same_Some l local at)) d)
neither l ls r i here later (suc caller) local at d = later (record { caller = caller; local = local; held = d.held; of_caller = at; has = d.has; replica = d.replica; dirty = d.dirty })

pub dirty_or_not : (ls : List Local) (r i : ℕ) → IsDirtyIn ls r i ⊎ (IsDirtyIn ls r i → ⊥)
dirty_or_not [] r i = inr (λ d. none-some d.local d.of_caller)
dirty_or_not (l ∷ ls) r i =
    elim (dirties_or_not l.exclusive r i) [
      | inl d ↦ inl (record { caller = 0; local = l; held = d.held; of_caller = refl; has = d.has; replica = d.replica; dirty = d.dirty })
      | inr here ↦ elim (dirty_or_not ls r i) [
        | inl d ↦ inl (record { caller = suc d.caller; local = d.local; held = d.held; of_caller = d.of_caller; has = d.has; replica = d.replica; dirty = d.dirty })
        | inr later ↦ inr (λ d. neither l ls r i here later d.caller d.local d.of_caller (record { held = d.held; has = d.has; replica = d.replica; dirty = d.dirty }))
      ]
    ]

-- pairs of the words below an end
pairs_below : (word : ℕ → ℕ) (end_ : ℕ) → (pairs : List (ℕ × ℕ)) × Gives word end_ pairs
pairs_below word zero = ([], gives_none word)
pairs_below word (suc n) =
    let r = pairs_below word n in
    let e : n + 1 ≡ suc n = omega arith in
    elim (same_or_not (word n) 0) [
      | inl none ↦ (r.0, subst (λ k. Gives word k r.0) e (gives_zero word n r.0 r.1 (word n) r.0 refl none refl))
      | inr some ↦ (let more = r.0 ++ (n, word n) ∷ [] in (more, subst (λ k. Gives word k more) e (gives_word word n r.0 r.1 (word n) more refl some refl)))
    ]

module _ (instance : Instance) (s : State) (choice : ℕ) where
  abbrev lost_word : ℕ → ℕ → ℕ
  lost_word r i = any_value choice (image_at instance r i) (record { value = vol_word instance s.words r i; durable = per_word instance s.words r i; mark = Dirty })

  abbrev word_by : (r i : ℕ) → IsDirtyIn s.locals r i ⊎ (IsDirtyIn s.locals r i → ⊥) → ℕ
  word_by r i (inl dirty) = lost_word r i
  word_by r i (inr clean) = per_word instance s.words r i

  by_lost : (r i : ℕ) (d : IsDirtyIn s.locals r i ⊎ (IsDirtyIn s.locals r i → ⊥)) → IsDirtyIn s.locals r i → word_by r i d ≡ lost_word r i
  by_lost r i (inl dirty) is = refl
  by_lost r i (inr clean) is = absurd (clean is)

  by_settled : (r i : ℕ) (d : IsDirtyIn s.locals r i ⊎ (IsDirtyIn s.locals r i → ⊥)) → (IsDirtyIn s.locals r i → ⊥) → word_by r i d ≡ per_word instance s.words r i
  by_settled r i (inl dirty) none = absurd (none dirty)
  by_settled r i (inr clean) none = refl

  abbrev region : ℕ
  region = length instance.base.words

  abbrev word_left : ℕ → ℕ
  word_left at = word_by (at / region) (at % region) (dirty_or_not s.locals (at / region) (at % region))

  word_at : (r i : ℕ) → i < region → word_left (image_at instance r i) ≡ word_by r i (dirty_or_not s.locals r i)
  word_at r i below =
      let some : 0 < region = omega arith in
      let q : image_at instance r i / region ≡ r = mul-add-div some r i ∙ ap (λ n. r + n) (div-eq_of_lt below) ∙ omega arith in
      let m : image_at instance r i % region ≡ i = mul-add-mod_self_left region r i ∙ mod-eq_of_lt below in
      ap (λ a. word_by a (image_at instance r i % region) (dirty_or_not s.locals a (image_at instance r i % region))) q ∙ ap (λ b. word_by r b (dirty_or_not s.locals r b)) m

  pub image_left : (lines : ℕ) → (law : Lawful instance s) → (image : Image) × IsImageOf lines instance s choice image
  image_left lines law =
      let chain = slice_index s.words dur_at ∷ law.root.above in
      let pairs = pairs_below word_left (region * (2 * instance.callers)) in (
        record { callers = instance.callers; lines = lines; count = region * (2 * instance.callers); root = slice_index chain (choice % length chain); pairs = pairs.0 },
        record {
          callers = refl;
          of = refl;
          count = refl;
          chain = chain;
          is_chain = (refl, law.root.leads);
          root = refl;
          word = word_left;
          pairs = pairs.1;
          settled = λ r i small below clean. word_at r i below ∙ by_settled r i (dirty_or_not s.locals r i) clean;
          lost = λ r i small below dirty. word_at r i below ∙ by_lost r i (dirty_or_not s.locals r i) dirty;
        },
      )
