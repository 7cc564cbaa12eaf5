-- Full images along a history: folds over its front.
use Rattle.std.proofs.Common.{◌≡◌, ◌+◌, ◌-◌, ◌*◌, ◌^◌, ◌≤◌, ℕ, zero, suc, List, [], ◌∷◌, ◌++◌, Option, Some, None, IfSome, drop, fold, length, take, slice_get, refl, ap, sym, subst, ◌∙◌, arith}
use Rattle.std.proofs.lemmas.List.{take-append-le}
use Rattle.cx_base.specs.Memory.{Words}
use Rattle.cx_core.specs.Base.{LawfulBase}
use Rattle.cx_core.specs.History.{AreLawful, full_image, image_from}
use Rattle.cx_core.specs.Merge.{IsLinked}
use Rattle.cx_core.specs.Region.{object_part, place_of}
use Rattle.cx_core.specs.State.{Instance}
use Rattle.cx_core.specs.Step.{full_step_of}
use Rattle.cx_core.specs.declared.entry.Base.{Base}
use Rattle.cx_core.specs.declared.entry.Entry.{Entry}
use Rattle.cx_core.proofs.KeepLemmas as keep
use Rattle.cx_core.proofs.ListLemmas.{item_below, slice_get-append_left}

-- one item more is one step more
fold_next : {A B : Type 0} (f : B → A → B) (a : B) (xs : List A) (n : ℕ) (x : A) → slice_get xs n ≡ Some x → fold f a (take (suc n) xs) ≡ f (fold f a (take n xs)) x
fold_next f a [] n x e = cc
fold_next f a (y ∷ ys) zero x e = cc
fold_next f a (y ∷ ys) (suc n) x e = fold_next f (f a y) ys n x e

where_some : {A : Type 0} (P : A → Type 0) (o : Option A) → ((x : A) → o ≡ Some x → P x) → IfSome o P
where_some P None h = tt
where_some P (Some x) h = h x refl

-- the full image at the place of the base is the base
pub begins : (step : List ℕ → List ℕ → List ℕ × List ℕ) (base : Base) (history : List Entry) → full_image step base history base.place ≡ base.words
unfolding full_image
begins step base history =
    let none : base.place - base.place ≡ 0 = omega arith in
    ap (λ n. fold (λ region entry. full_step_of step entry region) base.words (take n history)) none

-- the full image at the place behind a ticket comes of that at the ticket by the step of the entry there
pub goes_on : (step : List ℕ → List ℕ → List ℕ × List ℕ) (base : Base) (history : List Entry) (ticket : ℕ) → base.place ≤ ticket →
    IfSome (slice_get history (ticket - base.place)) (λ entry. full_image step base history (ticket + 1) ≡ full_step_of step entry (full_image step base history ticket))
unfolding full_image
goes_on step base history ticket from =
    let next : ticket + 1 - base.place ≡ suc (ticket - base.place) = omega arith in
    where_some (λ entry. full_image step base history (ticket + 1) ≡ full_step_of step entry (full_image step base history ticket)) (slice_get history (ticket - base.place))
    (λ x e. ap (λ n. fold (λ region entry. full_step_of step entry region) base.words (take n history)) next
    ∙ fold_next (λ region entry. full_step_of step entry region) base.words history (ticket - base.place) x e)

-- the full image goes on by a linked entry
pub full_next : (instance : Instance) (history : List Entry) (place : ℕ) (entry : Entry) → IsLinked instance.base.place history place entry →
    full_image instance.step instance.base history (place + 1) ≡ full_step_of instance.step entry (full_image instance.step instance.base history place)
full_next instance history place entry linked =
    subst (λ o. IfSome o (λ e. full_image instance.step instance.base history (place + 1) ≡ full_step_of instance.step e (full_image instance.step instance.base history place))) linked.at
    (goes_on instance.step instance.base history place linked.from)

-- a full image stays as the history grows
pub full_stays : (instance : Instance) (history more : List Entry) (place : ℕ) → place ≤ instance.base.place + length history →
    full_image instance.step instance.base (history ++ more) place ≡ full_image instance.step instance.base history place
unfolding full_image
full_stays instance history more place within =
    ap (image_from instance.step instance.base.words) (take-append-le (place - instance.base.place) history more (omega arith))

-- an entry that is linked in a history is linked also in one that continues it
pub linked_grows : (place : ℕ) (history more : List Entry) (ticket : ℕ) (entry : Entry) → IsLinked place history ticket entry → IsLinked place (history ++ more) ticket entry
linked_grows place history more ticket entry l = record { from = l.from; at = slice_get-append_left history more (ticket - place) entry l.at }

take_none : {X : Type 0} (n : ℕ) → take {A = X} n [] ≡ []
take_none zero = refl
take_none (suc n) = refl

-- the front of a list, and then some of the rest
take_on : {X : Type 0} (m n : ℕ) (xs : List X) → take (m + n) xs ≡ take m xs ++ take n (drop m xs)
take_on zero n xs = ap (λ k. take k xs) (let e : 0 + n ≡ n = omega arith in e)
take_on {X = X} (suc m) n [] = take_none {X = X} (suc m + n) ∙ sym (take_none {X = X} n)
take_on (suc m) n (x ∷ xs) = ap (λ k. take k (x ∷ xs)) (let e : suc m + n ≡ suc (m + n) = omega arith in e) ∙ ap (λ ys. x ∷ ys) (take_on m n xs)

fold_on : {A B : Type 0} (f : B → A → B) (b : B) (xs ys : List A) → fold f b (xs ++ ys) ≡ fold f (fold f b xs) ys
fold_on f b [] ys = refl
fold_on f b (x ∷ xs) ys = fold_on f (f b x) xs ys

-- a full image with the entries from its place on applied is the full image after them
pub full_after : (instance : Instance) (history : List Entry) (place n : ℕ) → instance.base.place ≤ place →
    image_from instance.step (full_image instance.step instance.base history place) (take n (drop (place - instance.base.place) history)) ≡ full_image instance.step instance.base history (place + n)
unfolding full_image
full_after instance history place n from =
    let m = place - instance.base.place in
    let more : m + n ≡ place + n - instance.base.place = omega arith in
    sym (fold_on (λ before entry. full_step_of instance.step entry before) instance.base.words (take m history) (take n (drop m history)))
    ∙ ap (image_from instance.step instance.base.words) (sym (take_on m n history) ∙ ap (λ k. take k history) more)

-- the laws of an object that full images rest on
pub record ObjectLaws (lines : ℕ) (lawful : List ℕ → Type 0) (step : List ℕ → List ℕ → List ℕ × List ℕ) : Type 0 where
  pub keeps : (image op : List ℕ) → lawful image → Words 144 op → lawful (step image op).0
  pub shape : (image : List ℕ) → lawful image → Words (8 * lines) image
  pub replies : (image op : List ℕ) → lawful image → Words 144 op → Words 144 (step image op).1

module _ (lines : ℕ) (lawful : List ℕ → Type 0) (instance : Instance) (laws : ObjectLaws lines lawful instance.step) (history : List Entry) (base : LawfulBase lines lawful instance.base)
    (entries : AreLawful instance.base.place history) (small : instance.base.place + length history ≤ 2 ^ 40) where
  abbrev at_place : ℕ → Base
  at_place p = record { place = p; words = full_image instance.step instance.base history p }

  -- each full image is lawful at its place
  lawful_on : (n p : ℕ) → p ≡ instance.base.place + n → n ≤ length history → LawfulBase lines lawful (at_place p)
  lawful_on zero p is within =
      let here : p ≡ instance.base.place = (let e : instance.base.place + 0 ≡ instance.base.place = omega arith in is ∙ e) in
      subst (λ q. LawfulBase lines lawful (at_place q)) (sym here)
      (subst (λ ws. LawfulBase lines lawful (let b : Base = record { place = instance.base.place; words = ws } in b)) (sym (begins instance.step instance.base history)) base)
  lawful_on (suc n) p is within =
      let q = instance.base.place + n in
      let before = lawful_on n q refl (omega arith) in
      let away : q - instance.base.place ≡ n = omega arith in
      let item = item_below history n (omega arith) in
      let e = item.0 in
      let linked : IsLinked instance.base.place history q e = record { from = omega arith; at = ap (slice_get history) away ∙ item.1 } in
      let is_entry = entries n e item.1 in
      let image = object_part (at_place q).words in
      let next : p ≡ q + 1 = omega (arith, is) in
      let image_lawful = laws.keeps image e.op before.object is_entry.op in
      (keep.keeps lines lawful instance.step (at_place q) e (at_place p) before (omega (arith, small)) is_entry.caller is_entry.some is_entry.most
      image_lawful (laws.shape (instance.step image e.op).0 image_lawful) (laws.replies image e.op before.object is_entry.op)
      next (ap (full_image instance.step instance.base history) next ∙ full_next instance history q e linked)).lawful_next

  -- the full image at a place of the history is a lawful base
  pub full_lawful : (p : ℕ) → instance.base.place ≤ p → p ≤ instance.base.place + length history → LawfulBase lines lawful (record { place = p; words = full_image instance.step instance.base history p })
  full_lawful p from to = lawful_on (p - instance.base.place) p (omega arith) (omega arith)

-- a full image with the next entries from its place on applied is the full image after them, and has the place after them
pub full_on : (lines : ℕ) (lawful : List ℕ → Type 0) (instance : Instance) → ObjectLaws lines lawful instance.step → (history : List Entry) → LawfulBase lines lawful instance.base →
    AreLawful instance.base.place history → instance.base.place + length history ≤ 2 ^ 40 → (region : List ℕ) (n : ℕ) → instance.base.place ≤ place_of region →
    region ≡ full_image instance.step instance.base history (place_of region) → place_of region + n ≤ instance.base.place + length history →
    (image_from instance.step region (take n (drop (place_of region - instance.base.place) history)) ≡ full_image instance.step instance.base history (place_of region + n))
    × (place_of (image_from instance.step region (take n (drop (place_of region - instance.base.place) history))) ≡ place_of region + n)
full_on lines lawful instance laws history base entries small region n from full within =
    let rest = take n (drop (place_of region - instance.base.place) history) in
    let is : image_from instance.step region rest ≡ full_image instance.step instance.base history (place_of region + n) =
    ap (λ ws. image_from instance.step ws rest) full ∙ full_after instance history (place_of region) n from in
    (is, ap place_of is ∙ (full_lawful lines lawful instance laws history base entries small (place_of region + n) (omega arith) within).at_place)
