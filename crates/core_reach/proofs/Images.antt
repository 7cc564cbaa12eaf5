-- Full images: how long they are, and their place.
use Rattle.std.proofs.Common.{◌≡◌, ◌∙◌, ◌+◌, ◌-◌, ◌<◌, ◌≤◌, ℕ, List, [], ◌∷◌, length, take, ap, refl, sym, arith}
use Rattle.std.proofs.lemmas.List.{get_or-set_same, length-take-le}
use Rattle.core_runs.proofs.ImageLaws.{image_current}
use Rattle.cx_base.proofs.WordLemmas.{length-overwritten}
use Rattle.cx_base.specs.Memory.{overwritten}
use Rattle.cx_core.specs.History.{IsFull, full_image, image_from}
use Rattle.cx_core.specs.Lawful.{Lawful}
use Rattle.cx_core.specs.Region.{object_part, place_of, slot_start}
use Rattle.cx_core.specs.State.{Instance, State}
use Rattle.cx_core.specs.Step.{full_step_of}
use Rattle.cx_core.specs.declared.entry.Entry.{Entry}

-- the full step of an entry keeps the length of a region `ws`. `part` is the region with the object's new image, `slot` with the entry's number and
-- reply too.
step_long : (step : List ℕ → List ℕ → List ℕ × List ℕ) (entry : Entry) (ws : List ℕ) → length (full_step_of step entry ws) ≡ length ws
unfolding full_step_of
step_long step entry ws =
    let done = step (object_part ws) entry.op in
    let part = overwritten 1168 done.0 ws in
    let slot = overwritten (slot_start entry.caller) (entry.number ∷ done.1) part in
    length-overwritten ((place_of ws + 1) ∷ []) slot 0 ∙ length-overwritten (entry.number ∷ done.1) part (slot_start entry.caller) ∙ length-overwritten done.0 ws 1168

-- the full step of an entry adds 1 to the place of a region `ws`. `slot` is the region with the object's new image, and the entry's number and reply.
step_placed : (step : List ℕ → List ℕ → List ℕ × List ℕ) (entry : Entry) (ws : List ℕ) → 0 < length ws → place_of (full_step_of step entry ws) ≡ place_of ws + 1
unfolding full_step_of overwritten
step_placed step entry ws some =
    let done = step (object_part ws) entry.op in
    let part = overwritten 1168 done.0 ws in
    let slot = overwritten (slot_start entry.caller) (entry.number ∷ done.1) part in
    get_or-set_same slot 0 (place_of ws + 1) 0
    (omega (arith, some, length-overwritten (entry.number ∷ done.1) part (slot_start entry.caller), length-overwritten done.0 ws 1168))

-- the full steps of some entries keep the length of a region `ws`
image_long : (step : List ℕ → List ℕ → List ℕ × List ℕ) (ws : List ℕ) (entries : List Entry) → length (image_from step ws entries) ≡ length ws
image_long step ws [] = refl
image_long step ws (entry ∷ entries) = image_long step (full_step_of step entry ws) entries ∙ step_long step entry ws

-- the full steps of some entries add their number to the place of a region `ws`
image_placed : (step : List ℕ → List ℕ → List ℕ × List ℕ) (ws : List ℕ) (entries : List Entry) → 0 < length ws → place_of (image_from step ws entries) ≡ place_of ws + length entries
image_placed step ws [] some = omega arith
image_placed step ws (entry ∷ entries) some =
    let long = step_long step entry ws in
    let rest = image_placed step (full_step_of step entry ws) entries (omega arith) in
    let one = step_placed step entry ws some in
    omega arith

-- full images by the history of a lawful state
module _ (instance : Instance) (s : State) (law : Lawful instance s) (some : 0 < length instance.base.words) where
  -- the full image after a place
  abbrev full : ℕ → List ℕ
  full place = full_image instance.step instance.base law.history place

  -- the end of the history: the place after its last entry
  abbrev end_ : ℕ
  end_ = instance.base.place + length law.history

  -- a full image is as long as the base's words
  pub full_long : (place : ℕ) → length (full place) ≡ length instance.base.words
  unfolding full_image
  full_long place = image_long instance.step instance.base.words (take (place - instance.base.place) law.history)

  -- the place that stands in the full image after `place` is the one in the base's words, and as many more as `place` is above the base's place
  counted : (place : ℕ) → place ≤ end_ → place_of (full place) ≡ place_of instance.base.words + (place - instance.base.place)
  unfolding full_image
  counted place within =
      image_placed instance.step instance.base.words (take (place - instance.base.place) law.history) some
      ∙ ap (λ n. place_of instance.base.words + n) (length-take-le (place - instance.base.place) law.history (omega arith))

  -- the place of the base stands in its words: the replica that CUR names is a full image
  base_placed : place_of instance.base.words ≡ instance.base.place
  base_placed =
      let image = image_current instance s law in
      let first = image.vol 0 some in
      let from = image.from in
      let count = counted _ image.to in
      omega arith

  -- the full image after the whole history is the full image after its place
  pub last_full : IsFull instance law.history (full end_)
  last_full =
      let count = counted end_ (omega arith) in
      let base = base_placed in
      let placed : place_of (full end_) ≡ end_ = omega arith in
      record { from = omega arith; to = omega arith; full = ap full (sym placed) }

  -- the place of the full image after the whole history is the history's end
  pub last_placed : place_of (full end_) ≡ end_
  last_placed = let count = counted end_ (omega arith) in let base = base_placed in omega arith
