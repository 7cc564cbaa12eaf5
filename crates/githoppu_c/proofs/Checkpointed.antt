-- What a session took is a lawful base.
use Rattle.std.proofs.Common.{◌≡◌, ◌+◌, ◌≤◌, ◌++◌, ◌∙◌, ℕ, ℤ, List, Option, IfSome, ap, arith, drop, inl, inr, length, pos, subst, sym, take}
use Rattle.std.proofs.Math.Seq.{drop-append_seam, take-append_seam}
use Rattle.std.proofs.lemmas.List.{length-take-le}
use Rattle.std.specs.Arc.{arc_value}
use Rattle.cx_base.specs.declared.object.Object.{Ghosts}
use Rattle.cx_core.specs.Base.{LawfulBase}
use Rattle.cx_core.specs.Region.{region_words}
use Rattle.c_images.specs.Taken.{IsWrittenOf}
use Rattle.table_invariant.specs.Running.{Running}
use Rattle.cx_service.specs.declared.close.Handed.{Handed}
use Rattle.cx_service.specs.declared.close.Handed.TheVariants.{Idle, Linked, Stopped}
use Rattle.c_sessions.specs.Images.{TakesFrom}
use Rattle.c_sessions.specs.Sessions.{IsSessionOpen, TakesIn}
use Rattle.c_sessions.specs.declared.session.Session.{Session}
use Rattle.c_sessions.specs.declared.checkpoint.SessionCheckpoint.{SessionCheckpoint}
use Rattle.c_sessions.specs.declared.checkpoint.SessionCheckpoint.TheVariants.{At, Again, Stopped as TakenStopped, OutOfTurn}
use Rattle.githoppu_c.specs.Again.{IsRegionIn}
use Rattle.githoppu_c.specs.Checkpoints.{IsWrittenAs, TakesAs, taken_code}
use Rattle.githoppu_c.proofs.TakenUp.{no_other}

-- an image that was taken, at some place, is not the refusal of a call out of turn
in_turn : (place : ℕ) → At place ≡ OutOfTurn → ⊥
in_turn place same = cc

module _ {O : Type 0} (o : Ghosts O) (words : List ℕ) (tries place : ℕ) where
  -- these words are a lawful base of the service, at this place
  abbrev is_base : Running O → Type 0
  is_base r = LawfulBase r.lines (o.lawful r.object) (record { place = place; words = words })

  -- where a caller took an image of the service `r`, which gave `words` at this place, they are a lawful base of it
  base_from : (r : Running O) (before after : Handed) → TakesFrom o r words tries before (At place) after → is_base r
  base_from r (Idle u) (Idle v) takes = takes.0.base
  base_from r (Idle u) (Linked v) takes = absurd takes
  base_from r (Idle u) (Stopped v) takes = absurd takes
  base_from r (Linked u) after takes = absurd (in_turn place takes.0)
  base_from r (Stopped u) after takes = absurd (in_turn place takes.0)

  -- where an open session took an image, which gave `words` at this place, they are a lawful base of its service
  pub taken_base : (before after : Session O) → IsSessionOpen before → IsSessionOpen after → TakesIn o words tries before (At place) after → is_base (arc_value before.service)
  taken_base before after opened then takes =
      let r = arc_value before.service in
      let came = subst (λ (x : Option Handed). IfSome x (λ b. IfSome after.handed (λ a. TakesFrom o r words tries b (At place) a))) opened.is takes.came in
      base_from r opened.handed then.handed (subst (λ (x : Option Handed). IfSome x (λ a. TakesFrom o r words tries opened.handed (At place) a)) then.is came)

-- where the words behind the first 8 were replaced by `part`, of length `n`, the `n` words behind the first 8 are `part`
part_there : (before part post : List ℕ) (n : ℕ) → 8 ≤ length before → length part ≡ n → take n (drop 8 (take 8 before ++ (part ++ post))) ≡ part
part_there before part post n long same =
    let eight : length (take 8 before) ≡ 8 = length-take-le 8 before long in
    ap (take n) (subst (λ k. drop k (take 8 before ++ (part ++ post)) ≡ part ++ post) eight (drop-append_seam (take 8 before) (part ++ post))) ∙ subst (λ k. take k (part ++ post) ≡ part) same (take-append_seam part post)

-- what is written of words that have a part behind the first 8 is an image of that part
pub written_of : (kind callers lines place rc rl n : ℕ) (before part post words : List ℕ) → callers ≡ rc → lines ≡ rl → length before ≡ n + 8 → length part ≡ region_words rl
    → IsWrittenOf kind callers lines place (take (region_words lines) (drop 8 (take 8 before ++ (part ++ post)))) words → IsWrittenOf kind rc rl place part words
written_of kind callers lines place rc rl n before part post words c l long size written =
    subst (λ m. IsWrittenOf kind rc m place part words) l
    (subst (λ m. IsWrittenOf kind m lines place part words) c
    (subst (λ (ws : List ℕ). IsWrittenOf kind callers lines place ws words) (part_there before part post (region_words lines) (omega (arith, long)) (size ∙ ap region_words (sym l))) written))

-- ---- where an image was taken, its region is in the words

module _ {O : Type 0} (o : Ghosts O) (kind : ℕ) (before after : Session O) (words : List ℕ) (opened : IsSessionOpen before) (then : IsSessionOpen after) where
  -- where the status of taking an image is 0, one was taken, and its region is in `words`
  of_taken : (region : List ℕ) (taken : SessionCheckpoint) → TakesIn o region 16 before taken after → IsWrittenAs kind (arc_value before.service) region taken words → pos 0 ≡ taken_code taken
      → IsRegionIn o kind (arc_value before.service) words
  of_taken region (At place) takes written done = record { place = place; region = region; base = taken_base o region 16 place before after opened then takes; written = written }
  of_taken region Again takes written done = absurd cc
  of_taken region TakenStopped takes written done = absurd cc
  of_taken region OutOfTurn takes written done = absurd cc

  -- where a session was to take an image, and the status is 0, `words` are an image of one region that is a lawful base
  pub region_in : (words_before : List ℕ) (needed : ℕ) (code : ℤ) → TakesAs o kind before after words_before words needed code → code ≡ pos 0 → IsRegionIn o kind (arc_value before.service) words
  region_in words_before needed code takes done = elim takes.took [
    | inl t ↦ of_taken t.1.region t.1.taken t.1.takes t.1.written (sym done ∙ t.1.is)
    | inr bad ↦ absurd (no_other code done bad.1)
  ]
