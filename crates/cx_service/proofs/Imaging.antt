-- What attempts by which an image is taken leave of their caller.
use Rattle.std.proofs.Common.{◌≡◌, ◌≤◌, ℕ, List, [], ap, arith}
use Rattle.cx_base.specs.declared.object.Object.{Ghosts}
use Rattle.cx_core.specs.Layout.{max_word}
use Rattle.table_invariant.specs.Running.{IsSeatOf, Running}
use Rattle.table_invariant.specs.Seats.{IsAtLimit, Seated, StepsBy}
use Rattle.cx_service.specs.Callers.{IsCallerOf}
use Rattle.cx_service.specs.Checkpoints.{CheckpointKeeps, CheckpointTaken}
use Rattle.cx_service.specs.Drives.{MeetsFewer}
use Rattle.cx_service.specs.Lookups.{ReadPending}
use Rattle.cx_service.proofs.Attempting.{unchanged_by_look, look_keeps, look_rests, meets_one, most_one, rises_one}
use Rattle.cx_attempts.specs.Checkpointing.{TakesCheckpoint, TakesNone, unchanged_by_checkpoint}
use Rattle.cx_attempts.specs.Attempts.{IsAtRest, StepsOn, AttemptRefused}

-- one attempt
module _ {O : Type 0} (o : Ghosts O) (r : Running O) (s v : Seated) (caller : IsCallerOf r s) (rest : unchanged_by_checkpoint v ≡ unchanged_by_checkpoint s) (front : s.known.local.front ≤ v.known.local.front) (of : IsSeatOf r v) (rises : s.known.local.seen_cur ≤ v.known.local.seen_cur) (on : StepsOn s v) where
  look_rest : unchanged_by_look v ≡ unchanged_by_look s
  look_rest = ap (λ (x : Seated). (let y : Seated = record x { known = record x.known { local = record x.known.local { seen_reads = [] }; times = record x.known.times { reads = [] } } } in y)) rest

  keeps : s.known.local.met ≤ v.known.local.met → CheckpointKeeps s v
  keeps met = record {
    lists = look_keeps r s v caller look_rest front of rises on met;
    reads = ap (λ (x : Seated). x.known.local.seen_reads) rest;
    times = ap (λ (x : Seated). x.known.times.reads) rest;
  }

  still : IsAtRest v.known.local → IsCallerOf r v
  still = look_rests r s v caller look_rest front of rises on

  pub image_taken : (words : List ℕ) (place : ℕ) → ¬ IsAtLimit s.known.local → TakesCheckpoint o r s.known.local.steps words place s v → CheckpointTaken o r words place s v × MeetsFewer 1 s v
  image_taken words place allowed taken =
      let met = taken.met in (
        record {
          caller = still taken.rest;
          keeps = keeps (omega (arith, met));
          allowed = allowed;
          images = taken.images;
          times = taken.times;
          base = taken.base;
          current = taken.current;
          finds = record { loaded = (let is = taken.loaded in omega (arith, is)); seen = taken.seen; raised = taken.raised };
          reached = taken.reached;
          above = taken.above;
          from = taken.from;
        },
        omega (arith, met),
      )

  pub image_refused : ¬ IsAtLimit s.known.local → s.known.local.met ≤ max_word → AttemptRefused s v × StepsBy 4 s v × StepsOn s v × TakesNone s v → ReadPending r 1 s v
  image_refused allowed small (refused, steps, _, none) = record {
    caller = still refused.rest;
    keeps = (keeps (rises_one s v small refused.refusal.met)).lists;
    allowed = allowed;
    reads = refused.refusal.reads;
    met = meets_one s v refused.refusal.met;
    most = most_one s v refused.refusal.met;
    steps = steps;
    times = refused.refusal.times.reads;
    images = none;
  }
