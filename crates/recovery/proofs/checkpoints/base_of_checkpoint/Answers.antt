use Rattle.std.proofs.Common.{◌≡◌, ℕ, List, Some}
use Rattle.std.proofs.lemmas.List.Elements.{All-weaker}
use Rattle.std.specs.List.{slice_get}
use Rattle.table_invariant.specs.Rule.{AreImages}
use Rattle.table_invariant.specs.Running.{instance_at}
use Rattle.table_invariant.specs.Seats.{Seated}
use Rattle.recovery.specs.Taken.{IsCheckpoint}
use Rattle.recovery.proofs.Taken.{taken_of}
use Rattle.recovery.proofs.checkpoints.base_of_checkpoint.Goals as goal

pub returns : goal.returns
returns g c = λ table seats r opened leaves.
    let o = table.object in
    let q = g.O.Object in
    All-weaker (λ (s : Seated). AreImages (instance_at table q.step q.only_reads) r.trail.history s.known.images)
    (λ (s : Seated). (i : ℕ) (words : List ℕ) → slice_get s.known.images i ≡ Some words → IsCheckpoint q.line_count q.lawful q.step table r.trail.history words)
    (λ s images i words at. taken_of q.line_count q.lawful q.step q.only_reads table seats r
    (record { keeps = g.met.O.Object.keeps o; shape = λ image law. (g.met.O.Object.shape o image law).0; replies = g.met.O.Object.replies o }) opened leaves words (images i words at))
    seats leaves.images
