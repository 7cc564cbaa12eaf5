use Rattle.std.proofs.Common.{sym, subst}
use Rattle.core_queue.specs.NotedSets.{SetNotesHold}
use Rattle.core_queue.proofs.SetNotes.{notes_event}
use Rattle.core_queue.proofs.sets.set_notes_stay.Goals as goal

pub returns : goal.returns
returns c = λ instance history later before after event notes law hold made on. subst (λ h. SetNotesHold instance after h notes) (sym on.is) (notes_event instance history on.more before after event notes law made hold)
