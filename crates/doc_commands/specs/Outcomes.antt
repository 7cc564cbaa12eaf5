-- The clients' last commands, read from the slots of a region.
use Rattle.std.specs.Prelude.{◌≡◌, ◌≢◌, ◌<◌, ℕ, Bool, nat_lt, All, List, filter, map, Option, None, Some}
use Rattle.std.specs.List.{range_with_len}
use Rattle.cx_core.specs.Region.{slot_number, slot_reply}
use Rattle.doc_model.specs.Words.{AreOfNoReply, reply_words}
use Rattle.doc_model.specs.declared.operations.Reply.{Reply}
use Rattle.doc_store.specs.DocumentMeaning.{IsWholeReply}
use Rattle.doc_text.specs.declared.recovered.Applied.{Applied}
use Rattle.recovery.specs.declared.recovered_base.ImageFault.{ImageFault}
use Rattle.recovery.specs.declared.recovered_base.ImageFault.TheVariants.{Body, Memory}

-- a reply within the limits, which has these words
pub record IsReplyOf (words : List ℕ) (reply : Reply) : Type 0 where
  pub whole : IsWholeReply reply
  pub has : reply_words reply ≡ words

-- a client has a number: a command of the client's was applied
abbrev pub has_number : List ℕ → ℕ → Bool
has_number region client = nat_lt 0 (slot_number client region)

-- the clients with a number, in rising order
abbrev pub clients_in : List ℕ → List ℕ
clients_in region = filter (has_number region) (range_with_len 0 8)

-- a client's last command that was applied: the number in the client's slot, and the reply that has the words there
pub record IsLastCommand (region : List ℕ) (applied : Applied) : Type 0 where
  pub number : applied.number ≡ slot_number applied.client region
  pub reply : IsReplyOf (slot_reply applied.client region) applied.reply

-- the last command of each client with a number, in rising order of the clients
pub record AreOutcomes (region : List ℕ) (outcomes : List Applied) : Type 0 where
  pub clients : map (λ applied. applied.client) outcomes ≡ clients_in region
  pub commands : All (IsLastCommand region) outcomes

-- each slot with a number holds a reply
abbrev pub HoldsStoreReplies : List ℕ → Type 0
HoldsStoreReplies region =
    (client : ℕ) → client < 8 → slot_number client region ≢ 0 → (reply : Reply) × IsReplyOf (slot_reply client region) reply

-- ---- one slot

-- nothing for a client without a number, and else the client's last command
abbrev pub TellsSlot : ℕ → List ℕ → Option Applied → Type 0
TellsSlot client region None = slot_number client region ≡ 0
TellsSlot client region (Some applied) = (applied.client ≡ client) × (slot_number client region ≢ 0) × IsLastCommand region applied

-- ---- faults

-- why there is no reply: the words are those of none, or memory ran out
abbrev pub IsReplyFault : List ℕ → ImageFault → Type 0
IsReplyFault words Body = AreOfNoReply words
IsReplyFault words Memory = Unit {0}
IsReplyFault words _ = ⊥

-- why a client's slot is refused: it has a number, and words of no reply; or memory ran out
abbrev pub IsSlotFault : ℕ → List ℕ → ImageFault → Type 0
IsSlotFault client region Body = (slot_number client region ≢ 0) × AreOfNoReply (slot_reply client region)
IsSlotFault client region Memory = Unit {0}
IsSlotFault client region _ = ⊥

-- why the slots of a region are refused: one with a number holds no reply, or memory ran out
abbrev pub IsOutcomesFault : List ℕ → ImageFault → Type 0
IsOutcomesFault region Body = ¬ HoldsStoreReplies region
IsOutcomesFault region Memory = Unit {0}
IsOutcomesFault region _ = ⊥
