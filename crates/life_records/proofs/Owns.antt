-- The own lists of all callers have as many entries as the history, and each one's tickets rise.
use Rattle.std.proofs.Common.{◌+◌, ◌<◌, ◌==◌, ℕ, true, false, cond, List, [], ◌∷◌, arith}
use Rattle.cx_core.specs.declared.entry.Entry.{Entry}
use Rattle.cx_core.specs.declared.local.Linked.{Linked}
use Rattle.cx_core.specs.Merge.{own_of}
use Rattle.life_records.proofs.Lists.{Each, Rises}

own_above : (caller low ticket : ℕ) (history : List Entry) → low < ticket → Each (λ (x : Linked). low < x.ticket) (own_of caller ticket history)
own_above caller low ticket [] up = tt
own_above caller low ticket (e ∷ rest) up =
    let next = own_above caller low (ticket + 1) rest (omega arith) in
    elim (e.caller == caller) as (λ b. Each (λ (x : Linked). low < x.ticket) (cond b (record { ticket = ticket; entry = e } ∷ own_of caller (ticket + 1) rest) (own_of caller (ticket + 1) rest))) [
      | true ↦ (up, next)
      | false ↦ next
    ]

-- the tickets of a caller's own entries rise
pub own_rises : (caller ticket : ℕ) (history : List Entry) → Rises (λ (x : Linked). x.ticket) (own_of caller ticket history)
own_rises caller ticket [] = tt
own_rises caller ticket (e ∷ rest) =
    let next = own_rises caller (ticket + 1) rest in
    elim (e.caller == caller) as (λ b. Rises (λ (x : Linked). x.ticket) (cond b (record { ticket = ticket; entry = e } ∷ own_of caller (ticket + 1) rest) (own_of caller (ticket + 1) rest))) [
      | true ↦ (own_above caller ticket (ticket + 1) rest (omega arith), next)
      | false ↦ next
    ]
