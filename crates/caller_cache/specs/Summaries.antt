-- The numbers of a local state that code reads.
use Rattle.std.specs.Prelude.{◌≡◌, ◌+◌, ◌^◌, ◌<◌, ◌≤◌, ℕ, List, [], ◌∷◌, length, map, Some}
use Rattle.std.specs.List.{range_with_len}
use Rattle.atomic_table.specs.Table.{Me}
use Rattle.cx_core.specs.declared.entry.Entry.{Entry}
use Rattle.cx_core.specs.declared.kinds.Kind.{Kind}
use Rattle.cx_core.specs.declared.local.Cell.{Cell}
use Rattle.cx_core.specs.declared.local.HeldDowngraded.{HeldDowngraded}
use Rattle.cx_core.specs.declared.local.Linked.{Linked}
use Rattle.cx_core.specs.declared.local.Local.{Local}
use Rattle.cx_core.specs.History.{IsLawfulEntry}
use Rattle.cx_core.specs.LockEvents.{is_in}
use Rattle.cx_core.specs.QueueEvents.{cell_of, entry_in}
use Rattle.cx_core.specs.Rights.{exclusive_on, shared_on}
use Rattle.cx_core.specs.State.{Instance}
use Rattle.caller_cache.specs.declared.summary.CachedLocal.{CachedLocal}
use Rattle.table_invariant.specs.declared.rule.Known.{Known}
use Rattle.table_invariant.specs.Fitting.{IsOwn}
use Rattle.table_invariant.specs.Seats.{HasCells, IsWithinLimit, SeenGuard, kind_found, known_local, known_of, unanswered_ticket}

-- the numbers of a local state that a seat keeps in plain memory
abbrev pub summary_of : Local → CachedLocal
summary_of l = record {
  number = l.number;
  front = l.front;
  linked = length l.own;
  unanswered = unanswered_ticket l;
  tickets = map (λ (x : Cell). x.ticket) l.cells;
  offers = map (λ (x : Cell). x.offer) l.cells;
  seen_slot = l.seen_slot;
  seen_offer = l.seen_offer;
  seen_free = l.seen_free;
  seen_low = l.seen_low;
  seen_cur = l.seen_cur;
  fresh = l.fresh;
  refused = map (is_in l.refused) (range_with_len 0 16);
  exclusive = exclusive_on l;
  shared = shared_on l;
  passer = l.passer;
  downgraded = l.downgraded;
  won = l.won;
  raised = l.raised;
  floor = l.floor;
  protection = l.protection;
  scan = l.scan;
  seen_need = l.seen_need;
  steps = l.steps;
  limit = l.limit;
  met = l.met;
  scans = l.scans;
}

-- the numbers follow an event of this kind that found this word, of a caller that is seen to be allowed to make it, in each
-- instance with this number of callers
abbrev pub Follows : ℕ → Kind → ℕ → CachedLocal → CachedLocal → Type 0
Follows callers kind found before after =
    (instance : Instance) (k : Known) → instance.callers ≡ callers → SeenGuard instance kind k.local → before ≡ summary_of k.local → after ≡ summary_of (known_local instance (kind_found instance kind k.local found) k found)

-- an entry is a caller's own one with a ticket, and it is one that may come there
pub record IsOwnEntry (entries : List Linked) (caller ticket : ℕ) (entry : Entry) : Type 0 where
  pub own : IsOwn entries ticket entry
  pub caller_is : entry.caller ≡ caller
  pub small : ticket < 2 ^ 40
  pub lawful : caller < 8 → IsLawfulEntry ticket entry

-- where a cell has a ticket, the entry in it is the own one with that ticket
abbrev pub OwnCells : Local → Type 0
OwnCells l = (j ticket : ℕ) → j < 16 → (cell_of l j).ticket ≡ Some ticket → IsOwnEntry l.own l.number ticket (entry_in l j)

-- a seat knows one caller, and its numbers are that caller's. They are small enough to be counted on, and no more steps were
-- made than the limit allows.
pub record HasSummary (me : Me ℕ (List Known)) (summary : CachedLocal) (before : ℕ) : Type 0 where
  pub one : me ≡ (known_of me.0 ∷ [], [])
  pub is : summary ≡ summary_of (known_of me.0).local
  pub linked : before + summary.linked ≤ summary.front
  pub front : summary.front ≤ 2 ^ 40
  pub few : summary.linked ≤ 2 ^ 40
  pub small : before ≤ 2 ^ 40
  pub place : (h : HeldDowngraded) → (known_of me.0).local.downgraded ≡ Some h → h.place ≤ 2 ^ 40
  pub cells : HasCells (known_of me.0).local
  pub own : OwnCells (known_of me.0).local
  pub within : IsWithinLimit (known_of me.0).local
