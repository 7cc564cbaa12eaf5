-- Where the shared words stand in the table: for N callers there are 2N replicas, 16N cells and as many link slots.
use Rattle.std.specs.Prelude.{ℕ, ◌+◌, ◌-◌, ◌*◌, ◌^◌, List, drop, take}

-- the number of cells, and of link slots
abbrev pub cell_count : ℕ → ℕ
cell_count callers = 16 * callers

-- the word CUR: the code of the replica that was published last
abbrev pub cur_at : ℕ
cur_at = 0

-- the word DUR: the code of the replica that a crash cannot fall behind
abbrev pub dur_at : ℕ
dur_at = 1

-- the word LOW: the ticket from which on a protection is confirmed
abbrev pub low_at : ℕ
low_at = 2

-- the word FREE: cells with a ticket below it may be written again
abbrev pub free_at : ℕ
free_at = 3

-- a caller's word NEED: the ticket from which on it reads cells
abbrev pub need_at : ℕ → ℕ
need_at caller = 4 + caller

-- the lock word of a replica
abbrev pub lock_at : ℕ → ℕ → ℕ
lock_at callers replica = 4 + callers + replica

-- the link word of a slot: the ticket and the cell of the entry that was linked there last
abbrev pub link_at : ℕ → ℕ → ℕ
link_at callers slot = 4 + 3 * callers + slot

-- word i of a cell: the entry's number, then its operation
abbrev pub cell_at : ℕ → ℕ → ℕ → ℕ
cell_at callers cell i = 4 + 19 * callers + 145 * cell + i

-- the offer word of a cell: the ticket plus 1 of the entry whose write set is offered
abbrev pub offer_at : ℕ → ℕ → ℕ
offer_at callers cell = 4 + 2339 * callers + cell

-- word i of a cell's write set
abbrev pub set_at : ℕ → ℕ → ℕ → ℕ
set_at callers cell i = 4 + 2355 * callers + 513 * cell + i

-- the ring of gaps: for each caller 512 slots of 16 words
abbrev pub gap_slots : ℕ → ℕ
gap_slots callers = 512 * callers

-- where the ring of gaps begins
abbrev pub gaps_at : ℕ → ℕ
gaps_at callers = 4 + 10563 * callers

-- word i of a slot
abbrev pub gap_at : ℕ → ℕ → ℕ → ℕ
gap_at callers slot i = 4 + 10563 * callers + 16 * slot + i

-- where the words of replicas begin
abbrev pub replicas_at : ℕ → ℕ
replicas_at callers = 4 + 18755 * callers

-- where word i of a replica stands, as a load gives it, by the number of callers and the number of words of a region
abbrev pub vol_at : ℕ → ℕ → ℕ → ℕ → ℕ
vol_at callers region replica i = 4 + 18755 * callers + region * replica + i

-- the words of a replica as loads give them
abbrev pub replica_words : ℕ → ℕ → List ℕ → ℕ → List ℕ
replica_words callers region words replica = take region (drop (vol_at callers region replica 0) words)

-- word i of a replica as the medium holds it
abbrev pub per_at : ℕ → ℕ → ℕ → ℕ → ℕ
per_at callers region replica i = 4 + 18755 * callers + region * (2 * callers) + region * replica + i

-- the words of the whole table
abbrev pub word_count : ℕ → ℕ → ℕ
word_count callers region = 4 + 18755 * callers + region * (4 * callers)

-- the protection word of a caller without one, and the limit that is none
abbrev pub max_word : ℕ
max_word = 2 ^ 64 - 1
