use Rattle.std.proofs.Common.{◌≡◌, ◌≤◌, length, take, vec_capacity, vec_len}
use Rattle.cx_table.specs.Remains.{locals_of}
use Rattle.caller_cache.specs.Wins.{wins_of}
use Rattle.cx_table.proofs.gather.note_wins.Given as goal

abbrev pub invariant-loop-k : goal.invariant-loop-k
invariant-loop-k l = record {
  room : length l.seats ≤ vec_capacity l.wins;
  few : vec_len l.wins ≤ l.k;
  so_far : l.wins.items ≡ wins_of (locals_of (take l.k l.seats));
}
