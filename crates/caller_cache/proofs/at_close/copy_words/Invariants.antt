use Rattle.std.proofs.Common.{◌≡◌, ◌≤◌, take, drop, vec_capacity, vec_len}
use Rattle.caller_cache.proofs.at_close.copy_words.Given as goal

abbrev pub invariant-loop-i : goal.invariant-loop-i
invariant-loop-i l = record {
  room : l.count ≤ vec_capacity l.words;
  long : vec_len l.words ≡ l.i;
  so_far : l.words.items ≡ take l.i (drop l.from l.closed.words.items);
}
