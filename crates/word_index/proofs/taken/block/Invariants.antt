use Rattle.std.proofs.Common.{◌≡◌, ◌+◌, ◌<◌, ℕ, get_or, length}
use Rattle.word_index.proofs.taken.block.Given as goal

abbrev pub invariant-loop-i : goal.invariant-loop-i
invariant-loop-i l = record {
  first : get_or l.content 0 0 ≡ l.next;
  rest : (k : ℕ) → k < l.i → get_or l.content (1 + k) 0 ≡ get_or l.words (l.from + k) 0;
  long : length l.content ≡ 8;
}
