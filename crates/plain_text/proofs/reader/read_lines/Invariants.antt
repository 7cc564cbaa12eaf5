use Rattle.std.proofs.Common.{◌≡◌, ◌+◌, ◌≤◌, length, take, drop}
use Rattle.plain_text.specs.LineGrammar.{AreLinesOf}
use Rattle.plain_text.specs.Lines.{text_lines}
use Rattle.plain_text.proofs.reader.read_lines.Given as goal

-- the lines so far say what was read, and the lines that are left are those of the rest
abbrev pub invariant-loop-rest : goal.invariant-loop-rest
invariant-loop-rest g l = record {
  left : drop l.number (text_lines l.bytes) ≡ text_lines l.rest;
  read : AreLinesOf g.R.LineReader.grammar (take l.number (text_lines l.bytes)) l.said;
  keeps : g.R.LineReader.Keeps l.said;
  counted : l.number + length l.rest ≤ length l.bytes;
}

abbrev pub decreases-loop-rest : goal.decreases-loop-rest
decreases-loop-rest g l = length l.rest
