use Rattle.std.proofs.Common.{◌≡◌, drop}
use Rattle.program_object.specs.Fingerprint.{folded}
use Rattle.program_object.proofs.fingerprint.fingerprint.Given as goal

-- mixing the words that are left into the fingerprint so far gives the fingerprint of all words
abbrev pub invariant-loop-word : goal.invariant-loop-word
invariant-loop-word l = folded l.so_far (drop l.word-index l.words) ≡ folded l.initial.so_far l.words
