-- What a step has to leave so that it keeps the part on answers: the word and the fields that the part names.
use Rattle.std.specs.Prelude.{◌≡◌, ◌≢◌, ℕ}
use Rattle.cx_core.specs.declared.local.Local.{Local}
use Rattle.cx_core.specs.Layout.{dur_at}

-- not DUR
abbrev pub OffAnswers : ℕ → Type 0
OffAnswers at = at ≢ dur_at

-- the fields that the part on answers names
pub record SameAnswers (l l' : Local) : Type 0 where
  pub own : l'.own ≡ l.own
  pub answered : l'.answered ≡ l.answered
  pub seen_reads : l'.seen_reads ≡ l.seen_reads
  pub floor : l'.floor ≡ l.floor
