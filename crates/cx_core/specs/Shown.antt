-- What a seat of the running table knows of a local state: all but the words of the replica held exclusively, since no
-- one instruction can tell them.
use Rattle.std.specs.Prelude.{[]}
use Rattle.std.specs.Option.{option_map}
use Rattle.cx_core.specs.declared.local.HeldExclusive.{HeldExclusive}
use Rattle.cx_core.specs.declared.local.Local.{Local}

-- a local state without the words of the replica held exclusively
abbrev pub shown : Local → Local
shown l = record l { exclusive = option_map (λ (h : HeldExclusive). record h { words = [] }) l.exclusive }
