use Rattle.std.proofs.Common.{take}
use Rattle.cx_lives.specs.Lives.{HaveLived}
use Rattle.cx_lives.proofs.lives.run_lives.Given as goal

abbrev pub invariant-loop-life : goal.invariant-loop-life
invariant-loop-life g l = HaveLived (g.O.TypedObject.meaning l.object) (g.O.Object.line_count l.object) (g.O.Object.version_number l.object) (g.O.Object.lawful l.object) (g.O.Object.step l.object) (g.O.Object.only_reads l.object) (take l.life-index l.script.lives) l.lived
