use Rattle.cx_lives.specs.Works.{IsClientLeft}
use Rattle.cx_lives.proofs.work.go_on.Given as goal

-- the client is the one that was left
abbrev pub invariant-loop : goal.invariant-loop
invariant-loop g l = IsClientLeft (g.O.TypedObject.meaning l.service.object) l.life l.service l.fn.left.progress.caller.known.local.number l.left
