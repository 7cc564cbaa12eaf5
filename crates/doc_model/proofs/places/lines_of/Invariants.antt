use Rattle.std.proofs.Common.{◌≡◌, ◌-◌, ◌^◌, min, take}
use Rattle.cx_base.specs.Store as store
use Rattle.doc_model.specs.Place.{pairs_of}
use Rattle.doc_model.proofs.places.lines_of.Given as goal

abbrev pub invariant-loop-pair : goal.invariant-loop-pair
invariant-loop-pair l = l.lines ≡ min (store.lines_of (pairs_of (take l.pair-index l.pairs))) (2 ^ 64 - 1)
