use Rattle.redo_replay.proofs.noted_region.apply_noting.Given as goal

abbrev pub ghosts-step_noting : goal.ghosts-step_noting
ghosts-step_noting g a = record { known = a.seat.now.known }
