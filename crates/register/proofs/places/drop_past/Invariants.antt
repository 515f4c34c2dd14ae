use Rattle.std.proofs.Common.{◌≡◌, ◌++◌, map, take, drop}
use Rattle.register.specs.Places.{not_past}
use Rattle.register.proofs.places.drop_past.Given as goal

abbrev pub invariant-loop-place : goal.invariant-loop-place
invariant-loop-place g l = l.places ≡ map (not_past g.R.Ending.last l.tick) (take l.place-index l.initial.places) ++ drop l.place-index l.initial.places
