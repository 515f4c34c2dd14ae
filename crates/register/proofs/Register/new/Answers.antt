use Rattle.std.proofs.Common.{None, sym, subst}
use Rattle.register.specs.Places.{Empty}
use Rattle.register.proofs.Fronts.{front_free}
use Rattle.register.proofs.Lookups.{free_empty}
use Rattle.register.proofs.Register.new.Goals as goal

pub returns-clause-empty : goal.returns-clause-empty
returns-clause-empty g c =
    let m = g.R.Keyed in
    subst (Empty m.key m.same) (sym c.front.ensures) (free_empty m.key m.same _ (front_free m.MOST c.clear.new.places None c.clear.ensures.emptied))
