use Rattle.register.proofs.Changes.{drops, left_apart}
use Rattle.register.proofs.Lookups.{equivalence}
use Rattle.register.proofs.Register.drop_past.Goals as goal

pub invariant_of-self : goal.invariant_of-self
invariant_of-self g c =
    let m = g.R.Keyed in
    let laws = g.met.R.Keyed in
    record { apart = left_apart m.key m.same (equivalence m.same laws.reflexive laws.symmetric laws.transitive) c.args.self.now.places.now c.args.self.now.apart g.R.Ending.last c.args.tick _ c.drop_past.ensures }

pub returns : goal.returns
returns g c =
    let m = g.R.Keyed in
    let laws = g.met.R.Keyed in
    drops m.key m.same (equivalence m.same laws.reflexive laws.symmetric laws.transitive) c.args.self.now.places.now c.args.self.now.apart g.R.Ending.last c.args.tick _ c.drop_past.ensures
