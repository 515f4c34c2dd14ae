use Rattle.register.proofs.Changes.{apart_without, removes}
use Rattle.register.proofs.Lookups.{equivalence}
use Rattle.register.proofs.Register.remove.Goals as goal

pub invariant_of-self : goal.invariant_of-self
invariant_of-self g c =
    let m = g.R.Keyed in
    let laws = g.met.R.Keyed in
    let self = c.args.self.now in
    record { apart = apart_without m.key m.same (equivalence m.same laws.reflexive laws.symmetric laws.transitive) self.places.now self.apart c.args.key c.in_ok-i.i c.in_ok-i.ensures.0 c.take.new.self c.take.ensures.after }

pub returns : goal.returns
returns g c =
    let m = g.R.Keyed in
    let laws = g.met.R.Keyed in
    let self = c.args.self.now in
    removes m.key m.same (equivalence m.same laws.reflexive laws.symmetric laws.transitive) self.places.now self.apart c.args.key c.in_ok-i.i c.in_ok-i.ensures.0 c.take.new.self c.take.ensures.after
    c.in_ok-i.ensures.1 c.take.result _ c.take.ensures.value
