use Rattle.std.proofs.Common.{rules}
use Rattle.register.proofs.Positions.{writable}
use Rattle.register.proofs.Register.place_for.Goals as goal

pub returns : goal.returns
returns g c =
    writable g.R.Keyed.key g.R.Keyed.same c.args.key c.args.self.now.places.now c.place.result c.or_else.result c.place.ensures
    (λ none. search rules)
    (λ i some. search rules)
