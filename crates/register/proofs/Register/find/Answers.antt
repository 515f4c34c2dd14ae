use Rattle.std.proofs.Common.{◌≡◌, arith}
use Rattle.std.proofs.lemmas.Grind.{common_steps}
use Rattle.register.specs.Places.{lookup}
use Rattle.register.proofs.Lookups.{found_is}
use Rattle.register.proofs.Register.find.Goals as goal

pub returns-clause-found : goal.returns-clause-found
returns-clause-found g c =
    let ps = c.args.self.now.places.now in
    let value : c.and_then.result ≡ lookup g.R.Keyed.key g.R.Keyed.same c.args.key ps = grind (arith, common_steps) in
    found_is g.R.Keyed.key g.R.Keyed.same c.args.key ps c.and_then.result value
