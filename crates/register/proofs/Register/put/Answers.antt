use Rattle.std.proofs.Common.{ap, ◌∙◌}
use Rattle.std.specs.Result.{result_ok}
use Rattle.register.proofs.Changes.{puts}
use Rattle.register.proofs.Lookups.{equivalence}
use Rattle.register.proofs.Positions.{place_at}
use Rattle.register.proofs.Register.put.Goals as goal

pub returns : goal.returns
returns g c =
    let m = g.R.Keyed in
    let laws = g.met.R.Keyed in
    let ps = c.args.self.now.places.now in
    let i = c.in_ok-i.i in
    let at = place_at m.key m.same c.key_of.result ps c.place_for.result c.place_for.ensures i (c.ok_or.ensures.ok_part ∙ ap result_ok c.in_ok-i.was) _ c.key_of.ensures in
    puts m.key m.same (equivalence m.same laws.reflexive laws.symmetric laws.transitive) ps c.args.self.now.apart c.args.new i at
