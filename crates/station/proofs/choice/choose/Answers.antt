use Rattle.std.proofs.Common.{◌≡◌, sym, ap, ◌∙◌, subst}
use Rattle.station.specs.Choice.{chosen_for, Chosen, Anywhere}
use Rattle.station.proofs.Preferences.{chosen_law, chosen_anywhere}
use Rattle.station.proofs.choice.choose.Goals as goal

pub returns : goal.returns
returns c =
    let r = c.args.reading in
    let own = c.args.own in
    let network = c.args.network in
    let places = c.args.registers.now.associations.places.now in
    let apart = c.args.registers.now.associations.apart in
    let is : c.best_of.result ≡ chosen_for r own network places = c.best_of.ensures ∙ ap (chosen_for r own network) c.places.ensures in
    record {
      value = is;
      law = subst (Chosen r own network places) (sym is) (chosen_law r own network places apart);
      anywhere = subst (Anywhere r own network places) (sym is) (chosen_anywhere r own network places apart);
    }
