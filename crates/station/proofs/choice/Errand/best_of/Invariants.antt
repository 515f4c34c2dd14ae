use Rattle.std.proofs.Common.{◌≡◌, drop}
use Rattle.station.specs.Choice.{best_from, candidate, preferred, chosen_for}
use Rattle.station.proofs.choice.Errand.best_of.Given as goal

abbrev pub invariant-loop-place : goal.invariant-loop-place
invariant-loop-place l =
    chosen_for l.self.reading l.self.own l.self.network l.places
    ≡ best_from (candidate l.self.reading l.self.own l.self.network) (preferred l.self.reading) l.best (drop l.place-index l.places)
