use Rattle.std.proofs.Common.{◌≡◌, ◌≤◌, IfOk, sym, subst, rules}
use Rattle.words.specs.Reading.{number_at}
use Rattle.words.proofs.Readings.{number_at_low}
use Rattle.words.proofs.line.Line.number_up_to.Goals as goal

pub returns-clause-bound : goal.returns-clause-bound
unfolding number_at
returns-clause-bound c =
    let value : c.ok_or.result ≡ number_at c.args.limit c.args.place c.args.self.now.octets.now = search rules in
    subst (λ r. IfOk r (λ n. n ≤ c.args.limit)) (sym value) (number_at_low c.args.limit c.args.place c.args.self.now.octets.now)
