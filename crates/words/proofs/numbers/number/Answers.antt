use Rattle.std.proofs.Common.{◌≡◌, ◌∙◌, rules}
use Rattle.words.specs.Numbers.{number}
use Rattle.words.proofs.Decimal.{reads_back}
use Rattle.words.proofs.numbers.number.Goals as goal

pub returns-in-Some-clause-reads_back : goal.returns-in-Some-clause-reads_back
unfolding number
returns-in-Some-clause-reads_back c =
    let value : c.numeral.result ≡ number c.args.limit c.args.word.now = search rules in
    λ n low is. value ∙ reads_back c.args.limit n c.args.word.now c.ranges.limit.fits low is

pub returns-in-None-clause-reads_back : goal.returns-in-None-clause-reads_back
unfolding number
returns-in-None-clause-reads_back c =
    let value : c.numeral-in-None.result ≡ number c.args.limit c.args.word.now = search rules in
    λ n low is. value ∙ reads_back c.args.limit n c.args.word.now c.ranges.limit.fits low is
