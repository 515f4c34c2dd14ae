use Rattle.octets.proofs.Widths.{stand_for_each_other}
use Rattle.octets.proofs.octets_and_numbers.Goals as goal

pub returns : goal.returns
returns c = stand_for_each_other
