use Rattle.std.proofs.Common.{length, vec_items}
use Rattle.words.proofs.Pairs.{Paired}
use Rattle.words.proofs.numbers.octets.Given as goal

abbrev pub invariant-loop-left : goal.invariant-loop-left
invariant-loop-left l = Paired l.fn.word l.left (vec_items l.read)

abbrev pub decreases-loop-left : goal.decreases-loop-left
decreases-loop-left l = length l.left
