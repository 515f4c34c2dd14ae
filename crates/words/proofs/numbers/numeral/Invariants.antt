use Rattle.words.proofs.Numerals.{Reads}
use Rattle.words.proofs.numbers.numeral.Given as goal

abbrev pub invariant-loop-octet : goal.invariant-loop-octet
invariant-loop-octet l = Reads l.base l.limit l.digits l.octet-index l.value
