use Rattle.std.proofs.Common.{◌≡◌, ◌+◌, ◌%◌, ◌^◌, take, sum}
use Rattle.banks.proofs.tag.add_up.Given as goal

abbrev pub invariant-loop-octet : goal.invariant-loop-octet
invariant-loop-octet l = l.total ≡ (l.start + sum (take l.octet-index l.octets)) % 2 ^ 32
