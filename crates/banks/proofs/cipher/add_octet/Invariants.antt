use Rattle.std.proofs.Common.{◌≡◌, ◌++◌, map, take, drop}
use lib.Bits.{bit_xor}
use Rattle.banks.proofs.cipher.add_octet.Given as goal

abbrev pub invariant-loop-octet : goal.invariant-loop-octet
invariant-loop-octet l =
    l.octets ≡ map (λ x. bit_xor x l.other) (take l.octet-index l.initial.octets) ++ drop l.octet-index l.initial.octets
