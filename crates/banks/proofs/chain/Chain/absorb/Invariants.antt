use Rattle.std.proofs.Common.{◌≡◌, take, fold}
use Rattle.aes.specs.Cipher.{cipher}
use Rattle.banks.specs.Running.{absorbed}
use Rattle.banks.proofs.chain.Chain.absorb.Given as goal

abbrev pub invariant-loop-octet : goal.invariant-loop-octet
invariant-loop-octet l = l.self ≡ fold (absorbed (cipher l.keys.rounds)) l.initial.self (take l.octet-index l.octets)
