-- What the delivered banks mean, number by number.
-- Assumes nothing.
use Rattle.std.specs.Prelude.{zero, suc, Some, None}
use Rattle.banks.specs.Ciphers.{Ciphers}
use Rattle.banks.specs.Mea1.{mea1}
use Rattle.banks.specs.Mia1.{mia1}
use Rattle.banks.specs.Tags.{Tags}

-- cipher 0 leaves the octets, cipher 1 is MEA-1, and there is no other
abbrev pub delivered_ciphers : Ciphers
delivered_ciphers zero = Some (λ key iv xs. xs)
delivered_ciphers (suc zero) = Some mea1
delivered_ciphers (suc (suc n)) = None

-- tag 1 is MIA-1, and there is no other
abbrev pub delivered_tags : Tags
delivered_tags zero = None
delivered_tags (suc zero) = Some mia1
delivered_tags (suc (suc n)) = None
