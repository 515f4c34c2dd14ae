-- A new output that a call was lent.
use Rattle.std.proofs.Common.{◌≡◌, ℕ, List, ◌++◌, length, take, drop}
use Rattle.std.proofs.lemmas.List.{take_at}

-- what a vector holds once its octets were lent and came back as many
pub lent_back : (octets held : List ℕ) (n : ℕ) → length octets ≡ n → take n (octets ++ drop (length octets) held) ≡ octets
lent_back octets held n e = take_at octets (drop (length octets) held) n e
