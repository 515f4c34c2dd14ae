-- Numbers as octets, most significant octet first.
use Rattle.std.specs.Prelude.{◌≡◌, ℕ, zero, suc, ◌+◌, ◌*◌, ◌/◌, ◌%◌, ◌^◌, ◌<◌, List, [], ◌∷◌, length}
use Rattle.std.specs.List.{AllByRecursion}

-- each is an octet: a number below 256
abbrev pub Octets : List ℕ → Type 0
Octets xs = AllByRecursion (λ x. x < 256) xs

-- the w octets of a number: at the front the one that counts 256 to the power w - 1
unfoldable pub octets_of : ℕ → ℕ → List ℕ
octets_of zero n = []
octets_of (suc w) n = (n / 256 ^ w % 256) ∷ octets_of w n

-- the number that octets are
unfoldable pub number : List ℕ → ℕ
number [] = 0
number (x ∷ xs) = x * 256 ^ length xs + number xs

-- Octets and numbers of one width stand for each other.
pub record StandForEachOther : Type 0 where
  -- the octets of a number are as many as asked for, and each is an octet
  pub width : (w n : ℕ) → length (octets_of w n) ≡ w
  pub octets : (w n : ℕ) → Octets (octets_of w n)
  -- a number that fits w octets is the number of its w octets
  pub back : (w n : ℕ) → n < 256 ^ w → number (octets_of w n) ≡ n
  -- octets are the octets of their number, which fits them
  pub fits : (xs : List ℕ) → Octets xs → number xs < 256 ^ length xs
  pub again : (xs : List ℕ) → Octets xs → octets_of (length xs) (number xs) ≡ xs

abbrev pub OctetsAndNumbers : Type 0
OctetsAndNumbers = StandForEachOther
