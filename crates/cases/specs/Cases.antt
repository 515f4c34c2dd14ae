-- What the worked cases start from.
use Rattle.std.specs.Prelude.{ℕ, List, [], ◌∷◌}
use Rattle.keys.specs.declared.Key.{Key}
use Rattle.rules.specs.declared.component.ComponentId.{ComponentId}
use Rattle.rules.specs.declared.profile.ProfileLine.{ProfileLine}

abbrev pub component : ℕ → ℕ → ComponentId
component kind code = record { kind = kind; code = code }

-- listed: (1,37), (1,56) and (2,56)
abbrev pub listed : List ComponentId
listed = component 1 37 ∷ component 1 56 ∷ component 2 56 ∷ []

-- PPI 7: code 37 has level 1, code 56 level 3
abbrev pub profile : List ProfileLine
profile = record { ppi = 7; code = 37; level = 1 } ∷ record { ppi = 7; code = 56; level = 3 } ∷ []

-- the key 00 11 22 33 and so on to ff
abbrev pub key : Key
key = record { high = 0x0011223344556677; low = 0x8899aabbccddeeff }
