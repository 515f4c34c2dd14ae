-- Octets as they are written.
-- Assumes nothing.
use Rattle.std.specs.Prelude.{ℕ, List, [], ◌∷◌}
use Rattle.hex.specs.Hex.{encode_lower}

-- two digits for each octet, and a dash for none
abbrev pub hex_of : List ℕ → List ℕ
hex_of [] = 45 ∷ []
hex_of (x ∷ xs) = encode_lower (x ∷ xs)
