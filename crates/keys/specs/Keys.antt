-- A key and an IV as sixteen octets.
-- Assumes nothing.
use Rattle.std.specs.Prelude.{◌≡◌, ℕ, List, ◌++◌, take, drop}
use Rattle.octets.specs.Numbers.{octets_of, number}
use Rattle.keys.specs.declared.Key.{Key}
use Rattle.keys.specs.declared.Iv.{Iv}

-- the octets of a key: eight of its high number, then eight of its low one
abbrev pub key_octets : Key → List ℕ
key_octets k = octets_of 8 k.high ++ octets_of 8 k.low

-- the key of sixteen octets
abbrev pub key_of : List ℕ → Key
key_of xs = record { high = number (take 8 xs); low = number (drop 8 xs) }

-- the octets of an IV, which is one number
abbrev pub iv_octets : Iv → List ℕ
iv_octets iv = octets_of 16 iv.counter

-- the IV of sixteen octets
abbrev pub iv_of : List ℕ → Iv
iv_of xs = record { counter = number xs }

-- a key and sixteen octets stand for each other
pub record IsKeyOf (key : Key) (octets : List ℕ) : Type 0 where
  -- the octets are the key's
  pub octets_are : octets ≡ key_octets key
  -- the key is that of the octets
  pub key_is : key ≡ key_of octets

-- an IV and sixteen octets stand for each other
pub record IsIvOf (iv : Iv) (octets : List ℕ) : Type 0 where
  -- the octets are the IV's
  pub octets_are : octets ≡ iv_octets iv
  -- the IV is that of the octets
  pub iv_is : iv ≡ iv_of octets
