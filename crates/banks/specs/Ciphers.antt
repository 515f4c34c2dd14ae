-- What a bank of ciphers means: for each number nothing, or a function of key, IV and octets to octets.
-- Assumes nothing.
use Rattle.std.specs.Prelude.{◌≡◌, ℕ, ◌<◌, cond, List, map, length, IfSome, Some, None, Option, ◌==◌, bit_xor, slice_index}
use Rattle.octets.specs.Numbers.{Octets}
use Rattle.keys.specs.declared.Iv.{Iv}
use Rattle.keys.specs.declared.Key.{Key}
use Rattle.keys.specs.Keys.{key_octets}

-- what a cipher does
abbrev pub Cipher : Type 0
Cipher = Key → Iv → List ℕ → List ℕ

-- what a bank means
abbrev pub Ciphers : Type 0
Ciphers = ℕ → Option Cipher

-- the octets that a number leaves: its cipher's, or the octets as they were where it means nothing
abbrev pub applied : Option Cipher → Cipher
applied None key iv xs = xs
applied (Some f) key iv xs = f key iv xs

abbrev pub ciphered : Ciphers → ℕ → Cipher
ciphered m number = applied (m number)

-- a cipher keeps the length, gives octets for octets, and undoes itself
pub record Involution (f : Cipher) : Type 0 where
  pub keeps : (key : Key) (iv : Iv) (xs : List ℕ) → length (f key iv xs) ≡ length xs
  pub octets : (key : Key) (iv : Iv) (xs : List ℕ) → Octets xs → Octets (f key iv xs)
  pub back : (key : Key) (iv : Iv) (xs : List ℕ) → Octets xs → f key iv (f key iv xs) ≡ xs

-- the law of a bank: each number that means a cipher is below 16, and the cipher is such a one
abbrev pub Lawful : Ciphers → Type 0
Lawful m = (number : ℕ) → IfSome (m number) (λ f. (number < 16) × Involution f)

-- one number means what is given, and no other means anything
abbrev pub only : {F : Type 0} → ℕ → F → ℕ → Option F
only k f number = cond (number == k) (Some f) None

-- the first's meaning, or else the second's
abbrev pub or_else : {F : Type 0} → Option F → Option F → Option F
or_else None o = o
or_else (Some f) o = Some f

abbrev pub either : {F : Type 0} → (ℕ → Option F) → (ℕ → Option F) → ℕ → Option F
either m k number = or_else (m number) (k number)

-- the null cipher, number 0
abbrev pub unchanged : Cipher
unchanged key iv xs = xs

abbrev pub null_cipher : Ciphers
null_cipher = only 0 unchanged

-- the test cipher, number 15: each octet exclusive-or the key's first
abbrev pub first_octet : Key → ℕ
first_octet key = slice_index (key_octets key) 0

abbrev pub first_octet_added : Cipher
first_octet_added key iv xs = map (λ x. bit_xor x (first_octet key)) xs

abbrev pub test_cipher : Ciphers
test_cipher = only 15 first_octet_added
