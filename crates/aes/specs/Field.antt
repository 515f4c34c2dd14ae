-- The field of 2^8 elements (FIPS 197, section 4): an octet is a polynomial over bits, taken modulo x^8 + x^4 + x^3 + x + 1.
-- Assumes nothing.
use Rattle.std.specs.Prelude.{◌≡◌, ℕ, zero, suc, ◌*◌, ◌/◌, ◌%◌, ◌<◌, cond, ◌⊎◌, bit_xor, nat_lt}

-- x times an octet: the bits shifted, and the modulus added where one is carried out
unfoldable pub xtime : ℕ → ℕ
xtime b = cond (nat_lt b 128) (2 * b) (bit_xor (2 * b) 0x11b)

-- a times the n lowest bits of b
unfoldable pub times_bits : ℕ → ℕ → ℕ → ℕ
times_bits zero a b = 0
times_bits (suc n) a b = bit_xor ((b % 2) * a) (times_bits n (xtime a) (b / 2))

-- the product of two octets
unfoldable pub times : ℕ → ℕ → ℕ
times a b = times_bits 8 a b

-- a to the power n
unfoldable pub power : ℕ → ℕ → ℕ
power a zero = 1
power a (suc n) = times a (power a n)

-- i is the inverse of b: their product is 1, or both are 0
pub record Inverse (b i : ℕ) : Type 0 where
  pub octet : i < 256
  pub product : (b ≡ 0 × i ≡ 0) ⊎ (times b i ≡ 1)
