-- The S-box (FIPS 197, section 5.1.1): the inverse of an octet, then the affine map over its bits.
-- Assumes nothing.
use Rattle.std.specs.Prelude.{◌≡◌, ℕ, zero, suc, ◌+◌, ◌*◌, ◌/◌, ◌%◌, ◌^◌}
use Rattle.aes.specs.Field.{power, Inverse}

-- bit i of an octet, its places counted round from 0 to 7
unfoldable pub bit : ℕ → ℕ → ℕ
bit b i = b / 2 ^ (i % 8) % 2

-- bit i of the affine map: b_i + b_(i+4) + b_(i+5) + b_(i+6) + b_(i+7) + c_i modulo 2, with c = 0x63
unfoldable pub affine_bit : ℕ → ℕ → ℕ
affine_bit b i = (bit b i + bit b (i + 4) + bit b (i + 5) + bit b (i + 6) + bit b (i + 7) + bit 0x63 i) % 2

-- the n lowest bits of the affine map, as a number
unfoldable pub affine_bits : ℕ → ℕ → ℕ
affine_bits zero b = 0
affine_bits (suc n) b = affine_bits n b + affine_bit b n * 2 ^ n

-- the affine map
unfoldable pub affine : ℕ → ℕ
affine b = affine_bits 8 b

-- the inverse as a function: b to the power 254, since b to the power 255 is 1 for each b but 0
unfoldable pub inverse : ℕ → ℕ
inverse b = power b 254

-- the S-box
unfoldable pub sbox : ℕ → ℕ
sbox b = affine (inverse b)

-- r stands in the S-box at b by its rule: it is the affine map of the inverse of b
pub record Substitutes (b r : ℕ) : Type 0 where
  pub inverted : ℕ
  pub is_inverse : Inverse b inverted
  pub is_image : r ≡ affine inverted
