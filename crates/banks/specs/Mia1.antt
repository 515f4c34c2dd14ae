-- MIA-1: ISO/IEC 9797-1 MAC algorithm 1 with padding method 2, over AES-128, cut to four octets.
-- Assumes nothing.
use Rattle.std.specs.Prelude.{◌≡◌, ℕ, zero, suc, ◌+◌, ◌-◌, ◌*◌, ◌/◌, ◌%◌, ◌<◌, ◌≤◌, List, [], ◌∷◌, ◌++◌, map, length, take, drop, replicate, bit_xor, slice_index}
use Rattle.std.specs.List.{range_with_len}
use Rattle.octets.specs.Numbers.{number}
use Rattle.aes.specs.Cipher.{aes128}
use Rattle.keys.specs.declared.Key.{Key}
use Rattle.banks.specs.Ciphers.{only}
use Rattle.keys.specs.Keys.{key_octets}
use Rattle.banks.specs.Tags.{Tags}

-- how many blocks n octets make
abbrev pub mac_blocks : ℕ → ℕ
mac_blocks n = n / 16 + 1

-- padding method 2: the octets, then 0x80, then zeros to a multiple of 16
unfoldable pub padded : List ℕ → List ℕ
padded xs = xs ++ 0x80 ∷ replicate (15 - length xs % 16) 0

-- that multiple is the least above the length
pub record Padding : Type 0 where
  pub multiple : (xs : List ℕ) → length (padded xs) ≡ 16 * mac_blocks (length xs)
  pub above : (n : ℕ) → n < 16 * mac_blocks n
  pub least : (n m : ℕ) → n < 16 * m → mac_blocks n ≤ m

-- the first n blocks
unfoldable pub blocks : ℕ → List ℕ → List (List ℕ)
blocks zero xs = []
blocks (suc n) xs = take 16 xs ∷ blocks n (drop 16 xs)

-- the sum of two blocks
abbrev pub xor_blocks : List ℕ → List ℕ → List ℕ
xor_blocks xs ys = map (λ j. bit_xor (slice_index xs j) (slice_index ys j)) (range_with_len 0 16)

-- the chain under a block cipher: each block is added to the value before it, and enciphered
unfoldable pub chain : (List ℕ → List ℕ) → List ℕ → List (List ℕ) → List ℕ
chain e h [] = h
chain e h (b ∷ bs) = chain e (e (xor_blocks h b)) bs

-- the value of the chain after all blocks of the padded octets, from zero
unfoldable pub mac : (List ℕ → List ℕ) → List ℕ → List ℕ
mac e xs = chain e (replicate 16 0) (blocks (mac_blocks (length xs)) (padded xs))

-- the tag: its first four octets, as a number
unfoldable pub mia1 : Key → List ℕ → ℕ
mia1 key xs = number (take 4 (mac (aes128 (key_octets key)) xs))

-- MIA-1 is tag number 1
abbrev pub mia1_tag : Tags
mia1_tag = only 1 mia1
