-- MEA-1: AES-128 in counter mode (SP 800-38A, section 6.5), the IV the first counter block.
-- Assumes nothing.
use Rattle.std.specs.Prelude.{ℕ, ◌+◌, ◌/◌, ◌%◌, ◌^◌, List, map, length, bit_xor, slice_index}
use Rattle.std.specs.List.{range_with_len}
use Rattle.octets.specs.Numbers.{octets_of}
use Rattle.aes.specs.Cipher.{aes128}
use Rattle.keys.specs.declared.Iv.{Iv}
use Rattle.keys.specs.declared.Key.{Key}
use Rattle.banks.specs.Ciphers.{Ciphers, only}
use Rattle.keys.specs.Keys.{key_octets}

-- counter block i: the IV plus i, modulo 2^128
unfoldable pub counter_block : Iv → ℕ → List ℕ
counter_block iv i = octets_of 16 ((iv.counter + i) % 2 ^ 128)

-- output block i
unfoldable pub output_block : Key → Iv → ℕ → List ℕ
output_block key iv i = aes128 (key_octets key) (counter_block iv i)

-- octet j of the key stream: octet j % 16 of output block j / 16
unfoldable pub stream : Key → Iv → ℕ → ℕ
stream key iv j = slice_index (output_block key iv (j / 16)) (j % 16)

-- each octet plus the stream's
unfoldable pub mea1 : Key → Iv → List ℕ → List ℕ
mea1 key iv xs = map (λ j. bit_xor (slice_index xs j) (stream key iv j)) (range_with_len 0 (length xs))

-- MEA-1 is cipher number 1
abbrev pub mea1_cipher : Ciphers
mea1_cipher = only 1 mea1
