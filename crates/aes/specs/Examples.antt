-- Examples of FIPS 197: words of an expanded key (appendix A.1) and two enciphered blocks (appendices B and C.1).
-- Assumes nothing.
use Rattle.std.specs.Prelude.{◌≡◌, ℕ, List}
use Rattle.octets.specs.Numbers.{octets_of}
use Rattle.aes.specs.Cipher.{aes128}
use Rattle.aes.specs.Keys.{word}
use Rattle.aes.specs.State.{Word, word_at}

abbrev block : ℕ → List ℕ
block n = octets_of 16 n

abbrev the_word : ℕ → Word
the_word n = word_at (octets_of 4 n) 0

abbrev pub key : List ℕ
key = block 0x2b7e151628aed2a6abf7158809cf4f3c

pub record Examples : Type 0 where
  pub w4 : word key 4 ≡ the_word 0xa0fafe17
  pub w5 : word key 5 ≡ the_word 0x88542cb1
  pub w32 : word key 32 ≡ the_word 0xead27321
  pub w36 : word key 36 ≡ the_word 0xac7766f3
  pub w40 : word key 40 ≡ the_word 0xd014f9a8
  pub w43 : word key 43 ≡ the_word 0xb6630ca6
  pub appendix_b :
      aes128 key (block 0x3243f6a8885a308d313198a2e0370734) ≡ block 0x3925841d02dc09fbdc118597196a0b32
  pub appendix_c :
      aes128 (block 0x000102030405060708090a0b0c0d0e0f) (block 0x00112233445566778899aabbccddeeff)
      ≡ block 0x69c4e0d86a7b0430d8cdb78070b4c55a
