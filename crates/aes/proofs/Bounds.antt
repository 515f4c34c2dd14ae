-- A block enciphered under a key of octets is sixteen octets.
-- Assumes nothing.
use Rattle.std.proofs.Common.{◌≡◌, ℕ, zero, suc, ◌+◌, ◌-◌, ◌*◌, ◌/◌, ◌%◌, ◌<◌, true, false, cond, eqb, ltb, List, length, get_or, refl, arith, rules, ltb→lt}
use lib.Bits.{bit_xor, xor_lt}
use Rattle.octets.specs.Numbers.{Octets}
use Rattle.aes.specs.declared.state.Row.{Row}
use Rattle.aes.specs.Cipher.{schedule, last_round, cipher, aes128}
use Rattle.aes.specs.Field.{xtime, times_bits, times, power}
use Rattle.aes.specs.Keys.{rot_word, sub_word, add_word, rcon, temp, word}
use Rattle.aes.specs.Sbox.{affine_bit, affine_bits, affine, inverse, sbox}
use Rattle.aes.specs.State.{Word, row, word_at, columns, octets_of}
use Rattle.aes.proofs.Tests.{below}

affine_bit_small : (b i : ℕ) → affine_bit b i < 2
unfolding affine_bit
affine_bit_small b i = omega arith

pub sbox_small : (b : ℕ) → sbox b < 256
unfolding sbox affine affine_bits
sbox_small b =
    let bit = affine_bit_small (inverse b) in
    omega (arith, bit 0, bit 1, bit 2, bit 3, bit 4, bit 5, bit 6, bit 7)

double_small : (b : ℕ) → b < 256 → times 2 b < 256
unfolding times times_bits xtime
double_small b h = ltb→lt _ _ (below (λ k. ltb (times 2 k) 256) 256 tt b h)

power_small : (n : ℕ) → power 2 n < 256
unfolding power
power_small zero = omega arith
power_small (suc n) = double_small (power 2 n) (power_small n)

-- each octet of a word
record Small (w : Word) : Type 0 where
  s0 : w.c0 < 256
  s1 : w.c1 < 256
  s2 : w.c2 < 256
  s3 : w.c3 < 256

add_small : (v w : Word) → Small v → Small w → Small (add_word v w)
add_small v w p q = search (rules, xor_lt 8)

sub_small : (w : Word) → Small (sub_word w)
sub_small w = search (rules, sbox_small)

rcon_small : (j : ℕ) → Small (rcon j)
rcon_small j = search (rules, power_small)

temp_small : (i : ℕ) (w : Word) → Small w → Small (temp i w)
unfolding temp
temp_small i w p =
    elim (eqb (i % 4) 0) as (λ t. Small (cond t (add_word (sub_word (rot_word w)) (rcon (i / 4))) w)) [
      | true ↦ add_small (sub_word (rot_word w)) (rcon (i / 4)) (sub_small (rot_word w)) (rcon_small (i / 4))
      | false ↦ p
    ]

-- an octet of the last round: one of the S-box and one of a round key
one : (b k : ℕ) → k < 256 → bit_xor (sbox b) k < 256
one b k h = search (rules, xor_lt 8, sbox_small)

last_small : (s : List Row) (p q r t : Word) → Small p → Small q → Small r → Small t
    → Octets (octets_of (last_round (columns p q r t) s))
unfolding last_round
last_small s p q r t p' q' r' t' = search (rules, one)

module _ (key : List ℕ) (h : (i : ℕ) → get_or key i 0 < 256) where
  at_small : (i : ℕ) → Small (word_at key i)
  at_small i = search (rules, h)

  word_small : (i : ℕ) → Small (word key i)
  unfolding word
  word_small zero = at_small 0
  word_small (suc zero) = at_small 1
  word_small (suc (suc zero)) = at_small 2
  word_small (suc (suc (suc zero))) = at_small 3
  word_small (suc (suc (suc (suc i)))) =
      add_small (word key i) (temp (suc (suc (suc (suc i)))) (word key (suc (suc (suc i))))) (word_small i)
      (temp_small (suc (suc (suc (suc i)))) (word key (suc (suc (suc i)))) (word_small (suc (suc (suc i)))))

  pub octets_aes128 : (block : List ℕ) → Octets (aes128 key block)
  unfolding aes128 cipher schedule
  octets_aes128 block =
      last_small _ (word key 40) (word key 41) (word key 42) (word key 43) (word_small 40) (word_small 41)
      (word_small 42) (word_small 43)

pub length_cipher : (keys : List (List Row)) (block : List ℕ) → length (cipher keys block) ≡ 16
unfolding cipher
length_cipher keys block = refl

pub length_aes128 : (key block : List ℕ) → length (aes128 key block) ≡ 16
unfolding aes128
length_aes128 key block = length_cipher (schedule key) block
