-- The examples of FIPS 197, computed. Four words in a row stand for the key expansion, so that none is computed twice.
-- Assumes nothing.
use Rattle.std.proofs.Common.{◌≡◌, ℕ, zero, suc, List, [], ◌∷◌, sym, refl, ap}
use Rattle.octets.specs.Numbers.{octets_of}
use Rattle.aes.specs.declared.state.Row.{Row}
use Rattle.aes.specs.Cipher.{schedule, round, last_round, rounds, cipher, aes128}
use Rattle.aes.specs.Examples.{Examples, key}
use Rattle.aes.specs.Field.{xtime, times_bits, times, power}
use Rattle.aes.specs.Keys.{add_word, temp, word}
use Rattle.aes.specs.Sbox.{bit, affine_bit, affine_bits, affine, inverse, sbox}
use Rattle.aes.specs.State.{Word, mixed, word_at, columns}

record Four : Type 0 where
  w0 : Word
  w1 : Word
  w2 : Word
  w3 : Word

-- the next word after four, which are w[n] to w[n + 3]
next : ℕ → Four → Four
next n f =
    record { w0 = f.w1; w1 = f.w2; w2 = f.w3; w3 = add_word f.w0 (temp (suc (suc (suc (suc n)))) f.w3) }

four : List ℕ → ℕ → Four
four k zero = record { w0 = word_at k 0; w1 = word_at k 1; w2 = word_at k 2; w3 = word_at k 3 }
four k (suc n) = next n (four k n)

words : List ℕ → ℕ → Four
words k n = record { w0 = word k n; w1 = word k (suc n); w2 = word k (suc (suc n)); w3 = word k (suc (suc (suc n))) }

four_is : (k : List ℕ) (n : ℕ) → four k n ≡ words k n
unfolding four words next word
four_is k zero = refl
four_is k (suc n) = ap (next n) (four_is k n)

-- a round's key, and the schedule, by these
turned : Four → List Row
turned f = columns f.w0 f.w1 f.w2 f.w3

shared : List ℕ → List (List Row)
shared k =
    turned (four k 0) ∷ turned (four k 4) ∷ turned (four k 8) ∷ turned (four k 12) ∷ turned (four k 16)
    ∷ turned (four k 20) ∷ turned (four k 24) ∷ turned (four k 28) ∷ turned (four k 32) ∷ turned (four k 36)
    ∷ turned (four k 40) ∷ []

shared_is : (k : List ℕ) → schedule k ≡ shared k
unfolding schedule shared turned words
shared_is k = sym (λ i.
    turned (four_is k 0 i) ∷ turned (four_is k 4 i) ∷ turned (four_is k 8 i) ∷ turned (four_is k 12 i)
    ∷ turned (four_is k 16 i) ∷ turned (four_is k 20 i) ∷ turned (four_is k 24 i) ∷ turned (four_is k 28 i)
    ∷ turned (four_is k 32 i) ∷ turned (four_is k 36 i) ∷ turned (four_is k 40 i) ∷ [])

first : (k : List ℕ) (n : ℕ) → word k n ≡ (four k n).w0
unfolding words
first k n = sym (ap (λ (f : Four). f.w0) (four_is k n))

block_is : (k b : List ℕ) → aes128 k b ≡ cipher (shared k) b
unfolding aes128
block_is k b = ap (λ (keys : List (List Row)). cipher keys b) (shared_is k)

pub examples : Examples
unfolding octets_of four next shared turned cipher rounds round last_round mixed temp sbox affine affine_bits affine_bit bit inverse power times times_bits xtime
examples =
    record {
      w4 = first key 4;
      w5 = first key 5;
      w32 = first key 32;
      w36 = first key 36;
      w40 = first key 40;
      w43 = first key 43;
      appendix_b = block_is key _;
      appendix_c = block_is _ _;
    }
