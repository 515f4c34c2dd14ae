-- MEA-1 keeps the length, gives octets, and undoes itself.
-- Assumes nothing.
use Rattle.std.specs.Prelude.{◌≡◌, ℕ, zero, suc, ◌/◌, ◌%◌, ◌<◌, List, [], ◌∷◌, map, length, bit_xor, slice_index, refl}
use Rattle.std.proofs.Math.Path.{sym}
use Rattle.std.proofs.Common.{ap, ◌∙◌, zero-add, arith}
use Rattle.std.proofs.lemmas.Nat.{xor_lt}
use Rattle.std.specs.Int.Bits.{xor_assoc, xor_self, xor_zero_r}
use Rattle.std.proofs.lemmas.List.FromFn.{length-map-range_with_len, get_or-map-range_with_len, fill_by_all}
use Rattle.std.proofs.ByRecursion.{All-from_get_or}
use Rattle.std.proofs.lemmas.List.{length-map}
use Rattle.octets.specs.Numbers.{Octets}
use Rattle.aes.specs.Cipher.{aes128}
use Rattle.aes.proofs.Bounds.{octets_aes128, length_aes128}
use Rattle.keys.specs.declared.Iv.{Iv}
use Rattle.keys.specs.declared.Key.{Key}
use Rattle.banks.specs.Ciphers.{Involution, first_octet}
use Rattle.keys.specs.Keys.{key_octets}
use Rattle.banks.specs.Mea1.{counter_block, output_block, stream, mea1}
use Rattle.keys.specs.KeyOctets.{key_small}

pub octet_at : (xs : List ℕ) → Octets xs → (i : ℕ) → slice_index xs i < 256
octet_at [] o i = omega arith
octet_at (x ∷ xs) o zero = o.0
octet_at (x ∷ xs) o (suc i) = octet_at xs o.1 i

-- what is added twice is gone
pub xor_back : (x y : ℕ) → bit_xor (bit_xor x y) y ≡ x
xor_back x y = xor_assoc x y y ∙ ap (bit_xor x) (xor_self y) ∙ xor_zero_r x

pub enciphered_small : (key : Key) (block : List ℕ) → Octets (aes128 (key_octets key) block)
enciphered_small key block = octets_aes128 (key_octets key) (octet_at (key_octets key) (key_small key)) block

pub length_output : (key : Key) (iv : Iv) (i : ℕ) → length (output_block key iv i) ≡ 16
unfolding output_block
length_output key iv i = length_aes128 (key_octets key) (counter_block iv i)

module _ (key : Key) (iv : Iv) where
  stream_small : (j : ℕ) → stream key iv j < 256
  unfolding stream output_block
  stream_small j = octet_at (output_block key iv (j / 16)) (enciphered_small key (counter_block iv (j / 16))) (j % 16)

  length_mea1 : (xs : List ℕ) → length (mea1 key iv xs) ≡ length xs
  unfolding mea1
  length_mea1 xs = length-map-range_with_len _ 0 (length xs)

  index_mea1 : (xs : List ℕ) (k : ℕ) → k < length xs → slice_index (mea1 key iv xs) k ≡ bit_xor (slice_index xs k) (stream key iv k)
  unfolding mea1
  index_mea1 xs k h = get_or-map-range_with_len _ 0 (length xs) k k 0 h (zero-add k)

  mea1_octets : (xs : List ℕ) → Octets xs → Octets (mea1 key iv xs)
  mea1_octets xs o =
      All-from_get_or (λ x. x < 256) (mea1 key iv xs) 0
      (λ k h. rw (index_mea1 xs k (omega (arith, length_mea1 xs))) (xor_lt 8 (slice_index xs k) (stream key iv k) (octet_at xs o k) (stream_small k)))

  mea1_twice : (xs : List ℕ) → mea1 key iv (mea1 key iv xs) ≡ xs
  unfolding mea1
  mea1_twice xs =
      let ys = mea1 key iv xs in
      sym (fill_by_all (λ (j : ℕ). bit_xor (slice_index ys j) (stream key iv j)) xs (length ys) 0 (sym (length_mea1 xs))
      (λ k h.
      let l : k < length xs = omega (arith, length_mea1 xs) in
      sym (ap (λ (v : ℕ). bit_xor v (stream key iv k)) (index_mea1 xs k l) ∙ xor_back (slice_index xs k) (stream key iv k))))

pub mea1_involution : Involution mea1
mea1_involution =
    record {
      keeps = λ key iv xs. length_mea1 key iv xs;
      octets = λ key iv xs o. mea1_octets key iv xs o;
      back = λ key iv xs o. mea1_twice key iv xs;
    }

-- one octet added to each does the same
module _ (y : ℕ) where
  each_octets : (xs : List ℕ) → y < 256 → Octets xs → Octets (map (λ x. bit_xor x y) xs)
  each_octets [] h o = tt
  each_octets (x ∷ xs) h o = (xor_lt 8 x y o.0 h, each_octets xs h o.1)

  each_twice : (xs : List ℕ) → map (λ x. bit_xor x y) (map (λ x. bit_xor x y) xs) ≡ xs
  each_twice [] = refl
  each_twice (x ∷ xs) = λ i. xor_back x y i ∷ each_twice xs i

pub test_involution : Involution (λ key iv xs. map (λ x. bit_xor x (first_octet key)) xs)
test_involution =
    record {
      keeps = λ key iv xs. length-map xs (λ x. bit_xor x (first_octet key));
      octets = λ key iv xs. each_octets (first_octet key) xs (octet_at (key_octets key) (key_small key) 0);
      back = λ key iv xs o. each_twice (first_octet key) xs;
    }
