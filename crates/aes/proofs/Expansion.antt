-- The words of the key expansion, as the code makes them.
-- Assumes nothing.
use Rattle.std.proofs.Common.{◌≡◌, ℕ, zero, suc, ◌-◌, ◌/◌, ◌%◌, ◌<◌, ◌≤◌, List, [], ◌∷◌, map, get_or, refl, arith}
use Rattle.std.proofs.lemmas.Bool.{ne_eqb}
use Rattle.std.specs.List.{range_with_len}
use Rattle.aes.specs.Cipher.{words_key, schedule}
use Rattle.aes.specs.Field.{xtime, times_bits, times, power}
use Rattle.aes.specs.Keys.{rot_word, sub_word, add_word, rcon, temp, word}
use Rattle.aes.specs.State.{Word, word_at}
use Rattle.aes.proofs.Tests.{table_is}

-- the round constants are the powers of x
abbrev constants : List ℕ
constants = 0x01 ∷ 0x02 ∷ 0x04 ∷ 0x08 ∷ 0x10 ∷ 0x20 ∷ 0x40 ∷ 0x80 ∷ 0x1b ∷ 0x36 ∷ []

pub rcon_is : (k : ℕ) → k < 10 → get_or constants k 0 ≡ power 2 k
unfolding power times times_bits xtime
rcon_is = table_is (power 2) constants 10 tt

pub temp_fourth : (i : ℕ) (w : Word) → i % 4 ≡ 0 → temp i w ≡ add_word (sub_word (rot_word w)) (rcon (i / 4))
unfolding temp
temp_fourth i w h = rw h refl

pub temp_other : (i : ℕ) (w : Word) → (i % 4 ≡ 0 → ⊥) → temp i w ≡ w
unfolding temp
temp_other i w h = rw (ne_eqb (i % 4) 0 h) refl

pub word_first : (key : List ℕ) (i : ℕ) → i < 4 → word_at key i ≡ word key i
unfolding word
word_first key zero h = refl
word_first key (suc zero) h = refl
word_first key (suc (suc zero)) h = refl
word_first key (suc (suc (suc zero))) h = refl
word_first key (suc (suc (suc (suc i)))) h = absurd (omega arith)

word_from : (key : List ℕ) (i j p : ℕ) → i ≡ suc (suc (suc (suc j))) → p ≡ suc (suc (suc j))
    → word key i ≡ add_word (word key j) (temp i (word key p))
unfolding word
word_from key i j p e d = rw (e, d) refl

pub word_next : (key : List ℕ) (i : ℕ) → 4 ≤ i → word key i ≡ add_word (word key (i - 4)) (temp i (word key (i - 1)))
word_next key i h = word_from key i (i - 4) (i - 1) (omega arith) (omega arith)

-- the round keys cut from the words are the schedule
pub keys_are : (key : List ℕ) (w : List Word) → w ≡ map (word key) (range_with_len 0 44)
    → words_key w 0 ∷ words_key w 1 ∷ words_key w 2 ∷ words_key w 3 ∷ words_key w 4 ∷ words_key w 5 ∷ words_key w 6
    ∷ words_key w 7 ∷ words_key w 8 ∷ words_key w 9 ∷ words_key w 10 ∷ []
    ≡ schedule key
unfolding words_key schedule
keys_are key w e = rw e refl
