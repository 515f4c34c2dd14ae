-- The key expansion (FIPS 197, section 5.2): words w[0] to w[43] from a key of sixteen octets.
-- Assumes nothing.
use Rattle.std.specs.Prelude.{ℕ, zero, suc, ◌-◌, ◌/◌, ◌%◌, cond, List, ◌==◌}
use Rattle.aes.specs.Field.{power}
use Rattle.aes.specs.State.{Word, turn_row, sub_row, add_row, word_at}

-- RotWord: the octets one place to the left, round the word
abbrev pub rot_word : Word → Word
rot_word = turn_row

-- SubWord: each octet through the S-box
abbrev pub sub_word : Word → Word
sub_word = sub_row

-- the sum of two words
abbrev pub add_word : Word → Word → Word
add_word = add_row

-- Rcon[j]: x to the power j - 1, then zeros
abbrev pub rcon : ℕ → Word
rcon j = record { c0 = power 2 (j - 1); c1 = 0; c2 = 0; c3 = 0 }

-- what is added to w[i - 4] to make w[i]: w[i - 1], at each fourth word rotated, substituted and with the round constant
unfoldable pub temp : ℕ → Word → Word
temp i w = cond (i % 4 == 0) (add_word (sub_word (rot_word w)) (rcon (i / 4))) w

-- w[i]
unfoldable pub word : List ℕ → ℕ → Word
word key zero = word_at key 0
word key (suc zero) = word_at key 1
word key (suc (suc zero)) = word_at key 2
word key (suc (suc (suc zero))) = word_at key 3
word key (suc (suc (suc (suc i)))) =
    add_word (word key i) (temp (suc (suc (suc (suc i)))) (word key (suc (suc (suc i)))))
