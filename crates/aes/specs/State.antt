-- The state and its transformations (FIPS 197, sections 3.4 and 5.1): four rows of four octets.
-- Assumes nothing.
use Rattle.std.specs.Prelude.{ℕ, ◌+◌, ◌*◌, List, [], ◌∷◌, bit_xor, slice_index, slice_index_or}
use Rattle.aes.specs.declared.state.Row.{Row}
use Rattle.aes.specs.Field.{times}
use Rattle.aes.specs.Sbox.{sbox}

-- a word is four octets too, those of a column
abbrev pub Word : Type 0
Word = Row

abbrev pub blank_row : Row
blank_row = record { c0 = 0; c1 = 0; c2 = 0; c3 = 0 }

-- the octets of a row, or of a word, in their order
abbrev pub row_octets : Row → List ℕ
row_octets p = p.c0 ∷ p.c1 ∷ p.c2 ∷ p.c3 ∷ []

-- row r of a state
abbrev pub row : List Row → ℕ → Row
row s r = slice_index_or s r blank_row

-- SubBytes: each octet through the S-box
abbrev pub sub_row : Row → Row
sub_row p = record { c0 = sbox p.c0; c1 = sbox p.c1; c2 = sbox p.c2; c3 = sbox p.c3 }

abbrev pub sub_bytes : List Row → List Row
sub_bytes s = sub_row (row s 0) ∷ sub_row (row s 1) ∷ sub_row (row s 2) ∷ sub_row (row s 3) ∷ []

-- ShiftRows: row r goes r places to the left, round the row
abbrev pub turn_row : Row → Row
turn_row p = record { c0 = p.c1; c1 = p.c2; c2 = p.c3; c3 = p.c0 }

abbrev pub shift_rows : List Row → List Row
shift_rows s =
    row s 0
    ∷ turn_row (row s 1)
    ∷ turn_row (turn_row (row s 2))
    ∷ turn_row (turn_row (turn_row (row s 3)))
    ∷ []

-- 2 p + 3 q + r + s in the field
unfoldable pub mixed : ℕ → ℕ → ℕ → ℕ → ℕ
mixed p q r s = bit_xor (bit_xor (bit_xor (times 2 p) (times 3 q)) r) s

abbrev pub mix_row : Row → Row → Row → Row → Row
mix_row p q r s =
    record {
      c0 = mixed p.c0 q.c0 r.c0 s.c0;
      c1 = mixed p.c1 q.c1 r.c1 s.c1;
      c2 = mixed p.c2 q.c2 r.c2 s.c2;
      c3 = mixed p.c3 q.c3 r.c3 s.c3;
    }

-- MixColumns: each column times the matrix whose rows are 2 3 1 1, 1 2 3 1, 1 1 2 3 and 3 1 1 2
abbrev pub mix_columns : List Row → List Row
mix_columns s =
    mix_row (row s 0) (row s 1) (row s 2) (row s 3)
    ∷ mix_row (row s 1) (row s 2) (row s 3) (row s 0)
    ∷ mix_row (row s 2) (row s 3) (row s 0) (row s 1)
    ∷ mix_row (row s 3) (row s 0) (row s 1) (row s 2)
    ∷ []

-- AddRoundKey: each octet plus the round key's
abbrev pub add_row : Row → Row → Row
add_row p q =
    record {
      c0 = bit_xor p.c0 q.c0;
      c1 = bit_xor p.c1 q.c1;
      c2 = bit_xor p.c2 q.c2;
      c3 = bit_xor p.c3 q.c3;
    }

abbrev pub add_round_key : List Row → List Row → List Row
add_round_key s k =
    add_row (row s 0) (row k 0)
    ∷ add_row (row s 1) (row k 1)
    ∷ add_row (row s 2) (row k 2)
    ∷ add_row (row s 3) (row k 3)
    ∷ []

-- word i of sixteen octets: four of them, from octet 4 i on
abbrev pub word_at : List ℕ → ℕ → Word
word_at xs i =
    record {
      c0 = slice_index xs (4 * i);
      c1 = slice_index xs (4 * i + 1);
      c2 = slice_index xs (4 * i + 2);
      c3 = slice_index xs (4 * i + 3);
    }

-- the state whose columns are four words
abbrev pub columns : Word → Word → Word → Word → List Row
columns p q r s =
    record { c0 = p.c0; c1 = q.c0; c2 = r.c0; c3 = s.c0 }
    ∷ record { c0 = p.c1; c1 = q.c1; c2 = r.c1; c3 = s.c1 }
    ∷ record { c0 = p.c2; c1 = q.c2; c2 = r.c2; c3 = s.c2 }
    ∷ record { c0 = p.c3; c1 = q.c3; c2 = r.c3; c3 = s.c3 }
    ∷ []

-- the state of sixteen octets: octet r + 4 c in row r and column c
abbrev pub state_of : List ℕ → List Row
state_of xs = columns (word_at xs 0) (word_at xs 1) (word_at xs 2) (word_at xs 3)

-- the sixteen octets of a state, column by column
abbrev pub octets_of : List Row → List ℕ
octets_of s =
    (row s 0).c0 ∷ (row s 1).c0 ∷ (row s 2).c0 ∷ (row s 3).c0 ∷ (row s 0).c1 ∷ (row s 1).c1 ∷ (row s 2).c1 ∷ (row s 3).c1
    ∷ (row s 0).c2 ∷ (row s 1).c2 ∷ (row s 2).c2 ∷ (row s 3).c2 ∷ (row s 0).c3 ∷ (row s 1).c3 ∷ (row s 2).c3 ∷ (row s 3).c3
    ∷ []
