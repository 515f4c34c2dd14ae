-- The cipher (FIPS 197, section 5.1): ten rounds, the last without MixColumns.
-- Assumes nothing.
use Rattle.std.specs.Prelude.{ℕ, zero, suc, ◌+◌, ◌*◌, List, [], ◌∷◌, slice_index_or}
use Rattle.aes.specs.declared.state.Row.{Row}
use Rattle.aes.specs.Keys.{word}
use Rattle.aes.specs.State.{
  Word,
  blank_row,
  sub_bytes,
  shift_rows,
  mix_columns,
  add_round_key,
  columns,
  state_of,
  octets_of,
}

-- the key of round n among the words w: w[4 n] to w[4 n + 3] as columns
unfoldable pub words_key : List Word → ℕ → List Row
words_key w n =
    columns (slice_index_or w (4 * n) blank_row) (slice_index_or w (4 * n + 1) blank_row) (slice_index_or w (4 * n + 2) blank_row)
    (slice_index_or w (4 * n + 3) blank_row)

-- the key of round n
abbrev pub round_key : List ℕ → ℕ → List Row
round_key key n = columns (word key (4 * n)) (word key (4 * n + 1)) (word key (4 * n + 2)) (word key (4 * n + 3))

-- the keys of the rounds 0 to 10
unfoldable pub schedule : List ℕ → List (List Row)
schedule key =
    round_key key 0 ∷ round_key key 1 ∷ round_key key 2 ∷ round_key key 3 ∷ round_key key 4 ∷ round_key key 5
    ∷ round_key key 6 ∷ round_key key 7 ∷ round_key key 8 ∷ round_key key 9 ∷ round_key key 10 ∷ []

-- a round with its key
unfoldable pub round : List Row → List Row → List Row
round k s = add_round_key (mix_columns (shift_rows (sub_bytes s))) k

unfoldable pub last_round : List Row → List Row → List Row
last_round k s = add_round_key (shift_rows (sub_bytes s)) k

-- the state s after the rounds 1 to n
unfoldable pub rounds : List (List Row) → List Row → ℕ → List Row
rounds keys s zero = s
rounds keys s (suc n) = round (slice_index_or keys (suc n) []) (rounds keys s n)

-- the octets of a block enciphered under eleven round keys
unfoldable pub cipher : List (List Row) → List ℕ → List ℕ
cipher keys block =
    octets_of (last_round (slice_index_or keys 10 []) (rounds keys (add_round_key (state_of block) (slice_index_or keys 0 [])) 9))

-- AES-128: the key's octets and a block's octets to the octets of the enciphered block
unfoldable pub aes128 : List ℕ → List ℕ → List ℕ
aes128 key block = cipher (schedule key) block
