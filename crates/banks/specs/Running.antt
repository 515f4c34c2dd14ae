-- The chain of MIA-1 as octets come, one at a time.
-- Assumes nothing.
use Rattle.std.specs.Prelude.{ℕ, ◌+◌, cond, List, ◌==◌, replicate, bit_xor, slice_index, slice_set}

-- the chain's value with the octets of an unfinished block added to it, and how many those are
pub record ChainState : Type 0 where
  pub value : List ℕ
  pub filled : ℕ

-- before the first octet
abbrev pub fresh : ChainState
fresh = record { value = replicate 16 0; filled = 0 }

-- an octet added to the value, at the place of the next octet
abbrev pub added : ChainState → ℕ → List ℕ
added c x = slice_set c.value c.filled (bit_xor (slice_index c.value c.filled) x)

-- the chain after one octet more: a block that is full is enciphered
unfoldable pub absorbed : (List ℕ → List ℕ) → ChainState → ℕ → ChainState
absorbed e c x =
    cond (c.filled == 15) (record { value = e (added c x); filled = 0 })
    (record { value = added c x; filled = c.filled + 1 })

-- the end of the chain: the octet 0x80, and the block enciphered
unfoldable pub ended : (List ℕ → List ℕ) → ChainState → List ℕ
ended e c = e (added c 0x80)
