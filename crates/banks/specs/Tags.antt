-- What a bank of tags means: for each number nothing, or a function of key and octets to 32 bits.
-- Assumes nothing.
use Rattle.std.specs.Prelude.{ℕ, ◌+◌, ◌%◌, ◌^◌, ◌<◌, List, take, IfSome, Some, None, sum, Option}
use Rattle.octets.specs.Numbers.{number}
use Rattle.keys.specs.declared.Key.{Key}
use Rattle.banks.specs.Ciphers.{only}
use Rattle.keys.specs.Keys.{key_octets}

-- what a tag is of
abbrev pub Tag : Type 0
Tag = Key → List ℕ → ℕ

-- what a bank means
abbrev pub Tags : Type 0
Tags = ℕ → Option Tag

-- the tag under a number, and 0 where the number means nothing
abbrev pub tag_of : Option Tag → Tag
tag_of None key xs = 0
tag_of (Some f) key xs = f key xs

abbrev pub tagged : Tags → ℕ → Tag
tagged m n = tag_of (m n)

-- the law of a bank: each number that means a tag is below 16, and the tag is below 2^32
abbrev pub LawfulTags : Tags → Type 0
LawfulTags m = (n : ℕ) → IfSome (m n) (λ f. (n < 16) × ((key : Key) (xs : List ℕ) → f key xs < 2 ^ 32))

-- the test tag, number 15: the sum of the octets and of the key's first four as a number, modulo 2^32
abbrev pub octets_summed : Tag
octets_summed key xs = (number (take 4 (key_octets key)) + sum xs) % 2 ^ 32

abbrev pub test_tag : Tags
test_tag = only 15 octets_summed
