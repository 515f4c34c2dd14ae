-- Numbers and octets as they are written: decimal or 0x.., and pairs of hexadecimal digits.
use Rattle.std.specs.Prelude.{ℕ, ◌+◌, ◌*◌, ◌%◌, ◌^◌, Bool, true, cond, ◌&&◌, List, [], ◌∷◌, length, take, drop, Some, None, codes, Option, ◌==◌, nat_le, nat_lt}
use Rattle.std.specs.Char.{digit_value}
use Rattle.std.specs.Str.{bytes_eq}
use Rattle.keys.specs.declared.Key.{Key}

-- every octet is a digit of the base
abbrev pub digits : ℕ → List ℕ → Bool
digits base [] = true
digits base (c ∷ cs) = nat_lt (digit_value c) base && digits base cs

-- the number that digits stand for: the sum of each digit times the base to the power of its place
abbrev pub value : ℕ → List ℕ → ℕ
value base [] = 0
value base (c ∷ cs) = digit_value c * base ^ length cs + value base cs

-- the number of at most `limit` that digits stand for: one digit or more, and nothing else
unfoldable pub numeral : ℕ → ℕ → List ℕ → Option ℕ
numeral base limit cs =
    cond (nat_lt 0 (length cs) && (digits base cs && nat_le (value base cs) limit)) (Some (value base cs)) None

-- 0x leads hexadecimal digits
abbrev pub hexadecimal : List ℕ → Bool
hexadecimal w = bytes_eq (take 2 w) (codes "0x")

-- the number of at most `limit` that a word stands for
unfoldable pub number : ℕ → List ℕ → Option ℕ
number limit w = cond (hexadecimal w) (numeral 16 limit (drop 2 w)) (numeral 10 limit w)

-- a key of two halves, where there are both
abbrev pub joined : Option ℕ → Option ℕ → Option Key
joined (Some h) (Some l) = Some (record { high = h; low = l })
joined (Some h) None = None
joined None low = None

-- the key that 32 hexadecimal digits stand for, eight octets to each half
unfoldable pub key : List ℕ → Option Key
key w =
    cond (length w == 32) (joined (numeral 16 18446744073709551615 (take 16 w)) (numeral 16 18446744073709551615 (drop 16 w))) None

-- an octet for each two digits
abbrev pub pairs : List ℕ → List ℕ
pairs [] = []
pairs (high ∷ []) = []
pairs (high ∷ low ∷ cs) = (digit_value high * 16 + digit_value low) ∷ pairs cs

-- the octets that a word stands for: `-` for none, else an even number of hexadecimal digits
unfoldable pub octets : List ℕ → Option (List ℕ)
octets w =
    cond (bytes_eq w (codes "-")) (Some []) (cond (nat_lt 0 (length w) && (length w % 2 == 0 && digits 16 w)) (Some (pairs w)) None)

-- the number N of a word `@N`
unfoldable pub answer_number : List ℕ → Option ℕ
answer_number w = cond (bytes_eq (take 1 w) (codes "@")) (number 18446744073709551615 (drop 1 w)) None
