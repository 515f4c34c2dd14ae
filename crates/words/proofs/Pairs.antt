-- Reading hexadecimal digits by pairs. Assumes nothing.
use Rattle.std.proofs.Common.{◌≡◌, ℕ, ◌%◌, List, ◌++◌, length}
use Rattle.words.specs.Numbers.{digits, pairs}

-- what is read and what is left stand for the octets of a word
pub record Paired (w left read : List ℕ) : Type 0 where
  pub even : length left % 2 ≡ 0
  pub sound : digits 16 w ≡ digits 16 left
  pub worth : pairs w ≡ read ++ pairs left
