-- Cutting a line into words. Assumes nothing.
use Rattle.std.proofs.Common.{◌≡◌, ℕ, zero, suc, ◌+◌, ◌-◌, ◌<◌, ◌≤◌, Bool, List, [], ◌∷◌, length, true, false, Ok, ap, sym, refl, subst, add-one, arith}
use Rattle.std.proofs.lemmas.Grind.{common_steps}
use Rattle.std.proofs.lemmas.Slice.Eq.{bytes_eq-Decides}
use Rattle.words.specs.Reading.{required, only, keyword_at, spelled}
use Rattle.words.specs.Words.{unblanked, uncommented, past, run, word, after, from, word_at}
use Rattle.words.specs.declared.fault.Expected.{Expected}
use Rattle.words.specs.declared.fault.Keyword.{Keyword}
use Rattle.words.specs.declared.fault.Keyword.TheVariants.{Own, Ne, Back, Ahead, Fallback}

-- one word more
pub from_more : (n : ℕ) (line : List ℕ) → from (n + 1) line ≡ after (from n line)
from_more n line = ap (λ k. from k line) (add-one n)

-- a word takes an octet at least, where any is left
shorter : (line : List ℕ) → length (past (uncommented (unblanked line))) ≤ length line - 1
shorter [] = omega arith
shorter (b ∷ bs) = let more = shorter bs in grind (arith, common_steps)

from_short : (n : ℕ) (line : List ℕ) → length (from n line) ≤ length line - n
unfolding after
from_short zero line = omega arith
from_short (suc n) line = let a = from_short n line in let b = shorter (from n line) in omega (arith, a, b)

word_short : (line : List ℕ) → length (run (uncommented (unblanked line))) ≤ length line
word_short line = grind (arith, common_steps)

some_spelled : (k : Keyword) → 0 < length (spelled k)
some_spelled Own = omega arith
some_spelled Ne = omega arith
some_spelled Back = omega arith
some_spelled Ahead = omega arith
some_spelled Fallback = omega arith

-- a word stands only at a place within the line
word_within : (n : ℕ) (line : List ℕ) → 0 < length (word_at n line) → n < length line
unfolding word word_at
word_within n line some = let a = from_short n line in let b = word_short (from n line) in omega (arith, a, b)

found : (b : Bool) (n : ℕ) (e : Expected) → Ok tt ≡ required (only b) n e → b ≡ true
found true n e is = refl
found false n e is = cc

-- and so does a keyword
pub keyword_within : (k : Keyword) (n : ℕ) (line : List ℕ) → Ok tt ≡ keyword_at k n line → n < length line
unfolding keyword_at
keyword_within k n line is =
    let same = (bytes_eq-Decides (word_at n line) (spelled k)).0 (found _ _ _ is) in
    word_within n line (subst (λ w. 0 < length w) (sym same) (some_spelled k))
