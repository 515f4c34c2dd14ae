-- The words of a line. Blanks part them; a '#' where a word could begin opens a comment that
-- ends the line, and inside a word it is an octet like any other.
use Rattle.std.specs.Prelude.{ℕ, zero, suc, Bool, cond, not, ◌||◌, List, [], ◌∷◌, drop, ◌==◌}
use Rattle.std.specs.List.{position_or_len, before_first}

-- a blank: a space or a tab
abbrev pub blank : ℕ → Bool
blank b = b == 32 || b == 9

-- a line from its first octet that is no blank
abbrev pub unblanked : List ℕ → List ℕ
unblanked line = drop (position_or_len (λ b. not (blank b)) line) line

-- nothing, where a comment begins
abbrev pub uncommented : List ℕ → List ℕ
uncommented [] = []
uncommented (b ∷ bs) = cond (b == 35) [] (b ∷ bs)

-- the octets before the first blank
abbrev pub run : List ℕ → List ℕ
run line = before_first blank line

-- what stands from the first blank on
abbrev pub past : List ℕ → List ℕ
past line = drop (position_or_len blank line) line

-- the next word of a line; none is empty, so nothing stands for the end of the line
unfoldable pub word : List ℕ → List ℕ
word line = run (uncommented (unblanked line))

-- what stands after the next word
unfoldable pub after : List ℕ → List ℕ
after line = past (uncommented (unblanked line))

-- a line without its first n words
abbrev pub from : ℕ → List ℕ → List ℕ
from zero line = line
from (suc n) line = after (from n line)

-- the word at a place, counted from 0; it is empty where the line has ended
unfoldable pub word_at : ℕ → List ℕ → List ℕ
word_at n line = word (from n line)
