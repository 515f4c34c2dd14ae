use Rattle.std.proofs.Common.{◌≡◌}
use Rattle.words.specs.Words.{from}
use Rattle.words.proofs.cut.word_at.Given as goal

-- what is left after so many words
abbrev pub invariant-loop : goal.invariant-loop
invariant-loop l = l.left ≡ from l.counter l.line
