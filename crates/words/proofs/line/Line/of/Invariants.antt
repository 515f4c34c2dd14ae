use Rattle.std.proofs.Common.{◌≡◌, map}
use Rattle.words.specs.Words.{from}
use Rattle.words.proofs.Indexed.{FirstCut}
use Rattle.words.proofs.line.Line.of.Given as goal

-- the words before this place are cut, and the rest of the line is left
abbrev pub invariant-loop-i : goal.invariant-loop-i
invariant-loop-i l = (l.left ≡ from l.i l.octets) × FirstCut (map (λ w. w.now) l.words) l.i l.octets
