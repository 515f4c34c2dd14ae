use Rattle.std.proofs.Common.{◌≡◌, length}
use Rattle.rules.specs.Profiles.{lines_apart}
use Rattle.rules.proofs.profile.lines_apart.Given as goal

-- The lines passed share PPI and code with none behind them.
abbrev pub invariant-loop-rest : goal.invariant-loop-rest
invariant-loop-rest l = lines_apart l.lines ≡ lines_apart l.rest

abbrev pub decreases-loop-rest : goal.decreases-loop-rest
decreases-loop-rest l = length l.rest
