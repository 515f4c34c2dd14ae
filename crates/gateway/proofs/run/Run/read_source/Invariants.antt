use Rattle.std.proofs.Common.{◌≡◌, length}
use Rattle.gateway.proofs.run.Run.read_source.Given as goal

-- the chunk keeps its length
abbrev pub invariant-loop : goal.invariant-loop
invariant-loop g l = length l.chunk ≡ 4096
