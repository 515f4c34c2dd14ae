use Rattle.std.proofs.Common.{◌≡◌, length, take, vec_items}
use Rattle.banks.specs.Banks.{MeanTheSame}
use Rattle.rehearsal.specs.Runs.{sites_of, turns, Runs}
use Rattle.rehearsal.proofs.sites.Sites.run.Given as goal

abbrev pub invariant-loop-line : goal.invariant-loop-line
invariant-loop-line g l =
    (length (vec_items l.answers) ≡ l.line-index)
    × MeanTheSame g.C.CipherBank.means g.T.TagBank.means l.initial.banks l.banks
    × Runs (g.C.CipherBank.means l.initial.banks.ciphers) (g.T.TagBank.means l.initial.banks.tags) (turns (take l.line-index l.log) (vec_items l.answers)) (sites_of l.initial.self) (sites_of l.self)
