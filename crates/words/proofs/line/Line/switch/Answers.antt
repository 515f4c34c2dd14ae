use Rattle.std.proofs.Common.{rules}
use Rattle.words.proofs.Cuts.{keyword_within}
use Rattle.words.proofs.line.Line.switch.Goals as goal

pub overflow_add-place : goal.overflow_add-place
overflow_add-place c =
    let within = keyword_within c.args.keyword c.args.place c.args.self.now.octets.now c.in_ok-keyword.ensures in
    search (rules, within)
