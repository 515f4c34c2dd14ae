use Rattle.std.proofs.Common.{◌≡◌, codes, rules}
use Rattle.std.proofs.lemmas.Slice.Eq.{text_from_reads}
use Rattle.statements.specs.Statements.{declaration}
use Rattle.statements.proofs.statement.declaration.Goals as goal

pub returns-in-station : goal.returns-in-station
unfolding declaration
returns-in-station c =
    let is : c.word.result.now ≡ codes "station" = text_from_reads c.word.result.now (codes "station") (search rules) (search rules) in
    search rules

pub returns-in-listed : goal.returns-in-listed
unfolding declaration
returns-in-listed c =
    let is : c.word.result.now ≡ codes "listed" = text_from_reads c.word.result.now (codes "listed") (search rules) (search rules) in
    search rules

pub returns-in-profile : goal.returns-in-profile
unfolding declaration
returns-in-profile c =
    let is : c.word.result.now ≡ codes "profile" = text_from_reads c.word.result.now (codes "profile") (search rules) (search rules) in
    search rules
