use Rattle.std.proofs.Common.{◌≡◌, codes, rules}
use Rattle.std.proofs.lemmas.Slice.Eq.{text_from_reads}
use Rattle.statements.specs.Statements.{places}
use Rattle.statements.proofs.statement.places_in.Goals as goal

pub returns-in-places : goal.returns-in-places
unfolding places
returns-in-places c =
    let is : c.word.result.now ≡ codes "places" = text_from_reads c.word.result.now (codes "places") (search rules) (search rules) in
    search rules
