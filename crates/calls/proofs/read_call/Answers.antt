use Rattle.std.proofs.Common.{◌≡◌, codes, rules}
use Rattle.std.proofs.lemmas.Slice.Eq.{text_from_reads}
use Rattle.calls.specs.Calls.{called_by}
use Rattle.calls.proofs.read_call.Goals as goal

pub returns-in-install : goal.returns-in-install
unfolding called_by
returns-in-install c =
    let is : c.word.result.now ≡ codes "install" = text_from_reads c.word.result.now (codes "install") (search rules) (search rules) in
    search rules

pub returns-in-revoke : goal.returns-in-revoke
unfolding called_by
returns-in-revoke c =
    let is : c.word.result.now ≡ codes "revoke" = text_from_reads c.word.result.now (codes "revoke") (search rules) (search rules) in
    search rules

pub returns-in-protect : goal.returns-in-protect
unfolding called_by
returns-in-protect c =
    let is : c.word.result.now ≡ codes "protect" = text_from_reads c.word.result.now (codes "protect") (search rules) (search rules) in
    search rules

pub returns-in-receive : goal.returns-in-receive
unfolding called_by
returns-in-receive c =
    let is : c.word.result.now ≡ codes "receive" = text_from_reads c.word.result.now (codes "receive") (search rules) (search rules) in
    search rules
