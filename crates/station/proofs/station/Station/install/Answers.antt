use Rattle.std.proofs.Common.{Err, refl, ap, ◌∙◌}
use Rattle.std.proofs.lemmas.Result.{err_from_is_err_and}
use Rattle.station.specs.Records.{association_key, same_association, association_last}
use Rattle.station.specs.States.{contents_of}
use Rattle.station.proofs.Additions.{added}
use Rattle.station.proofs.Installs.{refuses, refuses_fields, room, takes}
use Rattle.station.proofs.station.Station.install.Goals as goal

pub returns-in_err-fields : goal.returns-in_err-fields
returns-in_err-fields g c =
    let m = g.C.CipherBank.means c.args.ciphers.now in
    let t = g.T.TagBank.means c.args.tags.now in
    let before = contents_of c.args.registers.now in
    let p = err_from_is_err_and c.from_residual-in_err-fields.result c.from_residual-in_err-fields.ensures.1 in
    refuses m t c.args.reading c.args.association c.args.self.now before _ _ (p.1 ∙ ap Err p.2) (refuses_fields m t c.args.reading c.args.association c.args.self.now before c.in_ok-clock.ensures _ c.in_err-fields.ensures)

pub returns : goal.returns
returns g c =
    let m = g.C.CipherBank.means c.args.ciphers.now in
    let t = g.T.TagBank.means c.args.tags.now in
    let before = contents_of c.args.registers.now in
    let clock = c.in_ok-clock.ensures in
    let fields = c.in_ok-fields.ensures in
    let place = c.in_ok-place_for.ensures in
    let free = room m t c.args.reading c.args.association c.args.self.now before clock fields place in
    takes m t c.args.reading c.args.association c.args.self.now before clock fields place (record { policies = before.policies; associations = c.put_at.new.self.places.now; heard = before.heard })
    (added association_key same_association association_last _ _ _ _ _ free c.put_at.ensures) refl refl
