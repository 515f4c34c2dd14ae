use Rattle.std.proofs.Common.{◌-◌, length, Err, refl, ap, ◌∙◌, subst, arith}
use Rattle.std.proofs.lemmas.Bool.{ltb-false}
use Rattle.std.proofs.lemmas.Result.{err_from_is_err_and}
use Rattle.rules.proofs.Stages.{passed}
use Rattle.station.specs.Forms.{length_checks}
use Rattle.station.specs.Receive.{HandOver}
use Rattle.station.specs.Records.{same_heard}
use Rattle.station.specs.Seal.{turned}
use Rattle.station.specs.States.{contents_of, HeardAdded}
use Rattle.station.proofs.Additions.{added}
use Rattle.station.proofs.Receives.{refuses_fresh, tick_is, place, hands, front_turned}
use Rattle.station.proofs.station.Station.hand_sealed.Goals as goal

pub returns-in_err-last-clause-hands : goal.returns-in_err-last-clause-hands
returns-in_err-last-clause-hands g c =
    let h : HandOver = record { station = c.args.self.now; contents = contents_of c.args.registers.now; ciphers = g.C.CipherBank.means c.args.banks.now.ciphers; tags = g.T.TagBank.means c.args.banks.now.tags; reading = c.args.reading; key = c.args.key; association = c.args.association.now; handed = c.args.handed; message = c.args.message.now; output = c.args.output.now } in
    let p = err_from_is_err_and c.from_residual-in_err-last.result c.from_residual-in_err-last.ensures.1 in
    refuses_fresh h (ltb-false 1024 _ (passed (length_checks 20 _) (tt {0}) (tt {0}) c.in_ok-short.ensures).0) _ _ (p.1 ∙ ap Err p.2) c.in_err-last.ensures.answer

pub returns-clause-hands : goal.returns-clause-hands
returns-clause-hands g c =
    let h : HandOver = record { station = c.args.self.now; contents = contents_of c.args.registers.now; ciphers = g.C.CipherBank.means c.args.banks.now.ciphers; tags = g.T.TagBank.means c.args.banks.now.tags; reading = c.args.reading; key = c.args.key; association = c.args.association.now; handed = c.args.handed; message = c.args.message.now; output = c.args.output.now } in
    let fresh = c.in_ok-last.ensures.answer in
    let short = ltb-false 1024 _ (passed (length_checks 20 _) (tt {0}) (tt {0}) c.in_ok-short.ensures).0 in
    hands h short _ fresh c.in_ok-room.ensures _ _ _ record {
      station_is = refl;
      output_is = front_turned (turned h.ciphers h.association h.message.fields h.handed.mode) (length h.message.payload.octets.now - 0) (length h.message.payload.octets.now) h.message.payload.octets.now c.copy_from_slice.new.self c.turn.new.octets h.output c.copy_from_slice.ensures.after c.turn.ensures.octets (omega arith) refl;
      policies = refl;
      associations = refl;
      remembered = subst (λ t. HeardAdded (record { key = h.key; last = t }) h.reading h.contents.heard c.put_at.new.self.places.now) (tick_is h short _ fresh) (added (λ m. m.key) same_heard (λ m. m.last) _ h.reading h.contents.heard _ _ (place h short _ fresh c.in_ok-room.ensures) c.put_at.ensures);
    }
