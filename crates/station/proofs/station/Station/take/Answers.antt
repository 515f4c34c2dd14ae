use Rattle.std.proofs.Common.{Ok, Err, ap, ◌∙◌, rules}
use Rattle.std.proofs.lemmas.Result.{err_from_is_err_and}
use Rattle.rules.specs.Layout.{Reads}
use Rattle.rules.specs.declared.message.Message.TheVariants.{Open, Sealed}
use Rattle.station.proofs.Receives.{away_at_entrance, away_at_shape, hands_open, hands_sealed}
use Rattle.station.proofs.station.Station.take.Goals as goal

pub returns-in_err-header-clause-received : goal.returns-in_err-header-clause-received
returns-in_err-header-clause-received g c =
    let p = err_from_is_err_and c.from_residual-in_err-header.result c.from_residual-in_err-header.ensures.1 in
    away_at_entrance _ c.in_ok-clock.ensures _ _ (p.1 ∙ ap Err p.2) c.in_err-header.ensures

pub returns-in_err-open-clause-received : goal.returns-in_err-open-clause-received
returns-in_err-open-clause-received g c =
    let p = err_from_is_err_and c.from_residual-in_err-open.result c.from_residual-in_err-open.ensures.1 in
    away_at_shape _ c.in_ok-clock.ensures (c.in_ok-header.header, c.in_ok-header.association) c.in_ok-header.ensures _ c.mode-mode.ensures _ _ (p.1 ∙ ap Err p.2) c.in_err-open.ensures

pub returns-in-Open-clause-received : goal.returns-in-Open-clause-received
returns-in-Open-clause-received g c =
    let reads : Reads c.args.message.now c.mode-mode.result (Ok (Open c.in-Open.open)) = search rules in
    hands_open _ c.in_ok-clock.ensures (c.in_ok-header.header, c.in_ok-header.association) c.in_ok-header.ensures _ c.mode-mode.ensures c.in-Open.open reads _ _ _ c.hand_open.ensures.answer c.hand_open.ensures.refused c.hand_open.ensures.accepted

pub returns-in-Sealed-clause-received : goal.returns-in-Sealed-clause-received
returns-in-Sealed-clause-received g c =
    let reads : Reads c.args.message.now c.mode-mode.result (Ok (Sealed c.in-Sealed.sealed)) = search rules in
    hands_sealed _ c.in_ok-clock.ensures (c.in_ok-header.header, c.in_ok-header.association) c.in_ok-header.ensures _ c.mode-mode.ensures c.in-Sealed.sealed reads _ c.key_of-key.ensures _ _ _ _ c.hand_sealed.ensures.hands
