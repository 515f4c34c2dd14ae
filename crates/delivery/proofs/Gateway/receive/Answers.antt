use Rattle.std.proofs.Common.{◌<◌, refl, subst, arith}
use Rattle.std.proofs.ByRecursion.{All-from_get_or}
use Rattle.banks.specs.Ciphers.{Ciphers}
use Rattle.banks.specs.Delivered.{delivered_ciphers, delivered_tags}
use Rattle.banks.specs.Mia1.{mia1_tag}
use Rattle.banks.specs.Tags.{Tags}
use Rattle.banks.proofs.Deliveries.{ciphers_delivered, tags_delivered}
use Rattle.station.specs.Receive.{Call, Received}
use Rattle.station.specs.States.{contents_of}
use Rattle.delivery.proofs.Takes.{tag_by_aes, opened_by_aes}
use Rattle.delivery.proofs.Gateway.receive.Goals as goal

pub returns : goal.returns
returns c =
    let k : Ciphers → Tags → Call = λ m t. record { station = c.args.self.now.station; contents = contents_of c.args.registers.now; ciphers = m; tags = t; reading = c.args.reading; network = c.args.network; message = c.args.message.now; output = c.args.output.now } in
    let after = contents_of c.receive.new.registers in
    let p : Received (k delivered_ciphers delivered_tags) c.receive.new.self after c.receive.new.output c.receive.result.outcome =
    subst (λ (t : Tags). Received (k delivered_ciphers t) c.receive.new.self after c.receive.new.output c.receive.result.outcome) tags_delivered
    (subst (λ (m : Ciphers). Received (k m mia1_tag) c.receive.new.self after c.receive.new.output c.receive.result.outcome) ciphers_delivered c.receive.ensures.received) in
    let small = All-from_get_or (λ x. x < 256) c.args.message.now 0 (λ i _. omega (arith, c.type_inv.message i)) in
    record {
      received = p;
      slip = c.receive.ensures.slip;
      by_aes = tag_by_aes (k delivered_ciphers delivered_tags) _ _ _ _ p refl small;
      cleartext_by_aes = opened_by_aes (k delivered_ciphers delivered_tags) _ _ _ _ p refl;
    }
