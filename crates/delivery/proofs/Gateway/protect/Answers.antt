use Rattle.std.proofs.Common.{◌<◌, refl, subst, arith}
use Rattle.std.proofs.ByRecursion.{All-from_get_or}
use Rattle.banks.specs.Ciphers.{Ciphers}
use Rattle.banks.specs.Delivered.{delivered_ciphers, delivered_tags}
use Rattle.banks.specs.Mia1.{mia1_tag}
use Rattle.banks.specs.Tags.{Tags}
use Rattle.banks.proofs.Deliveries.{ciphers_delivered, tags_delivered}
use Rattle.station.specs.Protect.{Call, Protected}
use Rattle.station.specs.States.{contents_of}
use Rattle.delivery.proofs.Builds.{sent_is_read}
use Rattle.delivery.proofs.Sends.{sent_by_aes}
use Rattle.delivery.proofs.Gateway.protect.Goals as goal

pub returns : goal.returns
returns c =
    let k : Ciphers → Tags → Call = λ m t. record { station = c.args.self.now.station; contents = contents_of c.args.registers.now; ciphers = m; tags = t; reading = c.args.reading; network = c.args.network; component = c.args.component; cleartext = c.args.cleartext.now; output = c.args.output.now } in
    let p : Protected (k delivered_ciphers delivered_tags) c.protect.new.self c.protect.new.output c.protect.result =
    subst (λ (t : Tags). Protected (k delivered_ciphers t) c.protect.new.self c.protect.new.output c.protect.result) tags_delivered
    (subst (λ (m : Ciphers). Protected (k m mia1_tag) c.protect.new.self c.protect.new.output c.protect.result) ciphers_delivered c.protect.ensures.protected) in
    let small = All-from_get_or (λ x. x < 256) c.args.cleartext.now 0 (λ i _. omega (arith, c.type_inv.cleartext i)) in
    record {
      protected = p;
      by_aes = sent_by_aes (k delivered_ciphers delivered_tags) _ _ _ refl refl p;
      reads_back = sent_is_read (k delivered_ciphers delivered_tags) _ _ _ p refl refl small;
    }
