use Rattle.std.proofs.Common.{subst}
use Rattle.banks.specs.Ciphers.{Ciphers}
use Rattle.banks.specs.Delivered.{delivered_ciphers}
use Rattle.banks.specs.Mia1.{mia1_tag}
use Rattle.banks.specs.Tags.{Tags}
use Rattle.banks.proofs.Deliveries.{ciphers_delivered, tags_delivered}
use Rattle.station.specs.Install.{Installed}
use Rattle.station.specs.States.{contents_of}
use Rattle.delivery.proofs.Gateway.install.Goals as goal

pub returns : goal.returns
returns c =
    let before = contents_of c.args.registers.now in
    let after = contents_of c.install.new.registers in
    subst (λ (t : Tags). Installed delivered_ciphers t c.args.reading c.args.association c.args.self.now.station c.install.new.self before after c.install.result) tags_delivered
    (subst (λ (m : Ciphers). Installed m mia1_tag c.args.reading c.args.association c.args.self.now.station c.install.new.self before after c.install.result) ciphers_delivered c.install.ensures)
