use Rattle.std.proofs.Common.{◌-◌, length, refl, ◌∙◌, arith}
use Rattle.rules.proofs.Layouts.{length_sealed_header}
use Rattle.station.specs.Seal.{turned, tag_under}
use Rattle.station.proofs.Turns.{turned_keeps}
use Rattle.station.proofs.Writes.{sealed_copied}
use Rattle.station.proofs.seal.write_sealed.Goals as goal

pub returns : goal.returns
returns g c =
    let m = g.C.CipherBank.means c.args.banks.now.ciphers in
    let a = c.args.association.now in
    let f = c.args.fields in
    let old = c.args.message.now in
    record {
      banks = record { ciphers = c.turn.ensures.stays; tags = c.tag-tag.ensures.stays };
      held = record { ciphers = c.turn.ensures.holds; tags = c.tag-tag.ensures.holds };
      message = sealed_copied (turned m a f c.args.mode) (tag_under (g.T.TagBank.means c.args.banks.now.tags) a) (turned_keeps m (g.met.C.CipherBank.lawful c.args.banks.now.ciphers) a f c.args.mode)
          c.copy_from_slice.new.self _ c.copy_from_slice-2.new.self c.args.cleartext.now c.turn.new.octets c.copy_from_slice-3.new.self old
          c.tag-tag.result (length c.args.cleartext.now) (length old - 4 - 20) (length old - 4) (length old - (length old - 4))
          (c.copy_from_slice.ensures.after ∙ c.sealed_octets.ensures) (length_sealed_header c.args.header f) c.copy_from_slice-2.ensures.after refl c.requires (omega arith) (omega arith) (omega arith)
          c.turn.ensures.octets c.tag-tag.ensures.tagged (c.copy_from_slice-3.ensures.after ∙ c.to_octets.ensures);
    }
