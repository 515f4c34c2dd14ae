use Rattle.std.proofs.Common.{◌-◌, length, refl, ◌∙◌, arith}
use Rattle.station.proofs.Writes.{put_last}
use Rattle.station.proofs.seal.write_open.Goals as goal

pub returns : goal.returns
returns c =
    let old = c.args.message.now in
    let put = c.copy_from_slice.new.self in
    let header = c.copy_from_slice.ensures.after ∙ c.open_octets.ensures in
    let clear = c.copy_from_slice-2.ensures.after in
    put_last 6 (length old - 6) put c.copy_from_slice-2.new.self old _ (omega arith) (omega arith) refl ∙ cc
