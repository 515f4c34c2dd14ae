use Rattle.std.proofs.Common.{sym, ap, ◌∙◌, arith}
use Rattle.keys.specs.Keys.{iv_of}
use Rattle.keys.specs.KeyOctets.{iv_same}
use Rattle.keys.proofs.ArrayU816FromIv.from.Goals as goal

pub returns : goal.returns
returns c =
    let is = c.to_octets.ensures in
    record { octets_are = is; iv_is = sym (ap iv_of is ∙ iv_same c.args.iv (omega arith)) }
