use Rattle.std.proofs.Common.{rules}
use lib.Bits.{bit_xor}
use Rattle.std.proofs.lemmas.List.Edits.{map_over_more}
use Rattle.banks.proofs.cipher.add_octet.Goals as goal

pub loop-octet-preserved : goal.loop-octet-preserved
loop-octet-preserved c = search (rules, map_over_more (λ x. bit_xor x c.args.other))
