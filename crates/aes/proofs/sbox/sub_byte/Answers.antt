use Rattle.std.proofs.Common.{rules}
use Rattle.aes.proofs.Substitution.{rule}
use Rattle.aes.proofs.sbox.sub_byte.Goals as goal

pub returns-clause-rule : goal.returns-clause-rule
returns-clause-rule c = rule c.args.octet (search rules)
