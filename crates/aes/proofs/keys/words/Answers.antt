use Rattle.std.proofs.Common.{arith}
use Rattle.std.proofs.lemmas.List.FromFn.{fill_by_all}
use Rattle.aes.specs.Keys.{word}
use Rattle.aes.specs.State.{blank_row}
use Rattle.aes.proofs.keys.words.Goals as goal

pub returns : goal.returns
returns c =
    fill_by_all (word c.args.key.now) c.loop-i.w 44 blank_row c.loop-i.invariant.0
    (λ k h. c.loop-i.invariant.1 k (omega arith))
