use Rattle.std.proofs.Common.{take, fold, sym, ap, ◌∙◌, rules}
use Rattle.octets.specs.Numbers.{number}
use Rattle.octets.proofs.Widths.{read_from}
use Rattle.aes.specs.Cipher.{schedule, cipher}
use Rattle.keys.specs.Keys.{key_octets}
use Rattle.banks.specs.Mia1.{mia1}
use Rattle.banks.specs.Running.{ChainState, absorbed}
use Rattle.banks.specs.Chaining.{mac_of}
use Rattle.banks.proofs.mac.mac.Goals as goal

pub returns : goal.returns
unfolding mia1
returns c =
    let keys = c.expand-keys.result.rounds in
    let value = c.end.result in
    let is =
    mac_of keys (key_octets c.args.key.now) c.args.first.now c.args.second.now value
    c.absorb.new.self c.absorb-2.new.self (c.expand-keys.ensures ∙ ap schedule c.from.ensures.octets_are)
    (c.absorb.ensures ∙ ap (λ (t : ChainState). fold (absorbed (cipher keys)) t c.args.first.now) c.new-chain.ensures)
    c.absorb-2.ensures c.end.ensures in
    c.from_octets.ensures ∙ ap number (sym (read_from 4 0 value (search rules)) ∙ ap (take 4) is)
