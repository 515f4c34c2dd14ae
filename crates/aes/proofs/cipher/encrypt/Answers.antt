use Rattle.std.proofs.Common.{◌≡◌, List, [], get_or, take, drop, sym, ap, ◌∙◌, arith}
use Rattle.aes.specs.declared.state.Row.{Row}
use Rattle.aes.specs.Cipher.{round, last_round, rounds, cipher}
use Rattle.aes.specs.State.{add_round_key, octets_of}
use Rattle.aes.proofs.Rounds.{rounds_none, rounds_more}
use Rattle.aes.proofs.cipher.encrypt.Goals as goal

pub loop-key-init : goal.loop-key-init
loop-key-init c = sym (rounds_none c.args.keys.now.rounds c.add_round_key-s.result)

pub loop-key-preserved : goal.loop-key-preserved
loop-key-preserved c =
    let keys = c.args.keys.now.rounds in
    let i = c.loop-key.key-index in
    c.round-next.ensures
    ∙ ap (round (get_or (take 9 (drop 1 keys)) i [])) c.loop-key.invariant
    ∙ rounds_more keys c.add_round_key-s.result 9 i (omega arith)

pub returns : goal.returns
unfolding cipher
returns c =
    let keys = c.args.keys.now.rounds in
    let nine : c.loop-key.key-index ≡ 9 = omega arith in
    let start = c.add_round_key-s.ensures ∙ ap (λ (s : List Row). add_round_key s (get_or keys 0 [])) c.state_of.ensures in
    let after = c.loop-key.invariant ∙ ap (rounds keys c.add_round_key-s.result) nine ∙ ap (λ (s : List Row). rounds keys s 9) start in
    c.octets_of.ensures ∙ ap octets_of (c.last_round.ensures ∙ ap (last_round (get_or keys 10 [])) after)
