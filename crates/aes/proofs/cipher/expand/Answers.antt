use Rattle.std.proofs.Common.{◌≡◌, ℕ, ◌<◌, [], get_or, ◌∙◌, rules, tests}
use Rattle.std.proofs.lemmas.List.FromFn.{fill_by_all}
use Rattle.aes.specs.Cipher.{words_key}
use Rattle.aes.proofs.Expansion.{keys_are}
use Rattle.aes.proofs.cipher.expand.Goals as goal

pub returns : goal.returns
returns c =
    let w = c.words-w.result in
    let each : (k : ℕ) → k < 11 → get_or c.from_fn.result k [] ≡ words_key w k =
    λ k h. let called = (c.from_fn.ensures.items.at k [] h).2 in search (rules, tests) in
    fill_by_all (words_key w) c.from_fn.result 11 [] c.from_fn.ensures.items.long each
    ∙ keys_are c.args.key w c.words-w.ensures
