use Rattle.std.proofs.Common.{◌≡◌, ◌<◌, length, take, drop, sym, ap, ◌∙◌, rules}
use Rattle.std.proofs.ByRecursion.{All-from_get_or}
use Rattle.octets.specs.Numbers.{Octets, number}
use Rattle.keys.specs.Keys.{key_octets}
use Rattle.keys.specs.KeyOctets.{key_back, high_read, low_read}
use Rattle.keys.proofs.KeyFromArrayU816.from.Goals as goal

pub returns : goal.returns
returns c =
    let xs = c.args.octets in
    let long : length xs ≡ 16 = search rules in
    let small : Octets xs = All-from_get_or (λ x. x < 256) xs 0 (λ i h. search rules) in
    let high : c.from_octets.result ≡ number (take 8 xs) = c.from_octets.ensures ∙ ap number (sym (high_read xs long)) in
    let low : c.from_octets-2.result ≡ number (drop 8 xs) = c.from_octets-2.ensures ∙ ap number (sym (low_read xs long)) in
    record {
      octets_are = sym ((λ i. key_octets (record { high = high i; low = low i })) ∙ key_back xs long small);
      key_is = λ i. record { high = high i; low = low i };
    }
