use Rattle.std.proofs.Common.{◌<◌, sym, ap, ◌∙◌, rules}
use Rattle.std.proofs.ByRecursion.{All-from_get_or}
use Rattle.octets.specs.Numbers.{Octets, octets_of}
use Rattle.octets.proofs.Widths.{octets_back}
use Rattle.keys.proofs.IvFromArrayU816.from.Goals as goal

pub returns : goal.returns
returns c =
    let xs = c.args.octets in
    let small : Octets xs = All-from_get_or (λ x. x < 256) xs 0 (λ i h. search rules) in
    record {
      octets_are = sym (ap (octets_of 16) c.from_octets.ensures ∙ octets_back 16 xs (search rules) small);
      iv_is = ap (λ n. record { counter = n }) c.from_octets.ensures;
    }
