use Rattle.std.proofs.Common.{◌≡◌, ℕ, List, ◌++◌, map, get_or, sym, ap, ◌∙◌, ap₂, arith}
use Rattle.std.specs.List.{range_with_len}
use Rattle.octets.specs.Numbers.{octets_of}
use Rattle.keys.specs.Keys.{key_octets, key_of}
use Rattle.keys.specs.KeyOctets.{key_same}
use Rattle.keys.proofs.ArrayU816FromKey.from.Goals as goal

-- eight octets, read one by one
abbrev read : List ℕ → List ℕ
read xs = map (λ k. get_or xs k 0) (range_with_len 0 8)

pub returns : goal.returns
unfolding octets_of
returns c =
    let k = c.args.key in
    let is : read c.to_octets.result ++ read c.to_octets-2.result ≡ key_octets k =
    ap₂ (λ h l. read h ++ read l) c.to_octets.ensures c.to_octets-2.ensures in
    record { octets_are = is; key_is = sym (ap key_of is ∙ key_same k (omega arith) (omega arith)) }
