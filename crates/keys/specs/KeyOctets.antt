-- Keys and IVs from octets and back.
-- Assumes nothing.
use Rattle.std.specs.Prelude.{◌≡◌, ℕ, ◌^◌, ◌<◌, List, ◌++◌, map, length, take, drop, slice_index}
use Rattle.std.proofs.Common.{sym, ap, ap₂, ◌∙◌, arith}
use Rattle.std.specs.List.{range_with_len}
use Rattle.std.proofs.ByRecursion.{All-take, All-drop, All-append}
use Rattle.std.proofs.lemmas.List.{length-take-le, length-drop, length-append, take_all, take_at, drop_at, take-append-drop}
use Rattle.octets.specs.Numbers.{Octets, octets_of, number}
use Rattle.octets.proofs.Widths.{length_octets, octets_octets, octets_back, read_from, stand_for_each_other}
use Rattle.keys.specs.declared.Key.{Key}
use Rattle.keys.specs.declared.Iv.{Iv}
use Rattle.keys.specs.Keys.{key_octets, key_of, iv_octets, iv_of}

pub length_key : (k : Key) → length (key_octets k) ≡ 16
length_key k =
    omega (arith, length-append (octets_of 8 k.high) (octets_of 8 k.low), length_octets 8 k.high, length_octets 8 k.low)

pub key_small : (k : Key) → Octets (key_octets k)
key_small k =
    All-append (λ x. x < 256) (octets_of 8 k.high) (octets_of 8 k.low) (octets_octets 8 k.high) (octets_octets 8 k.low)

pub key_back : (xs : List ℕ) → length xs ≡ 16 → Octets xs → key_octets (key_of xs) ≡ xs
key_back xs e o =
    ap₂ ◌++◌
    (octets_back 8 (take 8 xs) (length-take-le 8 xs (omega arith)) (All-take (λ x. x < 256) 8 xs o))
    (octets_back 8 (drop 8 xs) (omega (arith, length-drop 8 xs)) (All-drop (λ x. x < 256) 8 xs o))
    ∙ take-append-drop 8 xs

pub key_same : (k : Key) → k.high < 2 ^ 64 → k.low < 2 ^ 64 → key_of (key_octets k) ≡ k
key_same k h l =
    let high : number (take 8 (key_octets k)) ≡ k.high =
    ap number (take_at (octets_of 8 k.high) (octets_of 8 k.low) 8 (length_octets 8 k.high))
    ∙ stand_for_each_other.back 8 k.high h in
    let low : number (drop 8 (key_octets k)) ≡ k.low =
    ap number (drop_at (octets_of 8 k.high) (octets_of 8 k.low) 8 (length_octets 8 k.high))
    ∙ stand_for_each_other.back 8 k.low l in
    λ i. record { high = high i; low = low i }

pub iv_same : (iv : Iv) → iv.counter < 2 ^ 128 → iv_of (iv_octets iv) ≡ iv
iv_same iv h = ap (λ n. record { counter = n }) (stand_for_each_other.back 16 iv.counter h)

-- the halves of sixteen octets, read one by one
pub high_read : (xs : List ℕ) → length xs ≡ 16 → take 8 xs ≡ map (λ k. slice_index xs k) (range_with_len 0 8)
high_read xs e = read_from 8 0 xs (omega arith)

pub low_read : (xs : List ℕ) → length xs ≡ 16 → drop 8 xs ≡ map (λ k. slice_index xs k) (range_with_len 8 8)
low_read xs e = sym (take_all 8 (drop 8 xs) (omega (arith, length-drop 8 xs))) ∙ read_from 8 8 xs (omega arith)
