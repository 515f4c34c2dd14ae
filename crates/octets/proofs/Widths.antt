-- Octets and numbers, over the width.
use Rattle.std.proofs.Common.{◌≡◌, ℕ, zero, suc, ◌+◌, ◌*◌, ◌/◌, ◌%◌, ◌^◌, ◌<◌, ◌≤◌, List, [], ◌∷◌, map, length, get_or, take, drop, sym, refl, ap, ◌∙◌, ap₂, mod-lt, mod-eq_of_lt, mul_assoc, arith}
use native.Mathlib.Nat.{mod-one, pow-succ', mul-add-div_right, mul-add-mod_self_right, pow-le-pow_right}
use lib.Arith.{mod-mul, digits_lt, digits_div}
use Rattle.std.specs.List.{range_with_len}
use Rattle.std.proofs.lemmas.List.{drop_more, take_all}
use Rattle.octets.specs.Numbers.{Octets, octets_of, number, OctetsAndNumbers}

pub length_octets : (w n : ℕ) → length (octets_of w n) ≡ w
unfolding octets_of
length_octets zero n = refl
length_octets (suc w) n = ap suc (length_octets w n)

pub octets_octets : (w n : ℕ) → Octets (octets_of w n)
unfolding octets_of
octets_octets zero n = tt
octets_octets (suc w) n = (mod-lt (n / 256 ^ w) (omega arith), octets_octets w n)

-- a power of 256 is no zero
power_pos : (w : ℕ) → 0 < 256 ^ w
power_pos w = pow-le-pow_right {n = 256} (omega arith) {i = 0} {j = w} (omega arith)

-- what the octets of a number stand for
pub number_octets : (w n : ℕ) → number (octets_of w n) ≡ n % 256 ^ w
unfolding octets_of number
number_octets zero n = sym (mod-one n)
number_octets (suc w) n =
    rw (length_octets w n, number_octets w n, pow-succ' 256 w) (sym (mod-mul n (omega arith) (power_pos w)))

pub number_fits : (xs : List ℕ) → Octets xs → number xs < 256 ^ length xs
unfolding number
number_fits [] o = omega arith
number_fits (x ∷ xs) o = rw pow-succ' (digits_lt o.0 (number_fits xs o.1))

-- octets past the width make no difference
octets_above : (w q r : ℕ) → octets_of w (q * 256 ^ w + r) ≡ octets_of w r
unfolding octets_of
octets_above zero q r = refl
octets_above (suc w) q r =
    let split : q * 256 ^ suc w ≡ q * 256 * 256 ^ w = ap (λ m. q * m) (pow-succ' 256 w) ∙ sym (mul_assoc q 256 (256 ^ w)) in
    let high = ap (λ m. m % 256) (mul-add-div_right (power_pos w) (q * 256) r) ∙ mul-add-mod_self_right q 256 (r / 256 ^ w) in
    rw split (ap₂ ◌∷◌ high (octets_above w (q * 256) r))

-- octets are the octets of their number
pub octets_number : (xs : List ℕ) → Octets xs → octets_of (length xs) (number xs) ≡ xs
unfolding octets_of number
octets_number [] o = refl
octets_number (x ∷ xs) o =
    let high = ap (λ m. m % 256) (digits_div x (number_fits xs o.1)) ∙ mod-eq_of_lt o.0 in
    ap₂ ◌∷◌ high (octets_above (length xs) x (number xs) ∙ octets_number xs o.1)

-- the same at a width that is known
pub octets_back : (w : ℕ) (xs : List ℕ) → length xs ≡ w → Octets xs → octets_of w (number xs) ≡ xs
octets_back w xs long o = ap (λ k. octets_of k (number xs)) (sym long) ∙ octets_number xs o

pub stand_for_each_other : OctetsAndNumbers
stand_for_each_other =
    record {
      width = length_octets;
      octets = octets_octets;
      back = λ w n h. number_octets w n ∙ mod-eq_of_lt h;
      fits = number_fits;
      again = octets_number;
    }

-- w octets from place i on, read one by one
pub read_from : (w i : ℕ) (xs : List ℕ) → i + w ≤ length xs → take w (drop i xs) ≡ map (λ k. get_or xs k 0) (range_with_len i w)
read_from zero i xs h = refl
read_from (suc w) i xs h =
    rw (drop_more xs i 0 (omega arith)) (ap (λ ys. get_or xs i 0 ∷ ys) (read_from w (i + 1) xs (omega arith)))

-- the number of w octets, by the octets that are read
pub number_read : (w : ℕ) (xs : List ℕ) → length xs ≡ w → number xs ≡ number (map (λ k. get_or xs k 0) (range_with_len 0 w))
number_read w xs long = ap number (sym (take_all w xs (omega arith)) ∙ read_from w 0 xs (omega arith))
