-- A number as decimal digits write it is read back. Assumes nothing.
use Rattle.std.proofs.Common.{◌≡◌, ℕ, ◌+◌, ◌*◌, ◌^◌, ◌<◌, ◌≤◌, true, false, ◌&&◌, eqb, ltb, leb, List, [], ◌∷◌, length, Some, None, decimal, sym, refl, ap, ◌∙◌, subst, add-zero, mul-one, arith}
use native.Mathlib.Nat.{pow-zero}
use Rattle.std.proofs.lemmas.Fmt.{decimal_is_IsNumeral}
use Rattle.std.proofs.lemmas.Bool.{cond-true, cond-false, and_from, and_left, and_right, lt-ltb, le-leb, ne_eqb}
use Rattle.std.specs.Str.Parse.{AllDigits, digits_value_after}
use Rattle.std.specs.Char.{digit_value}
use Rattle.words.specs.Numbers.{digits, value, numeral, number, hexadecimal}
use Rattle.words.proofs.Numerals.{more_worth}

-- a fold over the digits from the left is the sum over their places
sums : (base v : ℕ) (cs : List ℕ) → digits_value_after base v cs ≡ v * base ^ length cs + value base cs
sums base v [] = sym (simp (pow-zero, mul-one, add-zero))
sums base v (c ∷ cs) = sums base (v * base + digit_value c) cs ∙ sym (more_worth base v c cs)

sound : (base : ℕ) (cs : List ℕ) → AllDigits base cs → digits base cs ≡ true
sound base [] h = refl
sound base (c ∷ cs) h = and_from _ _ (lt-ltb _ _ h.0) (sound base cs h.1)

-- decimal digits have no x
plain : (cs : List ℕ) → AllDigits 10 cs → hexadecimal cs ≡ false
plain [] h = refl
plain (a ∷ []) h = and_right (eqb a 48) false refl
plain (a ∷ b ∷ cs) h =
    and_right (eqb a 48) (eqb b 120 && true) (and_left (eqb b 120) true (ne_eqb b 120 (λ e. let z : 33 < 10 = subst (λ x. digit_value x < 10) e h.1.0 in omega arith)))

pub reads_back : (limit n : ℕ) (w : List ℕ) → limit < 2 ^ 64 → n ≤ limit → w ≡ decimal n → number limit w ≡ Some n
unfolding number numeral
reads_back limit n w fits low is =
    let reads = decimal_is_IsNumeral n (omega arith) in
    let ds = decimal n in
    let worth : value 10 ds ≡ n = omega (arith, sums 10 0 ds, reads.1) in
    ap (number limit) is ∙ cond-false (hexadecimal ds) _ _ (plain ds reads.0.1)
    ∙ cond-true (ltb 0 (length ds) && (digits 10 ds && leb (value 10 ds) limit)) (Some (value 10 ds)) None (and_from _ _ (lt-ltb 0 (length ds) reads.0.0) (and_from _ _ (sound 10 ds reads.0.1) (le-leb (value 10 ds) limit (omega (arith, worth, low)))))
    ∙ ap Some worth
