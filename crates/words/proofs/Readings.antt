-- What the readers of words hand on. Assumes nothing.
use Rattle.std.proofs.Common.{ℕ, ◌≤◌, ◌&&◌, ltb, leb, List, length, drop, IfSome, IfOk, Some, None, Option}
use Rattle.std.proofs.lemmas.Bool.{cond_both, and_parts, leb-true}
use Rattle.words.specs.Numbers.{digits, value, numeral, number, hexadecimal}
use Rattle.words.specs.Reading.{required, number_at}
use Rattle.words.specs.Words.{word_at}
use Rattle.words.specs.declared.fault.Expected.{Expected}
use Rattle.words.specs.declared.fault.Expected.TheVariants as expected

numeral_low : (base limit : ℕ) (cs : List ℕ) → IfSome (numeral base limit cs) (λ n. n ≤ limit)
unfolding numeral
numeral_low base limit cs =
    cond_both (ltb 0 (length cs) && (digits base cs && leb (value base cs) limit)) (Some (value base cs)) None (λ o. IfSome o (λ n. n ≤ limit))
    (λ e. leb-true (value base cs) limit (and_parts (digits base cs) _ (and_parts (ltb 0 (length cs)) _ e).1).1)
    (λ _. tt)

-- a number that is read is within its limit
pub number_low : (limit : ℕ) (w : List ℕ) → IfSome (number limit w) (λ n. n ≤ limit)
unfolding number
number_low limit w =
    cond_both (hexadecimal w) (numeral 16 limit (drop 2 w)) (numeral 10 limit w) (λ o. IfSome o (λ n. n ≤ limit)) (λ _. numeral_low 16 limit (drop 2 w)) (λ _. numeral_low 10 limit w)

-- what holds of the value holds of the answer
pub made_required : (o : Option ℕ) (n : ℕ) (e : Expected) (P : ℕ → Type 0) → IfSome o P → IfOk (required o n e) P
made_required (Some x) n e P h = h
made_required None n e P h = tt

-- a number at a place is within its limit
pub number_at_low : (limit n : ℕ) (line : List ℕ) → IfOk (number_at limit n line) (λ k. k ≤ limit)
unfolding number_at
number_at_low limit n line = made_required (number limit (word_at n line)) n (expected.Number limit) (λ k. k ≤ limit) (number_low limit (word_at n line))
