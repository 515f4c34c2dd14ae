-- Slips, and what closing one reports.
use Rattle.std.specs.Prelude.{ℕ, Bool, cond, ◌&&◌, ◌||◌, Ok, Err, Result, ◌==◌}
use Rattle.rules.specs.Refusals.{number_of}
use Rattle.rules.specs.declared.refusal.Refusal.{Refusal}

-- the number of an answer's refusal, 0 for an outcome
abbrev pub refusal_number : {V : Type 0} → Result V Refusal → ℕ
refusal_number (Ok v) = 0
refusal_number (Err r) = number_of r

-- refusals that the peer is told of: 21, 22, 23, 31 and 42
abbrev pub told : ℕ → Bool
told n = n == 21 || (n == 22 || (n == 23 || (n == 31 || n == 42)))

-- the number to report, where the dialogue waits for an answer; else 0
abbrev pub reported : ℕ → Bool → ℕ
reported number waiting = cond (waiting && told number) number 0
