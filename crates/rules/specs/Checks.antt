-- The order of checks, as data: a list of tests, each with the refusal that it leads to.
use Rattle.std.specs.Prelude.{Bool, cond, List, [], ◌∷◌, Some, None, Ok, Err, Option, Result}

-- the refusal of the first test that holds
abbrev pub first : {R : Type 0} → List (Bool × R) → Option R
first [] = None
first (c ∷ cs) = cond c.0 (Some c.1) (first cs)

-- a refusal where there is one, or else the outcome
abbrev pub or_else : {V R : Type 0} → Option R → V → Result V R
or_else (Some r) v = Err r
or_else None v = Ok v

-- what a call answers that makes these checks in this order, and has this outcome
abbrev pub decided : {V R : Type 0} → List (Bool × R) → V → Result V R
decided cs v = or_else (first cs) v

-- the refusal of an answer, if it is one
abbrev pub refusal_of : {V R : Type 0} → Result V R → Option R
refusal_of (Ok v) = None
refusal_of (Err r) = Some r
