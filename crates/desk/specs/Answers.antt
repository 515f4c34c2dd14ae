-- The octets that answers gave. The first answer is number 1.
use Rattle.std.specs.Prelude.{◌≡◌, ℕ, ◌-◌, List, [], ◌∷◌, ◌++◌, length, Some, None, Ok, Err, Option, Result, slice_index_or, slice_set}

-- what an answer gave; nothing where there is no such answer, or where it gave nothing
abbrev pub answered : {V : Type 0} → List (Option V) → ℕ → Option V
answered xs n = slice_index_or (None ∷ xs) n None

-- one answer more, without octets; or want of memory, and nothing changes
abbrev pub Opened : {V E : Type 0} → List (Option V) → List (Option V) → Result (Unit {0}) E → Type 0
Opened before after (Ok done) = after ≡ before ++ None ∷ []
Opened before after (Err e) = after ≡ before

-- the last answer gave octets
abbrev pub Given : {V : Type 0} → V → List (Option V) → List (Option V) → Type 0
Given octets before after = after ≡ slice_set before (length before - 1) (Some octets)
