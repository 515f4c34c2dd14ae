-- The lines of an input.
use Rattle.std.specs.Prelude.{◌≡◌, ℕ, ◌-◌, ◌<◌, ◌≤◌, Bool, true, false, cond, List, [], ◌∷◌, ◌++◌, length, take, Some, None, Ok, Err, Option, Result, ◌==◌, ◌≢◌, slice_index}
use Rattle.std.specs.Borrow.{Bor}
use Rattle.lines.specs.declared.LineFault.{LineFault}
use Rattle.lines.specs.declared.LineFault.TheVariants.{TooLong, NoMemory}

-- a line without the CR before its LF, which belongs to the line end
abbrev pub trimmed : List ℕ → List ℕ
trimmed held = cond (slice_index held (length held - 1) == 13) (take (length held - 1) held) held

-- the lines of an input, where `held` stands already of the first; the last one needs no LF
abbrev pub lines : List ℕ → List ℕ → List (List ℕ)
lines held [] = cond (length held == 0) [] (held ∷ [])
lines held (b ∷ bs) = cond (b == 10) (trimmed held ∷ lines [] bs) (lines (held ++ b ∷ []) bs)

-- what an octet adds to a line: `true` says that the line is complete
abbrev pub Put : List ℕ → ℕ → List ℕ → Result Bool LineFault → Type 0
Put held b after (Ok true) = (b ≡ 10) × (length (trimmed held) ≤ 8192) × (after ≡ held)
Put held b after (Ok false) = (b ≢ 10) × (length held ≤ 8192) × (after ≡ held ++ b ∷ [])
Put held b after (Err TooLong) =
    (b ≡ 10 → 8192 < length (trimmed held)) × ((b ≢ 10) → 8192 < length held) × (after ≡ held)
Put held b after (Err NoMemory) = (b ≢ 10) × (after ≡ held)

-- what is left at the end of an input
abbrev pub LastLine : List ℕ → Result (Option (Bor (List ℕ))) LineFault → Type 0
LastLine held (Ok None) = length held ≡ 0
LastLine held (Ok (Some line)) = (line.now ≡ held) × (0 < length held) × (length held ≤ 8192)
LastLine held (Err TooLong) = 8192 < length held
LastLine held (Err NoMemory) = ⊥
