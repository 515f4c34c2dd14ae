-- Protection levels and modes, as TS 33.200, clause 6, has them.
use Rattle.std.specs.Prelude.{ℕ, ◌-◌, Bool, true, false, cond, ◌||◌, List, [], ◌∷◌, Some, None, Option, nat_lt, slice_index_or}
use Rattle.rules.specs.declared.component.ComponentKind.{ComponentKind}
use Rattle.rules.specs.declared.component.ComponentKind.TheVariants.{Invoke, ReturnResult, ReturnError}
use Rattle.rules.specs.declared.protection.ProtectionMode.{ProtectionMode}
use Rattle.rules.specs.declared.protection.ProtectionMode.TheVariants.{NoProtection, Integrity, Confidentiality}
use Rattle.rules.specs.declared.protection.LevelModes.{LevelModes}

abbrev pub mode_number : ProtectionMode → ℕ
mode_number NoProtection = 0
mode_number Integrity = 1
mode_number Confidentiality = 2

-- modes 1 and 2 carry a stamp and a tag
abbrev pub protects : ProtectionMode → Bool
protects NoProtection = false
protects Integrity = true
protects Confidentiality = true

-- the mode of a kind of component
abbrev pub mode_in_row : ComponentKind → LevelModes → ProtectionMode
mode_in_row Invoke row = row.invoke
mode_in_row ReturnResult row = row.result
mode_in_row ReturnError row = row.error

-- for invoke, result and error
abbrev pub row : ProtectionMode → ProtectionMode → ProtectionMode → LevelModes
row i r e = record { invoke = i; result = r; error = e }

-- the rows of levels 1 to 6
abbrev pub levels : List LevelModes
levels =
    row Integrity NoProtection NoProtection
    ∷ row Integrity Integrity NoProtection
    ∷ row Integrity Confidentiality NoProtection
    ∷ row Confidentiality Integrity NoProtection
    ∷ row Confidentiality Confidentiality NoProtection
    ∷ row Confidentiality NoProtection NoProtection
    ∷ []

-- the row of a level
abbrev pub row_of : ℕ → Option LevelModes
row_of level = cond (nat_lt level 1 || nat_lt 6 level) None (Some (slice_index_or levels (level - 1) (row NoProtection NoProtection NoProtection)))
