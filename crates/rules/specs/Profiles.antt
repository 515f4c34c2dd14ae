-- Protection profiles.
use Rattle.std.specs.Prelude.{ℕ, Bool, true, not, ◌&&◌, List, [], ◌∷◌, is_some, Some, None, Option, ◌==◌, find}
use Rattle.std.specs.List.{list_all}
use Rattle.std.specs.Option.{option_map}
use Rattle.rules.specs.declared.component.ComponentKind.{ComponentKind}
use Rattle.rules.specs.declared.component.ComponentId.{ComponentId}
use Rattle.rules.specs.declared.protection.LevelModes.{LevelModes}
use Rattle.rules.specs.declared.protection.ProtectionMode.{ProtectionMode}
use Rattle.rules.specs.declared.protection.ProtectionMode.TheVariants.{NoProtection}
use Rattle.rules.specs.declared.profile.ProfileLine.{ProfileLine}
use Rattle.rules.specs.Components.{kind_of}
use Rattle.rules.specs.Modes.{row_of, mode_in_row}

-- the level of the line with a PPI and a code
abbrev pub level_in : ℕ → ℕ → List ProfileLine → Option ℕ
level_in ppi code lines = option_map (λ l. l.level) (find (λ l. l.ppi == ppi && l.code == code) lines)

abbrev pub row_at : Option ℕ → Option LevelModes
row_at None = None
row_at (Some level) = row_of level

-- the row of the table for a PPI and a code
abbrev pub row_in : ℕ → ℕ → List ProfileLine → Option LevelModes
row_in ppi code lines = row_at (level_in ppi code lines)

-- no line, or no kind that is known: mode 0
abbrev pub mode_at : Option ComponentKind → Option LevelModes → ProtectionMode
mode_at None row = NoProtection
mode_at (Some kind) None = NoProtection
mode_at (Some kind) (Some row) = mode_in_row kind row

-- the mode of a component under a PPI
abbrev pub mode_in : List ProfileLine → ℕ → ComponentId → ProtectionMode
mode_in lines ppi id = mode_at (kind_of id.kind) (row_in ppi id.code lines)

-- each level is 1 to 6
abbrev pub levels_known : List ProfileLine → Bool
levels_known lines = list_all (λ l. is_some (row_of l.level)) lines

-- no line is followed by one of the same PPI and code
abbrev pub lines_apart : List ProfileLine → Bool
lines_apart [] = true
lines_apart (l ∷ ls) = not (is_some (level_in l.ppi l.code ls)) && lines_apart ls
