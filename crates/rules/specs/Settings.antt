-- Which settings are refused, and in which order.
use Rattle.std.specs.Prelude.{Bool, not, ◌||◌, List, [], ◌∷◌, length, nat_le, nat_lt}
use Rattle.rules.specs.declared.settings.Draft.{Draft}
use Rattle.rules.specs.declared.refusal.Refusal.{Refusal}
use Rattle.rules.specs.declared.refusal.Refusal.TheVariants.{WrongSetting}
use Rattle.rules.specs.declared.refusal.Setting.TheVariants.{OwnNetwork, NeId, Back, Ahead, ProtectedList, ProfileLines}
use Rattle.rules.specs.Listed.{kinds_known}
use Rattle.rules.specs.Profiles.{levels_known, lines_apart}

-- the settings in their order; fallback, the fifth, is never wrong
abbrev pub setting_checks : Draft → List (Bool × Refusal)
setting_checks d =
    (nat_le 16777216 d.own, WrongSetting OwnNetwork)
    ∷ (nat_le 281474976710656 d.ne_id, WrongSetting NeId)
    ∷ (nat_lt 6000 d.back, WrongSetting Back)
    ∷ (nat_lt 600 d.ahead, WrongSetting Ahead)
    ∷ (nat_lt 64 (length d.listed.items) || not (kinds_known d.listed.items), WrongSetting ProtectedList)
    ∷ ((nat_lt 64 (length d.profile.items) || not (levels_known d.profile.items)) || not (lines_apart d.profile.items), WrongSetting ProfileLines)
    ∷ []
