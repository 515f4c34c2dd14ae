-- The number and the place of each refusal.
use Rattle.std.specs.Prelude.{ℕ}
use Rattle.rules.specs.declared.refusal.Setting.{Setting}
use Rattle.rules.specs.declared.refusal.Setting.TheVariants.{OwnNetwork, NeId, Back, Ahead, Fallback, ProtectedList, ProfileLines}
use Rattle.rules.specs.declared.refusal.PolicyField.{PolicyField}
use Rattle.rules.specs.declared.refusal.PolicyField.TheVariants.{Network, Stance}
use Rattle.rules.specs.declared.refusal.AssociationField.{AssociationField}
use Rattle.rules.specs.declared.refusal.AssociationField.TheVariants.{Sender, Destination, Spi, Mea, CipherKey, Mia, IntegrityKey, Ppi, SoftExpiry, HardExpiry}
use Rattle.rules.specs.declared.refusal.Refusal.{Refusal}
use Rattle.rules.specs.declared.refusal.Refusal.TheVariants.{MessageTooShort, CleartextTooLong, UnknownKind, WrongReading, NoPolicy, SecuredFromPlainNetwork, ListedUnprotected, NoLiveAssociation, KeyHeld, WrongPolicy, WrongAssociation, KeyNotHeld, RegisterFull, OutsideWindow, TagDiffers, HeardBefore, HeardFull, TickFull, OutputTooShort, WrongSetting}

-- the positions of the settings
abbrev pub setting_position : Setting → ℕ
setting_position OwnNetwork = 1
setting_position NeId = 2
setting_position Back = 3
setting_position Ahead = 4
setting_position Fallback = 5
setting_position ProtectedList = 6
setting_position ProfileLines = 7

-- the positions of a policy's fields
abbrev pub policy_position : PolicyField → ℕ
policy_position Network = 1
policy_position Stance = 2

-- the positions of an association's fields
abbrev pub association_position : AssociationField → ℕ
association_position Sender = 1
association_position Destination = 2
association_position Spi = 3
association_position Mea = 4
association_position CipherKey = 5
association_position Mia = 6
association_position IntegrityKey = 7
association_position Ppi = 8
association_position SoftExpiry = 9
association_position HardExpiry = 10

-- the number of a refusal, and its place
abbrev pub code_of : Refusal → ℕ × ℕ
code_of (MessageTooShort length) = (11, length)
code_of (CleartextTooLong place) = (12, place)
code_of (UnknownKind place) = (13, place)
code_of WrongReading = (14, 0)
code_of NoPolicy = (21, 0)
code_of SecuredFromPlainNetwork = (22, 0)
code_of (ListedUnprotected place) = (23, place)
code_of NoLiveAssociation = (31, 0)
code_of KeyHeld = (32, 3)
code_of (WrongPolicy field) = (33, policy_position field)
code_of (WrongAssociation field) = (33, association_position field)
code_of KeyNotHeld = (34, 0)
code_of (RegisterFull capacity) = (35, capacity)
code_of OutsideWindow = (41, 6)
code_of (TagDiffers place) = (42, place)
code_of HeardBefore = (43, 6)
code_of (HeardFull capacity) = (44, capacity)
code_of TickFull = (45, 200)
code_of (OutputTooShort needed) = (51, needed)
code_of (WrongSetting setting) = (61, setting_position setting)

abbrev pub number_of : Refusal → ℕ
number_of r = (code_of r).0

abbrev pub place_of : Refusal → ℕ
place_of r = (code_of r).1
