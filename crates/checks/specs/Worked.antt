-- Worked cases: what the definitions that the calls' contracts cite give at the edges. Settings: back 300, ahead 50, no fallback.
use Rattle.std.specs.Prelude.{◌≡◌, ℕ, true, false, [], ◌∷◌, Some, None, Option}
use Rattle.banks.specs.Ciphers.{null_cipher}
use Rattle.banks.specs.Delivered.{delivered_ciphers, delivered_tags}
use Rattle.banks.specs.Mia1.{mac_blocks}
use Rattle.banks.specs.Tags.{test_tag}
use Rattle.cases.specs.Cases.{component, profile}
use Rattle.keys.specs.declared.Key.{Key}
use Rattle.rules.specs.Checks.{first}
use Rattle.rules.specs.Layout.{iv_octets}
use Rattle.rules.specs.Profiles.{mode_in}
use Rattle.rules.specs.Refusals.{code_of}
use Rattle.rules.specs.Window.{in_window}
use Rattle.rules.specs.declared.message.IvFields.{IvFields}
use Rattle.rules.specs.declared.protection.ProtectionMode.TheVariants.{NoProtection, Integrity, Confidentiality}
use Rattle.rules.specs.declared.refusal.Refusal.{Refusal}
use Rattle.station.specs.Choice.{chosen_for}
use Rattle.station.specs.Forms.{form_checks}
use Rattle.station.specs.Install.{field_checks}
use Rattle.station.specs.Seal.{sealed_under, message_length}
use Rattle.station.specs.States.{Associations}
use Rattle.station.specs.declared.records.SecurityAssociation.{SecurityAssociation}

-- WHAT THE CASES SPEAK OF

-- number and place of a refusal, or none
abbrev pub told : Option Refusal → Option (ℕ × ℕ)
told None = None
told (Some r) = Some (code_of r)

-- a key that starts 00 00 00 01
abbrev pub key : Key
key = record { high = 0x0000000100000000; low = 0 }

-- from network 1 to network 2
abbrev pub association : ℕ → ℕ → ℕ → SecurityAssociation
association spi soft hard =
    record { sender = 1; destination = 2; spi = spi; mea = 1; cipher_key = key; mia = 1; integrity_key = key; ppi = 7; soft = soft; hard = hard }

abbrev pub SPIOf : Option SecurityAssociation → Option ℕ
SPIOf None = None
SPIOf (Some a) = Some a.spi

-- SPI 9 with soft expiry 700 and hard 900, SPI 4 with 600 and 800
abbrev pub two : Associations
two = Some (association 9 700 900) ∷ Some (association 4 600 800) ∷ []

-- the SPI of the association that network 1 sends to network 2 under
abbrev pub taken_at : ℕ → Option ℕ
taken_at reading = SPIOf (chosen_for reading 1 2 two)

-- what install at reading 10 says of the fields, with soft expiry 10
abbrev pub expiry_at_10 : ℕ → Option (ℕ × ℕ)
expiry_at_10 hard = told (first (field_checks 1 delivered_ciphers delivered_tags 10 (association 4 10 hard)))

-- the stamp 1,000 of NE-Id hex 12 34 56 78 90 12
abbrev pub fields : ℕ → IvFields
fields prop = record { tvp = 1000; ne_id = 0x123456789012; prop = prop }

-- an association of the null cipher and the test tag
abbrev pub by_test_tag : SecurityAssociation
by_test_tag =
    record { sender = 1; destination = 2; spi = 4; mea = 0; cipher_key = key; mia = 15; integrity_key = key; ppi = 7; soft = 5000; hard = 6000 }

-- THE CASES

pub record WorkedCases : Type 0 where
  -- modes by the profile
  pub invoke_56 : mode_in profile 7 (component 1 56) ≡ Integrity
  pub result_56 : mode_in profile 7 (component 2 56) ≡ Confidentiality
  pub error_56 : mode_in profile 7 (component 3 56) ≡ NoProtection
  pub result_37 : mode_in profile 7 (component 2 37) ≡ NoProtection
  -- the window at reading 1,000
  pub oldest : in_window 300 50 1000 700 ≡ true
  pub newest : in_window 300 50 1000 1050 ≡ true
  pub too_old : in_window 300 50 1000 699 ≡ false
  pub too_new : in_window 300 50 1000 1051 ≡ false
  -- and past the roll-over of the stamp, at reading 4,294,967,400
  pub oldest_rolled : in_window 300 50 4294967400 4294967100 ≡ true
  pub newest_rolled : in_window 300 50 4294967400 154 ≡ true
  pub too_old_rolled : in_window 300 50 4294967400 4294967099 ≡ false
  pub too_new_rolled : in_window 300 50 4294967400 155 ≡ false
  -- lengths in mode 1: 0, 1,024 and 1,025 octets of cleartext
  pub shortest : message_length Integrity 0 ≡ 24
  pub longest : message_length Integrity 1024 ≡ 1048
  pub longest_taken : told (first (form_checks (component 1 37) 1024)) ≡ None
  pub too_long : told (first (form_checks (component 1 37) 1025)) ≡ Some (12, 0)
  -- blocks of MIA-1 for 31 and 32 octets
  pub blocks_31 : mac_blocks 31 ≡ 2
  pub blocks_32 : mac_blocks 32 ≡ 3
  -- the choice by reading
  pub at_599 : taken_at 599 ≡ Some 4
  pub at_600 : taken_at 600 ≡ Some 9
  pub at_700 : taken_at 700 ≡ Some 4
  pub at_800 : taken_at 800 ≡ Some 9
  pub at_900 : taken_at 900 ≡ None
  -- the bounds of the hard expiry: refusal 33, place 10
  pub hard_latest : expiry_at_10 2147483658 ≡ None
  pub hard_too_late : expiry_at_10 2147483659 ≡ Some (33, 10)
  pub hard_now : expiry_at_10 10 ≡ Some (33, 10)
  -- the IV with Prop 5
  pub iv : iv_octets (fields 5) ≡ 0x00 ∷ 0x00 ∷ 0x03 ∷ 0xe8 ∷ 0x12 ∷ 0x34 ∷ 0x56 ∷ 0x78 ∷ 0x90 ∷ 0x12 ∷ 0x00 ∷ 0x00 ∷ 0x00 ∷ 0x05 ∷ 0x00 ∷ 0x00 ∷ []
  -- the message of one octet, hex AA, under the test tag, which is hex 00 00 03 76
  pub test_message : sealed_under null_cipher test_tag by_test_tag (record { spi = 4; component = component 1 37 }) (fields 0) Integrity (0xaa ∷ [])
      ≡ 0x00 ∷ 0x00 ∷ 0x00 ∷ 0x04 ∷ 0x01 ∷ 0x25 ∷ 0x00 ∷ 0x00 ∷ 0x03 ∷ 0xe8 ∷ 0x12 ∷ 0x34 ∷ 0x56 ∷ 0x78 ∷ 0x90 ∷ 0x12 ∷ 0x00 ∷ 0x00 ∷ 0x00 ∷ 0x00 ∷ 0xaa ∷ 0x00 ∷ 0x00 ∷ 0x03 ∷ 0x76 ∷ []
