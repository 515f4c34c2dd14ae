-- The layout of MAPsec messages, as TS 33.200, clause 5.5, has it. All numbers go most significant octet first.
--   mode 0:         SPI 4, kind 1, code 1; the cleartext
--   modes 1 and 2:  SPI 4, kind 1, code 1, TVP 4, NE-Id 6, Prop 4; the payload; the tag 4
use Rattle.std.specs.Prelude.{◌≡◌, ℕ, ◌+◌, ◌-◌, ◌^◌, ◌<◌, ◌≤◌, Bool, true, false, List, [], ◌∷◌, ◌++◌, length, take, drop, Ok, Err, Result, MatchResult, nat_lt, slice_index}
use Rattle.octets.specs.Numbers.{octets_of, number}
use Rattle.rules.specs.declared.message.SecurityHeader.{SecurityHeader}
use Rattle.rules.specs.declared.message.IvFields.{IvFields}
use Rattle.rules.specs.declared.message.Message.{Message}
use Rattle.rules.specs.declared.message.Message.TheVariants.{Open, Sealed}
use Rattle.rules.specs.declared.message.OpenMessage.{OpenMessage}
use Rattle.rules.specs.declared.message.SealedMessage.{SealedMessage}
use Rattle.rules.specs.declared.message.Part.{Part}
use Rattle.rules.specs.declared.protection.ProtectionMode.{ProtectionMode}
use Rattle.rules.specs.declared.refusal.Refusal.{Refusal}
use Rattle.rules.specs.declared.refusal.Refusal.TheVariants.{MessageTooShort}
use Rattle.rules.specs.Modes.{protects}

-- LAYING OUT

unfoldable pub open_header : SecurityHeader → List ℕ
open_header h = octets_of 4 h.spi ++ (h.component.kind ∷ h.component.code ∷ [])

-- TVP, NE-Id, Prop
unfoldable pub iv_part : IvFields → List ℕ
iv_part f = octets_of 4 f.tvp ++ (octets_of 6 f.ne_id ++ octets_of 4 f.prop)

abbrev pub sealed_header : SecurityHeader → IvFields → List ℕ
sealed_header h f = open_header h ++ iv_part f

-- the IV: these and two zero octets
abbrev pub iv_octets : IvFields → List ℕ
iv_octets f = iv_part f ++ (0 ∷ 0 ∷ [])

abbrev pub open_message : SecurityHeader → List ℕ → List ℕ
open_message h payload = open_header h ++ payload

abbrev pub sealed_message : SecurityHeader → IvFields → List ℕ → ℕ → List ℕ
sealed_message h f payload tag = sealed_header h f ++ (payload ++ octets_of 4 tag)

-- READING

-- so many octets from a place on
abbrev pub part : ℕ → ℕ → List ℕ → List ℕ
part place width xs = take width (drop place xs)

abbrev pub header_in : List ℕ → SecurityHeader
header_in xs = record { spi = number (part 0 4 xs); component = record { kind = slice_index xs 4; code = slice_index xs 5 } }

abbrev pub fields_in : List ℕ → IvFields
fields_in xs = record { tvp = number (part 6 4 xs); ne_id = number (part 10 6 xs); prop = number (part 16 4 xs) }

-- the payload of either shape, and the tag
abbrev pub open_payload : List ℕ → List ℕ
open_payload xs = drop 6 xs

abbrev pub sealed_payload : List ℕ → List ℕ
sealed_payload xs = part 20 (length xs - 24) xs

abbrev pub tag_in : List ℕ → ℕ
tag_in xs = number (part (length xs - 4) 4 xs)

-- a header needs six octets
abbrev pub header_checks : List ℕ → List (Bool × Refusal)
header_checks xs = (nat_lt (length xs) 6, MessageTooShort (length xs)) ∷ []

-- a part lies at its place, and is the octets that stand there
pub record PartAt (xs : List ℕ) (place width : ℕ) (p : Part) : Type 0 where
  pub place_is : p.place ≡ place
  pub octets_are : p.octets.now ≡ part place width xs
  pub inside : place + width ≤ length xs

-- an open message is its header and its payload, in this order, and nothing else
pub record OpenParts (xs : List ℕ) (m : OpenMessage) : Type 0 where
  pub header : PartAt xs 0 6 m.header
  pub payload : PartAt xs 6 (length xs - 6) m.payload
  pub laid_out : xs ≡ open_message (header_in xs) m.payload.octets.now

-- a sealed message is its header, its payload and its tag
pub record SealedParts (xs : List ℕ) (m : SealedMessage) : Type 0 where
  pub header : PartAt xs 0 20 m.header
  pub fields : m.fields ≡ fields_in xs
  pub payload : PartAt xs 20 (length xs - 24) m.payload
  pub tag : PartAt xs (length xs - 4) 4 m.tag
  pub claimed : m.claimed ≡ tag_in xs
  pub laid_out : xs ≡ sealed_message (header_in xs) m.fields m.payload.octets.now m.claimed

-- what reading one shape answers, or that the message is too short for it
abbrev pub ReadsOpen : List ℕ → Result OpenMessage Refusal → Type 0
ReadsOpen xs r = MatchResult r (λ m. (6 ≤ length xs) × OpenParts xs m) (λ e. (length xs < 6) × (e ≡ MessageTooShort (length xs)))

abbrev pub ReadsSealed : List ℕ → Result SealedMessage Refusal → Type 0
ReadsSealed xs r = MatchResult r (λ m. (24 ≤ length xs) × SealedParts xs m) (λ e. (length xs < 24) × (e ≡ MessageTooShort (length xs)))

-- What reading answers: the shape of the mode, or that the message is too short for it.
abbrev pub ReadsAs : List ℕ → Bool → Result Message Refusal → Type 0
ReadsAs xs true (Ok (Open m)) = ⊥
ReadsAs xs true (Ok (Sealed m)) = (24 ≤ length xs) × SealedParts xs m
ReadsAs xs true (Err e) = (length xs < 24) × (e ≡ MessageTooShort (length xs))
ReadsAs xs false (Ok (Open m)) = (6 ≤ length xs) × OpenParts xs m
ReadsAs xs false (Ok (Sealed m)) = ⊥
ReadsAs xs false (Err e) = (length xs < 6) × (e ≡ MessageTooShort (length xs))

abbrev pub Reads : List ℕ → ProtectionMode → Result Message Refusal → Type 0
Reads xs mode r = ReadsAs xs (protects mode) r

-- fields that fit their octets
pub record HeaderFits (h : SecurityHeader) : Type 0 where
  pub spi : h.spi < 2 ^ 32

pub record FieldsFit (f : IvFields) : Type 0 where
  pub tvp : f.tvp < 2 ^ 32
  pub ne_id : f.ne_id < 2 ^ 48
  pub prop : f.prop < 2 ^ 32

-- Reading what was laid out gives the fields, the payload and the tag back.
pub record OpenUndone (h : SecurityHeader) (payload : List ℕ) : Type 0 where
  pub header : header_in (open_message h payload) ≡ h
  pub payload_is : open_payload (open_message h payload) ≡ payload
  pub long : length (open_message h payload) ≡ 6 + length payload

pub record SealedUndone (h : SecurityHeader) (f : IvFields) (payload : List ℕ) (tag : ℕ) : Type 0 where
  pub header : header_in (sealed_message h f payload tag) ≡ h
  pub fields : fields_in (sealed_message h f payload tag) ≡ f
  pub payload_is : sealed_payload (sealed_message h f payload tag) ≡ payload
  pub tag_is : tag_in (sealed_message h f payload tag) ≡ tag
  pub covered : take (length (sealed_message h f payload tag) - 4) (sealed_message h f payload tag) ≡ sealed_header h f ++ payload
  pub long : length (sealed_message h f payload tag) ≡ 24 + length payload

abbrev pub ReadingUndoesLayingOut : Type 0
ReadingUndoesLayingOut =
    ((h : SecurityHeader) (payload : List ℕ) → HeaderFits h → OpenUndone h payload)
    × ((h : SecurityHeader) (f : IvFields) (payload : List ℕ) (tag : ℕ) → HeaderFits h → FieldsFit f → tag < 2 ^ 32 → SealedUndone h f payload tag)
