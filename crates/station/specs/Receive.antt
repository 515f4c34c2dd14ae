-- Receive: from the octets of a message to a component.
use Rattle.std.specs.Prelude.{◌≡◌, ℕ, ◌-◌, Bool, true, false, cond, not, ◌&&◌, List, [], ◌∷◌, ◌++◌, length, drop, is_some, is_ok, is_err, Some, None, vec_items, Option, Result, ◌==◌, nat_le, nat_lt}
use Rattle.banks.specs.Ciphers.{Ciphers}
use Rattle.banks.specs.Tags.{Tags}
use Rattle.rules.specs.Checks.{decided}
use Rattle.rules.specs.Components.{kind_of}
use Rattle.rules.specs.Layout.{part, header_in, fields_in, open_payload, sealed_payload, tag_in}
use Rattle.rules.specs.Listed.{listed_in}
use Rattle.rules.specs.Modes.{protects}
use Rattle.rules.specs.Profiles.{mode_in}
use Rattle.rules.specs.Window.{in_window, last_tick}
use Rattle.rules.specs.declared.component.ComponentId.{ComponentId}
use Rattle.rules.specs.declared.message.IvFields.{IvFields}
use Rattle.rules.specs.declared.message.SealedMessage.{SealedMessage}
use Rattle.rules.specs.declared.protection.ProtectionMode.{ProtectionMode}
use Rattle.rules.specs.declared.refusal.Refusal.{Refusal}
use Rattle.rules.specs.declared.refusal.Refusal.TheVariants.{MessageTooShort, CleartextTooLong, UnknownKind, NoPolicy, SecuredFromPlainNetwork, ListedUnprotected, NoLiveAssociation, OutsideWindow, TagDiffers, HeardBefore, HeardFull, OutputTooShort}
use Rattle.rules.specs.declared.settings.Settings.{Settings}
use Rattle.station.specs.declared.receive.Handed.{Handed}
use Rattle.station.specs.declared.records.HeardKey.{HeardKey}
use Rattle.station.specs.declared.records.HeardMessage.{HeardMessage}
use Rattle.station.specs.declared.records.SecurityAssociation.{SecurityAssociation}
use Rattle.station.specs.declared.station.Station.{Station}
use Rattle.station.specs.Clock.{clock_checks, read_at}
use Rattle.station.specs.Forms.{is_plain, association_or_blank}
use Rattle.station.specs.Records.{live}
use Rattle.station.specs.Revoke.{key_at}
use Rattle.station.specs.Seal.{turned, tag_under}
use Rattle.station.specs.States.{Contents, Heard, policy_under, association_under, fresh_under, fresh_count, HeardAdded}

-- What a call is given, and what it finds.
pub record Call : Type 0 where
  pub station : Station
  pub contents : Contents
  pub ciphers : Ciphers
  pub tags : Tags
  pub reading : ℕ
  pub network : ℕ
  pub message : List ℕ
  pub output : List ℕ

-- THE WAY IN

-- an association that names the network as sender and is live
abbrev pub from_network : ℕ → ℕ → Option SecurityAssociation → Option SecurityAssociation
from_network reading network None = None
from_network reading network (Some a) = cond (a.sender == network && live reading a) (Some a) None

-- the association of a message: under the own network and its SPI
abbrev pub association_of : ℕ → ℕ → ℕ → ℕ → Contents → Option SecurityAssociation
association_of own reading network spi contents = from_network reading network (association_under (key_at own spi) contents.associations)

-- a header, of a known kind; a policy, which is not plain; an association
abbrev pub entrance_checks : Settings → Contents → ℕ → ℕ → List ℕ → List (Bool × Refusal)
entrance_checks s contents reading network message =
    (nat_lt (length message) 6, MessageTooShort (length message))
    ∷ (not (is_some (kind_of (header_in message).component.kind)), UnknownKind 4)
    ∷ (not (is_some (policy_under network contents.policies)), NoPolicy)
    ∷ (is_plain (policy_under network contents.policies), SecuredFromPlainNetwork)
    ∷ (not (is_some (association_of s.own reading network (header_in message).spi contents)), NoLiveAssociation)
    ∷ []

-- IN MODE 0

abbrev pub open_checks : Settings → ComponentId → List ℕ → ℕ → List (Bool × Refusal)
open_checks s id payload room =
    (nat_lt 1024 (length payload), CleartextTooLong 6)
    ∷ (listed_in id (vec_items s.listed) && not s.fallback, ListedUnprotected 4)
    ∷ (nat_lt room (length payload), OutputTooShort (length payload))
    ∷ []

-- IN MODES 1 AND 2

-- what a sealed message is known by once it was heard
abbrev pub heard_key : ℕ → ℕ → IvFields → HeardKey
heard_key network spi f = record { network = network; spi = spi; tvp = f.tvp; ne_id = f.ne_id; prop = f.prop }

-- fresh, rightly tagged, and not heard before; `covered` is what the tag is over, and `place` where it stands
abbrev pub fresh_checks : Settings → Tags → Heard → ℕ → HeardKey → SecurityAssociation → List ℕ → ℕ → ℕ → List (Bool × Refusal)
fresh_checks s tags heard reading key a covered claimed place =
    (not (in_window s.back s.ahead reading key.tvp), OutsideWindow)
    ∷ (not (tag_under tags a covered == claimed), TagDiffers place)
    ∷ (is_some (fresh_under reading key heard), HeardBefore)
    ∷ []

-- room for the cleartext, and for one more heard message
abbrev pub room_checks : Heard → ℕ → ℕ → ℕ → List (Bool × Refusal)
room_checks heard reading needed room =
    (nat_lt room needed, OutputTooShort needed)
    ∷ (nat_le (length heard) (fresh_count reading heard), HeardFull (length heard))
    ∷ []

-- not too short for header and tag, and not too long
abbrev pub shape_checks : List ℕ → List (Bool × Refusal)
shape_checks message =
    (nat_lt (length message) 24, MessageTooShort (length message))
    ∷ (nat_lt 1024 (length message - 24), CleartextTooLong 20)
    ∷ []

-- what the tag is over: the header and the payload
abbrev pub covered_in : List ℕ → List ℕ
covered_in message = part 0 20 message ++ sealed_payload message

-- the hand-over of a sealed message, part by part
pub record HandOver : Type 0 where
  pub station : Station
  pub contents : Contents
  pub ciphers : Ciphers
  pub tags : Tags
  pub reading : ℕ
  pub key : HeardKey
  pub association : SecurityAssociation
  pub handed : Handed
  pub message : SealedMessage
  pub output : List ℕ

abbrev pub payload_of : HandOver → List ℕ
payload_of h = h.message.payload.octets.now

abbrev pub hand_over_checks : HandOver → List (Bool × Refusal)
hand_over_checks h =
    ((nat_lt 1024 (length (payload_of h)), CleartextTooLong 20) ∷ [])
    ++ (fresh_checks h.station.settings h.tags h.contents.heard h.reading h.key h.association (h.message.header.octets.now ++ payload_of h) h.message.claimed h.message.tag.place
    ++ room_checks h.contents.heard h.reading (length (payload_of h)) (length h.output))

pub record Over (h : HandOver) (station : Station) (after : Contents) (output : List ℕ) : Type 0 where
  pub station_is : station ≡ read_at h.reading h.station
  pub output_is : output ≡ turned h.ciphers h.association h.message.fields h.handed.mode (payload_of h) ++ drop (length (payload_of h)) h.output
  pub policies : after.policies ≡ h.contents.policies
  pub associations : after.associations ≡ h.contents.associations
  pub remembered : HeardAdded (record { key = h.key; last = last_tick h.station.settings.back h.reading h.key.tvp }) h.reading h.contents.heard after.heard

pub record HandsOver (h : HandOver) (station : Station) (after : Contents) (output : List ℕ) (r : Result Handed Refusal) : Type 0 where
  pub answer : r ≡ decided (hand_over_checks h) h.handed
  pub refused : is_err r ≡ true → (station ≡ h.station) × (after ≡ h.contents) × (output ≡ h.output)
  pub accepted : is_ok r ≡ true → Over h station after output

-- THE CALL, under an association

abbrev pub mode_under : Call → SecurityAssociation → ProtectionMode
mode_under c a = mode_in (vec_items c.station.settings.profile) a.ppi (header_in c.message).component

abbrev pub key_for : Call → HeardKey
key_for c = heard_key c.network (header_in c.message).spi (fields_in c.message)

abbrev pub sealed_checks : Call → SecurityAssociation → List (Bool × Refusal)
sealed_checks c a =
    shape_checks c.message
    ++ (fresh_checks c.station.settings c.tags c.contents.heard c.reading (key_for c) a (covered_in c.message) (tag_in c.message) (length c.message - 4)
    ++ room_checks c.contents.heard c.reading (length c.message - 24) (length c.output))

abbrev pub unsealed_checks : Call → List (Bool × Refusal)
unsealed_checks c = open_checks c.station.settings (header_in c.message).component (open_payload c.message) (length c.output)

abbrev pub body_checks : Call → SecurityAssociation → List (Bool × Refusal)
body_checks c a = cond (protects (mode_under c a)) (sealed_checks c a) (unsealed_checks c)

abbrev pub association_for : Call → Option SecurityAssociation
association_for c = association_of c.station.settings.own c.reading c.network (header_in c.message).spi c.contents

-- the blank association stands where there is none, and decides nothing then
abbrev pub the_association : Call → SecurityAssociation
the_association c = association_or_blank (association_for c)

-- the checks in their order
abbrev pub checks : Call → List (Bool × Refusal)
checks c =
    clock_checks c.station.latest c.reading
    ++ (entrance_checks c.station.settings c.contents c.reading c.network c.message
    ++ body_checks c (the_association c))

-- THE OUTCOME

-- the cleartext: the payload, turned back in mode 2
abbrev pub cleartext_under : Call → SecurityAssociation → List ℕ
cleartext_under c a =
    cond (protects (mode_under c a))
    (turned c.ciphers a (fields_in c.message) (mode_under c a) (sealed_payload c.message))
    (open_payload c.message)

abbrev pub size_under : Call → SecurityAssociation → ℕ
size_under c a = length c.message - cond (protects (mode_under c a)) 24 6

abbrev pub handed_under : Call → SecurityAssociation → Handed
handed_under c a = record { component = (header_in c.message).component; mode = mode_under c a; «length» = size_under c a }

-- what is remembered of a sealed message
abbrev pub heard_for : Call → HeardMessage
heard_for c = record { key = key_for c; last = last_tick c.station.settings.back c.reading (fields_in c.message).tvp }

-- what is left once a message was handed on under an association
pub record HandedOn (c : Call) (a : SecurityAssociation) (station : Station) (after : Contents) (output : List ℕ) : Type 0 where
  pub station_is : station ≡ read_at c.reading c.station
  pub output_is : output ≡ cleartext_under c a ++ drop (size_under c a) c.output
  pub policies : after.policies ≡ c.contents.policies
  pub associations : after.associations ≡ c.contents.associations
  pub remembered : protects (mode_under c a) ≡ true → HeardAdded (heard_for c) c.reading c.contents.heard after.heard
  pub nothing_remembered : protects (mode_under c a) ≡ false → after.heard ≡ c.contents.heard

-- What receive answers and leaves.
pub record Received (c : Call) (station : Station) (after : Contents) (output : List ℕ) (r : Result Handed Refusal) : Type 0 where
  pub answer : r ≡ decided (checks c) (handed_under c (the_association c))
  pub refused : is_err r ≡ true → (station ≡ c.station) × (after ≡ c.contents) × (output ≡ c.output)
  pub accepted : is_ok r ≡ true → HandedOn c (the_association c) station after output
