-- What holds of every log of calls at two stations, over its lines and answers alone.
use Rattle.std.specs.Prelude.{◌≡◌, ℕ, ◌+◌, ◌-◌, ◌<◌, ◌≤◌, true, false, List, length, take, drop, Some, vec_items}
use Rattle.std.specs.List.{slice_get}
use Rattle.banks.specs.Tags.{Tags}
use Rattle.octets.specs.Numbers.{octets_of}
use Rattle.rules.specs.Layout.{header_in, fields_in}
use Rattle.rules.specs.Listed.{listed_in}
use Rattle.rules.specs.Modes.{protects}
use Rattle.rules.specs.Profiles.{mode_in}
use Rattle.rules.specs.Refusals.{number_of}
use Rattle.rules.specs.Window.{in_window}
use Rattle.rules.specs.declared.component.ComponentId.{ComponentId}
use Rattle.rules.specs.declared.protection.ProtectionMode.{ProtectionMode}
use Rattle.rules.specs.declared.refusal.Refusal.{Refusal}
use Rattle.rules.specs.declared.settings.Settings.{Settings}
use Rattle.station.specs.Receive.{heard_key}
use Rattle.station.specs.Revoke.{key_at}
use Rattle.station.specs.Seal.{tag_under}
use Rattle.station.specs.declared.records.HeardKey.{HeardKey}
use Rattle.station.specs.declared.records.SecurityAssociation.{SecurityAssociation}
use Rattle.rehearsal.specs.declared.log.Answer.{Answer}
use Rattle.rehearsal.specs.declared.log.Answer.TheVariants.{Done, Refused, WentPlain, Sent, Handed}
use Rattle.rehearsal.specs.declared.log.Call.{Call}
use Rattle.rehearsal.specs.declared.log.Call.TheVariants.{Admit, Install, Revoke, Protect, Receive, Plain}
use Rattle.rehearsal.specs.declared.log.Side.{Side}
use Rattle.rehearsal.specs.Associations.{At, AssociationAt}
use Rattle.rehearsal.specs.Runs.{Turn}

-- LISTED COMPONENTS COME ONLY FROM RIGHTLY TAGGED MESSAGES

-- the answer hands on the component, from a message of the mode
abbrev pub HandsOn : ComponentId → ProtectionMode → Answer → Type 0
HandsOn id mode Done = ⊥
HandsOn id mode (Refused r report) = ⊥
HandsOn id mode WentPlain = ⊥
HandsOn id mode (Sent m v) = ⊥
HandsOn id mode (Handed c m v report) = (c ≡ id) × (m ≡ mode)

-- A message that a station was given at a line is rightly tagged. It has mode 1 or 2; its association at the station, under
-- the own network and its SPI, names the network given as sender; its last four octets are the tag of all octets before them
-- under that association. The association is live at the reading, and the stamp is in the window.
pub record RightlyTagged (tags : Tags) (s : Settings) (ts : List Turn) (n : ℕ) (side : Side) (reading network : ℕ) (id : ComponentId) (mode : ProtectionMode) (message : List ℕ) : Type 0 where
  pub association : SecurityAssociation
  pub stands : AssociationAt ts n side (key_at s.own (header_in message).spi) association
  pub sender : association.sender ≡ network
  pub identifier : (header_in message).component ≡ id
  pub mode_is : mode_in (vec_items s.profile) association.ppi id ≡ mode
  pub protected : protects mode ≡ true
  pub long : 24 ≤ length message
  pub tagged : drop (length message - 4) message ≡ octets_of 4 (tag_under tags association (take (length message - 4) message))
  pub live : reading < association.hard
  pub fresh : in_window s.back s.ahead reading (fields_in message).tvp ≡ true

-- the call is a receive of such a message
abbrev pub FromRightlyTagged : Tags → Settings → List Turn → ℕ → Side → ComponentId → ProtectionMode → Call → Type 0
FromRightlyTagged tags s ts n side id mode (Admit network stance) = ⊥
FromRightlyTagged tags s ts n side id mode (Install reading a) = ⊥
FromRightlyTagged tags s ts n side id mode (Revoke destination spi) = ⊥
FromRightlyTagged tags s ts n side id mode (Protect reading network component cleartext room) = ⊥
FromRightlyTagged tags s ts n side id mode (Receive reading network waiting message room) = RightlyTagged tags s ts n side reading network id mode message.now
FromRightlyTagged tags s ts n side id mode (Plain reading component waiting cleartext) = ⊥

-- A station that allows no fallback hands on a component of its protected list, by receive or by plain, only from a message rightly tagged.
abbrev pub ListedOnlyRightlyTagged : Tags → (Side → Settings) → List Turn → Type 0
ListedOnlyRightlyTagged tags settings ts =
    (n : ℕ) (t : Turn) (id : ComponentId) (mode : ProtectionMode)
    → slice_get ts n ≡ Some t → HandsOn id mode t.answer
    → (settings t.line.side).fallback ≡ false → listed_in id (vec_items (settings t.line.side).listed) ≡ true
    → FromRightlyTagged tags (settings t.line.side) ts n t.line.side id mode t.line.call

-- WHAT ONE STATION WROTE, THE OTHER READS

-- a protect for the network was accepted, and wrote the message of the component and the cleartext, in the mode
abbrev pub Writes : ℕ → ComponentId → ProtectionMode → List ℕ → List ℕ → Call → Answer → Type 0
Writes network id mode cleartext message (Admit n stance) a = ⊥
Writes network id mode cleartext message (Install reading x) a = ⊥
Writes network id mode cleartext message (Revoke destination spi) a = ⊥
Writes network id mode cleartext message (Protect reading n c octets room) Done = ⊥
Writes network id mode cleartext message (Protect reading n c octets room) (Refused r report) = ⊥
Writes network id mode cleartext message (Protect reading n c octets room) WentPlain = ⊥
Writes network id mode cleartext message (Protect reading n c octets room) (Sent k v) = (n ≡ network) × (c ≡ id) × (k ≡ mode) × (octets.now ≡ cleartext) × (vec_items v ≡ message)
Writes network id mode cleartext message (Protect reading n c octets room) (Handed x k v report) = ⊥
Writes network id mode cleartext message (Receive reading n waiting octets room) a = ⊥
Writes network id mode cleartext message (Plain reading c waiting octets) a = ⊥

-- the call is a receive of the message
abbrev pub Receives : List ℕ → Call → Type 0
Receives message (Admit network stance) = ⊥
Receives message (Install reading a) = ⊥
Receives message (Revoke destination spi) = ⊥
Receives message (Protect reading network component cleartext room) = ⊥
Receives message (Receive reading network waiting octets room) = octets.now ≡ message
Receives message (Plain reading component waiting cleartext) = ⊥

-- equal but for the expiries
pub record Alike (a b : SecurityAssociation) : Type 0 where
  pub sender : b.sender ≡ a.sender
  pub destination : b.destination ≡ a.destination
  pub spi : b.spi ≡ a.spi
  pub mea : b.mea ≡ a.mea
  pub cipher_key : b.cipher_key ≡ a.cipher_key
  pub mia : b.mia ≡ a.mia
  pub integrity_key : b.integrity_key ≡ a.integrity_key
  pub ppi : b.ppi ≡ a.ppi

-- a refusal that is neither for form (11, 12, 13) nor for the tag (42)
pub record NotForFormOrTag (r : Refusal) : Type 0 where
  pub not_short : number_of r ≡ 11 → ⊥
  pub not_long : number_of r ≡ 12 → ⊥
  pub not_kind : number_of r ≡ 13 → ⊥
  pub not_tag : number_of r ≡ 42 → ⊥

-- the message arrives: it is not refused for form or tag, and handed on it gives the component, the mode and the cleartext
abbrev pub Arrives : ComponentId → ProtectionMode → List ℕ → Answer → Type 0
Arrives id mode cleartext Done = ⊥
Arrives id mode cleartext (Refused r report) = NotForFormOrTag r
Arrives id mode cleartext WentPlain = ⊥
Arrives id mode cleartext (Sent k v) = ⊥
Arrives id mode cleartext (Handed c k v report) = (c ≡ id) × (k ≡ mode) × (vec_items v ≡ cleartext)

-- A message that an accepted protect at one station wrote, received at another that holds its association alike and has equal profile
-- lines, arrives. The association at the sender is the one, at that protect, under the network given there and the message's SPI; that at
-- the receiver the one, at that receive, under its own network and the message's SPI. The two lines may stand in any order.
abbrev pub WrittenIsRead : (Side → Settings) → List Turn → Type 0
WrittenIsRead settings ts =
    (i j : ℕ) (sent received : Turn) (network : ℕ) (id : ComponentId) (mode : ProtectionMode) (cleartext message : List ℕ) (a b : SecurityAssociation)
    → slice_get ts i ≡ Some sent → Writes network id mode cleartext message sent.line.call sent.answer
    → slice_get ts j ≡ Some received → Receives message received.line.call
    → AssociationAt ts i sent.line.side (key_at network (header_in message).spi) a
    → AssociationAt ts j received.line.side (key_at (settings received.line.side).own (header_in message).spi) b
    → Alike a b → vec_items (settings sent.line.side).profile ≡ vec_items (settings received.line.side).profile
    → Arrives id mode cleartext received.answer

-- NO MESSAGE IS HANDED ON AGAIN BEFORE ITS STAMP HAS COME ROUND

-- the call is a receive at the reading of a message with the network, SPI, stamp, NE-Id and Prop of the key
abbrev pub Takes : ℕ → HeardKey → Call → Type 0
Takes reading key (Admit network stance) = ⊥
Takes reading key (Install r a) = ⊥
Takes reading key (Revoke destination spi) = ⊥
Takes reading key (Protect r network component cleartext room) = ⊥
Takes reading key (Receive r network waiting message room) = (r ≡ reading) × (heard_key network (header_in message.now).spi (fields_in message.now) ≡ key)
Takes reading key (Plain r component waiting cleartext) = ⊥

-- the answer hands on a component from a message of mode 1 or 2
abbrev pub HandsOnProtected : Answer → Type 0
HandsOnProtected Done = ⊥
HandsOnProtected (Refused r report) = ⊥
HandsOnProtected WentPlain = ⊥
HandsOnProtected (Sent mode v) = ⊥
HandsOnProtected (Handed c mode v report) = protects mode ≡ true

-- a station hands on such a message at a reading
abbrev pub HandedAt : Side → ℕ → HeardKey → Turn → Type 0
HandedAt side reading key t = (t.line.side ≡ side) × Takes reading key t.line.call × HandsOnProtected t.answer

-- Two lines at which a station hands on one network, SPI, stamp, NE-Id and Prop, in modes 1 and 2,
-- have readings at least 4,294,967,296 − back − ahead apart.
abbrev pub NotAgainBeforeTheStampComesRound : (Side → Settings) → List Turn → Type 0
NotAgainBeforeTheStampComesRound settings ts =
    (side : Side) (i j first second : ℕ) (key : HeardKey) → i < j
    → At ts i (HandedAt side first key) → At ts j (HandedAt side second key)
    → first + 4294967296 ≤ second + (settings side).back + (settings side).ahead
