-- Protect: from a component to the octets of a message.
use Rattle.std.specs.Prelude.{◌≡◌, ℕ, ◌+◌, ◌%◌, Bool, true, false, cond, not, ◌&&◌, List, [], ◌∷◌, ◌++◌, length, drop, is_some, is_ok, is_err, vec_items, Option, Result, ◌==◌, nat_le, nat_lt}
use Rattle.banks.specs.Ciphers.{Ciphers}
use Rattle.banks.specs.Tags.{Tags}
use Rattle.rules.specs.Checks.{decided}
use Rattle.rules.specs.Modes.{protects}
use Rattle.rules.specs.Profiles.{mode_in}
use Rattle.rules.specs.declared.component.ComponentId.{ComponentId}
use Rattle.rules.specs.declared.message.IvFields.{IvFields}
use Rattle.rules.specs.declared.message.SecurityHeader.{SecurityHeader}
use Rattle.rules.specs.declared.protection.ProtectionMode.{ProtectionMode}
use Rattle.rules.specs.declared.refusal.Refusal.{Refusal}
use Rattle.rules.specs.declared.refusal.Refusal.TheVariants.{NoPolicy, NoLiveAssociation, OutputTooShort, TickFull}
use Rattle.station.specs.declared.protect.Sending.{Sending}
use Rattle.station.specs.declared.protect.Sending.TheVariants.{Plain, Sent}
use Rattle.station.specs.declared.records.Policy.{Policy}
use Rattle.station.specs.declared.records.SecurityAssociation.{SecurityAssociation}
use Rattle.station.specs.declared.station.Station.{Station}
use Rattle.station.specs.Choice.{chosen_for}
use Rattle.station.specs.Clock.{clock_checks, read_at}
use Rattle.station.specs.Forms.{form_checks, is_plain, association_or_blank}
use Rattle.station.specs.Seal.{message_under, message_length}
use Rattle.station.specs.States.{Contents, policy_under}

-- What a call is given, and what it finds.
pub record Call : Type 0 where
  pub station : Station
  pub contents : Contents
  pub ciphers : Ciphers
  pub tags : Tags
  pub reading : ℕ
  pub network : ℕ
  pub component : ComponentId
  pub cleartext : List ℕ
  pub output : List ℕ

abbrev pub policy_for : Call → Option Policy
policy_for c = policy_under c.network c.contents.policies

-- the association to send under, or none
abbrev pub association_for : Call → Option SecurityAssociation
association_for c = chosen_for c.reading c.station.settings.own c.network c.contents.associations

-- how many components were already protected, in modes 1 and 2, at a reading
abbrev pub protected_at : ℕ → Station → ℕ
protected_at reading s = cond (s.tick == reading) s.sent 0

-- THE MESSAGE, under an association

abbrev pub mode_under : Call → SecurityAssociation → ProtectionMode
mode_under c a = mode_in (vec_items c.station.settings.profile) a.ppi c.component

abbrev pub header_under : Call → SecurityAssociation → SecurityHeader
header_under c a = record { spi = a.spi; component = c.component }

-- the stamp of the reading, the own NE-Id, and the count as Prop
abbrev pub fields_at : Call → IvFields
fields_at c = record { tvp = c.reading % 4294967296; ne_id = c.station.settings.ne_id; prop = protected_at c.reading c.station }

abbrev pub needed_under : Call → SecurityAssociation → ℕ
needed_under c a = message_length (mode_under c a) (length c.cleartext)

abbrev pub message_of : Call → SecurityAssociation → List ℕ
message_of c a = message_under c.ciphers c.tags a (header_under c a) (fields_at c) (mode_under c a) c.cleartext

-- THE CHECKS, in their order

abbrev pub policy_checks : Call → List (Bool × Refusal)
policy_checks c = (not (is_some (policy_for c)), NoPolicy) ∷ []

abbrev pub association_checks : Call → List (Bool × Refusal)
association_checks c = (not (is_some (association_for c)), NoLiveAssociation) ∷ []

-- room for the message, and in modes 1 and 2 for one more at this reading
abbrev pub room_checks : ProtectionMode → ℕ → ℕ → ℕ → List (Bool × Refusal)
room_checks mode needed room count =
    (nat_lt room needed, OutputTooShort needed)
    ∷ (protects mode && nat_le 200 count, TickFull)
    ∷ []

abbrev pub room_under : Call → SecurityAssociation → List (Bool × Refusal)
room_under c a = room_checks (mode_under c a) (needed_under c a) (length c.output) (protected_at c.reading c.station)

-- the blank association stands where there is none, and decides nothing then
abbrev pub the_association : Call → SecurityAssociation
the_association c = association_or_blank (association_for c)

-- a plain network ends the checks
abbrev pub sending_checks : Call → List (Bool × Refusal)
sending_checks c = cond (is_plain (policy_for c)) [] (association_checks c ++ room_under c (the_association c))

abbrev pub checks : Call → List (Bool × Refusal)
checks c =
    clock_checks c.station.latest c.reading
    ++ (form_checks c.component (length c.cleartext)
    ++ (policy_checks c ++ sending_checks c))

-- THE OUTCOME

abbrev pub sent_under : Call → SecurityAssociation → Sending
sent_under c a = Sent (mode_under c a) (needed_under c a)

abbrev pub outcome : Call → Sending
outcome c = cond (is_plain (policy_for c)) Plain (sent_under c (the_association c))

-- the station once a message was sent: the reading is the latest, and a message in mode 1 or 2 is counted
abbrev pub counted : Bool → ℕ → Station → Station
counted true reading s = record { settings = s.settings; latest = reading; tick = reading; sent = protected_at reading s + 1 }
counted false reading s = read_at reading s

abbrev pub station_sent : Call → SecurityAssociation → Station
station_sent c a = counted (protects (mode_under c a)) c.reading c.station

-- the output then: the message, and behind it what was there
abbrev pub output_sent : Call → SecurityAssociation → List ℕ
output_sent c a = message_of c a ++ drop (needed_under c a) c.output

abbrev pub station_after : Call → Station
station_after c = cond (is_plain (policy_for c)) (read_at c.reading c.station) (station_sent c (the_association c))

abbrev pub output_after : Call → List ℕ
output_after c = cond (is_plain (policy_for c)) c.output (output_sent c (the_association c))

-- what is answered and left where the network is not plain
pub record Sends (c : Call) (station : Station) (output : List ℕ) (r : Result Sending Refusal) : Type 0 where
  pub answer : r ≡ decided (association_checks c ++ room_under c (the_association c)) (sent_under c (the_association c))
  pub refused : is_err r ≡ true → (station ≡ c.station) × (output ≡ c.output)
  pub accepted : is_ok r ≡ true → (station ≡ station_sent c (the_association c)) × (output ≡ output_sent c (the_association c))

-- What protect answers and leaves.
pub record Protected (c : Call) (station : Station) (output : List ℕ) (r : Result Sending Refusal) : Type 0 where
  pub answer : r ≡ decided (checks c) (outcome c)
  pub refused : is_err r ≡ true → (station ≡ c.station) × (output ≡ c.output)
  pub accepted : is_ok r ≡ true → (station ≡ station_after c) × (output ≡ output_after c)
