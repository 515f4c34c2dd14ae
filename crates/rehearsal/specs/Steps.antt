-- What one line of a log does to its station, and how it is answered.
use Rattle.std.specs.Prelude.{◌≡◌, ℕ, ◌^◌, ◌<◌, Bool, List, length, take, replicate, Ok, Err, vec_items, Result}
use Rattle.banks.specs.Ciphers.{Ciphers}
use Rattle.banks.specs.Tags.{Tags}
use Rattle.octets.specs.Numbers.{Octets}
use Rattle.register.specs.Places.{Apart}
use Rattle.rules.specs.declared.component.ComponentId.{ComponentId}
use Rattle.rules.specs.declared.refusal.Refusal.{Refusal}
use Rattle.station.specs.Admit.{Admitted}
use Rattle.station.specs.Install.{Installed}
use Rattle.station.specs.Plain.{TakenPlain}
use Rattle.station.specs.Protect as protects
use Rattle.station.specs.Receive as receives
use Rattle.station.specs.Records.{association_key, same_association}
use Rattle.station.specs.Revoke.{Revoked}
use Rattle.station.specs.Slips.{refusal_number, reported}
use Rattle.station.specs.States.{Contents, contents_of}
use Rattle.station.specs.declared.protect.Sending.{Sending}
use Rattle.station.specs.declared.protect.Sending.TheVariants.{Plain as PlainSending, Sent as SentSending}
use Rattle.station.specs.declared.receive.Handed.{Handed as HandedOn}
use Rattle.station.specs.declared.records.SecurityAssociation.{SecurityAssociation}
use Rattle.station.specs.declared.station.Station.{Station}
use Rattle.rehearsal.specs.declared.log.Call.{Call}
use Rattle.rehearsal.specs.declared.log.Call.TheVariants.{Admit, Install, Revoke, Protect, Receive, Plain}
use Rattle.rehearsal.specs.declared.log.Answer.{Answer}
use Rattle.rehearsal.specs.declared.log.Answer.TheVariants.{Done, Refused, WentPlain, Sent, Handed}
use Rattle.rehearsal.specs.declared.site.Site.{Site}

-- the answer of admit, install and revoke
abbrev pub kept_answer : Result (Unit {0}) Refusal → Answer
kept_answer (Ok u) = Done
kept_answer (Err r) = Refused r 0

-- an answer shows the outcome of protect: the message is the front of the output
abbrev pub ShowsSent : Sending → List ℕ → Answer → Type 0
ShowsSent PlainSending output a = a ≡ WentPlain
ShowsSent (SentSending mode n) output Done = ⊥
ShowsSent (SentSending mode n) output (Refused r k) = ⊥
ShowsSent (SentSending mode n) output WentPlain = ⊥
ShowsSent (SentSending mode n) output (Sent mode' v) = (mode' ≡ mode) × (vec_items v ≡ take n output)
ShowsSent (SentSending mode n) output (Handed c m v k) = ⊥

abbrev pub ShowsSending : Result Sending Refusal → List ℕ → Answer → Type 0
ShowsSending (Ok sending) output a = ShowsSent sending output a
ShowsSending (Err r) output a = a ≡ Refused r 0

-- an answer shows the outcome of receive and plain: the cleartext is the front of the output
abbrev pub ShowsHanded : Result HandedOn Refusal → List ℕ → ℕ → Answer → Type 0
ShowsHanded (Ok h) output report Done = ⊥
ShowsHanded (Ok h) output report (Refused r n) = ⊥
ShowsHanded (Ok h) output report WentPlain = ⊥
ShowsHanded (Ok h) output report (Sent mode v) = ⊥
ShowsHanded (Ok h) output report (Handed c m v n) = (c ≡ h.component) × (m ≡ h.mode) × (vec_items v ≡ take h.«length» output) × (n ≡ report)
ShowsHanded (Err r) output report a = a ≡ Refused r report

-- EACH CALL, with a new output of zeros for protect and receive. What the types say of a call stands with it:
-- octets are below 256, an SPI has 32 bits, and no association's key is held twice.

pub record InstallStep (ciphers : Ciphers) (tags : Tags) (reading : ℕ) (association : SecurityAssociation) (s s' : Station) (before after : Contents) (a : Answer) : Type 0 where
  pub spi_fits : association.spi < 2 ^ 32
  pub result : Result (Unit {0}) Refusal
  pub shown : a ≡ kept_answer result
  pub made : Installed ciphers tags reading association s s' before after result

pub record ProtectStep (ciphers : Ciphers) (tags : Tags) (reading network : ℕ) (component : ComponentId) (cleartext : List ℕ) (room : ℕ) (s s' : Station) (contents : Contents) (a : Answer) : Type 0 where
  pub octets : Octets cleartext
  pub apart : Apart association_key same_association contents.associations
  pub result : Result Sending Refusal
  pub output : List ℕ
  pub shown : ShowsSending result output a
  pub made : protects.Protected (record { station = s; contents = contents; ciphers = ciphers; tags = tags; reading = reading; network = network; component = component; cleartext = cleartext; output = replicate room 0 }) s' output result

pub record ReceiveStep (ciphers : Ciphers) (tags : Tags) (reading network : ℕ) (waiting : Bool) (message : List ℕ) (room : ℕ) (s s' : Station) (before after : Contents) (a : Answer) : Type 0 where
  pub octets : Octets message
  pub result : Result HandedOn Refusal
  pub output : List ℕ
  pub shown : ShowsHanded result output (reported (refusal_number result) waiting) a
  pub made : receives.Received (record { station = s; contents = before; ciphers = ciphers; tags = tags; reading = reading; network = network; message = message; output = replicate room 0 }) s' after output result

pub record PlainStep (reading : ℕ) (component : ComponentId) (waiting : Bool) (cleartext : List ℕ) (s s' : Station) (a : Answer) : Type 0 where
  pub result : Result HandedOn Refusal
  pub shown : ShowsHanded result cleartext (reported (refusal_number result) waiting) a
  pub made : TakenPlain reading component (length cleartext) s s' result

-- A LINE

-- a station and what its registers hold
pub record Post : Type 0 where
  pub station : Station
  pub contents : Contents

abbrev pub post_of : Site → Post
post_of s = record { station = s.station; contents = contents_of s.registers }

-- a call and its answer take a post from one state to the next, as the rules of the call say
abbrev pub Steps : Ciphers → Tags → Call → Answer → Post → Post → Type 0
Steps m t (Admit network stance) a p q = (r : Result (Unit {0}) Refusal) × (a ≡ kept_answer r) × (q.station ≡ p.station) × Admitted network stance p.contents q.contents r
Steps m t (Install reading association) a p q = InstallStep m t reading association p.station q.station p.contents q.contents a
Steps m t (Revoke destination spi) a p q = (r : Result (Unit {0}) Refusal) × (a ≡ kept_answer r) × (q.station ≡ p.station) × Revoked destination spi p.contents q.contents r
Steps m t (Protect reading network component cleartext room) a p q = ProtectStep m t reading network component cleartext.now room p.station q.station p.contents a × (q.contents ≡ p.contents)
Steps m t (Receive reading network waiting message room) a p q = ReceiveStep m t reading network waiting message.now room p.station q.station p.contents q.contents a
Steps m t (Plain reading component waiting cleartext) a p q = PlainStep reading component waiting cleartext.now p.station q.station a × (q.contents ≡ p.contents)
