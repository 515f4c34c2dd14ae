-- The association of a station at a line: told by the lines above it and their answers, and by nothing that a station holds.
use Rattle.std.specs.Prelude.{◌≡◌, ℕ, ◌<◌, List, Some}
use Rattle.std.specs.List.{slice_get}
use Rattle.station.specs.Records.{association_key}
use Rattle.station.specs.Revoke.{key_at}
use Rattle.station.specs.declared.records.AssociationKey.{AssociationKey}
use Rattle.station.specs.declared.records.SecurityAssociation.{SecurityAssociation}
use Rattle.rehearsal.specs.declared.log.Answer.TheVariants.{Done}
use Rattle.rehearsal.specs.declared.log.Call.{Call}
use Rattle.rehearsal.specs.declared.log.Call.TheVariants.{Admit, Install, Revoke, Protect, Receive, Plain}
use Rattle.rehearsal.specs.declared.log.Side.{Side}
use Rattle.rehearsal.specs.Runs.{Turn}

-- P holds of the line n and its answer; lines are counted from 0
abbrev pub At : List Turn → ℕ → (Turn → Type 0) → Type 0
At ts n P = (t : Turn) × (slice_get ts n ≡ Some t) × P t

-- the call installs the association under the key
abbrev pub Installs : AssociationKey → SecurityAssociation → Call → Type 0
Installs key a (Admit network stance) = ⊥
Installs key a (Install reading b) = (association_key b ≡ key) × (b ≡ a)
Installs key a (Revoke destination spi) = ⊥
Installs key a (Protect reading network component cleartext room) = ⊥
Installs key a (Receive reading network waiting message room) = ⊥
Installs key a (Plain reading component waiting cleartext) = ⊥

-- the call installs or revokes the key
abbrev pub Changes : AssociationKey → Call → Type 0
Changes key (Admit network stance) = ⊥
Changes key (Install reading b) = association_key b ≡ key
Changes key (Revoke destination spi) = key_at destination spi ≡ key
Changes key (Protect reading network component cleartext room) = ⊥
Changes key (Receive reading network waiting message room) = ⊥
Changes key (Plain reading component waiting cleartext) = ⊥

-- a station was called so, and accepted
abbrev pub Accepted : Side → (Call → Type 0) → Turn → Type 0
Accepted side P t = (t.line.side ≡ side) × P t.line.call × (t.answer ≡ Done)

-- the record of the last accepted install of the key above the line, where no accepted revoke of it came since
pub record AssociationAt (ts : List Turn) (n : ℕ) (side : Side) (key : AssociationKey) (a : SecurityAssociation) : Type 0 where
  pub line : ℕ
  pub above : line < n
  pub installed : At ts line (Accepted side (Installs key a))
  pub unchanged : (k : ℕ) → line < k → k < n → At ts k (Accepted side (Changes key)) → ⊥
