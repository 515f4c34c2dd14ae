-- Checks and words that several calls share.
use Rattle.std.specs.Prelude.{ℕ, Bool, true, false, not, List, [], ◌∷◌, is_some, Some, None, Option, nat_lt}
use Rattle.rules.specs.Components.{kind_of}
use Rattle.rules.specs.declared.component.ComponentId.{ComponentId}
use Rattle.rules.specs.declared.refusal.Refusal.{Refusal}
use Rattle.rules.specs.declared.refusal.Refusal.TheVariants.{UnknownKind, CleartextTooLong, OutputTooShort}
use Rattle.station.specs.declared.records.Policy.{Policy}
use Rattle.station.specs.declared.records.Stance.{Stance}
use Rattle.station.specs.declared.records.Stance.TheVariants.{Plain, Mapsec}
use Rattle.station.specs.declared.records.SecurityAssociation.{SecurityAssociation}

-- the output has room for so many octets
abbrev pub fit_checks : ℕ → ℕ → List (Bool × Refusal)
fit_checks needed output = (nat_lt output needed, OutputTooShort needed) ∷ []

-- a cleartext that begins at a place has 1,024 octets at most
abbrev pub length_checks : ℕ → ℕ → List (Bool × Refusal)
length_checks place size = (nat_lt 1024 size, CleartextTooLong place) ∷ []

-- a component that was handed in: of a known kind, and of 1,024 octets at most
abbrev pub form_checks : ComponentId → ℕ → List (Bool × Refusal)
form_checks id size = (not (is_some (kind_of id.kind)), UnknownKind 0) ∷ (nat_lt 1024 size, CleartextTooLong 0) ∷ []

abbrev pub stance_plain : Stance → Bool
stance_plain Plain = true
stance_plain Mapsec = false

-- the policy is plain
abbrev pub is_plain : Option Policy → Bool
is_plain None = false
is_plain (Some p) = stance_plain p.stance

-- an association of zeros, which stands where there is none
abbrev pub blank : SecurityAssociation
blank = record {
  sender = 0;
  destination = 0;
  spi = 0;
  mea = 0;
  cipher_key = record { high = 0; low = 0 };
  mia = 0;
  integrity_key = record { high = 0; low = 0 };
  ppi = 0;
  soft = 0;
  hard = 0;
}

abbrev pub association_or_blank : Option SecurityAssociation → SecurityAssociation
association_or_blank None = blank
association_or_blank (Some a) = a
