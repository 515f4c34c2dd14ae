-- Install: a security association is added.
use Rattle.std.specs.Prelude.{◌≡◌, ℕ, ◌+◌, Bool, true, not, ◌&&◌, ◌||◌, List, [], ◌∷◌, ◌++◌, length, is_some, is_ok, is_err, Result, ◌==◌, nat_le, nat_lt}
use Rattle.banks.specs.Ciphers.{Ciphers}
use Rattle.banks.specs.Tags.{Tags}
use Rattle.register.specs.Places.{not_past}
use Rattle.rules.specs.Checks.{decided}
use Rattle.rules.specs.declared.refusal.AssociationField.TheVariants.{Sender, Destination, Mea, Mia, SoftExpiry, HardExpiry}
use Rattle.rules.specs.declared.refusal.Refusal.{Refusal}
use Rattle.rules.specs.declared.refusal.Refusal.TheVariants.{WrongAssociation, KeyHeld, RegisterFull}
use Rattle.station.specs.declared.records.SecurityAssociation.{SecurityAssociation}
use Rattle.station.specs.declared.station.Station.{Station}
use Rattle.station.specs.Clock.{clock_checks, read_at}
use Rattle.station.specs.Records.{association_key, association_last}
use Rattle.station.specs.States.{Contents, Associations, association_under, live_count, AssociationAdded}

-- the fields in their order; the SPI, the keys and the PPI are never wrong
abbrev pub field_checks : ℕ → Ciphers → Tags → ℕ → SecurityAssociation → List (Bool × Refusal)
field_checks own ciphers tags reading a =
    (nat_le 16777216 a.sender || (not (a.sender == own) && not (a.destination == own)), WrongAssociation Sender)
    ∷ (nat_le 16777216 a.destination, WrongAssociation Destination)
    ∷ (not (is_some (ciphers a.mea)), WrongAssociation Mea)
    ∷ (not (is_some (tags a.mia)), WrongAssociation Mia)
    ∷ (nat_lt a.hard a.soft, WrongAssociation SoftExpiry)
    ∷ (nat_le a.hard reading || nat_lt (reading + 2147483648) a.hard, WrongAssociation HardExpiry)
    ∷ []

-- the key is not held by an association whose last tick is not past, and these do not fill the register
abbrev pub place_checks : ℕ → SecurityAssociation → Associations → List (Bool × Refusal)
place_checks reading a places =
    (is_some (not_past association_last reading (association_under (association_key a) places)), KeyHeld)
    ∷ (nat_le (length places) (live_count reading places), RegisterFull (length places))
    ∷ []

abbrev pub install_checks : Station → Ciphers → Tags → ℕ → SecurityAssociation → Associations → List (Bool × Refusal)
install_checks s ciphers tags reading a places =
    clock_checks s.latest reading ++ (field_checks s.settings.own ciphers tags reading a ++ place_checks reading a places)

-- What install answers and leaves. Accepted, what is past is dropped first, the record is held, and the reading is the latest.
pub record Installed (ciphers : Ciphers) (tags : Tags) (reading : ℕ) (a : SecurityAssociation) (s s' : Station) (before after : Contents) (r : Result (Unit {0}) Refusal) : Type 0 where
  pub answer : r ≡ decided (install_checks s ciphers tags reading a before.associations) tt
  pub refused : is_err r ≡ true → (s' ≡ s) × (after ≡ before)
  pub accepted : is_ok r ≡ true → (s' ≡ read_at reading s) × AssociationAdded a reading before.associations after.associations
  pub policies : after.policies ≡ before.policies
  pub heard : after.heard ≡ before.heard
