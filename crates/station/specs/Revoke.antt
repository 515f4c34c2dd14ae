-- Revoke: an association is dropped, live or not.
use Rattle.std.specs.Prelude.{◌≡◌, ℕ, Bool, true, not, List, [], ◌∷◌, is_some, is_ok, is_err, Result}
use Rattle.rules.specs.Checks.{decided}
use Rattle.rules.specs.declared.refusal.Refusal.{Refusal}
use Rattle.rules.specs.declared.refusal.Refusal.TheVariants.{KeyNotHeld}
use Rattle.station.specs.declared.records.AssociationKey.{AssociationKey}
use Rattle.station.specs.States.{Contents, Associations, association_under, AssociationRemoved}

abbrev pub key_at : ℕ → ℕ → AssociationKey
key_at destination spi = record { destination = destination; spi = spi }

abbrev pub revoke_checks : ℕ → ℕ → Associations → List (Bool × Refusal)
revoke_checks destination spi places = (not (is_some (association_under (key_at destination spi) places)), KeyNotHeld) ∷ []

pub record Revoked (destination spi : ℕ) (before after : Contents) (r : Result (Unit {0}) Refusal) : Type 0 where
  pub answer : r ≡ decided (revoke_checks destination spi before.associations) tt
  pub refused : is_err r ≡ true → after ≡ before
  pub accepted : is_ok r ≡ true → AssociationRemoved (key_at destination spi) before.associations after.associations
  pub policies : after.policies ≡ before.policies
  pub heard : after.heard ≡ before.heard
