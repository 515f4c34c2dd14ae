-- Admit: the policy for a network.
use Rattle.std.specs.Prelude.{◌≡◌, ℕ, Bool, true, cond, not, ◌&&◌, List, [], ◌∷◌, length, is_some, is_ok, is_err, Some, None, Option, Result, ◌==◌, nat_le, nat_lt}
use Rattle.register.specs.Places.{held_count}
use Rattle.rules.specs.Checks.{decided}
use Rattle.rules.specs.declared.refusal.PolicyField.TheVariants.{Network as WrongNetwork, Stance as WrongStance}
use Rattle.rules.specs.declared.refusal.Refusal.{Refusal}
use Rattle.rules.specs.declared.refusal.Refusal.TheVariants.{WrongPolicy, RegisterFull}
use Rattle.station.specs.declared.records.Policy.{Policy}
use Rattle.station.specs.declared.records.Stance.TheVariants.{Plain, Mapsec}
use Rattle.station.specs.States.{Contents, Policies, policy_under, PolicySet}

-- a new policy finds no place
abbrev pub no_place_for : ℕ → Policies → Bool
no_place_for network places = not (is_some (policy_under network places)) && nat_le (length places) (held_count places)

abbrev pub admit_checks : ℕ → ℕ → Policies → List (Bool × Refusal)
admit_checks network stance places =
    (nat_le 16777216 network, WrongPolicy WrongNetwork)
    ∷ (nat_lt 2 stance, WrongPolicy WrongStance)
    ∷ (nat_lt 0 stance && no_place_for network places, RegisterFull (length places))
    ∷ []

-- the policy of a stance: 0 is none, 1 plain, 2 MAPsec
abbrev pub policy_of : ℕ → ℕ → Option Policy
policy_of network stance =
    cond (stance == 0) None (cond (stance == 1) (Some (record { network = network; stance = Plain })) (Some (record { network = network; stance = Mapsec })))

pub record Admitted (network stance : ℕ) (before after : Contents) (r : Result (Unit {0}) Refusal) : Type 0 where
  pub answer : r ≡ decided (admit_checks network stance before.policies) tt
  pub refused : is_err r ≡ true → after ≡ before
  pub accepted : is_ok r ≡ true → PolicySet network (policy_of network stance) before.policies after.policies
  pub associations : after.associations ≡ before.associations
  pub heard : after.heard ≡ before.heard
