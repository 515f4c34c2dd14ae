-- Plain: a component that came without MAPsec.
use Rattle.std.specs.Prelude.{◌≡◌, ℕ, Bool, true, not, ◌&&◌, List, [], ◌∷◌, ◌++◌, is_ok, is_err, vec_items, Result}
use Rattle.rules.specs.Checks.{decided}
use Rattle.rules.specs.Listed.{listed_in}
use Rattle.rules.specs.declared.component.ComponentId.{ComponentId}
use Rattle.rules.specs.declared.protection.ProtectionMode.TheVariants.{NoProtection}
use Rattle.rules.specs.declared.refusal.Refusal.{Refusal}
use Rattle.rules.specs.declared.refusal.Refusal.TheVariants.{ListedUnprotected}
use Rattle.rules.specs.declared.settings.Settings.{Settings}
use Rattle.station.specs.declared.receive.Handed.{Handed}
use Rattle.station.specs.declared.station.Station.{Station}
use Rattle.station.specs.Clock.{clock_checks, read_at}
use Rattle.station.specs.Forms.{form_checks}

-- a component of the protected list is not taken where there is no fallback
abbrev pub listed_checks : Settings → ComponentId → List (Bool × Refusal)
listed_checks s id = (listed_in id (vec_items s.listed) && not s.fallback, ListedUnprotected 0) ∷ []

abbrev pub plain_checks : Station → ℕ → ComponentId → ℕ → List (Bool × Refusal)
plain_checks s reading id size = clock_checks s.latest reading ++ (form_checks id size ++ listed_checks s.settings id)

-- What plain answers and leaves.
pub record TakenPlain (reading : ℕ) (id : ComponentId) (size : ℕ) (s s' : Station) (r : Result Handed Refusal) : Type 0 where
  pub answer : r ≡ decided (plain_checks s reading id size) (record { component = id; mode = NoProtection; «length» = size })
  pub refused : is_err r ≡ true → s' ≡ s
  pub accepted : is_ok r ≡ true → s' ≡ read_at reading s
