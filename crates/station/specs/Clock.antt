-- Readings of the clock.
use Rattle.std.specs.Prelude.{ℕ, Bool, ◌||◌, List, [], ◌∷◌, nat_le, nat_lt}
use Rattle.rules.specs.declared.refusal.Refusal.{Refusal}
use Rattle.rules.specs.declared.refusal.Refusal.TheVariants.{WrongReading}
use Rattle.station.specs.declared.station.Station.{Station}

-- a reading is below 2^48, and not before the latest
abbrev pub clock_checks : ℕ → ℕ → List (Bool × Refusal)
clock_checks latest reading = (nat_le 281474976710656 reading || nat_lt reading latest, WrongReading) ∷ []

-- the station once a call with the reading was accepted
abbrev pub read_at : ℕ → Station → Station
read_at reading s = record { settings = s.settings; latest = reading; tick = s.tick; sent = s.sent }
