-- The window in ticks.
use Rattle.std.proofs.Common.{ℕ, ◌+◌, ◌-◌, ◌/◌, ◌%◌, ◌<◌, ◌≤◌, pos, ◌+ℤ◌, ◌-ℤ◌, Decides, inl, inr, div-add-mod', arith}
use Rattle.std.proofs.lemmas.Int.{ints}
use Rattle.std.proofs.lemmas.Bool.{both_ways, or_from, or_left, or_right}
use Rattle.std.proofs.lemmas.Bool.Decides.{leb_tells}
use Rattle.rules.specs.Window.{age, lead, in_window, SomeTickNear}

-- the tick that made the stamp
aged : (back ahead reading stamp : ℕ) → stamp < 4294967296 → age reading stamp ≤ back → SomeTickNear back ahead reading stamp
aged back ahead reading stamp small h =
    let q = (reading + (4294967296 - stamp)) / 4294967296 in
    let whole = div-add-mod' (reading + (4294967296 - stamp)) 4294967296 in
    record { tick = pos reading -ℤ pos (age reading stamp); from = omega (arith, ints); to = omega (arith, ints); stamped = (pos q -ℤ pos 1, omega (arith, ints)) }

-- the tick that will make it
led : (back ahead reading stamp : ℕ) → lead reading stamp ≤ ahead → SomeTickNear back ahead reading stamp
led back ahead reading stamp h =
    let q = (stamp + (4294967296 - reading % 4294967296)) / 4294967296 in
    let whole = div-add-mod' (stamp + (4294967296 - reading % 4294967296)) 4294967296 in
    let part = div-add-mod' reading 4294967296 in
    record { tick = pos reading +ℤ pos (lead reading stamp); from = omega (arith, ints); to = omega (arith, ints); stamped = (pos (reading / 4294967296 + 1) -ℤ pos q, omega (arith, ints)) }

-- a tick at hand is not further away than the stamp's age or lead
near : (back ahead reading stamp : ℕ) → stamp < 4294967296 → SomeTickNear back ahead reading stamp → back < age reading stamp → ahead < lead reading stamp → ⊥
near back ahead reading stamp small t old early =
    let low = t.from in
    let high = t.to in
    let is = t.stamped.1 in
    omega (arith, ints)

pub window_decides : (back ahead reading stamp : ℕ) → stamp < 4294967296 → Decides (in_window back ahead reading stamp) (SomeTickNear back ahead reading stamp)
window_decides back ahead reading stamp small =
    elim (leb_tells (age reading stamp) back) [
      | inl young ↦ (λ _. aged back ahead reading stamp small young.1, λ _. or_left _ _ young.0)
      | inr old ↦ elim (leb_tells (lead reading stamp) ahead) [
        | inl soon ↦ (λ _. led back ahead reading stamp soon.1, λ _. or_right _ _ soon.0)
        | inr early ↦ (λ e. absurd (both_ways _ (or_from _ _ old.0 early.0) e), λ t. absurd (near back ahead reading stamp small t old.1 early.1))
      ]
    ]
