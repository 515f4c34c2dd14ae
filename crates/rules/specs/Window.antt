-- Stamps of 32 bits beside a clock that counts on.
use Rattle.std.specs.Prelude.{◌≡◌, ℕ, ◌+◌, ◌-◌, ◌%◌, Bool, cond, ◌||◌, ℤ, pos, ◌+ℤ◌, ◌-ℤ◌, ◌*ℤ◌, ◌≤ℤ◌, nat_le}

-- reading − stamp, modulo 2^32
abbrev pub age : ℕ → ℕ → ℕ
age reading stamp = (reading + (4294967296 - stamp)) % 4294967296

-- stamp − reading, modulo 2^32
abbrev pub lead : ℕ → ℕ → ℕ
lead reading stamp = (stamp + (4294967296 - reading % 4294967296)) % 4294967296

-- not older than back, or not further ahead than ahead
abbrev pub in_window : ℕ → ℕ → ℕ → ℕ → Bool
in_window back ahead reading stamp = nat_le (age reading stamp) back || nat_le (lead reading stamp) ahead

-- the last tick at which a stamp that is in the window at the reading is still in it
abbrev pub last_tick : ℕ → ℕ → ℕ → ℕ
last_tick back reading stamp = cond (nat_le (age reading stamp) back) (reading + back - age reading stamp) (reading + lead reading stamp + back)

-- a tick, which may lie before 0, has a stamp: it is whole rounds of 2^32 ticks away from it
abbrev pub HasStamp : ℤ → ℕ → Type 0
HasStamp tick stamp = (rounds : ℤ) × (tick ≡ (pos stamp +ℤ (rounds *ℤ pos 4294967296)))

-- The law of the window: some tick from reading − back to reading + ahead has the stamp.
pub record SomeTickNear (back ahead reading stamp : ℕ) : Type 0 where
  pub tick : ℤ
  pub from : (pos reading -ℤ pos back) ≤ℤ tick
  pub to : tick ≤ℤ (pos reading +ℤ pos ahead)
  pub stamped : HasStamp tick stamp
