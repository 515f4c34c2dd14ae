use Rattle.std.proofs.Common.{◌≡◌, ℕ, ◌<◌, length, get_or}
use Rattle.aes.specs.Keys.{word}
use Rattle.aes.specs.State.{blank_row}
use Rattle.aes.proofs.keys.words.Given as goal

abbrev pub invariant-loop-i : goal.invariant-loop-i
invariant-loop-i l = (length l.w ≡ 44) × ((k : ℕ) → k < l.i → get_or l.w k blank_row ≡ word l.key k)
