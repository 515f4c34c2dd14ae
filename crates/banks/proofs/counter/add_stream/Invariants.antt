use Rattle.std.proofs.Common.{◌≡◌, ℕ, ◌/◌, ◌%◌, ◌<◌, ◌≤◌, length, get_or}
use lib.Bits.{bit_xor}
use Rattle.banks.specs.Mea1.{output_block, stream}
use Rattle.banks.proofs.counter.add_stream.Given as goal

abbrev pub invariant-loop-i : goal.invariant-loop-i
invariant-loop-i l =
    record {
      done : (k : ℕ) → k < l.i → get_or l.octets k 0 ≡ bit_xor (get_or l.initial.octets k 0) (stream l.key l.iv k);
      untouched : (k : ℕ) → l.i ≤ k → get_or l.octets k 0 ≡ get_or l.initial.octets k 0;
      sixteen : length l.block ≡ 16;
      current : 0 < l.i % 16 → l.block ≡ output_block l.key l.iv (l.i / 16);
    }
