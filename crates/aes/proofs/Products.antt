-- Twice and three times an octet in the field.
-- Assumes nothing.
use Rattle.std.proofs.Common.{◌≡◌, ℕ, ◌*◌, ◌/◌, ◌%◌, ◌<◌, eqb, eqb→eq}
use lib.Bits.{bit_xor}
use Rattle.aes.specs.Field.{xtime, times_bits, times}
use Rattle.aes.proofs.Tests.{below}

double : ℕ → ℕ
double b = bit_xor ((b * 2) % 256) ((b / 128) * 27)

pub double_is : (b : ℕ) → b < 256 → bit_xor ((b * 2) % 256) ((b / 128) * 27) ≡ times 2 b
unfolding double times times_bits xtime
double_is b h = eqb→eq _ _ (below (λ k. eqb (double k) (times 2 k)) 256 tt b h)

pub triple_is : (b : ℕ) → b < 256 → bit_xor (times 2 b) b ≡ times 3 b
unfolding times times_bits xtime
triple_is b h = eqb→eq _ _ (below (λ k. eqb (bit_xor (times 2 k) k) (times 3 k)) 256 tt b h)
