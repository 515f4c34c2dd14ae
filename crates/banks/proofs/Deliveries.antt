-- What the delivered banks mean, number by number.
use Rattle.std.proofs.Common.{◌≡◌, ℕ, zero, suc, refl, arith}
use Rattle.std.proofs.lemmas.Bool.{ne_eqb}
use Rattle.banks.specs.Ciphers.{null_cipher, either}
use Rattle.banks.specs.Delivered.{delivered_ciphers, delivered_tags}
use Rattle.banks.specs.Mea1.{mea1_cipher}
use Rattle.banks.specs.Mia1.{mia1_tag}

ciphers_at : (n : ℕ) → either null_cipher mea1_cipher n ≡ delivered_ciphers n
ciphers_at zero = refl
ciphers_at (suc zero) = refl
ciphers_at (suc (suc n)) = rw (ne_eqb (suc (suc n)) 0 (λ e. omega arith), ne_eqb (suc (suc n)) 1 (λ e. omega arith)) refl

tags_at : (n : ℕ) → mia1_tag n ≡ delivered_tags n
tags_at zero = refl
tags_at (suc zero) = refl
tags_at (suc (suc n)) = rw (ne_eqb (suc (suc n)) 1 (λ e. omega arith)) refl

pub ciphers_delivered : either null_cipher mea1_cipher ≡ delivered_ciphers
ciphers_delivered = λ i n. ciphers_at n i

pub tags_delivered : mia1_tag ≡ delivered_tags
tags_delivered = λ i n. tags_at n i
