-- Laws of banks: one number's, a pair's, and what follows at any number of a lawful bank.
-- Assumes nothing.
use Rattle.std.specs.Prelude.{◌≡◌, ℕ, ◌^◌, ◌<◌, true, List, length, is_some, IfSome, Some, None, Option, ◌==◌, refl}
use Rattle.std.proofs.Common.{sym, subst, arith}
use Rattle.std.proofs.lemmas.Bool.{cond_both, eqb-true, both_ways}
use Rattle.octets.specs.Numbers.{Octets}
use Rattle.keys.specs.declared.Iv.{Iv}
use Rattle.keys.specs.declared.Key.{Key}
use Rattle.banks.specs.Ciphers.{Cipher, Ciphers, Involution, Lawful, applied, ciphered, only, or_else, either}
use Rattle.banks.specs.Tags.{Tag, Tags, LawfulTags, tag_of, tagged}

-- what holds of the one number holds of each number that means something
pub only_found : {F : Type 0} (P : ℕ → F → Type 0) (k : ℕ) (f : F) → P k f → (n : ℕ) → IfSome (only k f n) (P n)
only_found P k f p n =
    cond_both (n == k) (Some f) None (λ o. IfSome o (P n)) (λ e. subst (λ m. P m f) (sym (eqb-true n k e)) p) (λ e. tt)

or_found : {F : Type 0} (Q : F → Type 0) (x y : Option F) → IfSome x Q → IfSome y Q → IfSome (or_else x y) Q
or_found Q None y p q = q
or_found Q (Some f) y p q = p

-- what holds of both banks holds of the pair
pub either_found : {F : Type 0} (P : ℕ → F → Type 0) (m k : ℕ → Option F)
    → ((n : ℕ) → IfSome (m n) (P n)) → ((n : ℕ) → IfSome (k n) (P n)) → (n : ℕ) → IfSome (either m k n) (P n)
either_found P m k p q n = or_found (P n) (m n) (k n) (p n) (q n)

-- the laws at any number, known or not
module _ (n : ℕ) (key : Key) (iv : Iv) (xs : List ℕ) where
  applied_keeps : (o : Option Cipher) → IfSome o (λ f. (n < 16) × Involution f) → length (applied o key iv xs) ≡ length xs
  applied_keeps None l = refl
  applied_keeps (Some f) l = l.1.keeps key iv xs

  applied_octets : (o : Option Cipher) → IfSome o (λ f. (n < 16) × Involution f) → Octets xs → Octets (applied o key iv xs)
  applied_octets None l h = h
  applied_octets (Some f) l h = l.1.octets key iv xs h

  applied_back : (o : Option Cipher) → IfSome o (λ f. (n < 16) × Involution f) → Octets xs → applied o key iv (applied o key iv xs) ≡ xs
  applied_back None l h = refl
  applied_back (Some f) l h = l.1.back key iv xs h

  tag_small : (o : Option Tag) → IfSome o (λ f. (n < 16) × ((key : Key) (xs : List ℕ) → f key xs < 2 ^ 32)) → tag_of o key xs < 2 ^ 32
  tag_small None l = omega arith
  tag_small (Some f) l = l.1 key xs

known_small : {F : Type 0} (Q : F → Type 0) (n : ℕ) (o : Option F) → IfSome o (λ f. (n < 16) × Q f) → is_some o ≡ true → n < 16
known_small Q n None l e = absurd (both_ways _ refl e)
known_small Q n (Some f) l e = l.0

-- a cipher keeps the length
pub ciphered_keeps : (m : Ciphers) → Lawful m → (n : ℕ) (key : Key) (iv : Iv) (xs : List ℕ) → length (ciphered m n key iv xs) ≡ length xs
ciphered_keeps m l n key iv xs = applied_keeps n key iv xs (m n) (l n)

-- octets stay octets
pub ciphered_octets : (m : Ciphers) → Lawful m → (n : ℕ) (key : Key) (iv : Iv) (xs : List ℕ) → Octets xs → Octets (ciphered m n key iv xs)
ciphered_octets m l n key iv xs = applied_octets n key iv xs (m n) (l n)

-- a cipher applied twice gives the octets back
pub ciphered_back : (m : Ciphers) → Lawful m → (n : ℕ) (key : Key) (iv : Iv) (xs : List ℕ) → Octets xs
    → ciphered m n key iv (ciphered m n key iv xs) ≡ xs
ciphered_back m l n key iv xs = applied_back n key iv xs (m n) (l n)

-- a known number is below 16
pub cipher_number : (m : Ciphers) → Lawful m → (n : ℕ) → is_some (m n) ≡ true → n < 16
cipher_number m l n = known_small Involution n (m n) (l n)

-- a tag is below 2^32
pub tagged_small : (m : Tags) → LawfulTags m → (n : ℕ) (key : Key) (xs : List ℕ) → tagged m n key xs < 2 ^ 32
tagged_small m l n key xs = tag_small n key (record { counter = 0 }) xs (m n) (l n)

pub tag_number : (m : Tags) → LawfulTags m → (n : ℕ) → is_some (m n) ≡ true → n < 16
tag_number m l n = known_small (λ f. (key : Key) (xs : List ℕ) → f key xs < 2 ^ 32) n (m n) (l n)
