-- The chain of MIA-1 taken octet by octet is the chain over the blocks of the padded octets.
-- Assumes nothing.
use Rattle.std.specs.Prelude.{◌≡◌, ℕ, zero, suc, ◌+◌, ◌-◌, ◌*◌, ◌/◌, ◌%◌, ◌^◌, ◌<◌, ◌≤◌, List, [], ◌∷◌, ◌++◌, length, take, drop, replicate, fold, ◌≢◌, bit_xor, slice_index, slice_index_or, slice_set}
use Rattle.std.proofs.Math.Path.{refl, sym, ap}
use Rattle.std.proofs.Common.{ap₂, ◌∙◌, add-zero, zero-add, add-one}
use native.Mathlib.Omega.{arith}
use Rattle.std.specs.Int.Bits.{xor_zero_r}
use Rattle.std.proofs.lemmas.List.FromFn.{fill_by_all}
use Rattle.std.proofs.ByRecursion.{All-take, All-from_get_or}
use Rattle.std.proofs.lemmas.List.{append_assoc, length-set, length-append, length-replicate, length-take-le, length-drop, take-append-drop, take-append-le, drop-append-le, take_all, take_more_set, drop-set-lt, drop_more}
use Rattle.std.proofs.lemmas.List.Sums.{fold-append}
use Rattle.std.proofs.lemmas.Bool.{ne_eqb}
use Rattle.octets.specs.Numbers.{Octets, number}
use Rattle.banks.specs.Stream.{enciphered_small}
use Rattle.keys.specs.declared.Key.{Key}
use Rattle.keys.specs.Keys.{key_octets}
use Rattle.octets.proofs.Widths.{number_fits}
use Rattle.aes.proofs.Bounds.{length_aes128}
use Rattle.aes.specs.Cipher.{schedule, cipher, aes128}
use Rattle.aes.specs.declared.state.Row.{Row}
use Rattle.banks.specs.Mia1.{Padding, padded, mac_blocks, blocks, xor_blocks, chain, mac, mia1}
use Rattle.banks.specs.Running.{ChainState, fresh, absorbed, ended}

abbrev pub at : List ℕ → ℕ → ChainState
at s u = record { value = s; filled = u }

-- octets added to the front of a list
onto : List ℕ → List ℕ → List ℕ
onto s [] = s
onto [] (x ∷ xs) = []
onto (y ∷ s) (x ∷ xs) = bit_xor y x ∷ onto s xs

onto_none : (s : List ℕ) → onto s [] ≡ s
unfolding onto
onto_none [] = refl
onto_none (y ∷ s) = refl

index_onto : (s b : List ℕ) (k : ℕ) → k < length s → slice_index (onto s b) k ≡ bit_xor (slice_index s k) (slice_index b k)
unfolding onto
index_onto s [] k h = ap (λ (t : List ℕ). slice_index t k) (onto_none s) ∙ sym (xor_zero_r (slice_index s k))
index_onto [] (x ∷ b) k h = absurd (omega arith)
index_onto (y ∷ s) (x ∷ b) zero h = refl
index_onto (y ∷ s) (x ∷ b) (suc k) h = index_onto s b k (omega arith)

length_onto : (s b : List ℕ) → length (onto s b) ≡ length s
unfolding onto
length_onto s [] = ap length (onto_none s)
length_onto [] (x ∷ b) = refl
length_onto (y ∷ s) (x ∷ b) = ap suc (length_onto s b)

-- one octet more at the end
onto_push : (s b : List ℕ) (x : ℕ) → length b < length s
    → onto s (b ++ x ∷ []) ≡ slice_set (onto s b) (length b) (bit_xor (slice_index (onto s b) (length b)) x)
unfolding onto
onto_push [] b x h = absurd (omega arith)
onto_push (y ∷ s) [] x h = ap (λ (t : List ℕ). bit_xor y x ∷ t) (onto_none s)
onto_push (y ∷ s) (z ∷ b) x h = ap (λ (t : List ℕ). bit_xor y z ∷ t) (onto_push s b x (omega arith))

-- what agrees at each place with a block, zeros past the end, is added as that block
onto_is : (s b c : List ℕ) → length s ≡ 16 → ((k : ℕ) → slice_index b k ≡ slice_index c k) → onto s b ≡ xor_blocks s c
onto_is s b c e same =
    fill_by_all (λ (j : ℕ). bit_xor (slice_index s j) (slice_index c j)) (onto s b) 16 0 (length_onto s b ∙ e)
    (λ k h. index_onto s b k (omega arith) ∙ ap (bit_xor (slice_index s k)) (same k))

-- from place u on
from : List ℕ → ℕ → List ℕ → List ℕ
from s u xs = take u s ++ onto (drop u s) xs

from_more : (s : List ℕ) (u x : ℕ) (xs : List ℕ) → u < length s
    → from (slice_set s u (bit_xor (slice_index s u) x)) (u + 1) xs ≡ from s u (x ∷ xs)
unfolding from onto
from_more s u x xs h =
    let v = bit_xor (slice_index s u) x in
    let l : u < u + 1 = omega arith in
    ap₂ (λ (t d : List ℕ). t ++ onto d xs) (take_more_set s u v h) (drop-set-lt (u + 1) s u v l)
    ∙ append_assoc (take u s) (v ∷ []) (onto (drop (u + 1) s) xs)
    ∙ sym (ap (λ (d : List ℕ). take u s ++ onto d (x ∷ xs)) (drop_more s u 0 h))

pub absorbed_more : (e : List ℕ → List ℕ) (s : List ℕ) (u x : ℕ) → (u ≢ 15)
    → absorbed e (at s u) x ≡ at (slice_set s u (bit_xor (slice_index s u) x)) (u + 1)
unfolding absorbed
absorbed_more e s u x h = rw (ne_eqb u 15 h) refl

pub absorbed_last : (e : List ℕ → List ℕ) (s : List ℕ) (u x : ℕ) → u ≡ 15
    → absorbed e (at s u) x ≡ at (e (slice_set s u (bit_xor (slice_index s u) x))) 0
unfolding absorbed
absorbed_last e s u x h = rw h refl

module _ (e : List ℕ → List ℕ) where
  -- octets that do not fill the block
  part : (xs s : List ℕ) (u : ℕ) → length s ≡ 16 → u + length xs < 16
      → fold (absorbed e) (at s u) xs ≡ at (from s u xs) (u + length xs)
  unfolding from
  part [] s u l h =
      λ i. at (sym (ap (λ (d : List ℕ). take u s ++ d) (onto_none (drop u s)) ∙ take-append-drop u s) i) (sym (add-zero u) i)
  part (x ∷ xs) s u l h =
      let v = bit_xor (slice_index s u) x in
      let long : length (slice_set s u v) ≡ 16 = length-set s u v ∙ l in
      let count : u + 1 + length xs ≡ u + suc (length xs) = omega arith in
      ap (λ (c : ChainState). fold (absorbed e) c xs) (absorbed_more e s u x (λ q. omega arith))
      ∙ part xs (slice_set s u v) (u + 1) long (omega arith)
      ∙ λ i. at (from_more s u x xs (omega arith) i) (count i)

  -- octets that fill it
  full : (xs s : List ℕ) (u : ℕ) → length s ≡ 16 → u < 16 → u + length xs ≡ 16
      → fold (absorbed e) (at s u) xs ≡ at (e (from s u xs)) 0
  unfolding from
  full [] s u l h q = absurd (omega arith)
  full (x ∷ []) s u l h q =
      let v = bit_xor (slice_index s u) x in
      let place : u ≡ 15 = omega arith in
      absorbed_last e s u x place
      ∙ ap (λ (t : List ℕ). at (e t) 0)
      (sym (ap (λ (d : List ℕ). take (u + 1) (slice_set s u v) ++ d) (onto_none (drop (u + 1) (slice_set s u v)))
      ∙ take-append-drop (u + 1) (slice_set s u v))
      ∙ from_more s u x [] (omega arith))
  full (x ∷ (y ∷ ys)) s u l h q =
      let v = bit_xor (slice_index s u) x in
      let long : length (slice_set s u v) ≡ 16 = length-set s u v ∙ l in
      ap (λ (c : ChainState). fold (absorbed e) c (y ∷ ys)) (absorbed_more e s u x (λ z. omega arith))
      ∙ full (y ∷ ys) (slice_set s u v) (u + 1) long (omega arith) (omega arith)
      ∙ ap (λ (t : List ℕ). at (e t) 0) (from_more s u x (y ∷ ys) (omega arith))

-- zeros at the end are not seen
zeros_unseen : (m k : ℕ) → slice_index_or {A = ℕ} (replicate m 0) k 0 ≡ 0
zeros_unseen zero k = refl
zeros_unseen (suc m) zero = refl
zeros_unseen (suc m) (suc k) = zeros_unseen m k

pad_unseen : (xs : List ℕ) (m k : ℕ) → slice_index (xs ++ 0x80 ∷ []) k ≡ slice_index (xs ++ 0x80 ∷ replicate m 0) k
pad_unseen [] m zero = refl
pad_unseen [] m (suc k) = sym (zeros_unseen m k)
pad_unseen (x ∷ xs) m zero = refl
pad_unseen (x ∷ xs) m (suc k) = pad_unseen xs m k

pub length_padded : (xs : List ℕ) → length (padded xs) ≡ 16 * mac_blocks (length xs)
unfolding padded
length_padded xs =
    let zeros = length-replicate {A = ℕ} (15 - length xs % 16) 0 in
    omega (arith, length-append xs (0x80 ∷ replicate (15 - length xs % 16) 0), zeros)

pub padding : Padding
padding =
    record { multiple = length_padded; above = λ n. omega arith; least = λ n m h. omega arith }

-- the padded octets after their first block
padded_rest : (xs : List ℕ) → 16 ≤ length xs → drop 16 (padded xs) ≡ padded (drop 16 xs)
unfolding padded
padded_rest xs h =
    let same : length xs % 16 ≡ length (drop 16 xs) % 16 = omega (arith, length-drop 16 xs) in
    drop-append-le 16 xs (0x80 ∷ replicate (15 - length xs % 16) 0) h
    ∙ ap (λ (r : ℕ). drop 16 xs ++ 0x80 ∷ replicate (15 - r) 0) same

padded_first : (xs : List ℕ) → 16 ≤ length xs → take 16 (padded xs) ≡ take 16 xs
unfolding padded
padded_first xs h = take-append-le 16 xs (0x80 ∷ replicate (15 - length xs % 16) 0) h

module _ (e : List ℕ → List ℕ) (sixteen : (b : List ℕ) → length (e b) ≡ 16) where
  ended_is : (n : ℕ) (h xs : List ℕ) → length h ≡ 16 → length xs / 16 ≡ n
      → ended e (fold (absorbed e) (at h 0) xs) ≡ chain e h (blocks (suc n) (padded xs))
  unfolding ended chain blocks padded from
  ended_is zero h xs l q =
      let short : length xs < 16 = omega arith in
      let whole : take 16 (padded xs) ≡ padded xs = take_all 16 (padded xs) (omega (arith, length_padded xs)) in
      ap (ended e) (part e xs h 0 l (omega arith) ∙ ap (at (onto h xs)) (zero-add (length xs)))
      ∙ ap e
      (sym (onto_push h xs 0x80 (omega arith))
      ∙ onto_is h (xs ++ 0x80 ∷ []) (padded xs) l (pad_unseen xs (15 - length xs % 16))
      ∙ ap (xor_blocks h) (sym whole))
  ended_is (suc n) h xs l q =
      let long : 16 ≤ length xs = omega arith in
      let b = take 16 xs in
      let ys = drop 16 xs in
      let next = e (xor_blocks h b) in
      ap (λ (t : List ℕ). ended e (fold (absorbed e) (at h 0) t)) (sym (take-append-drop 16 xs))
      ∙ ap (ended e)
      (fold-append (absorbed e) (at h 0) b ys
      ∙ ap (λ (c : ChainState). fold (absorbed e) c ys)
      (full e b h 0 l (omega arith) (omega (arith, length-take-le 16 xs long))
      ∙ ap (λ (t : List ℕ). at (e t) 0) (onto_is h b b l (λ k. refl))))
      ∙ ended_is n next ys (sixteen (xor_blocks h b)) (omega (arith, length-drop 16 xs))
      ∙ sym (ap₂ (λ (f : List ℕ) (r : List ℕ). chain e (e (xor_blocks h f)) (blocks (suc n) r)) (padded_first xs long) (padded_rest xs long))

  pub mac_is : (xs : List ℕ) → ended e (fold (absorbed e) (at (replicate 16 0) 0) xs) ≡ mac e xs
  unfolding mac
  mac_is xs =
      ended_is (length xs / 16) (replicate 16 0) xs refl refl
      ∙ ap (λ (n : ℕ). chain e (replicate 16 0) (blocks n (padded xs))) (sym (add-one (length xs / 16)))

-- the code's chain over two parts
pub mac_of : (keys : List (List Row)) (k xs ys v : List ℕ) (c d : ChainState) → keys ≡ schedule k
    → c ≡ fold (absorbed (cipher keys)) fresh xs → d ≡ fold (absorbed (cipher keys)) c ys
    → v ≡ ended (cipher keys) d → v ≡ mac (aes128 k) (xs ++ ys)
unfolding aes128
mac_of keys k xs ys v c d expanded first second last =
    let f = absorbed (cipher keys) in
    last
    ∙ ap (ended (cipher keys)) (second ∙ ap (λ (t : ChainState). fold f t ys) first ∙ sym (fold-append f fresh xs ys))
    ∙ ap (λ (ks : List (List Row)). ended (cipher ks) (fold (absorbed (cipher ks)) fresh (xs ++ ys))) expanded
    ∙ mac_is (aes128 k) (length_aes128 k) (xs ++ ys)

zeros_small : Octets (replicate 16 0)
zeros_small = All-from_get_or (λ x. x < 256) (replicate 16 0) 0 (λ i h. rw (zeros_unseen 16 i) (omega arith))

-- what the chain gives are sixteen octets, where the cipher gives such
module _ (e : List ℕ → List ℕ) (sixteen : (b : List ℕ) → length (e b) ≡ 16) (small : (b : List ℕ) → Octets (e b)) where
  chain_whole : (h : List ℕ) (bs : List (List ℕ)) → length h ≡ 16 → Octets h
      → (length (chain e h bs) ≡ 16) × Octets (chain e h bs)
  unfolding chain
  chain_whole h [] l o = (l, o)
  chain_whole h (b ∷ bs) l o = chain_whole (e (xor_blocks h b)) bs (sixteen (xor_blocks h b)) (small (xor_blocks h b))

  pub lead_small : (xs : List ℕ) → number (take 4 (mac e xs)) < 2 ^ 32
  unfolding mac
  lead_small xs =
      let whole = chain_whole (replicate 16 0) (blocks (mac_blocks (length xs)) (padded xs)) refl zeros_small in
      let four : length (take 4 (mac e xs)) ≡ 4 = length-take-le 4 (mac e xs) (omega (arith, whole.0)) in
      let bound = number_fits (take 4 (mac e xs)) (All-take (λ x. x < 256) 4 (mac e xs) whole.1) in
      rw four at bound

-- MIA-1 has 32 bits
pub mia1_small : (key : Key) (xs : List ℕ) → mia1 key xs < 2 ^ 32
unfolding mia1
mia1_small key xs = lead_small (aes128 (key_octets key)) (length_aes128 (key_octets key)) (enciphered_small key) xs
