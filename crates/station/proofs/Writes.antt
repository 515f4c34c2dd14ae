-- Octets written part after part: before each write the list is `done`, and then what the old list has behind it.
use Rattle.std.proofs.Common.{◌≡◌, ℕ, ◌+◌, ◌≤◌, List, ◌++◌, length, take, drop, sym, refl, ap, ◌∙◌, arith}
use borrow.Rule.Slice.PartMut.{put_mid}
use Rattle.std.proofs.lemmas.List.{append_assoc, append-nil, length-append, take_at, drop_at, drop-drop, drop_all}
use Rattle.octets.specs.Numbers.{octets_of}

-- one more part
pub put_next : (a k : ℕ) (done ys old xs : List ℕ) → length done ≡ a → xs ≡ done ++ drop a old → put_mid a k xs ys ≡ (done ++ ys) ++ drop (a + k) old
put_next a k done ys old xs long is =
    let first : take a xs ≡ done = ap (take a) is ∙ take_at done (drop a old) a long in
    let rest : drop k (drop a xs) ≡ drop (a + k) old = ap (λ zs. drop k (drop a zs)) is ∙ ap (drop k) (drop_at done (drop a old) a long) ∙ drop-drop k a old in
    let group = append_assoc done ys (drop (a + k) old) in
    cc

-- the last part: nothing of the old list is left
pub put_last : (a k : ℕ) (done ys old xs : List ℕ) → length done ≡ a → length old ≤ a + k → xs ≡ done ++ drop a old → put_mid a k xs ys ≡ done ++ ys
put_last a k done ys old xs long all is =
    put_next a k done ys old xs long is ∙ ap (λ zs. (done ++ ys) ++ zs) (drop_all (a + k) old all) ∙ append-nil (done ++ ys)

-- two parts side by side
module _ (a k : ℕ) (first second rest xs : List ℕ) (is : xs ≡ (first ++ second) ++ rest) (la : length first ≡ a) (lk : length second ≡ k) where
  pub first_part : take a xs ≡ first
  first_part = ap (take a) (is ∙ append_assoc first second rest) ∙ take_at first (second ++ rest) a la

  behind : drop a xs ≡ second ++ rest
  behind = ap (drop a) (is ∙ append_assoc first second rest) ∙ drop_at first (second ++ rest) a la

  pub second_part : take k (drop a xs) ≡ second
  second_part = ap (take k) behind ∙ take_at second rest k lk

  -- the second part written anew
  pub rewritten : (ys : List ℕ) → put_mid a k xs ys ≡ (first ++ ys) ++ rest
  rewritten ys =
      let again : xs ≡ first ++ drop a xs = is ∙ append_assoc first second rest ∙ ap (λ zs. first ++ zs) (sym behind) in
      let both : length (first ++ second) ≡ a + k = length-append first second ∙ omega arith in
      put_next a k first ys xs xs la again ∙ ap (λ zs. (first ++ ys) ++ zs) (ap (drop (a + k)) is ∙ drop_at (first ++ second) rest (a + k) both)

-- A sealed message: the header, the cleartext, the payload over it, and the tag of both.
-- F turns cleartext into payload and keeps its length; G is the tag.
module _ (F : List ℕ → List ℕ) (G : List ℕ → ℕ) (keeps : (xs : List ℕ) → length (F xs) ≡ length xs) (header clear old : List ℕ) (n k : ℕ)
    (twenty : length header ≡ 20) (size : length clear ≡ n) (room : length old ≡ 24 + n) (k-is : k ≡ n) where
  abbrev x1 : List ℕ
  x1 = header ++ drop 20 old

  x2_is : (x2 : List ℕ) → x2 ≡ put_mid 20 k x1 clear → x2 ≡ (header ++ clear) ++ drop (20 + n) old
  x2_is x2 e = e ∙ put_next 20 k header clear old x1 twenty refl ∙ ap (λ m. (header ++ clear) ++ drop (20 + m) old) k-is

  module _ (x2 : List ℕ) (e2 : x2 ≡ put_mid 20 k x1 clear) (ran : List ℕ) (runs : ran ≡ F (take k (drop 20 x2))) (x3 : List ℕ) (e3 : x3 ≡ put_mid 20 k x2 ran) where
    ran_is : ran ≡ F clear
    ran_is = runs ∙ ap F (second_part 20 k header clear (drop (20 + n) old) x2 (x2_is x2 e2) twenty (omega arith))

    x3_is : x3 ≡ (header ++ F clear) ++ drop (20 + n) old
    x3_is = e3 ∙ rewritten 20 k header clear (drop (20 + n) old) x2 (x2_is x2 e2) twenty (omega arith) ran ∙ ap (λ zs. (header ++ zs) ++ drop (20 + n) old) ran_is

    long : length (F clear) ≡ k
    long = keeps clear ∙ omega arith

    module _ (sum : ℕ) (sums : sum ≡ G (take 20 x3 ++ take k (drop 20 x3))) where
      sum_is : sum ≡ G (header ++ F clear)
      sum_is =
          let first = first_part 20 k header (F clear) (drop (20 + n) old) x3 x3_is twenty long in
          let second = second_part 20 k header (F clear) (drop (20 + n) old) x3 x3_is twenty long in
          sums ∙ rw (first, second)

      pub sealed_written : (place width : ℕ) → place ≡ 20 + n → width ≡ 4 → put_mid place width x3 (octets_of 4 sum) ≡ header ++ (F clear ++ octets_of 4 (G (header ++ F clear)))
      sealed_written place width p w =
          let both : length (header ++ F clear) ≡ place = length-append header (F clear) ∙ omega (arith, long) in
          let is : x3 ≡ (header ++ F clear) ++ drop place old = x3_is ∙ ap (λ m. (header ++ F clear) ++ drop m old) (sym p) in
          put_last place width (header ++ F clear) (octets_of 4 sum) old x3 both (omega arith) is
          ∙ ap (λ m. (header ++ F clear) ++ octets_of 4 m) sum_is ∙ append_assoc header (F clear) (octets_of 4 (G (header ++ F clear)))

-- the same, of the lists that the code copied from
pub sealed_copied : (F : List ℕ → List ℕ) (G : List ℕ → ℕ) → ((xs : List ℕ) → length (F xs) ≡ length xs)
    → (put header copied clear ran w old : List ℕ) (sum n k place width : ℕ)
    → put ≡ header → length header ≡ 20 → copied ≡ clear → length clear ≡ n → length old ≡ 24 + n → k ≡ n → place ≡ 20 + n → width ≡ 4
    → ran ≡ F (take k (drop 20 (put_mid 20 k (put ++ drop 20 old) copied)))
    → sum ≡ G (take 20 (put_mid 20 k (put_mid 20 k (put ++ drop 20 old) copied) ran) ++ take k (drop 20 (put_mid 20 k (put_mid 20 k (put ++ drop 20 old) copied) ran)))
    → w ≡ octets_of 4 sum
    → put_mid place width (put_mid 20 k (put_mid 20 k (put ++ drop 20 old) copied) ran) w ≡ header ++ (F clear ++ octets_of 4 (G (header ++ F clear)))
sealed_copied F G keeps put header copied clear ran w old sum n k place width h twenty c size room k-is p wd runs sums tag =
    ap (put_mid place width (put_mid 20 k (put_mid 20 k (put ++ drop 20 old) copied) ran)) tag
    ∙ sealed_written F G keeps put copied old n k (ap length h ∙ twenty) (ap length c ∙ size) room k-is _ refl ran runs _ refl sum sums place width p wd
    ∙ ap (λ ys. put ++ (F ys ++ octets_of 4 (G (put ++ F ys)))) c
    ∙ ap (λ ys. ys ++ (F clear ++ octets_of 4 (G (ys ++ F clear)))) h
