-- The places up to a bound.
use Rattle.std.proofs.Common.{◌≡◌, ℕ, ◌<◌, List, get_or, take, ◌∙◌, ⊎_elim, arith}
use Rattle.std.proofs.lemmas.List.{get_or-take, get_or_past, length-take}
use Rattle.std.proofs.lemmas.Bool.{cases_lt}

module _ {X : Type 0} (n : ℕ) (xs : List X) where
  -- A front of which each place is free is free at every index.
  pub front_free : (d : X) → ((i : ℕ) → i < n → get_or xs i d ≡ d) → (i : ℕ) → get_or (take n xs) i d ≡ d
  front_free d free i =
      ⊎_elim
      (λ l. get_or-take n xs i d l ∙ free i l)
      (λ l. get_or_past (take n xs) i d (omega (arith, length-take n xs)))
      (cases_lt i n)
