-- The lines of a log by their numbers.
use Rattle.std.proofs.Common.{◌≡◌, ℕ, zero, suc, ◌<◌, ◌⊎◌, List, [], ◌∷◌, ◌++◌, length, take, Some, sym, refl, ap, ◌∙◌, subst, inl, inr, ⊎_elim, arith}
use Rattle.std.specs.List.{slice_get}
use Rattle.register.proofs.Lookups.{none_some, some_one}
use Rattle.rehearsal.specs.Associations.{At}
use Rattle.rehearsal.specs.Runs.{Turn}

module _ {X : Type 0} where
  nth_new : (xs : List X) (x : X) → slice_get (xs ++ x ∷ []) (length xs) ≡ Some x
  nth_new [] x = refl
  nth_new (z ∷ xs) x = nth_new xs x

  nth_old : (xs : List X) (x y : X) (n : ℕ) → slice_get xs n ≡ Some y → slice_get (xs ++ x ∷ []) n ≡ Some y
  nth_old [] x y n e = absurd (none_some e)
  nth_old (z ∷ xs) x y zero e = e
  nth_old (z ∷ xs) x y (suc n) e = nth_old xs x y n e

  nth_within : (xs : List X) (y : X) (n : ℕ) → slice_get xs n ≡ Some y → n < length xs
  nth_within [] y n e = absurd (none_some e)
  nth_within (z ∷ xs) y zero e = omega arith
  nth_within (z ∷ xs) y (suc n) e = let h = nth_within xs y n e in omega arith

  -- a line of a longer log is an old line, or the new one
  nth_cases : (xs : List X) (x y : X) (n : ℕ) → slice_get (xs ++ x ∷ []) n ≡ Some y → (slice_get xs n ≡ Some y) ⊎ ((n ≡ length xs) × (x ≡ y))
  nth_cases [] x y zero e = inr (refl, some_one e)
  nth_cases [] x y (suc n) e = absurd (none_some e)
  nth_cases (z ∷ xs) x y zero e = inl e
  nth_cases (z ∷ xs) x y (suc n) e = ⊎_elim inl (λ p. inr (ap suc p.0, p.1)) (nth_cases xs x y n e)

  nth_take : (n j : ℕ) (xs : List X) → j < n → slice_get (take n xs) j ≡ slice_get xs j
  nth_take zero j xs l = absurd (omega arith)
  nth_take (suc n) j [] l = refl
  nth_take (suc n) zero (x ∷ xs) l = refl
  nth_take (suc n) (suc j) (x ∷ xs) l = nth_take n j xs (omega arith)

  -- as many lines stand above a line as its number says
  pub take_above : (n : ℕ) (xs : List X) (y : X) → slice_get xs n ≡ Some y → length (take n xs) ≡ n
  take_above n [] y e = absurd (none_some e)
  take_above zero (x ∷ xs) y e = refl
  take_above (suc n) (x ∷ xs) y e = ap suc (take_above n xs y e)

module _ (ts : List Turn) (P : Turn → Type 0) where
  -- two facts of one line are of one turn
  pub at_one : (n : ℕ) (t : Turn) → slice_get ts n ≡ Some t → At ts n P → P t
  at_one n t e h = subst P (some_one (sym h.1 ∙ e)) h.2

  pub at_within : (n : ℕ) → At ts n P → n < length ts
  at_within n h = nth_within ts h.0 n h.1

  pub at_taken : (n j : ℕ) → j < n → At ts j P → At (take n ts) j P
  at_taken n j l h = (h.0, nth_take n j ts l ∙ h.1, h.2)

  pub at_whole : (n j : ℕ) → j < n → At (take n ts) j P → At ts j P
  at_whole n j l h = (h.0, sym (nth_take n j ts l) ∙ h.1, h.2)

  module _ (t : Turn) where
    pub at_old : (n : ℕ) → At ts n P → At (ts ++ t ∷ []) n P
    at_old n h = (h.0, nth_old ts t h.0 n h.1, h.2)

    pub at_new : P t → At (ts ++ t ∷ []) (length ts) P
    at_new h = (t, nth_new ts t, h)

    pub at_cases : (n : ℕ) → At (ts ++ t ∷ []) n P → (At ts n P × (n < length ts)) ⊎ ((n ≡ length ts) × P t)
    at_cases n h =
        ⊎_elim
        (λ e. inl ((h.0, e, h.2), nth_within ts h.0 n e))
        (λ e. inr (e.0, subst P (sym e.1) h.2))
        (nth_cases ts t h.0 n h.1)
