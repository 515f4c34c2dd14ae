-- A rule at all numbers below a bound, by one test that antt computes at each.
-- Assumes nothing.
use Rattle.std.proofs.Common.{◌≡◌, ℕ, zero, suc, ◌<◌, Bool, true, false, T, eqb, ◌⊎◌, List, get_or, sym, subst, inl, inr, ⊎_elim, not-suc-le-zero, arith, eqb→eq}

abbrev pub both : Bool → Bool → Bool
both true b = b
both false b = false

abbrev pub either : Bool → Bool → Bool
either true b = true
either false b = b

pub T-both : (a b : Bool) → T (both a b) → T a × T b
T-both true b t = (tt, t)
T-both false b t = absurd t

pub T-either : (a b : Bool) → T (either a b) → T a ⊎ T b
T-either true b t = inl tt
T-either false b t = inr t

-- the test f passes at each number below n
abbrev pub all : (ℕ → Bool) → ℕ → Bool
all f zero = true
all f (suc n) = both (f n) (all f n)

last_or_below : (k n : ℕ) → k < suc n → (k < n) ⊎ (k ≡ n)
last_or_below k n h = grind arith

pub below : (f : ℕ → Bool) (n : ℕ) → T (all f n) → (k : ℕ) → k < n → T (f k)
below f zero t k h = absurd (not-suc-le-zero h)
below f (suc n) t k h =
    let parts = T-both (f n) (all f n) t in
    ⊎_elim (λ (l : k < n). below f n parts.1 k l) (λ (e : k ≡ n). subst (λ (m : ℕ). T (f m)) (sym e) parts.0)
    (last_or_below k n h)

-- a table that agrees with f below n
pub table_is : (f : ℕ → ℕ) (table : List ℕ) (n : ℕ) → T (all (λ k. eqb (get_or table k 0) (f k)) n)
    → (k : ℕ) → k < n → get_or table k 0 ≡ f k
table_is f table n t k h = eqb→eq _ _ (below (λ k. eqb (get_or table k 0) (f k)) n t k h)
