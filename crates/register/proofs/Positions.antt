-- The first place that holds a key, and the first that is free.
use Rattle.std.proofs.Common.{◌≡◌, ℕ, zero, suc, ◌+◌, ◌<◌, Bool, true, false, cond, ltb, List, [], ◌∷◌, length, get_or, drop, is_some, is_none, position, Some, None, Option, MatchOption, sym, refl, ap, ◌∙◌, subst, ⊎_elim, arith}
use Rattle.std.proofs.lemmas.Bool.{cases_Bool, cond-true, cond-false, ltb-false, true≢false}
use Rattle.std.proofs.lemmas.List.{at_drop_more, drop_all}
use Rattle.std.proofs.lemmas.List.Quantifiers.{position-Some}
use Rattle.std.proofs.lemmas.List.Sums.{sum_by-cons, fails_before_first}
use Rattle.std.proofs.lemmas.Option.{none-some, MatchOption-at_some}
use Rattle.std.specs.List.{position_or_len}
use Rattle.register.specs.Places.{pick, lookup, has_key, PlaceOf, held_count}
use Rattle.register.proofs.Counts.{count_missing}

-- where no position passes, no element does
pub none_passes : {X : Type 0} (p : X → Bool) (xs : List X) → None ≡ position p xs → (i : ℕ) (d : X) → i < length xs → p (get_or xs i d) ≡ false
none_passes p xs e i d l =
    let n = position_or_len p xs in
    ⊎_elim
    (λ t. absurd (none-some n (e ∙ cond-true (ltb n (length xs)) (Some n) None t)))
    (λ f. fails_before_first p xs i d (omega (arith, ltb-false n (length xs) f)))
    (cases_Bool (ltb n (length xs)))

module _ {R K : Type 0} (key : R → K) (same : K → K → Bool) (k : K) where
  passed : (p rest : Option R) → has_key key same k p ≡ false → pick key same k p rest ≡ rest
  passed None rest f = refl
  passed (Some r) rest f = cond-false (same k (key r)) (Some r) rest f

  found : (p rest : Option R) → has_key key same k p ≡ true → (pick key same k p rest ≡ p) × (is_some p ≡ true)
  found None rest t = absurd (true≢false (sym t))
  found (Some r) rest t = (cond-true (same k (key r)) (Some r) rest t, refl)

  -- what stands under the key stands at i or after, where no place before i holds it
  skip : (ps : List (Option R)) (i : ℕ) → ((j : ℕ) → j < i → has_key key same k (get_or ps j None) ≡ false) → lookup key same k ps ≡ lookup key same k (drop i ps)
  skip ps zero f = refl
  skip [] (suc i) f = refl
  skip (p ∷ ps) (suc i) f = passed p (lookup key same k ps) (f 0 (omega arith)) ∙ skip ps i (λ j l. f (suc j) (omega arith))

  pub place_found : (ps : List (Option R)) (at : Option ℕ) → at ≡ position (has_key key same k) ps → MatchOption at (lookup key same k ps ≡ None) (λ i. PlaceOf key same k ps i × (is_some (lookup key same k ps) ≡ true))
  place_found ps None e =
      skip ps (length ps) (λ j l. none_passes (has_key key same k) ps e j None l) ∙ ap (lookup key same k) (drop_all (length ps) ps (omega arith))
  place_found ps (Some i) e =
      let at = position-Some (has_key key same k) ps i None (sym e) in
      let here = found (get_or ps i None) (lookup key same k (drop (i + 1) ps)) at.1 in
      let is : lookup key same k ps ≡ get_or ps i None = skip ps i at.2 ∙ at_drop_more (lookup key same k) ps i None at.0 ∙ here.0 in
      ((at.0, sym is), ap is_some is ∙ here.1)

none_free : {R : Type 0} (ps : List (Option R)) → ((i : ℕ) → i < length ps → is_none (get_or ps i None) ≡ false) → held_count ps ≡ length ps
none_free [] f = refl
none_free (None ∷ ps) f = absurd (true≢false (f 0 (omega arith)))
none_free (Some r ∷ ps) f =
    omega (arith, sum_by-cons (λ p. cond (is_some p) 1 0) (Some r) ps, none_free ps (λ i l. f (suc i) (omega arith)))

is_free : {R : Type 0} (p : Option R) → is_none p ≡ true → p ≡ None
is_free None t = refl
is_free (Some r) t = absurd (true≢false (sym t))

pub free_found : {R : Type 0} (ps : List (Option R)) (at : Option ℕ) → at ≡ position is_none ps → MatchOption at (held_count ps ≡ length ps) (λ i. (i < length ps) × ((get_or ps i None ≡ None) × (held_count ps < length ps)))
free_found ps None e = none_free ps (λ i l. none_passes is_none ps e i None l)
free_found ps (Some i) e =
    let at = position-Some is_none ps i None (sym e) in
    let free = is_free (get_or ps i None) at.1 in
    (at.0, (free, count_missing is_some ps i None at.0 (ap is_some free)))

-- The place to write a record of a key at: the one that holds the key, or else the first that is free.
module _ {R K : Type 0} (key : R → K) (same : K → K → Bool) (k : K) (ps : List (Option R)) where
  abbrev Writable : Option ℕ → Type 0
  Writable at = MatchOption at ((lookup key same k ps ≡ None) × (held_count ps ≡ length ps)) (PlaceOf key same k ps)

  free_writable : lookup key same k ps ≡ None → (at : Option ℕ) → MatchOption at (held_count ps ≡ length ps) (λ i. (i < length ps) × ((get_or ps i None ≡ None) × (held_count ps < length ps))) → Writable at
  free_writable none None full = (none, full)
  free_writable none (Some i) free = (free.0, free.1.0 ∙ sym none)

  pub writable : (known at : Option ℕ) → MatchOption known (lookup key same k ps ≡ None) (λ i. PlaceOf key same k ps i × (is_some (lookup key same k ps) ≡ true)) → (known ≡ None → at ≡ position is_none ps) → ((i : ℕ) → known ≡ Some i → at ≡ Some i) → Writable at
  writable None at none free here = free_writable none at (free_found ps at (free refl))
  writable (Some i) at found free here = subst Writable (sym (here i refl)) found.0

  pub place_at : (at : Option ℕ) → Writable at → (i : ℕ) → at ≡ Some i → (own : K) → k ≡ own → PlaceOf key same own ps i
  place_at at w i is own e = subst (λ x. PlaceOf key same x ps i) e (MatchOption-at_some _ _ i is w)
