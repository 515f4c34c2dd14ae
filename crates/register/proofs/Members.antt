-- How a put, a removal and a dropping change what is held, whatever its place; and when a put has room.
use Rattle.std.proofs.Common.{◌≡◌, ℕ, ◌<◌, ◌≤◌, Bool, true, false, cond, ltb, ◌⊎◌, List, length, is_some, Some, None, Option, sym, refl, ap, ◌∙◌, inl, inr, ⊎_elim, arith}
use Rattle.std.proofs.lemmas.Bool.{cases_Bool, cond-true, cond-false, lt-ltb, le-ltb, or_right}
use Rattle.std.specs.Cmp.{IsEquivalence}
use Rattle.register.specs.Places.{Holds, Apart, lookup, held_count, not_past, count_not_past, Put, Removed, Dropped}
use Rattle.register.proofs.Lookups.{none_some, some_one, left_was, lookup_some, holds_lookup}

module _ {R K : Type 0} (key : R → K) (same : K → K → Bool) (laws : IsEquivalence same) (before after : List (Option R)) (apart : Apart key same before) (still : Apart key same after) where
  -- A record is held where its look-up answers it.
  held : (s : R) → lookup key same (key s) after ≡ Some s → Holds after s
  held s e = (lookup_some key same (key s) after s e).0

  module _ (r : R) (put : Put key same r before after true) where
    pub put_has : Holds after r
    put_has = held r (put.stored refl (key r) ∙ cond-true (same (key r) (key r)) (Some r) _ (laws.refl (key r)))

    pub put_keeps : (s : R) → Holds before s → same (key s) (key r) ≡ false → Holds after s
    put_keeps s h f =
        held s (put.stored refl (key s) ∙ cond-false (same (key s) (key r)) (Some r) _ f ∙ holds_lookup key same laws before apart s h)

    pub put_only : (s : R) → Holds after s → (s ≡ r) ⊎ (Holds before s × (same (key s) (key r) ≡ false))
    put_only s h =
        let is : cond (same (key s) (key r)) (Some r) (lookup key same (key s) before) ≡ Some s =
        sym (put.stored refl (key s)) ∙ holds_lookup key same laws after still s h in
        ⊎_elim
        (λ t. inl (some_one (sym is ∙ cond-true (same (key s) (key r)) (Some r) _ t)))
        (λ f. inr ((lookup_some key same (key s) before s (sym (cond-false (same (key s) (key r)) (Some r) _ f) ∙ is)).0, f))
        (cases_Bool (same (key s) (key r)))

  module _ (own : K) (was : Option R) (removed : Removed key same own before after was) where
    pub removed_keeps : (s : R) → Holds before s → same (key s) own ≡ false → Holds after s
    removed_keeps s h f =
        held s (removed.gone (key s) ∙ cond-false (same (key s) own) None _ f ∙ holds_lookup key same laws before apart s h)

    pub removed_only : (s : R) → Holds after s → Holds before s × (same (key s) own ≡ false)
    removed_only s h =
        let is : cond (same (key s) own) None (lookup key same (key s) before) ≡ Some s =
        sym (removed.gone (key s)) ∙ holds_lookup key same laws after still s h in
        ⊎_elim
        (λ t. absurd (none_some (sym (cond-true (same (key s) own) None _ t) ∙ is)))
        (λ f. ((lookup_some key same (key s) before s (sym (cond-false (same (key s) own) None _ f) ∙ is)).0, f))
        (cases_Bool (same (key s) own))

  module _ (last : R → ℕ) (tick : ℕ) (dropped : Dropped key same last tick before after) where
    pub dropped_keeps : (s : R) → Holds before s → tick ≤ last s → Holds after s
    dropped_keeps s h l =
        held s (dropped.left (key s) ∙ ap (not_past last tick) (holds_lookup key same laws before apart s h) ∙ cond-false (ltb (last s) tick) None (Some s) (le-ltb (last s) tick l))

    pub dropped_only : (s : R) → Holds after s → Holds before s × (tick ≤ last s)
    dropped_only s h =
        let was = left_was key same last tick (lookup key same (key s) before) s (sym (dropped.left (key s)) ∙ holds_lookup key same laws after still s h) in
        ((lookup_some key same (key s) before s was.0).0, was.1)

-- Once what is past is dropped, a put has room where less is left than there are places.
pub room_once_dropped : {R K : Type 0} (key : R → K) (same : K → K → Bool) (last : R → ℕ) (tick : ℕ) (r : R) (before left after : List (Option R)) (taken : Bool) → Dropped key same last tick before left → Put key same r left after taken → count_not_past last tick before < length before → taken ≡ true
room_once_dropped key same last tick r before left after taken dropped put less =
    put.answer ∙ or_right (is_some (lookup key same (key r) left)) (ltb (held_count left) (length left)) (lt-ltb (held_count left) (length left) (omega (arith, dropped.counted, dropped.length_kept)))
