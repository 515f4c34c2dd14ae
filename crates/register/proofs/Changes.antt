-- What each call makes of the places, from the one write that it does.
use Rattle.std.proofs.Common.{◌≡◌, ℕ, ◌+◌, Bool, true, false, cond, ◌||◌, ltb, List, map, length, get_or, set, is_some, Some, None, Option, sym, refl, ap, ◌∙◌, subst, ⊎_elim, arith}
use Rattle.std.proofs.lemmas.List.{length-set, length-map, get_or_default}
use Rattle.std.proofs.lemmas.List.Sums.{sum_by-set}
use Rattle.std.proofs.lemmas.Bool.{cases_Bool, true≢false, lt-ltb, or_left, or_right}
use Rattle.std.specs.Cmp.{IsEquivalence}
use Rattle.register.specs.Places.{Apart, lookup, PlaceOf, held_count, not_past, Put, Removed, Dropped, PutAt}
use Rattle.register.proofs.Counts.{count_missing, count_map}
use Rattle.register.proofs.Lookups.{none_some, lookup_absent, write_apart, write_lookup, drop_apart, drop_lookup}

other_one : (b : Bool) → cond b 1 0 + cond b 0 1 ≡ 1
other_one true = refl
other_one false = refl

module _ {R K : Type 0} (key : R → K) (same : K → K → Bool) (laws : IsEquivalence same) (ps : List (Option R)) (apart : Apart key same ps) where
  module _ (own : K) (i : ℕ) (at : PlaceOf key same own ps i) where
    counted : (new : Option R) → held_count (set ps i new) + cond (is_some (lookup key same own ps)) 1 0 ≡ held_count ps + cond (is_some new) 1 0
    counted new =
        subst (λ p. held_count (set ps i new) + cond (is_some p) 1 0 ≡ held_count ps + cond (is_some new) 1 0) at.1
        (sum_by-set (λ p. cond (is_some p) 1 0) ps i new None at.0)

    room : is_some (lookup key same own ps) ≡ false → ltb (held_count ps) (length ps) ≡ true
    room f = lt-ltb (held_count ps) (length ps) (count_missing is_some ps i None at.0 (ap is_some at.1 ∙ f))

    held_or_room : (is_some (lookup key same own ps) || ltb (held_count ps) (length ps)) ≡ true
    held_or_room =
        ⊎_elim
        (or_left (is_some (lookup key same own ps)) (ltb (held_count ps) (length ps)))
        (λ f. or_right (is_some (lookup key same own ps)) (ltb (held_count ps) (length ps)) (room f))
        (cases_Bool (is_some (lookup key same own ps)))

    module _ (emptied : Option R) (free : emptied ≡ None) where
      pub apart_without : Apart key same (set ps i emptied)
      apart_without =
          subst (λ p. Apart key same (set ps i p)) (sym free)
          (write_apart key same laws ps apart own None i at.0 at.1 (λ r e. absurd (none_some e)))

      pub removes : is_some (lookup key same own ps) ≡ true → (removed d : Option R) → removed ≡ get_or ps i d → Removed key same own ps (set ps i emptied) removed
      removes held removed d read =
          let is : removed ≡ lookup key same own ps = read ∙ get_or_default ps i d None at.0 ∙ at.1 in
          subst (λ p. Removed key same own ps (set ps i p) removed) (sym free) (record {
            answer = is;
            absent = λ e. absurd (true≢false (sym held ∙ ap is_some (sym is ∙ e)));
            gone = write_lookup key same laws ps apart own None i at.0 at.1 (λ r e. absurd (none_some e));
            counted = subst (λ p. held_count (set ps i None) + cond (is_some p) 1 0 ≡ held_count ps) (sym is) (omega (arith, counted None));
            length_kept = length-set ps i None;
          })

  module _ (r : R) (i : ℕ) (at : PlaceOf key same (key r) ps i) where
    under : (s : R) → Some r ≡ Some s → same (key r) (key s) ≡ true
    under s e = let is : r ≡ s = cc in subst (λ x. same (key r) (key x) ≡ true) is (laws.refl (key r))

    pub apart_with : Apart key same (set ps i (Some r))
    apart_with = write_apart key same laws ps apart (key r) (Some r) i at.0 at.1 under

    pub puts : Put key same r ps (set ps i (Some r)) true
    puts = record {
      answer = sym (held_or_room (key r) i at);
      refused = λ e. absurd (true≢false e);
      stored = λ _. write_lookup key same laws ps apart (key r) (Some r) i at.0 at.1 under;
      counted = λ _. omega (arith, counted (key r) i at (Some r), other_one (is_some (lookup key same (key r) ps)));
      length_kept = length-set ps i (Some r);
    }

  pub leaves : (own : K) → lookup key same own ps ≡ None → Removed key same own ps ps None
  leaves own none = record {
    answer = sym none;
    absent = λ _. refl;
    gone = lookup_absent key same laws ps own none;
    counted = omega arith;
    length_kept = refl;
  }

  module _ (last : R → ℕ) (tick : ℕ) (after : List (Option R)) (is : after ≡ map (not_past last tick) ps) where
    pub left_apart : Apart key same after
    left_apart = subst (Apart key same) (sym is) (drop_apart key same last tick ps apart)

    pub drops : Dropped key same last tick ps after
    drops = subst (Dropped key same last tick ps) (sym is) (record {
      left = drop_lookup key same last tick laws ps apart;
      counted = count_map is_some (not_past last tick) ps;
      length_kept = length-map ps (not_past last tick);
    })

-- A dropping, and then a put.
module _ {R K : Type 0} (key : R → K) (same : K → K → Bool) (last : R → ℕ) (tick : ℕ) (r : R) (before left after : List (Option R)) (taken : Bool) where
  pub drops_puts : Dropped key same last tick before left → Put key same r left after taken → PutAt key same last r tick before after taken
  drops_puts dropped put = record {
    answer = cc (dropped.left (key r));
    refused = λ e. subst (Dropped key same last tick before) (sym (put.refused e)) dropped;
    stored = λ t k. put.stored t k ∙ ap (cond (same k (key r)) (Some r)) (dropped.left k);
    counted = λ t. cc (put.counted t, dropped.left (key r));
    length_kept = put.length_kept ∙ dropped.length_kept;
  }
