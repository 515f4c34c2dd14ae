-- Look-up against membership, and what a write and a dropping do to both.
use Rattle.std.proofs.Common.{◌≡◌, ℕ, zero, suc, ◌<◌, ◌≤◌, Bool, true, false, cond, ltb, ◌≢◌, List, [], ◌∷◌, map, length, get_or, set, is_some, Some, None, Option, sym, refl, ap, ◌∙◌, subst, ⊎_elim, arith}
use Rattle.std.proofs.lemmas.List.{get_or-set_same, get_or-set_other}
use Rattle.std.proofs.lemmas.Bool.{cases_Bool, cases_eq, cases_order, both_ways, cond-true, cond-false, ltb-false, ltb-true}
use Rattle.register.specs.Places.{Holds, Twice, Apart, Found, lookup, held_count, not_past, Empty}
use Rattle.std.specs.Cmp.{IsEquivalence, equiv, both_ways as one_answer}
use Rattle.register.proofs.Counts.{count_none}

-- What a kind of record shows of the sameness of its keys, as one fact.
pub equivalence : {K : Type 0} (same : K → K → Bool) → ((k : K) → same k k ≡ true) → ((j k : K) → same j k ≡ true → same k j ≡ true) → ((i j k : K) → same i j ≡ true → same j k ≡ true → same i k ≡ true) → IsEquivalence same
equivalence same reflexive symmetric transitive =
    equiv (record { symm = λ j k. one_answer (same j k) (same k j) (symmetric j k) (symmetric k j); trans = transitive }) reflexive

pub none_some : {X : Type 0} {x : X} → None ≡ Some x → ⊥
none_some e = let z : ◌≡◌ {A = ℕ} 0 1 = cc in omega arith

pub some_one : {X : Type 0} {x y : X} → Some x ≡ Some y → x ≡ y
some_one e = cc

-- A test that cannot be true is false.
refuted : (b : Bool) → (b ≡ true → ⊥) → b ≡ false
refuted true no_way = absurd (no_way refl)
refuted false no_way = refl

module _ {R K : Type 0} (key : R → K) (same : K → K → Bool) where
  -- Keys are apart exactly where no two places have the same.
  abbrev pub Unlike : List (Option R) → Type 0
  Unlike ps = (i j : ℕ) (r s : R) → i < j → get_or ps i None ≡ Some r → get_or ps j None ≡ Some s → same (key r) (key s) ≡ true → ⊥

  pub apart_from : (ps : List (Option R)) → Unlike ps → Apart key same ps
  unfolding Twice
  apart_from ps unlike t = unlike t.0 t.1 t.2 t.3 t.4 t.5 t.6 t.7

  pub apart_at : (ps : List (Option R)) → Apart key same ps → Unlike ps
  unfolding Twice
  apart_at ps apart i j r s l e d t = apart (i, j, r, s, l, e, d, t)

  found_more : (k : K) (p : Option R) (ps : List (Option R)) (o : Option R) → ((r : R) → p ≡ Some r → same k (key r) ≡ false) → Found key same k ps o → Found key same k (p ∷ ps) o
  found_more k p ps None other f = λ r h. at r h.0 h.1
    where
      at : (r : R) (i : ℕ) → get_or (p ∷ ps) i None ≡ Some r → same k (key r) ≡ false
      at r zero e = other r e
      at r (suc i) e = f r (i, e)
  found_more k p ps (Some r) other f = ((suc f.0.0, f.0.1), f.1)

  -- A look-up answers a record exactly where one that is held has the key.
  pub found : (k : K) (ps : List (Option R)) → Found key same k ps (lookup key same k ps)
  found k [] = λ r h. absurd (none_some h.1)
  found k (None ∷ ps) = found_more k None ps (lookup key same k ps) (λ r e. absurd (none_some e)) (found k ps)
  found k (Some r ∷ ps) =
      let Goal : Option R → Type 0 = Found key same k (Some r ∷ ps) in
      ⊎_elim
      (λ t. subst Goal (sym (cond-true (same k (key r)) (Some r) (lookup key same k ps) t)) ((0, refl), t))
      (λ f. subst Goal (sym (cond-false (same k (key r)) (Some r) (lookup key same k ps) f))
      (found_more k (Some r) ps (lookup key same k ps) (λ s e. subst (λ x. same k (key x) ≡ false) (some_one e) f) (found k ps)))
      (cases_Bool (same k (key r)))

  pub found_is : (k : K) (ps : List (Option R)) (o : Option R) → o ≡ lookup key same k ps → Found key same k ps o
  found_is k ps o e = subst (Found key same k ps) (sym e) (found k ps)

  pub lookup_some : (k : K) (ps : List (Option R)) (r : R) → lookup key same k ps ≡ Some r → Holds ps r × (same k (key r) ≡ true)
  lookup_some k ps r e = found_is k ps (Some r) (sym e)

  pub lookup_none : (k : K) (ps : List (Option R)) → lookup key same k ps ≡ None → (r : R) → Holds ps r → same k (key r) ≡ false
  lookup_none k ps e = found_is k ps None (sym e)

  -- Places without a record.
  module _ (ps : List (Option R)) (free : (i : ℕ) → get_or ps i None ≡ None) where
    pub free_apart : Apart key same ps
    free_apart = apart_from ps (λ i j r s l e _ _. none_some (sym (free i) ∙ e))

    free_lookup : (k : K) → lookup key same k ps ≡ None
    free_lookup k = none (lookup key same k ps) refl
      where
        none : (o : Option R) → lookup key same k ps ≡ o → o ≡ None
        none None e = refl
        none (Some r) e = let h = (lookup_some k ps r e).0 in absurd (none_some (sym (free h.0) ∙ h.1))

    free_count : held_count ps ≡ 0
    free_count = count_none is_some ps None refl free

    pub free_empty : Empty key same ps
    free_empty = record { nothing = free_lookup; counted = free_count }

  module _ (laws : IsEquivalence same) where
    -- Where nothing is held under any key, nothing is held.
    pub nothing_count : (ps : List (Option R)) → ((k : K) → lookup key same k ps ≡ None) → held_count ps ≡ 0
    nothing_count ps nothing = free_count ps (λ i. free i (get_or ps i None) refl)
      where
        free : (i : ℕ) (p : Option R) → get_or ps i None ≡ p → p ≡ None
        free i None e = refl
        free i (Some r) e = absurd (both_ways (same (key r) (key r)) (lookup_none (key r) ps (nothing (key r)) r (i, e)) (laws.refl (key r)))

    reach : (i j k : K) → same i j ≡ true → same j k ≡ true → same i k ≡ true
    reach i j k s t = laws.congr i j k s ∙ t

    turn : (j k : K) → same j k ≡ true → same k j ≡ true
    turn j k s = laws.symm k j ∙ s

    -- Two keys that are both the same as a third.
    joined : (i j k : K) → same k i ≡ true → same k j ≡ true → same i j ≡ true
    joined i j k s t = sym (laws.congr k i j s) ∙ t

    -- A key that is not held leaves nothing to drop.
    pub lookup_absent : (ps : List (Option R)) (own : K) → lookup key same own ps ≡ None → (k : K) → lookup key same k ps ≡ cond (same k own) None (lookup key same k ps)
    lookup_absent ps own none k =
        ⊎_elim
        (λ t. absent t (lookup key same k ps) refl ∙ sym (cond-true (same k own) None (lookup key same k ps) t))
        (λ f. sym (cond-false (same k own) None (lookup key same k ps) f))
        (cases_Bool (same k own))
      where
        absent : same k own ≡ true → (o : Option R) → lookup key same k ps ≡ o → o ≡ None
        absent t None e = refl
        absent t (Some r) e =
            let h = lookup_some k ps r e in
            absurd (both_ways (same own (key r)) (lookup_none own ps none r h.0) (joined own (key r) k t h.1))

    module _ (ps : List (Option R)) (apart : Apart key same ps) where
      one_place : (k : K) (i j : ℕ) (r s : R) → get_or ps i None ≡ Some r → get_or ps j None ≡ Some s → same k (key r) ≡ true → same k (key s) ≡ true → i ≡ j
      one_place k i j r s e d t u =
          ⊎_elim (λ x. x)
          (⊎_elim
          (λ l. absurd (apart_at ps apart i j r s l e d (joined (key r) (key s) k t u)))
          (λ l. absurd (apart_at ps apart j i s r l d e (joined (key s) (key r) k u t))))
          (cases_order i j)

      -- No key twice: what is found under a key is one thing.
      found_one : (k : K) (o q : Option R) → Found key same k ps o → Found key same k ps q → o ≡ q
      found_one k None None f h = refl
      found_one k None (Some s) f h = absurd (both_ways (same k (key s)) (f s h.0) h.1)
      found_one k (Some r) None f h = absurd (both_ways (same k (key r)) (h r f.0) f.1)
      found_one k (Some r) (Some s) f h =
          sym f.0.1
          ∙ ap (λ i. get_or ps i None) (one_place k f.0.0 h.0.0 r s f.0.1 h.0.1 f.1 h.1)
          ∙ h.0.1

      pub lookup_is : (k : K) (o : Option R) → Found key same k ps o → lookup key same k ps ≡ o
      lookup_is k o f = found_one k (lookup key same k ps) o (found k ps) f

      -- A record is held exactly where the look-up of its key answers it.
      pub holds_lookup : (r : R) → Holds ps r → lookup key same (key r) ps ≡ Some r
      holds_lookup r h = lookup_is (key r) (Some r) (h, laws.refl (key r))

    -- A write of `new` under the key `own`, at the place of what stood there.
    module _ (ps : List (Option R)) (apart : Apart key same ps) (own : K) (new : Option R) (i : ℕ) (l : i < length ps) (at : get_or ps i None ≡ lookup key same own ps) (under : (r : R) → new ≡ Some r → same own (key r) ≡ true) where
      at_place : (r : R) → get_or (set ps i new) i None ≡ Some r → new ≡ Some r
      at_place r e = sym (get_or-set_same ps i new None l) ∙ e

      at_other : (j : ℕ) (r : R) → j ≢ i → get_or (set ps i new) j None ≡ Some r → get_or ps j None ≡ Some r
      at_other j r ne e = sym (get_or-set_other ps i j new None ne) ∙ e

      -- no other place holds the key
      others : (j : ℕ) (r : R) → j ≢ i → get_or ps j None ≡ Some r → same own (key r) ≡ false
      others j r ne e =
          refuted (same own (key r)) (λ t. ne (one_place ps apart own j i r r e (at ∙ lookup_is ps apart own (Some r) ((j, e), t)) t t))

      pub write_apart : Apart key same (set ps i new)
      write_apart = apart_from (set ps i new) (λ a b r s less e d t.
          ⊎_elim
          (λ a-here.
          let away : b ≢ i = λ b_here. omega arith in
          both_ways (same own (key s))
          (others b s away (at_other b s away d))
          (reach own (key r) (key s) (under r (at_place r (subst (λ x. get_or (set ps i new) x None ≡ Some r) a-here e))) t))
          (λ a-away.
          ⊎_elim
          (λ b_here.
          both_ways (same own (key r))
          (others a r a-away (at_other a r a-away e))
          (reach own (key s) (key r) (under s (at_place s (subst (λ x. get_or (set ps i new) x None ≡ Some s) b_here d))) (turn (key r) (key s) t)))
          (λ b-away. apart_at ps apart a b r s less (at_other a r a-away e) (at_other b s b-away d) t)
          (cases_eq b i))
          (cases_eq a i))

      -- a record of another key than the one written
      elsewhere : (k : K) → same k own ≡ false → (r : R) → same k (key r) ≡ true → same own (key r) ≡ true → ⊥
      elsewhere k f r t u = both_ways (same k own) f (reach k (key r) own t (turn own (key r) u))

      -- Under the written key stands `new`, and under each other key what stood there.
      pub write_lookup : (k : K) → lookup key same k (set ps i new) ≡ cond (same k own) new (lookup key same k ps)
      write_lookup k =
          lookup_is (set ps i new) write_apart k (cond (same k own) new (lookup key same k ps))
          (⊎_elim
          (λ t. subst (Found key same k (set ps i new)) (sym (cond-true (same k own) new (lookup key same k ps) t)) (written t new refl))
          (λ f. subst (Found key same k (set ps i new)) (sym (cond-false (same k own) new (lookup key same k ps) f)) (kept f (lookup key same k ps) (found k ps)))
          (cases_Bool (same k own)))
        where
          written : same k own ≡ true → (o : Option R) → new ≡ o → Found key same k (set ps i new) o
          written t None e = λ r h.
              ⊎_elim
              (λ j≡i. absurd (none_some (sym e ∙ at_place r (subst (λ x. get_or (set ps i new) x None ≡ Some r) j≡i h.1))))
              (λ j≢i. refuted (same k (key r)) (λ u. both_ways (same own (key r)) (others h.0 r j≢i (at_other h.0 r j≢i h.1)) (joined own (key r) k t u)))
              (cases_eq h.0 i)
          written t (Some r) e = ((i, get_or-set_same ps i new None l ∙ e), reach k own (key r) t (under r e))

          kept : same k own ≡ false → (o : Option R) → Found key same k ps o → Found key same k (set ps i new) o
          kept f None none = λ r h.
              ⊎_elim
              (λ j≡i. refuted (same k (key r)) (λ u. elsewhere k f r u (under r (at_place r (subst (λ x. get_or (set ps i new) x None ≡ Some r) j≡i h.1)))))
              (λ j≢i. none r (h.0, at_other h.0 r j≢i h.1))
              (cases_eq h.0 i)
          kept f (Some r) some =
              let j = some.0.0 in
              let ne : j ≢ i = λ j≡i. elsewhere k f r some.1 (lookup_some own ps r (sym at ∙ subst (λ x. get_or ps x None ≡ Some r) j≡i some.0.1)).1 in
              ((j, get_or-set_other ps i j new None ne ∙ some.0.1), some.1)

  -- A dropping of what is past.
  module _ (last : R → ℕ) (tick : ℕ) where
    kept_at : (ps : List (Option R)) (i : ℕ) → get_or (map (not_past last tick) ps) i None ≡ not_past last tick (get_or ps i None)
    kept_at [] i = refl
    kept_at (p ∷ ps) zero = refl
    kept_at (p ∷ ps) (suc i) = kept_at ps i

    -- What is left was there, and is not past.
    pub left_was : (p : Option R) (r : R) → not_past last tick p ≡ Some r → (p ≡ Some r) × (tick ≤ last r)
    left_was None r e = absurd (none_some e)
    left_was (Some s) r e =
        ⊎_elim
        (λ t. absurd (none_some (sym (cond-true (ltb (last s) tick) None (Some s) t) ∙ e)))
        (λ f.
        let is = sym (cond-false (ltb (last s) tick) None (Some s) f) ∙ e in
        (is, subst (λ x. tick ≤ last x) (some_one is) (ltb-false (last s) tick f)))
        (cases_Bool (ltb (last s) tick))

    left_at : (ps : List (Option R)) (i : ℕ) (r : R) → get_or (map (not_past last tick) ps) i None ≡ Some r → (get_or ps i None ≡ Some r) × (tick ≤ last r)
    left_at ps i r e = left_was (get_or ps i None) r (sym (kept_at ps i) ∙ e)

    pub drop_apart : (ps : List (Option R)) → Apart key same ps → Apart key same (map (not_past last tick) ps)
    drop_apart ps apart =
        apart_from (map (not_past last tick) ps) (λ i j r s l e d. apart_at ps apart i j r s l (left_at ps i r e).0 (left_at ps j s d).0)

    -- Under each key stands what stood there, unless it is past.
    pub drop_lookup : IsEquivalence same → (ps : List (Option R)) → Apart key same ps → (k : K) → lookup key same k (map (not_past last tick) ps) ≡ not_past last tick (lookup key same k ps)
    drop_lookup laws ps apart k =
        lookup_is laws (map (not_past last tick) ps) (drop_apart ps apart) k (not_past last tick (lookup key same k ps)) (left (lookup key same k ps) (found k ps))
      where
        after : List (Option R)
        after = map (not_past last tick) ps

        was : (r : R) → Holds after r → Holds ps r × (tick ≤ last r)
        was r h = let at = left_at ps h.0 r h.1 in ((h.0, at.0), at.1)

        left : (o : Option R) → Found key same k ps o → Found key same k after (not_past last tick o)
        left None none = λ r h. none r (was r h).0
        left (Some r) some =
            ⊎_elim
            (λ t. subst (Found key same k after) (sym (cond-true (ltb (last r) tick) None (Some r) t))
            (λ s h. refuted (same k (key s)) (λ u.
            let one = some_one (sym (lookup_is laws ps apart k (Some r) some) ∙ lookup_is laws ps apart k (Some s) ((was s h).0, u)) in
            omega (arith, ltb-true (last r) tick t, subst (λ x. tick ≤ last x) (sym one) (was s h).1))))
            (λ f. subst (Found key same k after) (sym (cond-false (ltb (last r) tick) None (Some r) f))
            ((some.0.0, kept_at ps some.0.0 ∙ ap (not_past last tick) some.0.1 ∙ cond-false (ltb (last r) tick) None (Some r) f), some.1))
            (cases_Bool (ltb (last r) tick))
