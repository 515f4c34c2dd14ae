-- The choice: looking at the places one by one gives the best, and there is one best at most.
use Rattle.std.proofs.Common.{◌≡◌, ℕ, zero, suc, ◌+◌, ◌<◌, ◌≤◌, Bool, true, false, cond, not, ◌⊎◌, List, [], ◌∷◌, ◌++◌, length, get_or, take, Some, None, Option, sym, refl, ap, ◌∙◌, subst, inl, inr, ⊎_elim, arith}
use Rattle.std.proofs.lemmas.List.{get_or_past, take_more, take_all}
use Rattle.std.proofs.lemmas.Bool.{true≢false, cases_Bool, cases_lt}
use Rattle.std.proofs.lemmas.Bool.Decides.{nat_tests}
use Rattle.register.specs.Places.{Holds, Apart}
use Rattle.register.proofs.Lookups.{apart_at, none_some, some_one}
use Rattle.station.specs.declared.records.SecurityAssociation.{SecurityAssociation}
use Rattle.station.specs.Choice.{better, weighed, best_from, chosen, candidate, preferred, chosen_for, Candidate, PreferredTo, Chosen, Anywhere}
use Rattle.station.specs.Records.{association_key, same_association}
use Rattle.station.specs.States.{Associations}

-- BESTS

-- r is the best of what P holds of: one of them, and before each other; or none where P holds of nothing
abbrev Best : {X : Type 0} → (X → X → Bool) → (X → Type 0) → Option X → Type 0
Best {X} before P None = (x : X) → P x → ⊥
Best {X} before P (Some a) = P a × ((x : X) → P x → (x ≡ a) ⊎ ((before a x ≡ true) × (before x a ≡ false)))

-- what P holds of decides the best
best_like : {X : Type 0} (before : X → X → Bool) (P Q : X → Type 0) → ((x : X) → P x → Q x) → ((x : X) → Q x → P x) → (r : Option X) → Best before P r → Best before Q r
best_like before P Q f g None h = λ x q. h x (g x q)
best_like before P Q f g (Some a) h = (f a h.0, λ x q. h.1 x (g x q))

-- and there is one at most
best_once : {X : Type 0} (before : X → X → Bool) (P : X → Type 0) (r s : Option X) → Best before P r → Best before P s → r ≡ s
best_once before P None None h k = refl
best_once before P None (Some b) h k = absurd (h b k.0)
best_once before P (Some a) None h k = absurd (k a h.0)
best_once before P (Some a) (Some b) h k =
    ⊎_elim (λ e. sym (ap Some e))
    (λ ab. ⊎_elim (λ e. ap Some e) (λ ba. absurd (true≢false (sym ab.0 ∙ ba.1))) (k.1 a h.0))
    (h.1 b k.0)

-- A SCAN, for any order in which of two with different marks exactly one is before the other, and that is transitive

module _ {X : Type 0} (fit : X → Bool) (before : X → X → Bool) (mark : X → ℕ)
    (one_way : (a b : X) → (mark a ≡ mark b → ⊥) → before a b ≡ not (before b a))
    (chain : (a b c : X) → before a b ≡ true → before b c ≡ true → before a c ≡ true) where
  -- the better of the best of P and one more
  better_best : (P : X → Type 0) (best : Option X) (a : X) → Best before P best → ((x : X) → P x → mark x ≡ mark a → ⊥) → Best before (λ x. P x ⊎ (x ≡ a)) (better before best a)
  better_best P None a h other = (inr refl, λ x. ⊎_elim (λ p. absurd (h x p)) inl)
  better_best P (Some b) a h other =
      ⊎_elim
      (λ t. subst (Best before (λ x. P x ⊎ (x ≡ a))) (sym (ap (λ v. cond v (Some a) (Some b)) t)) (
        inr refl,
        λ x. ⊎_elim
            (λ p. inr (⊎_elim
            (λ e. both x p (subst (λ y. before a y ≡ true) (sym e) t))
            (λ bx. both x p (chain a b x t bx.0))
            (h.1 x p)))
            inl,
      ))
      (λ f. subst (Best before (λ x. P x ⊎ (x ≡ a))) (sym (ap (λ v. cond v (Some a) (Some b)) f)) (
        inl h.0,
        λ x. ⊎_elim
            (h.1 x)
            (λ e. inr (subst (λ y. (before b y ≡ true) × (before y b ≡ false)) (sym e) (one_way b a (other b h.0) ∙ ap not f, f))),
      ))
      (cases_Bool (before a b))
    where
      both : (x : X) → P x → before a x ≡ true → (before a x ≡ true) × (before x a ≡ false)
      both x p t = (t, one_way x a (other x p) ∙ ap not t)

  best_push : (best : Option X) (ps : List (Option X)) (p : Option X) → best_from fit before best (ps ++ p ∷ []) ≡ weighed fit before (best_from fit before best ps) p
  best_push best [] p = refl
  best_push best (q ∷ ps) p = best_push (weighed fit before best q) ps p

  module _ (places : List (Option X)) (unlike : (i j : ℕ) (r s : X) → i < j → get_or places i None ≡ Some r → get_or places j None ≡ Some s → fit r ≡ true → fit s ≡ true → mark r ≡ mark s → ⊥) where
    -- fit, and held at a place below i
    abbrev Seen : ℕ → X → Type 0
    Seen i x = (k : ℕ) × (k < i) × (get_or places k None ≡ Some x) × (fit x ≡ true)

    turn : (i : ℕ) (p : Option X) → i < length places → get_or places i None ≡ p → Best before (Seen i) (chosen fit before (take i places)) → Best before (Seen (i + 1)) (weighed fit before (chosen fit before (take i places)) p)
    turn i None l is h =
        best_like before (Seen i) (Seen (i + 1))
        (λ x s. (s.0, omega (arith, s.1), s.2, s.3))
        (λ x s. (s.0, older s.0 x s.1 s.2, s.2, s.3)) _ h
      where
        older : (k : ℕ) (x : X) → k < i + 1 → get_or places k None ≡ Some x → k < i
        older k x m e = ⊎_elim (λ b. b) (λ b. absurd (let same : k ≡ i = omega arith in none_some (sym is ∙ ap (λ n. get_or places n None) (sym same) ∙ e))) (cases_lt k i)
    turn i (Some a) l is h =
        ⊎_elim
        (λ t. subst (Best before (Seen (i + 1))) (sym (ap (λ v. cond v (better before (chosen fit before (take i places)) a) (chosen fit before (take i places))) t))
        (best_like before (λ x. Seen i x ⊎ (x ≡ a)) (Seen (i + 1))
        (λ x. ⊎_elim (λ s. (s.0, omega (arith, s.1), s.2, s.3)) (λ e. (i, omega arith, is ∙ ap Some (sym e), ap fit e ∙ t)))
        (λ x s. ⊎_elim (λ b. inl (s.0, b, s.2, s.3)) (λ b. inr (new x s b)) (cases_lt s.0 i))
        (better before (chosen fit before (take i places)) a)
        (better_best (Seen i) (chosen fit before (take i places)) a h (λ x s e. unlike s.0 i x a s.1 s.2 is s.3 t e))))
        (λ f. subst (Best before (Seen (i + 1))) (sym (ap (λ v. cond v (better before (chosen fit before (take i places)) a) (chosen fit before (take i places))) f))
        (best_like before (Seen i) (Seen (i + 1))
        (λ x s. (s.0, omega (arith, s.1), s.2, s.3))
        (λ x s. ⊎_elim (λ b. (s.0, b, s.2, s.3)) (λ b. absurd (true≢false (sym s.3 ∙ ap fit (new x s b) ∙ f))) (cases_lt s.0 i))
        (chosen fit before (take i places)) h))
        (cases_Bool (fit a))
      where
        new : (x : X) → (s : Seen (i + 1) x) → i ≤ s.0 → x ≡ a
        new x s b = let same : s.0 ≡ i = omega (arith, s.1) in some_one (sym s.2 ∙ ap (λ n. get_or places n None) same ∙ is)

    upto : (i : ℕ) → i ≤ length places → Best before (Seen i) (chosen fit before (take i places))
    upto zero l = λ x s. omega (arith, s.1)
    upto (suc i) l =
        let more : chosen fit before (take (i + 1) places) ≡ weighed fit before (chosen fit before (take i places)) (get_or places i None) =
        ap (chosen fit before) (take_more places i None (omega arith)) ∙ best_push None (take i places) (get_or places i None) in
        let here = subst (Best before (Seen (i + 1))) (sym more) (turn i (get_or places i None) (omega arith) refl (upto i (omega arith))) in
        let same : i + 1 ≡ suc i = omega arith in
        subst (λ n. Best before (Seen n) (chosen fit before (take n places))) same here

    -- fit, and held somewhere
    abbrev FitHeld : X → Type 0
    FitHeld x = Holds places x × (fit x ≡ true)

    chosen_best : Best before FitHeld (chosen fit before places)
    chosen_best =
        best_like before (Seen (length places)) FitHeld
        (λ x s. ((s.0, s.2), s.3))
        (λ x h. (h.0.0, inside h.0.0 x h.0.1, h.0.1, h.1)) _
        (subst (λ ps. Best before (Seen (length places)) (chosen fit before ps)) (take_all (length places) places (omega arith)) (upto (length places) (omega arith)))
      where
        inside : (k : ℕ) (x : X) → get_or places k None ≡ Some x → k < length places
        inside k x e = ⊎_elim (λ b. b) (λ b. absurd (none_some (sym (get_or_past places k None b) ∙ e))) (cases_lt k (length places))

-- THE ORDER

candidates_unlike : (reading own network : ℕ) (places : Associations) → Apart association_key same_association places → (i j : ℕ) (r s : SecurityAssociation) → i < j → get_or places i None ≡ Some r → get_or places j None ≡ Some s → candidate reading own network r ≡ true → candidate reading own network s ≡ true → r.spi ≡ s.spi → ⊥
candidates_unlike reading own network places apart i j r s l d e fit-r fit-s spi =
    let same : same_association (association_key r) (association_key s) ≡ true = grind (arith, nat_tests) in
    apart_at association_key same_association places apart i j r s l d e same

one_way : (reading : ℕ) (a b : SecurityAssociation) → (a.spi ≡ b.spi → ⊥) → preferred reading a b ≡ not (preferred reading b a)
one_way reading a b ne = grind (arith, nat_tests)

chain : (reading : ℕ) (a b c : SecurityAssociation) → preferred reading a b ≡ true → preferred reading b c ≡ true → preferred reading a c ≡ true
chain reading a b c p q = grind (arith, nat_tests)

-- IN PLAIN WORDS

fit_from : (reading own network : ℕ) (places : Associations) (x : SecurityAssociation) → Candidate reading own network places x → candidate reading own network x ≡ true
fit_from reading own network places x c =
    let s = c.sends in
    let d = c.goes in
    let l = c.alive in
    grind (arith, nat_tests)

says : (reading own network : ℕ) (places : Associations) (x : SecurityAssociation) → Holds places x → candidate reading own network x ≡ true → Candidate reading own network places x
says reading own network places x h t = record { held = h; sends = grind (arith, nat_tests); goes = grind (arith, nat_tests); alive = grind (arith, nat_tests) }

prefers : (reading : ℕ) (a x : SecurityAssociation) → preferred reading a x ≡ true → PreferredTo reading a x
prefers reading a x t = record { soft = λ h. grind (arith, nat_tests); hard = λ h. grind (arith, nat_tests) }

module _ (reading own network : ℕ) (places : Associations) (apart : Apart association_key same_association places) where
  abbrev fit : SecurityAssociation → Bool
  fit = candidate reading own network

  best : Best (preferred reading) (λ x. Holds places x × (fit x ≡ true)) (chosen_for reading own network places)
  best = chosen_best fit (preferred reading) (λ a. a.spi) (one_way reading) (chain reading) places (candidates_unlike reading own network places apart)

  in_words : (r : Option SecurityAssociation) → Best (preferred reading) (λ x. Holds places x × (fit x ≡ true)) r → Chosen reading own network places r
  in_words None b = λ x c. b x (c.held, fit_from reading own network places x c)
  in_words (Some a) b = (
    says reading own network places a b.0.0 b.0.1,
    λ x c. ⊎_elim inl (λ p. inr (prefers reading a x p.0)) (b.1 x (c.held, fit_from reading own network places x c)),
  )

  pub chosen_law : Chosen reading own network places (chosen_for reading own network places)
  chosen_law = in_words (chosen_for reading own network places) best

pub chosen_anywhere : (reading own network : ℕ) (places : Associations) → Apart association_key same_association places → Anywhere reading own network places (chosen_for reading own network places)
chosen_anywhere reading own network places apart others apart' same =
    let fit = candidate reading own network in
    best_once (preferred reading) (λ x. Holds places x × (fit x ≡ true)) (chosen_for reading own network others) (chosen_for reading own network places)
    (best_like (preferred reading) (λ x. Holds others x × (fit x ≡ true)) (λ x. Holds places x × (fit x ≡ true)) (λ x h. ((same x).1 h.0, h.1)) (λ x h. ((same x).0 h.0, h.1)) (chosen_for reading own network others) (best reading own network others apart'))
    (best reading own network places apart)
