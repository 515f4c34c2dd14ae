-- Checks in an order: what an answer says of those that come before its own.
use Rattle.std.proofs.Common.{◌≡◌, ℕ, Bool, true, false, cond, not, ◌&&◌, List, [], ◌∷◌, ◌++◌, Some, None, Ok, Err, Result, sym, refl, ap, ◌∙◌, subst, arith}
use Rattle.std.proofs.lemmas.Bool.{both_ways, and_parts, not-true}
use Rattle.rules.specs.Checks.{first, or_else, decided}
use Rattle.rules.proofs.Stages.{first_stops, first_passes}

module _ {R : Type 0} where
  -- no refusal of the list has the mark
  abbrev pub unmarked : (R → Bool) → List (Bool × R) → Bool
  unmarked mark [] = true
  unmarked mark (c ∷ cs) = not (mark c.1) && unmarked mark cs

  first_unmarked : (mark : R → Bool) (cs : List (Bool × R)) (r : R) → unmarked mark cs ≡ true → first cs ≡ Some r → mark r ≡ false
  first_unmarked mark [] r u e = absurd (let z : ◌≡◌ {A = ℕ} 0 1 = cc in omega arith)
  first_unmarked mark (c ∷ cs) r u e =
      let both = and_parts (not (mark c.1)) (unmarked mark cs) u in
      elim c.0 as (λ b. cond b (Some c.1) (first cs) ≡ Some r → mark r ≡ false) [
        | true ↦ λ h. (let same : c.1 ≡ r = cc in subst (λ x. mark x ≡ false) same (not-true (mark c.1) both.0))
        | false ↦ λ h. first_unmarked mark cs r both.1 h
      ] e

  -- where nothing of the whole is refused, nothing of its parts is
  pub both_none : (cs ds : List (Bool × R)) → first (cs ++ ds) ≡ None → (first cs ≡ None) × (first ds ≡ None)
  both_none cs ds e =
      elim (first cs) as (λ o. first cs ≡ o → (o ≡ None) × (first ds ≡ None)) [
        | Some r ↦ λ h. absurd (let same = first_stops cs ds r h in let z : ◌≡◌ {A = ℕ} 0 1 = cc in omega arith)
        | None ↦ λ h. (refl, sym (first_passes cs ds h) ∙ e)
      ] refl

  module _ {V : Type 0} where
    -- a marked answer of the whole is none of the first checks
    pub past_first : (mark : Result V R → Bool) (cs ds : List (Bool × R)) (v : V) → unmarked (λ r. mark (Err r)) cs ≡ true → mark (decided (cs ++ ds) v) ≡ true → first cs ≡ None
    past_first mark cs ds v u e =
        elim (first cs) as (λ o. first cs ≡ o → o ≡ None) [
          | Some r ↦ λ h. absurd (both_ways (mark (Err r)) (first_unmarked (λ x. mark (Err x)) cs r u h) (sym (ap (λ o. mark (or_else o v)) (first_stops cs ds r h)) ∙ e))
          | None ↦ λ h. refl
        ] refl

    -- a check whose refusal alone is marked
    module _ (mark : Result V R → Bool) (bs ds : List (Bool × R)) (t : Bool) (x : R) (v : V) where
      -- it answers where those before it pass
      pub at_check : first bs ≡ None → t ≡ true → decided (bs ++ ((t, x) ∷ ds)) v ≡ Err x
      at_check pass holds = ap (λ o. or_else o v) (first_passes bs ((t, x) ∷ ds) pass) ∙ ap (λ b. or_else (cond b (Some x) (first ds)) v) holds

      -- and a marked answer is its own
      pub only_check : mark (Ok v) ≡ false → unmarked (λ r. mark (Err r)) bs ≡ true → unmarked (λ r. mark (Err r)) ds ≡ true → mark (decided (bs ++ ((t, x) ∷ ds)) v) ≡ true → (first bs ≡ None) × (t ≡ true)
      only_check out before behind e =
          let pass : first bs ≡ None = past_first mark bs ((t, x) ∷ ds) v before e in
          let here : mark (or_else (cond t (Some x) (first ds)) v) ≡ true = sym (ap (λ o. mark (or_else o v)) (first_passes bs ((t, x) ∷ ds) pass)) ∙ e in (
            pass,
            elim t as (λ b. mark (or_else (cond b (Some x) (first ds)) v) ≡ true → b ≡ true) [
              | true ↦ λ h. refl
              | false ↦ λ h. absurd (elim (first ds) as (λ o. first ds ≡ o → mark (or_else o v) ≡ true → ⊥) [
                | Some r ↦ λ f m. both_ways (mark (Err r)) (first_unmarked (λ y. mark (Err y)) ds r behind f) m
                | None ↦ λ f m. both_ways (mark (Ok v)) out m
              ] refl h)
            ] here,
          )
