-- Checks in stages: what one list of checks says of the whole.
use Rattle.std.proofs.Common.{◌≡◌, ℕ, Bool, true, false, cond, List, [], ◌∷◌, ◌++◌, Some, None, Ok, Err, sym, refl, ap, ◌∙◌, arith}
use Rattle.rules.specs.Checks.{first, or_else, decided}

-- no test holds
abbrev pub NoneHolds : {R : Type 0} → List (Bool × R) → Type 0
NoneHolds [] = Unit {0}
NoneHolds (c ∷ cs) = (c.0 ≡ false) × NoneHolds cs

module _ {R : Type 0} where
  -- a refusal of the first checks is the whole's
  pub first_stops : (cs ds : List (Bool × R)) (r : R) → first cs ≡ Some r → first (cs ++ ds) ≡ Some r
  first_stops [] ds r e = absurd (let z : ◌≡◌ {A = ℕ} 0 1 = cc in omega arith)
  first_stops (c ∷ cs) ds r e =
      elim c.0 as (λ b. cond b (Some c.1) (first cs) ≡ Some r → cond b (Some c.1) (first (cs ++ ds)) ≡ Some r) [
        | true ↦ λ h. h
        | false ↦ λ h. first_stops cs ds r h
      ] e

  -- where the first checks refuse nothing, the others decide
  pub first_passes : (cs ds : List (Bool × R)) → first cs ≡ None → first (cs ++ ds) ≡ first ds
  first_passes [] ds e = refl
  first_passes (c ∷ cs) ds e =
      elim c.0 as (λ b. cond b (Some c.1) (first cs) ≡ None → cond b (Some c.1) (first (cs ++ ds)) ≡ first ds) [
        | true ↦ λ h. absurd (let z : ◌≡◌ {A = ℕ} 0 1 = cc in omega arith)
        | false ↦ λ h. first_passes cs ds h
      ] e

  -- where nothing is refused no test holds, and the other way round
  pub none_holds : (cs : List (Bool × R)) → first cs ≡ None → NoneHolds cs
  none_holds [] e = tt
  none_holds (c ∷ cs) e =
      elim c.0 as (λ b. cond b (Some c.1) (first cs) ≡ None → (b ≡ false) × NoneHolds cs) [
        | true ↦ λ h. absurd (let z : ◌≡◌ {A = ℕ} 0 1 = cc in omega arith)
        | false ↦ λ h. (refl, none_holds cs h)
      ] e

  pub first_none : (cs : List (Bool × R)) → NoneHolds cs → first cs ≡ None
  first_none [] n = refl
  first_none (c ∷ cs) n = ap (λ b. cond b (Some c.1) (first cs)) n.0 ∙ first_none cs n.1

  module _ {V : Type 0} where
    -- what an answer says of the checks behind it
    pub refused : (cs : List (Bool × R)) (v : V) (r : R) → Err r ≡ decided cs v → first cs ≡ Some r
    refused cs v r e =
        elim (first cs) as (λ o. Err r ≡ or_else o v → o ≡ Some r) [
          | Some s ↦ λ h. (let same : s ≡ r = cc in ap Some same)
          | None ↦ λ h. absurd (let z : ◌≡◌ {A = ℕ} 0 1 = cc in omega arith)
        ] e

    pub accepted : (cs : List (Bool × R)) (u v : V) → Ok u ≡ decided cs v → (first cs ≡ None) × (u ≡ v)
    accepted cs u v e =
        elim (first cs) as (λ o. Ok u ≡ or_else o v → (o ≡ None) × (u ≡ v)) [
          | Some s ↦ λ h. absurd (let z : ◌≡◌ {A = ℕ} 0 1 = cc in omega arith)
          | None ↦ λ h. (let same : u ≡ v = cc in (refl, same))
        ] e

    -- the value of a stage that passed
    pub gives : (cs : List (Bool × R)) (u v : V) → Ok u ≡ decided cs v → u ≡ v
    gives cs u v e = (accepted cs u v e).1

    -- and what it showed
    pub passed : (cs : List (Bool × R)) (u v : V) → Ok u ≡ decided cs v → NoneHolds cs
    passed cs u v e = none_holds cs (accepted cs u v e).0

  module _ {V W : Type 0} where
    -- a stage that refuses answers for the whole
    pub stops : (cs ds : List (Bool × R)) (v : V) (w : W) (r : R) → Err r ≡ decided cs v → Err r ≡ decided (cs ++ ds) w
    stops cs ds v w r e = sym (ap (λ o. or_else o w) (first_stops cs ds r (refused cs v r e)))

    -- a stage that passes leaves the answer to the next
    pub passes : (cs ds : List (Bool × R)) (u v : V) (w : W) → Ok u ≡ decided cs v → decided (cs ++ ds) w ≡ decided ds w
    passes cs ds u v w e = ap (λ o. or_else o w) (first_passes cs ds (accepted cs u v e).0)

    -- the last stage, told with the whole's outcome
    pub retold : (cs : List (Bool × R)) (v : V) (w : W) (r : R) → Err r ≡ decided cs v → Err r ≡ decided cs w
    retold cs v w r e = sym (ap (λ o. or_else o w) (refused cs v r e))

    pub accepts : (cs : List (Bool × R)) (u v : V) (w : W) → Ok u ≡ decided cs v → Ok w ≡ decided cs w
    accepts cs u v w e = sym (ap (λ o. or_else o w) (accepted cs u v e).0)
