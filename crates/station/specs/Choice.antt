-- Which association a component is sent under.
use Rattle.std.specs.Prelude.{◌≡◌, ℕ, ◌<◌, Bool, true, false, cond, ◌&&◌, ◌⊎◌, List, [], ◌∷◌, Some, None, Option, ◌==◌, nat_lt}
use Rattle.register.specs.Places.{Holds, Apart}
use Rattle.station.specs.declared.records.SecurityAssociation.{SecurityAssociation}
use Rattle.station.specs.Records.{association_key, same_association, live}
use Rattle.station.specs.States.{Associations}

-- THE CHOICE, over any order `before` of what is `fit`

-- the better of the best so far and another
abbrev pub better : {X : Type 0} → (X → X → Bool) → Option X → X → Option X
better before None a = Some a
better before (Some b) a = cond (before a b) (Some a) (Some b)

-- the best once one more place was looked at
abbrev pub weighed : {X : Type 0} → (X → Bool) → (X → X → Bool) → Option X → Option X → Option X
weighed fit before best None = best
weighed fit before best (Some a) = cond (fit a) (better before best a) best

abbrev pub best_from : {X : Type 0} → (X → Bool) → (X → X → Bool) → Option X → List (Option X) → Option X
best_from fit before best [] = best
best_from fit before best (p ∷ ps) = best_from fit before (weighed fit before best p) ps

-- the best of all places
abbrev pub chosen : {X : Type 0} → (X → Bool) → (X → X → Bool) → List (Option X) → Option X
chosen fit before places = best_from fit before None places

-- THE ORDER

-- it sends from the own network to the network, and is live
abbrev pub candidate : ℕ → ℕ → ℕ → SecurityAssociation → Bool
candidate reading own network a = a.sender == own && (a.destination == network && live reading a)

-- the smaller number comes first, and what follows decides between equals
abbrev pub smaller : ℕ → ℕ → Bool → Bool
smaller m n follows = cond (nat_lt m n) true (cond (nat_lt n m) false follows)

-- what has a property comes before what has not, and what follows decides between equals
abbrev pub having : Bool → Bool → Bool → Bool
having true true follows = follows
having true false follows = true
having false true follows = false
having false false follows = follows

-- those before their soft expiry first; then the earliest hard expiry; then the smallest SPI
abbrev pub preferred : ℕ → SecurityAssociation → SecurityAssociation → Bool
preferred reading a b = having (nat_lt reading a.soft) (nat_lt reading b.soft) (smaller a.hard b.hard (nat_lt a.spi b.spi))

abbrev pub chosen_for : ℕ → ℕ → ℕ → Associations → Option SecurityAssociation
chosen_for reading own network places = chosen (candidate reading own network) (preferred reading) places

-- THE LAW, in plain words

pub record Candidate (reading own network : ℕ) (places : Associations) (a : SecurityAssociation) : Type 0 where
  pub held : Holds places a
  pub sends : a.sender ≡ own
  pub goes : a.destination ≡ network
  pub alive : reading < a.hard

-- a is preferred to x: x is not before its soft expiry unless a is; and where both are or neither is,
-- a has the earlier hard expiry, or the same and the smaller SPI
pub record PreferredTo (reading : ℕ) (a x : SecurityAssociation) : Type 0 where
  pub soft : reading < x.soft → reading < a.soft
  pub hard : (reading < a.soft → reading < x.soft) → (a.hard < x.hard) ⊎ ((a.hard ≡ x.hard) × (a.spi < x.spi))

-- the chosen one is a candidate and preferred to every other; none is chosen only where there is none
abbrev pub Chosen : ℕ → ℕ → ℕ → Associations → Option SecurityAssociation → Type 0
Chosen reading own network places None = (x : SecurityAssociation) → Candidate reading own network places x → ⊥
Chosen reading own network places (Some a) =
    Candidate reading own network places a
    × ((x : SecurityAssociation) → Candidate reading own network places x → (x ≡ a) ⊎ PreferredTo reading a x)

-- the same associations, wherever they lie
abbrev pub SameHeld : Associations → Associations → Type 0
SameHeld places others = (x : SecurityAssociation) → (Holds places x → Holds others x) × (Holds others x → Holds places x)

-- where the associations lie makes no difference
abbrev pub Anywhere : ℕ → ℕ → ℕ → Associations → Option SecurityAssociation → Type 0
Anywhere reading own network places r =
    (others : Associations) → Apart association_key same_association others → SameHeld places others → chosen_for reading own network others ≡ r
