-- What the registers of a station hold, and what becomes of them.
use Rattle.std.specs.Prelude.{◌≡◌, ℕ, ◌+◌, ◌<◌, min, Bool, cond, List, length, is_some, Some, None, Option, ◌==◌, nat_eq}
use Rattle.register.specs.Places.{lookup, not_past, held_count, count_not_past}
use Rattle.station.specs.declared.records.Policy.{Policy}
use Rattle.station.specs.declared.records.AssociationKey.{AssociationKey}
use Rattle.station.specs.declared.records.SecurityAssociation.{SecurityAssociation}
use Rattle.station.specs.declared.records.HeardKey.{HeardKey}
use Rattle.station.specs.declared.records.HeardMessage.{HeardMessage}
use Rattle.station.specs.declared.registers.Registers.{Registers}
use Rattle.station.specs.Records.{association_key, same_association, association_last, same_heard}

-- places for records of one kind
abbrev pub Policies : Type 0
Policies = List (Option Policy)

abbrev pub Associations : Type 0
Associations = List (Option SecurityAssociation)

abbrev pub Heard : Type 0
Heard = List (Option HeardMessage)

-- the record under a key, or none
abbrev pub policy_under : ℕ → Policies → Option Policy
policy_under network places = lookup (λ p. p.network) nat_eq network places

abbrev pub association_under : AssociationKey → Associations → Option SecurityAssociation
association_under key places = lookup association_key same_association key places

abbrev pub heard_under : HeardKey → Heard → Option HeardMessage
heard_under key places = lookup (λ h. h.key) same_heard key places

-- a heard message whose last tick is not past, or none
abbrev pub fresh_under : ℕ → HeardKey → Heard → Option HeardMessage
fresh_under reading key places = not_past (λ h. h.last) reading (heard_under key places)

-- how many associations have a last tick that is not past
abbrev pub live_count : ℕ → Associations → ℕ
live_count reading places = count_not_past association_last reading places

-- how many heard messages have a last tick that is not past
abbrev pub fresh_count : ℕ → Heard → ℕ
fresh_count reading places = count_not_past (λ h. h.last) reading places

-- what the three registers hold
pub record Contents : Type 0 where
  pub policies : Policies
  pub associations : Associations
  pub heard : Heard

abbrev pub contents_of : Registers → Contents
contents_of r = record { policies = r.policies.places.now; associations = r.associations.places.now; heard = r.heard.places.now }

-- 1 for a record, 0 for none
abbrev pub one : {R : Type 0} → Option R → ℕ
one o = cond (is_some o) 1 0

-- new registers hold nothing, in as many places as were lent, up to the bound of each kind
pub record NewRegisters (policies associations heard : ℕ) (r : Registers) : Type 0 where
  pub no_policy : (network : ℕ) → policy_under network r.policies.places.now ≡ None
  pub no_association : (key : AssociationKey) → association_under key r.associations.places.now ≡ None
  pub none_heard : (key : HeardKey) → heard_under key r.heard.places.now ≡ None
  pub policy_count : held_count r.policies.places.now ≡ 0
  pub association_count : held_count r.associations.places.now ≡ 0
  pub heard_count : held_count r.heard.places.now ≡ 0
  pub policy_places : length r.policies.places.now ≡ min policies 64
  pub association_places : length r.associations.places.now ≡ min associations 256
  pub heard_places : length r.heard.places.now ≡ min heard 4096

-- The policy of a network is set to p, or removed where p is none. Every other policy stays.
pub record PolicySet (network : ℕ) (p : Option Policy) (before after : Policies) : Type 0 where
  pub under : (n : ℕ) → policy_under n after ≡ cond (n == network) p (policy_under n before)
  pub counted : held_count after + one (policy_under network before) ≡ held_count before + one p
  pub places : length after ≡ length before

-- what a record needs to be added at a tick: its key is not held by one whose last tick is not past, and these leave a place
pub record RoomFor {R K : Type 0} (key : R → K) (same : K → K → Bool) (last : R → ℕ) (r : R) (tick : ℕ) (places : List (Option R)) : Type 0 where
  pub key_free : not_past last tick (lookup key same (key r) places) ≡ None
  pub place_free : count_not_past last tick places < length places

-- Records whose last tick is past are dropped, and r is held under its key.
pub record Added {R K : Type 0} (key : R → K) (same : K → K → Bool) (last : R → ℕ) (r : R) (tick : ℕ) (before after : List (Option R)) : Type 0 where
  pub under : (k : K) → lookup key same k after ≡ cond (same k (key r)) (Some r) (not_past last tick (lookup key same k before))
  pub counted : held_count after ≡ count_not_past last tick before + 1
  pub places : length after ≡ length before

abbrev pub RoomForAssociation : SecurityAssociation → ℕ → Associations → Type 0
RoomForAssociation a reading places = RoomFor association_key same_association association_last a reading places

abbrev pub AssociationAdded : SecurityAssociation → ℕ → Associations → Associations → Type 0
AssociationAdded a reading before after = Added association_key same_association association_last a reading before after

abbrev pub RoomForHeard : HeardMessage → ℕ → Heard → Type 0
RoomForHeard h reading places = RoomFor (λ m. m.key) same_heard (λ m. m.last) h reading places

abbrev pub HeardAdded : HeardMessage → ℕ → Heard → Heard → Type 0
HeardAdded h reading before after = Added (λ m. m.key) same_heard (λ m. m.last) h reading before after

-- The association under a key is dropped.
pub record AssociationRemoved (key : AssociationKey) (before after : Associations) : Type 0 where
  pub under : (k : AssociationKey) → association_under k after ≡ cond (same_association k key) None (association_under k before)
  pub counted : held_count after + 1 ≡ held_count before
  pub places : length after ≡ length before
