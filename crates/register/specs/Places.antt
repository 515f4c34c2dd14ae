-- What a row of places holds, and what a put, a removal and a dropping make of it.
-- Throughout, `key` is a record's key and `same` the sameness of two keys.
use Rattle.std.specs.Prelude.{◌≡◌, ℕ, ◌+◌, ◌<◌, Bool, true, false, cond, ◌||◌, List, [], ◌∷◌, length, is_some, Some, None, count_by, Option, MatchOption, nat_lt, slice_index_or}

-- Some place holds the record.
abbrev pub Holds : {R : Type 0} → List (Option R) → R → Type 0
Holds places r = (i : ℕ) × (slice_index_or places i None ≡ Some r)

-- Two places hold records whose keys are the same.
unfoldable pub Twice : {R K : Type 0} → (R → K) → (K → K → Bool) → List (Option R) → Type 0
Twice {R} key same places = (i : ℕ) × (j : ℕ) × (r : R) × (s : R) × (i < j) × (slice_index_or places i None ≡ Some r) × (slice_index_or places j None ≡ Some s) × (same (key r) (key s) ≡ true)

-- No key is held twice.
abbrev pub Apart : {R K : Type 0} → (R → K) → (K → K → Bool) → List (Option R) → Type 0
Apart key same places = Twice key same places → ⊥

-- The record at a place if it has the key, else what the places after it give.
abbrev pub pick : {R K : Type 0} → (R → K) → (K → K → Bool) → K → Option R → Option R → Option R
pick key same k None rest = rest
pick key same k (Some r) rest = cond (same k (key r)) (Some r) rest

-- The record under a key, or none.
abbrev pub lookup : {R K : Type 0} → (R → K) → (K → K → Bool) → K → List (Option R) → Option R
lookup key same k [] = None
lookup key same k (p ∷ ps) = pick key same k p (lookup key same k ps)

-- A place holds a record of the key.
abbrev pub has_key : {R K : Type 0} → (R → K) → (K → K → Bool) → K → Option R → Bool
has_key key same k None = false
has_key key same k (Some r) = same k (key r)

-- A look-up in plain words: a record that is held and has the key, or none where no record held has it.
abbrev pub Found : {R K : Type 0} → (R → K) → (K → K → Bool) → K → List (Option R) → Option R → Type 0
Found {R} key same k places found = MatchOption found ((r : R) → Holds places r → same k (key r) ≡ false) (λ r. Holds places r × (same k (key r) ≡ true))

-- A place that holds what stands under a key, be it a record or nothing.
abbrev pub PlaceOf : {R K : Type 0} → (R → K) → (K → K → Bool) → K → List (Option R) → ℕ → Type 0
PlaceOf key same k places i = (i < length places) × (slice_index_or places i None ≡ lookup key same k places)

-- How many places hold a record.
abbrev pub held_count : {R : Type 0} → List (Option R) → ℕ
held_count places = count_by is_some places

-- A record as it is, or none where its last tick is before the tick.
abbrev pub not_past : {R : Type 0} → (R → ℕ) → ℕ → Option R → Option R
not_past last tick None = None
not_past last tick (Some r) = cond (nat_lt (last r) tick) None (Some r)

-- How many places hold a record whose last tick is not before the tick.
abbrev pub count_not_past : {R : Type 0} → (R → ℕ) → ℕ → List (Option R) → ℕ
count_not_past last tick places = count_by (λ p. is_some (not_past last tick p)) places

-- What places without a record are.
pub record Empty {R K : Type 0} (key : R → K) (same : K → K → Bool) (places : List (Option R)) : Type 0 where
  pub nothing : (k : K) → lookup key same k places ≡ None
  pub counted : held_count places ≡ 0

-- A put of r: taken where its key is held or a place is free, and else refused with nothing changed.
-- Taken, r stands under its key, and under each other key what stood there before.
pub record Put {R K : Type 0} (key : R → K) (same : K → K → Bool) (r : R) (before after : List (Option R)) (taken : Bool) : Type 0 where
  pub answer : taken ≡ (is_some (lookup key same (key r) before) || nat_lt (held_count before) (length before))
  pub refused : taken ≡ false → after ≡ before
  pub stored : taken ≡ true → (k : K) → lookup key same k after ≡ cond (same k (key r)) (Some r) (lookup key same k before)
  pub counted : taken ≡ true → held_count after ≡ held_count before + cond (is_some (lookup key same (key r) before)) 0 1
  pub length_kept : length after ≡ length before

-- A removal of a key: nothing stands under it, and under each other key what stood there before.
-- It answers the record that stood under the key, or none, and then nothing is changed.
pub record Removed {R K : Type 0} (key : R → K) (same : K → K → Bool) (own : K) (before after : List (Option R)) (removed : Option R) : Type 0 where
  pub answer : removed ≡ lookup key same own before
  pub absent : removed ≡ None → after ≡ before
  pub gone : (k : K) → lookup key same k after ≡ cond (same k own) None (lookup key same k before)
  pub counted : held_count after + cond (is_some removed) 1 0 ≡ held_count before
  pub length_kept : length after ≡ length before

-- A dropping of what is past at a tick: under each key what stood there, unless its last tick is before the tick.
pub record Dropped {R K : Type 0} (key : R → K) (same : K → K → Bool) (last : R → ℕ) (tick : ℕ) (before after : List (Option R)) : Type 0 where
  pub left : (k : K) → lookup key same k after ≡ not_past last tick (lookup key same k before)
  pub counted : held_count after ≡ count_not_past last tick before
  pub length_kept : length after ≡ length before

-- A put of r once what is past at a tick is dropped: taken where its key is then held or a place is then free.
pub record PutAt {R K : Type 0} (key : R → K) (same : K → K → Bool) (last : R → ℕ) (r : R) (tick : ℕ) (before after : List (Option R)) (taken : Bool) : Type 0 where
  pub answer : taken ≡ (is_some (not_past last tick (lookup key same (key r) before)) || nat_lt (count_not_past last tick before) (length before))
  pub refused : taken ≡ false → Dropped key same last tick before after
  pub stored : taken ≡ true → (k : K) → lookup key same k after ≡ cond (same k (key r)) (Some r) (not_past last tick (lookup key same k before))
  pub counted : taken ≡ true → held_count after ≡ count_not_past last tick before + cond (is_some (not_past last tick (lookup key same (key r) before))) 0 1
  pub length_kept : length after ≡ length before
