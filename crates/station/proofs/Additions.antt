-- A record that finds room is added.
use Rattle.std.proofs.Common.{◌≡◌, ℕ, ◌+◌, Bool, true, cond, ◌||◌, List, length, is_some, Option, ap, ◌∙◌}
use Rattle.std.specs.Prelude.{nat_lt}
use Rattle.std.proofs.lemmas.Bool.{lt-ltb}
use Rattle.register.specs.Places.{count_not_past, PutAt}
use Rattle.station.specs.States.{RoomFor, Added}

pub added : {R K : Type 0} (key : R → K) (same : K → K → Bool) (last : R → ℕ) (r : R) (tick : ℕ) (before after : List (Option R)) (taken : Bool)
    → RoomFor key same last r tick before → PutAt key same last r tick before after taken → Added key same last r tick before after
added key same last r tick before after taken room put =
    let held = count_not_past last tick before in
    let is : taken ≡ true = put.answer ∙ ap (λ o. is_some o || nat_lt held (length before)) room.key_free ∙ lt-ltb held (length before) room.place_free in
    record {
      under = put.stored is;
      counted = put.counted is ∙ ap (λ o. held + cond (is_some o) 0 1) room.key_free;
      places = put.length_kept;
    }
