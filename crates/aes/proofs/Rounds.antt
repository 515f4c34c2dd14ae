-- The rounds of the cipher, one after the other.
-- Assumes nothing.
use Rattle.std.proofs.Common.{◌≡◌, ℕ, ◌+◌, ◌<◌, List, [], get_or, take, drop, refl, ap, ◌∙◌, add-one, add_comm}
use Rattle.std.proofs.lemmas.Grind.{get_or_after_one}
use Rattle.std.proofs.lemmas.List.{get_or-take}
use Rattle.aes.specs.declared.state.Row.{Row}
use Rattle.aes.specs.Cipher.{round, rounds}

pub rounds_none : (keys : List (List Row)) (s : List Row) → rounds keys s 0 ≡ s
unfolding rounds
rounds_none keys s = refl

-- a round more, with the next of the m keys after the first
pub rounds_more : (keys : List (List Row)) (s : List Row) (m n : ℕ) → n < m
    → round (get_or (take m (drop 1 keys)) n []) (rounds keys s n) ≡ rounds keys s (n + 1)
unfolding rounds
rounds_more keys s m n h =
    rw add-one
    (ap (λ k. round k (rounds keys s n))
    (get_or-take m (drop 1 keys) n [] h ∙ get_or_after_one keys n [] ∙ ap (λ i. get_or keys i []) (add_comm 1 n ∙ add-one n)))
