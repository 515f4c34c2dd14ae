-- What an accepted call has passed.
use Rattle.std.proofs.Common.{◌≡◌, ℕ, ◌^◌, ◌<◌, ◌≤◌, true, false, ◌&&◌, ◌||◌, eqb, ltb, leb, List, length, drop, is_some, Some, None, Ok, Option, sym, refl, ap, ◌∙◌, subst, ⊎_elim, arith}
use Rattle.std.proofs.ByRecursion.{All-take, All-drop}
use Rattle.std.proofs.lemmas.List.{length-take-le, length-drop}
use Rattle.std.proofs.lemmas.Bool.{ltb-true, ltb-false, eqb-true, or_parts, and_parts, not-false, cases_Bool, cond-true, cond-false}
use Rattle.octets.specs.Numbers.{Octets, number}
use Rattle.octets.proofs.Widths.{number_fits}
use Rattle.register.proofs.Lookups.{none_some, some_one}
use Rattle.rules.specs.Checks.{decided}
use Rattle.rules.specs.Layout.{part, header_in, fields_in}
use Rattle.rules.specs.Modes.{protects}
use Rattle.rules.proofs.Stages.{NoneHolds, passed, gives}
use Rattle.station.specs.Forms.{association_or_blank}
use Rattle.station.specs.Receive.{Call, from_network, association_for, the_association, mode_under, sealed_checks, unsealed_checks, body_checks, handed_under, checks}
use Rattle.station.specs.Records.{live}
use Rattle.station.specs.Revoke.{key_at}
use Rattle.station.specs.States.{association_under}
use Rattle.station.specs.declared.receive.Handed.{Handed}
use Rattle.station.specs.declared.records.SecurityAssociation.{SecurityAssociation}

-- a reading that passed the clock's check is not before the latest
pub in_order : (latest reading : ℕ) → (leb 281474976710656 reading || ltb reading latest) ≡ false → latest ≤ reading
in_order latest reading e = ltb-false reading latest (or_parts (leb 281474976710656 reading) (ltb reading latest) e).1

-- a stamp has four octets
pub stamp_fits : (xs : List ℕ) → Octets xs → 24 ≤ length xs → (fields_in xs).tvp < 2 ^ 32
stamp_fits xs o l =
    let four : length (part 6 4 xs) ≡ 4 = length-take-le 4 (drop 6 xs) (simp length-drop (omega arith)) in
    subst (λ n. number (part 6 4 xs) < 256 ^ n) four (number_fits (part 6 4 xs) (All-take (λ x. x < 256) 4 (drop 6 xs) (All-drop (λ x. x < 256) 6 xs o)))

-- something that is there
pub there : {X : Type 0} (o : Option X) → is_some o ≡ true → (x : X) × (o ≡ Some x)
there None e = absurd (let z : ◌≡◌ {A = ℕ} 0 1 = cc in omega arith)
there (Some x) e = (x, refl)

-- an association that a network sends under is held, names the network, and is live
pub record SentUnder (reading network : ℕ) (held : Option SecurityAssociation) (a : SecurityAssociation) : Type 0 where
  pub is : held ≡ Some a
  pub sender : a.sender ≡ network
  pub alive : reading < a.hard

pub sent_under : (reading network : ℕ) (held : Option SecurityAssociation) (a : SecurityAssociation) → from_network reading network held ≡ Some a → SentUnder reading network held a
sent_under reading network None a e = absurd (none_some e)
sent_under reading network (Some b) a e =
    let test = eqb b.sender network && live reading b in
    ⊎_elim
    (λ t.
    let same : b ≡ a = some_one (sym (cond-true test (Some b) None t) ∙ e) in
    let parts = and_parts (eqb b.sender network) (live reading b) t in
    subst (SentUnder reading network (Some b)) same (record { is = refl; sender = eqb-true _ _ parts.0; alive = ltb-true _ _ parts.1 }))
    (λ f. absurd (none_some (sym (cond-false test (Some b) None f) ∙ e)))
    (cases_Bool test)

-- RECEIVE

module _ (c : Call) where
  -- the association, held by the station
  pub found_under : (a : SecurityAssociation) → association_for c ≡ Some a → SentUnder c.reading c.network (association_under (key_at c.station.settings.own (header_in c.message).spi) c.contents.associations) a
  found_under a e = sent_under c.reading c.network _ a e

  pub is_the_association : (a : SecurityAssociation) → association_for c ≡ Some a → the_association c ≡ a
  is_the_association a e = ap association_or_blank e

  module _ (h : Handed) (ok : Ok h ≡ decided (checks c) (handed_under c (the_association c))) where
    all_passed : NoneHolds (checks c)
    all_passed = passed (checks c) h _ ok

    pub handed_is : h ≡ handed_under c (the_association c)
    handed_is = gives (checks c) h _ ok

    pub has_association : (a : SecurityAssociation) × (association_for c ≡ Some a)
    has_association = there (association_for c) (not-false _ all_passed.1.1.1.1.1.0)

    body_passed : NoneHolds (body_checks c (the_association c))
    body_passed = all_passed.1.1.1.1.1.1

    pub sealed_passed : protects (mode_under c (the_association c)) ≡ true → NoneHolds (sealed_checks c (the_association c))
    sealed_passed t = subst NoneHolds (cond-true _ (sealed_checks c (the_association c)) (unsealed_checks c) t) body_passed

    pub open_passed : protects (mode_under c (the_association c)) ≡ false → NoneHolds (unsealed_checks c)
    open_passed f = subst NoneHolds (cond-false _ (sealed_checks c (the_association c)) (unsealed_checks c) f) body_passed
