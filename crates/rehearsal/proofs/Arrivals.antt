-- What a message that can be read becomes at its receiver.
use Rattle.std.proofs.Common.{◌≡◌, ℕ, ◌-◌, ◌≤◌, Bool, true, false, ◌||◌, eqb, ◌⊎◌, List, [], ◌∷◌, ◌++◌, length, take, drop, is_some, Some, None, Ok, Err, Result, sym, refl, ap, ◌∙◌, subst, inl, inr, ⊎_elim, arith}
use Rattle.std.proofs.lemmas.List.{take_at}
use Rattle.std.proofs.lemmas.Bool.{cases_Bool, cond-true, cond-false, both_ways, or_parts, not-true, not-false, eq-eqb, eqb-false, le-ltb}
use Rattle.rules.specs.Checks.{first}
use Rattle.rules.specs.Components.{kind_of}
use Rattle.rules.specs.Layout.{header_in, open_payload, tag_in}
use Rattle.rules.specs.Modes.{protects}
use Rattle.rules.specs.Refusals.{number_of}
use Rattle.rules.specs.declared.component.ComponentId.{ComponentId}
use Rattle.rules.specs.declared.refusal.Refusal.{Refusal}
use Rattle.rules.specs.declared.refusal.Refusal.TheVariants.{WrongReading, NoPolicy, SecuredFromPlainNetwork, ListedUnprotected, NoLiveAssociation, OutsideWindow, HeardBefore, HeardFull, OutputTooShort}
use Rattle.rules.proofs.Stages.{refused, none_holds}
use Rattle.station.specs.Clock.{clock_checks}
use Rattle.station.specs.Receive.{Call, entrance_checks, covered_in, mode_under, sealed_checks, unsealed_checks, body_checks, association_for, the_association, checks, cleartext_under, size_under, handed_under, Received}
use Rattle.station.specs.Seal.{tag_under}
use Rattle.station.specs.States.{Contents}
use Rattle.station.specs.declared.receive.Handed.{Handed as HandedOn}
use Rattle.station.specs.declared.records.SecurityAssociation.{SecurityAssociation}
use Rattle.station.specs.declared.station.Station.{Station}
use Rattle.rehearsal.specs.declared.log.Answer.{Answer}
use Rattle.rehearsal.specs.declared.log.Answer.TheVariants.{Done, Refused, WentPlain, Sent, Handed}
use Rattle.rehearsal.specs.Laws.{NotForFormOrTag, Arrives}
use Rattle.rehearsal.specs.Steps.{ShowsHanded}
use Rattle.rehearsal.proofs.Receptions.{there, is_the_association, handed_is, has_association}

-- REFUSALS

-- each refusal of the list has a property, where its test holds
abbrev Each : (Refusal → Type 0) → List (Bool × Refusal) → Type 0
Each P [] = Unit {0}
Each P (c ∷ cs) = (c.0 ≡ true → P c.1) × Each P cs

-- and so has the first
each_first : (P : Refusal → Type 0) (cs : List (Bool × Refusal)) (r : Refusal) → Each P cs → first cs ≡ Some r → P r
each_first P [] r each e = absurd (let z : ◌≡◌ {A = ℕ} 0 1 = cc in omega arith)
each_first P (c ∷ cs) r each e =
    ⊎_elim
    (λ t. let same : Some c.1 ≡ Some r = sym (cond-true c.0 _ (first cs) t) ∙ e in let is : c.1 ≡ r = cc in subst P is (each.0 t))
    (λ f. each_first P cs r each.1 (sym (cond-false c.0 (Some c.1) (first cs) f) ∙ e))
    (cases_Bool c.0)

-- the first refusal of two lists is of the one, or of the other where the one refuses nothing
first_of_two : (cs ds : List (Bool × Refusal)) (r : Refusal) → first (cs ++ ds) ≡ Some r → (first cs ≡ Some r) ⊎ ((first cs ≡ None) × (first ds ≡ Some r))
first_of_two [] ds r e = inr (refl, e)
first_of_two (c ∷ cs) ds r e =
    ⊎_elim
    (λ t. inl (cond-true c.0 _ (first cs) t ∙ sym (cond-true c.0 _ (first (cs ++ ds)) t) ∙ e))
    (λ f. ⊎_elim
    (λ g. inl (cond-false c.0 (Some c.1) (first cs) f ∙ g))
    (λ g. inr (cond-false c.0 (Some c.1) (first cs) f ∙ g.0, g.1))
    (first_of_two cs ds r (sym (cond-false c.0 (Some c.1) (first (cs ++ ds)) f) ∙ e)))
    (cases_Bool c.0)

-- a refusal by its number
abbrev form_or_tag : ℕ → Bool
form_or_tag n = eqb n 11 || (eqb n 12 || (eqb n 13 || eqb n 42))

other : (r : Refusal) → form_or_tag (number_of r) ≡ false → NotForFormOrTag r
other r e =
    let n = number_of r in
    let a = or_parts (eqb n 11) (eqb n 12 || (eqb n 13 || eqb n 42)) e in
    let b = or_parts (eqb n 12) (eqb n 13 || eqb n 42) a.1 in
    let c = or_parts (eqb n 13) (eqb n 42) b.1 in
    record { not_short = eqb-false n 11 a.0; not_long = eqb-false n 12 b.0; not_kind = eqb-false n 13 c.0; not_tag = eqb-false n 42 c.1 }

-- A MESSAGE THAT CAN BE READ

-- under an association, as the component and the cleartext
pub record Readable (c : Call) (b : SecurityAssociation) (id : ComponentId) (cleartext : List ℕ) : Type 0 where
  pub identifier : (header_in c.message).component ≡ id
  pub kind : is_some (kind_of (header_in c.message).component.kind) ≡ true
  pub six : 6 ≤ length c.message
  pub long : protects (mode_under c b) ≡ true → 24 ≤ length c.message
  pub short : protects (mode_under c b) ≡ true → length c.message - 24 ≤ 1024
  pub open_short : protects (mode_under c b) ≡ false → length (open_payload c.message) ≤ 1024
  pub tagged : protects (mode_under c b) ≡ true → tag_under c.tags b (covered_in c.message) ≡ tag_in c.message
  pub clear : cleartext_under c b ≡ cleartext
  pub size : length cleartext ≡ size_under c b

module _ (c : Call) (id : ComponentId) (cleartext : List ℕ) where
  abbrev X : SecurityAssociation
  X = the_association c

  abbrev clock : List (Bool × Refusal)
  clock = clock_checks c.station.latest c.reading

  abbrev entrance : List (Bool × Refusal)
  entrance = entrance_checks c.station.settings c.contents c.reading c.network c.message

  module _ (b : SecurityAssociation) (can : Readable c b id cleartext) where
    entrance_lets : Each NotForFormOrTag entrance
    entrance_lets = (
      λ t. absurd (both_ways _ (le-ltb _ _ can.six) t),
      (
        λ t. absurd (both_ways _ (not-true _ t) can.kind),
        (
          λ _. other NoPolicy refl,
          (
            λ _. other SecuredFromPlainNetwork refl,
            (λ _. other NoLiveAssociation refl, tt),
          ),
        ),
      ),
    )

    sealed_lets : protects (mode_under c b) ≡ true → Each NotForFormOrTag (sealed_checks c b)
    sealed_lets p = (
      λ t. absurd (both_ways _ (le-ltb _ _ (can.long p)) t),
      (
        λ t. absurd (both_ways _ (le-ltb _ _ (can.short p)) t),
        (
          λ _. other OutsideWindow refl,
          (
            λ t. absurd (both_ways _ (not-true _ t) (eq-eqb _ _ (can.tagged p))),
            (
              λ _. other HeardBefore refl,
              (
                λ _. other (OutputTooShort _) refl,
                (λ _. other (HeardFull _) refl, tt),
              ),
            ),
          ),
        ),
      ),
    )

    open_lets : protects (mode_under c b) ≡ false → Each NotForFormOrTag (unsealed_checks c)
    open_lets p = (
      λ t. absurd (both_ways _ (le-ltb _ _ (can.open_short p)) t),
      (
        λ _. other (ListedUnprotected _) refl,
        (λ _. other (OutputTooShort _) refl, tt),
      ),
    )

    body_lets : Each NotForFormOrTag (body_checks c b)
    body_lets =
        ⊎_elim
        (λ t. subst (Each NotForFormOrTag) (sym (cond-true _ (sealed_checks c b) (unsealed_checks c) t)) (sealed_lets t))
        (λ f. subst (Each NotForFormOrTag) (sym (cond-false _ (sealed_checks c b) (unsealed_checks c) f)) (open_lets f))
        (cases_Bool (protects (mode_under c b)))

    -- where the station has no other association for it, it is not refused for form or tag
    not_refused : ((y : SecurityAssociation) → association_for c ≡ Some y → y ≡ b) → (r : Refusal) → first (checks c) ≡ Some r → NotForFormOrTag r
    not_refused alone r e =
        ⊎_elim
        (λ at-clock. each_first NotForFormOrTag clock r (λ _. other WrongReading refl, tt) at-clock)
        (λ past-clock. ⊎_elim
        (λ at-entrance. each_first NotForFormOrTag entrance r entrance_lets at-entrance)
        (λ past-entrance.
        let has = there (association_for c) (not-false _ (none_holds entrance past-entrance.0).1.1.1.1.0) in
        let is : X ≡ b = is_the_association c has.0 has.1 ∙ alone has.0 has.1 in
        each_first NotForFormOrTag (body_checks c b) r body_lets (ap (λ (x : SecurityAssociation). first (body_checks c x)) (sym is) ∙ past-entrance.1))
        (first_of_two entrance (body_checks c X) r past-clock.1))
        (first_of_two clock (entrance ++ body_checks c X) r e)

    shows_arrival : (x : HandedOn) (output : List ℕ) (n : ℕ) (a : Answer) → ShowsHanded (Ok x) output n a → x.component ≡ id → x.mode ≡ mode_under c b → take x.«length» output ≡ cleartext → Arrives id (mode_under c b) cleartext a
    shows_arrival x output n Done shown is same clear = shown
    shows_arrival x output n (Refused r k) shown is same clear = absurd shown
    shows_arrival x output n WentPlain shown is same clear = shown
    shows_arrival x output n (Sent mode v) shown is same clear = shown
    shows_arrival x output n (Handed k mode v report) shown is same clear = (shown.0 ∙ is, shown.1 ∙ same, shown.2 ∙ clear)

    pub arrives : ((y : SecurityAssociation) → association_for c ≡ Some y → y ≡ b) → (s' : Station) (after : Contents) (output : List ℕ) (r : Result HandedOn Refusal) (n : ℕ) (a : Answer) → ShowsHanded r output n a → Received c s' after output r → Arrives id (mode_under c b) cleartext a
    arrives alone s' after output (Err r) n a shown i =
        subst (Arrives id (mode_under c b) cleartext) (sym shown) (not_refused alone r (refused (checks c) (handed_under c X) r i.answer))
    arrives alone s' after output (Ok x) n a shown i =
        let has = has_association c x i.answer in
        let is : X ≡ b = is_the_association c has.0 has.1 ∙ alone has.0 has.1 in
        let handed : x ≡ handed_under c b = handed_is c x i.answer ∙ ap (handed_under c) is in
        let wrote : output ≡ cleartext ++ drop (size_under c b) c.output =
        (i.accepted refl).output_is ∙ ap (λ (y : SecurityAssociation). cleartext_under c y ++ drop (size_under c y) c.output) is ∙ ap (λ xs. xs ++ drop (size_under c b) c.output) can.clear in
        shows_arrival x output n a shown
        (ap (λ (y : HandedOn). y.component) handed ∙ can.identifier)
        (ap (λ (y : HandedOn). y.mode) handed)
        (ap (λ (y : HandedOn). take y.«length» output) handed ∙ ap (take (size_under c b)) wrote ∙ take_at cleartext (drop (size_under c b) c.output) (size_under c b) can.size)
