-- What a line does to a station: to its settings, its clock, its associations and what it has heard.
use Rattle.std.proofs.Common.{◌≡◌, ℕ, ◌^◌, ◌<◌, ◌≤◌, Bool, true, false, ◌⊎◌, List, Some, None, Ok, Err, Option, Result, sym, refl, ap, ◌∙◌, subst, inl, inr, ⊎_elim, arith}
use Rattle.std.proofs.lemmas.Bool.{cases_Bool, cond-true, cond-false, not-false, both_ways, ltb-false}
use Rattle.banks.specs.Ciphers.{Ciphers}
use Rattle.banks.specs.Tags.{Tags}
use Rattle.octets.specs.Numbers.{Octets}
use Rattle.register.proofs.Lookups.{none_some, left_was}
use Rattle.rules.specs.Modes.{protects}
use Rattle.rules.specs.Window.{in_window, last_tick}
use Rattle.rules.specs.declared.component.ComponentId.{ComponentId}
use Rattle.rules.specs.declared.protection.ProtectionMode.TheVariants.{NoProtection}
use Rattle.rules.specs.declared.refusal.Refusal.{Refusal}
use Rattle.rules.specs.declared.settings.Settings.{Settings}
use Rattle.rules.proofs.Stages.{passed}
use Rattle.station.specs.Clock.{read_at}
use Rattle.station.specs.Forms.{is_plain}
use Rattle.station.specs.Install.{install_checks, Installed}
use Rattle.station.specs.Plain.{plain_checks, TakenPlain}
use Rattle.station.specs.Protect as protect
use Rattle.station.specs.Receive as receive
use Rattle.station.specs.Records.{association_key, same_association, association_last}
use Rattle.station.specs.Revoke.{key_at, Revoked}
use Rattle.station.specs.States.{Contents, association_under, fresh_under, HeardAdded}
use Rattle.station.specs.declared.protect.Sending.{Sending}
use Rattle.station.specs.declared.receive.Handed.{Handed as HandedOn}
use Rattle.station.specs.declared.records.AssociationKey.{AssociationKey}
use Rattle.station.specs.declared.records.HeardKey.{HeardKey}
use Rattle.station.specs.declared.records.SecurityAssociation.{SecurityAssociation}
use Rattle.station.specs.declared.station.Station.{Station}
use Rattle.station.proofs.Installs.{none_of}
use Rattle.rehearsal.specs.declared.log.Answer.{Answer}
use Rattle.rehearsal.specs.declared.log.Answer.TheVariants.{Done, Refused, WentPlain, Sent, Handed}
use Rattle.rehearsal.specs.declared.log.Call.{Call}
use Rattle.rehearsal.specs.declared.log.Call.TheVariants.{Admit, Install, Revoke, Protect, Receive, Plain}
use Rattle.rehearsal.specs.Associations.{Installs, Changes}
use Rattle.rehearsal.specs.Laws.{Takes, HandsOnProtected}
use Rattle.rehearsal.specs.Steps.{Post, Steps, ShowsHanded, kept_answer}
use Rattle.rehearsal.proofs.Receptions.{in_order, stamp_fits, handed_is, sealed_passed}

-- A CALL AND ITS ANSWER

-- no key is installed or revoked
abbrev KeysStay : Call → Answer → Post → Post → Type 0
KeysStay c a p q = (q.contents.associations ≡ p.contents.associations) × ((k : AssociationKey) → Changes k c → a ≡ Done → ⊥)

-- one key is: what is held under it is new or nothing, and what is held under another was held before
pub record KeyChanges (c : Call) (a : Answer) (p q : Post) : Type 0 where
  pub key : AssociationKey
  pub new : Option SecurityAssociation
  pub only : (k : AssociationKey) → Changes k c → key ≡ k
  pub installs : (x : SecurityAssociation) → new ≡ Some x → Installs key x c
  pub accepted : a ≡ Done
  pub under : (k : AssociationKey) (x : SecurityAssociation) → association_under k q.contents.associations ≡ Some x
      → ((same_association k key ≡ true) × (new ≡ Some x)) ⊎ ((same_association k key ≡ false) × (association_under k p.contents.associations ≡ Some x))

-- no message of mode 1 or 2 is handed on
abbrev HearsNothing : Call → Answer → Post → Post → Type 0
HearsNothing c a p q = (q.contents.heard ≡ p.contents.heard) × ((reading : ℕ) (key : HeardKey) → Takes reading key c → HandsOnProtected a → ⊥)

-- a message is handed on at a reading, and remembered: it was not heard before, and its stamp is in the window
pub record HeardAs (s : Settings) (reading : ℕ) (key : HeardKey) (p q : Post) : Type 0 where
  pub order : p.station.latest ≤ reading
  pub now : q.station.latest ≡ reading
  pub stamp : key.tvp < 2 ^ 32
  pub window : in_window s.back s.ahead reading key.tvp ≡ true
  pub unheard : fresh_under reading key p.contents.heard ≡ None
  pub added : HeardAdded (record { key = key; last = last_tick s.back reading key.tvp }) reading p.contents.heard q.contents.heard

-- one message is
pub record HearsOne (c : Call) (a : Answer) (p q : Post) : Type 0 where
  pub reading : ℕ
  pub key : HeardKey
  pub only : (r : ℕ) (k : HeardKey) → Takes r k c → (reading ≡ r) × (key ≡ k)
  pub heard : HeardAs p.station.settings reading key p q

pub record Moves (c : Call) (a : Answer) (p q : Post) : Type 0 where
  pub settings : q.station.settings ≡ p.station.settings
  pub latest : p.station.latest ≤ q.station.latest
  pub keys : KeysStay c a p q ⊎ KeyChanges c a p q
  pub heard : HearsNothing c a p q ⊎ HearsOne c a p q

-- THE STATION ITSELF

-- settings stay, and the clock does not go back
pub record GoesOn (s s' : Station) : Type 0 where
  pub settings : s'.settings ≡ s.settings
  pub latest : s.latest ≤ s'.latest

stays : (s s' : Station) → s' ≡ s → GoesOn s s'
stays s s' e = record { settings = ap (λ (x : Station). x.settings) e; latest = omega (arith, ap (λ (x : Station). x.latest) e) }

reads : (reading : ℕ) (s s' : Station) → s.latest ≤ reading → s' ≡ read_at reading s → GoesOn s s'
reads reading s s' l e = record { settings = ap (λ (x : Station). x.settings) e; latest = omega (arith, ap (λ (x : Station). x.latest) e) }

counts : (b : Bool) (reading : ℕ) (s s' : Station) → s.latest ≤ reading → s' ≡ protect.counted b reading s → GoesOn s s'
counts true reading s s' l e = record { settings = ap (λ (x : Station). x.settings) e; latest = omega (arith, ap (λ (x : Station). x.latest) e) }
counts false reading s s' l e = reads reading s s' l e

install_goes : (m : Ciphers) (t : Tags) (reading : ℕ) (x : SecurityAssociation) (s s' : Station) (before after : Contents) (r : Result (Unit {0}) Refusal) → Installed m t reading x s s' before after r → GoesOn s s'
install_goes m t reading x s s' before after (Ok u) i = reads reading s s' (in_order s.latest reading (passed (install_checks s m t reading x before.associations) u tt i.answer).0) (i.accepted refl).0
install_goes m t reading x s s' before after (Err r) i = stays s s' (i.refused refl).0

protect_goes : (c : protect.Call) (s' : Station) (output : List ℕ) (r : Result Sending Refusal) → protect.Protected c s' output r → GoesOn c.station s'
protect_goes c s' output (Ok u) i =
    let plain = is_plain (protect.policy_for c) in
    let l = in_order c.station.latest c.reading (passed (protect.checks c) u (protect.outcome c) i.answer).0 in
    let is = (i.accepted refl).0 in
    ⊎_elim
    (λ t. reads c.reading c.station s' l (is ∙ cond-true plain _ _ t))
    (λ f. counts (protects (protect.mode_under c (protect.the_association c))) c.reading c.station s' l (is ∙ cond-false plain _ _ f))
    (cases_Bool plain)
protect_goes c s' output (Err r) i = stays c.station s' (i.refused refl).0

receive_goes : (c : receive.Call) (s' : Station) (after : Contents) (output : List ℕ) (r : Result HandedOn Refusal) → receive.Received c s' after output r → GoesOn c.station s'
receive_goes c s' after output (Ok h) i = reads c.reading c.station s' (in_order c.station.latest c.reading (passed (receive.checks c) h (receive.handed_under c (receive.the_association c)) i.answer).0) (i.accepted refl).station_is
receive_goes c s' after output (Err r) i = stays c.station s' (i.refused refl).0

plain_goes : (reading : ℕ) (id : ComponentId) (size : ℕ) (s s' : Station) (r : Result HandedOn Refusal) → TakenPlain reading id size s s' r → GoesOn s s'
plain_goes reading id size s s' (Ok h) i = reads reading s s' (in_order s.latest reading (passed (plain_checks s reading id size) h (record { component = id; mode = NoProtection; «length» = size }) i.answer).0) (i.accepted refl)
plain_goes reading id size s s' (Err r) i = stays s s' (i.refused refl)

-- ASSOCIATIONS

not_done : (a : Answer) (r : Refusal) → a ≡ Refused r 0 → a ≡ Done → ⊥
not_done a r e d = let z : ◌≡◌ {A = ℕ} 0 1 = cc in omega arith

install_keys : (m : Ciphers) (t : Tags) (reading : ℕ) (x : SecurityAssociation) (p q : Post) (a : Answer) (r : Result (Unit {0}) Refusal) → a ≡ kept_answer r → Installed m t reading x p.station q.station p.contents q.contents r
    → KeysStay (Install reading x) a p q ⊎ KeyChanges (Install reading x) a p q
install_keys m t reading x p q a (Ok u) is i = inr (record {
  key = association_key x;
  new = Some x;
  only = λ k e. e;
  installs = λ y e. (refl, (cc));
  accepted = is;
  under = λ k y e.
      let added = (i.accepted refl).1.under k in
      ⊎_elim
      (λ t. inl (t, sym (cond-true (same_association k (association_key x)) _ _ t) ∙ sym added ∙ e))
      (λ f. inr (f, (left_was association_key same_association association_last reading _ y (sym (cond-false (same_association k (association_key x)) _ _ f) ∙ sym added ∙ e)).0))
      (cases_Bool (same_association k (association_key x)));
})
install_keys m t reading x p q a (Err r) is i = inl (ap (λ (c : Contents). c.associations) (i.refused refl).1, λ k c. not_done a r is)

revoke_keys : (destination spi : ℕ) (p q : Post) (a : Answer) (r : Result (Unit {0}) Refusal) → a ≡ kept_answer r → Revoked destination spi p.contents q.contents r
    → KeysStay (Revoke destination spi) a p q ⊎ KeyChanges (Revoke destination spi) a p q
revoke_keys destination spi p q a (Ok u) is i = inr (record {
  key = key_at destination spi;
  new = None;
  only = λ k e. e;
  installs = λ y e. none_some e;
  accepted = is;
  under = λ k y e.
      let removed = (i.accepted refl).under k in
      ⊎_elim
      (λ t. inl (t, sym (cond-true (same_association k (key_at destination spi)) _ _ t) ∙ sym removed ∙ e))
      (λ f. inr (f, sym (cond-false (same_association k (key_at destination spi)) _ _ f) ∙ sym removed ∙ e))
      (cases_Bool (same_association k (key_at destination spi)));
})
revoke_keys destination spi p q a (Err r) is i = inl (ap (λ (c : Contents). c.associations) (i.refused refl), λ k c. not_done a r is)

receive_keys : (c : receive.Call) (s' : Station) (after : Contents) (output : List ℕ) (r : Result HandedOn Refusal) → receive.Received c s' after output r → after.associations ≡ c.contents.associations
receive_keys c s' after output (Ok h) i = (i.accepted refl).associations
receive_keys c s' after output (Err r) i = ap (λ (x : Contents). x.associations) (i.refused refl).1

-- WHAT IS HEARD

-- a refusal hands nothing on, and mode 0 is no protection
quiet_refusal : (r : Refusal) (n : ℕ) (a : Answer) → a ≡ Refused r n → HandsOnProtected a → ⊥
quiet_refusal r n a is h = subst HandsOnProtected is h

shows_mode : (h : HandedOn) (output : List ℕ) (n : ℕ) (a : Answer) → ShowsHanded (Ok h) output n a → HandsOnProtected a → protects h.mode ≡ true
shows_mode h output n Done s p = absurd p
shows_mode h output n (Refused r k) s p = absurd p
shows_mode h output n WentPlain s p = absurd p
shows_mode h output n (Sent mode v) s p = absurd p
shows_mode h output n (Handed c mode v k) s p = sym (ap protects s.1) ∙ p

-- a receive remembers what it hands on in modes 1 and 2, and nothing else
receive_heard : (c : receive.Call) (s' : Station) (after : Contents) (output : List ℕ) (r : Result HandedOn Refusal) (n : ℕ) (a : Answer) → Octets c.message → ShowsHanded r output n a → receive.Received c s' after output r
    → ((after.heard ≡ c.contents.heard) × (HandsOnProtected a → ⊥)) ⊎ HeardAs c.station.settings c.reading (receive.key_for c) (record { station = c.station; contents = c.contents }) (record { station = s'; contents = after })
receive_heard c s' after output (Err e) n a octets shown i = inl (ap (λ (x : Contents). x.heard) (i.refused refl).1, quiet_refusal e n a shown)
receive_heard c s' after output (Ok h) n a octets shown i =
    let A = receive.the_association c in
    let left = i.accepted refl in
    ⊎_elim
    (λ t.
    let sealed = sealed_passed c h i.answer t in
    let young = sealed.1.1 in
    inr (record {
      order = in_order c.station.latest c.reading (passed (receive.checks c) h (receive.handed_under c A) i.answer).0;
      now = ap (λ (x : Station). x.latest) left.station_is;
      stamp = stamp_fits c.message octets (ltb-false _ _ sealed.0);
      window = not-false _ young.0;
      unheard = none_of _ young.1.1.0;
      added = left.remembered t;
    }))
    (λ f. inl (left.nothing_remembered f, λ p. both_ways _ f (ap (λ (x : HandedOn). protects x.mode) (sym (handed_is c h i.answer)) ∙ shows_mode h output n a shown p)))
    (cases_Bool (protects (receive.mode_under c A)))

-- EVERY CALL

module _ (m : Ciphers) (t : Tags) where
  pub step_moves : (c : Call) (a : Answer) (p q : Post) → Steps m t c a p q → Moves c a p q
  step_moves (Admit network stance) a p q (r, is, same, i) =
      let goes = stays p.station q.station same in
      record { settings = goes.settings; latest = goes.latest; keys = inl (i.associations, λ k c d. c); heard = inl (i.heard, λ r k c d. c) }
  step_moves (Install reading x) a p q i =
      let goes = install_goes m t reading x p.station q.station p.contents q.contents i.result i.made in
      record { settings = goes.settings; latest = goes.latest; keys = install_keys m t reading x p q a i.result i.shown i.made; heard = inl (i.made.heard, λ r k c d. c) }
  step_moves (Revoke destination spi) a p q (r, is, same, i) =
      let goes = stays p.station q.station same in
      record { settings = goes.settings; latest = goes.latest; keys = revoke_keys destination spi p q a r is i; heard = inl (i.heard, λ r k c d. c) }
  step_moves (Protect reading network component cleartext room) a p q (i, same) =
      let goes = protect_goes _ q.station i.output i.result i.made in
      record { settings = goes.settings; latest = goes.latest; keys = inl (ap (λ (x : Contents). x.associations) same, λ k c d. c); heard = inl (ap (λ (x : Contents). x.heard) same, λ r k c d. c) }
  step_moves (Receive reading network waiting message room) a p q i =
      let goes = receive_goes _ q.station q.contents i.output i.result i.made in
      record {
        settings = goes.settings;
        latest = goes.latest;
        keys = inl (receive_keys _ q.station q.contents i.output i.result i.made, λ k c d. c);
        heard = ⊎_elim
            (λ h. inl (h.0, λ r k c d. h.1 d))
            (λ h. inr (record { reading = reading; key = _; only = λ r k c. c; heard = h }))
            (receive_heard _ q.station q.contents i.output i.result _ a i.octets i.shown i.made);
      }
  step_moves (Plain reading component waiting cleartext) a p q (i, same) =
      let goes = plain_goes reading component _ p.station q.station i.result i.made in
      record { settings = goes.settings; latest = goes.latest; keys = inl (ap (λ (x : Contents). x.associations) same, λ k c d. c); heard = inl (ap (λ (x : Contents). x.heard) same, λ r k c d. c) }
