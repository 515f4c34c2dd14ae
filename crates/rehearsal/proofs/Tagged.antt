-- Listed components come only from rightly tagged messages.
use Rattle.std.proofs.Common.{◌≡◌, ℕ, ◌-◌, ◌≤◌, true, false, not, ◌&&◌, List, [], length, take, drop, Some, Ok, Err, vec_items, Result, sym, ap, ◌∙◌, subst, ⊎_elim, arith}
use Rattle.std.specs.List.{slice_get}
use Rattle.std.proofs.lemmas.Bool.{cases_Bool, both_ways, and_from, not-false, not_from_false, eqb-true, ltb-false}
use Rattle.banks.specs.Ciphers.{Ciphers}
use Rattle.banks.specs.Tags.{Tags}
use Rattle.octets.specs.Numbers.{Octets, octets_of}
use Rattle.rules.specs.Layout.{header_in, fields_in}
use Rattle.rules.specs.Listed.{listed_in}
use Rattle.rules.specs.Modes.{protects}
use Rattle.rules.specs.Profiles.{mode_in}
use Rattle.rules.specs.Window.{in_window}
use Rattle.rules.specs.declared.component.ComponentId.{ComponentId}
use Rattle.rules.specs.declared.protection.ProtectionMode.{ProtectionMode}
use Rattle.rules.specs.declared.protection.ProtectionMode.TheVariants.{NoProtection}
use Rattle.rules.specs.declared.refusal.Refusal.{Refusal}
use Rattle.rules.specs.declared.settings.Settings.{Settings}
use Rattle.rules.proofs.Layouts.{covered_before_tag, tag_octets}
use Rattle.rules.proofs.Stages.{passed, gives}
use Rattle.station.specs.Plain.{plain_checks, TakenPlain}
use Rattle.station.specs.Receive as receive
use Rattle.station.specs.Revoke.{key_at}
use Rattle.station.specs.Seal.{tag_under}
use Rattle.station.specs.States.{Contents, association_under}
use Rattle.station.specs.declared.protect.Sending.{Sending}
use Rattle.station.specs.declared.protect.Sending.TheVariants.{Plain as PlainSending, Sent as SentSending}
use Rattle.station.specs.declared.receive.Handed.{Handed as HandedOn}
use Rattle.station.specs.declared.station.Station.{Station}
use Rattle.rehearsal.specs.declared.log.Answer.{Answer}
use Rattle.rehearsal.specs.declared.log.Answer.TheVariants.{Done, Refused, WentPlain, Sent, Handed}
use Rattle.rehearsal.specs.declared.log.Call.{Call}
use Rattle.rehearsal.specs.declared.log.Call.TheVariants.{Admit, Install, Revoke, Protect, Receive, Plain}
use Rattle.rehearsal.specs.declared.log.Side.{Side}
use Rattle.rehearsal.specs.Laws.{HandsOn, FromRightlyTagged, ListedOnlyRightlyTagged}
use Rattle.rehearsal.specs.Runs.{Turn, Both, Runs}
use Rattle.rehearsal.specs.Steps.{Post, Steps, ShowsSent, ShowsSending, ShowsHanded, kept_answer}
use Rattle.rehearsal.proofs.Keeps.{Kept, at, stepped}
use Rattle.rehearsal.proofs.Receptions.{found_under, is_the_association, handed_is, has_association, sealed_passed, open_passed, SentUnder}
use Rattle.rehearsal.proofs.Standing.{stands_in_whole}

module _ (id : ComponentId) (mode : ProtectionMode) where
  -- WHAT HANDS NOTHING ON

  keeping_hands_nothing : (r : Result (Unit {0}) Refusal) → HandsOn id mode (kept_answer r) → ⊥
  keeping_hands_nothing (Ok u) h = h
  keeping_hands_nothing (Err e) h = h

  refusal_hands_nothing : (r : Refusal) (n : ℕ) (a : Answer) → a ≡ Refused r n → HandsOn id mode a → ⊥
  refusal_hands_nothing r n a is h = subst (HandsOn id mode) is h

  sent_hands_nothing : (s : Sending) (output : List ℕ) (a : Answer) → ShowsSent s output a → HandsOn id mode a → ⊥
  sent_hands_nothing PlainSending output a is h = subst (HandsOn id mode) is h
  sent_hands_nothing (SentSending m n) output Done shown h = h
  sent_hands_nothing (SentSending m n) output (Refused r k) shown h = h
  sent_hands_nothing (SentSending m n) output WentPlain shown h = h
  sent_hands_nothing (SentSending m n) output (Sent k v) shown h = h
  sent_hands_nothing (SentSending m n) output (Handed c k v report) shown h = shown

  sending_hands_nothing : (r : Result Sending Refusal) (output : List ℕ) (a : Answer) → ShowsSending r output a → HandsOn id mode a → ⊥
  sending_hands_nothing (Ok s) output a shown h = sent_hands_nothing s output a shown h
  sending_hands_nothing (Err r) output a is h = refusal_hands_nothing r 0 a is h

  -- what is handed on is what the call handed on
  shown_is : (x : HandedOn) (output : List ℕ) (n : ℕ) (a : Answer) → ShowsHanded (Ok x) output n a → HandsOn id mode a → (x.component ≡ id) × (x.mode ≡ mode)
  shown_is x output n Done shown h = absurd h
  shown_is x output n (Refused r k) shown h = absurd h
  shown_is x output n WentPlain shown h = absurd h
  shown_is x output n (Sent m v) shown h = absurd h
  shown_is x output n (Handed c m v k) shown h = (sym shown.0 ∙ h.0, sym shown.1 ∙ h.1)

  -- a component of the list, without fallback, is not taken unprotected
  listed_and_shut : (s : Settings) (other : ComponentId) → other ≡ id → s.fallback ≡ false → listed_in id (vec_items s.listed) ≡ true → (listed_in other (vec_items s.listed) && not s.fallback) ≡ true
  listed_and_shut s other is shut listed = and_from _ _ (ap (λ (c : ComponentId). listed_in c (vec_items s.listed)) is ∙ listed) (not_from_false _ shut)

  -- BY PLAIN

  plain_takes_none : (reading : ℕ) (component : ComponentId) (size : ℕ) (s s' : Station) (r : Result HandedOn Refusal) (cleartext : List ℕ) (n : ℕ) (a : Answer)
      → ShowsHanded r cleartext n a → TakenPlain reading component size s s' r → HandsOn id mode a → s.settings.fallback ≡ false → listed_in id (vec_items s.settings.listed) ≡ true → ⊥
  plain_takes_none reading component size s s' (Ok x) cleartext n a shown i h shut listed =
      let outcome : HandedOn = record { component = component; mode = NoProtection; «length» = size } in
      let is : component ≡ id = sym (ap (λ (y : HandedOn). y.component) (gives (plain_checks s reading component size) x outcome i.answer)) ∙ (shown_is x cleartext n a shown h).0 in
      both_ways _ (passed (plain_checks s reading component size) x outcome i.answer).1.1.1.0 (listed_and_shut s.settings component is shut listed)
  plain_takes_none reading component size s s' (Err r) cleartext n a shown i h shut listed = refusal_hands_nothing r n a shown h

  -- BY RECEIVE

  -- what a message that gave a listed component was
  record WasTagged (c : receive.Call) : Type 0 where
    under : SentUnder c.reading c.network (association_under (key_at c.station.settings.own (header_in c.message).spi) c.contents.associations) (receive.the_association c)
    identifier : (header_in c.message).component ≡ id
    mode_is : mode_in (vec_items c.station.settings.profile) (receive.the_association c).ppi id ≡ mode
    protected : protects mode ≡ true
    long : 24 ≤ length c.message
    tagged : drop (length c.message - 4) c.message ≡ octets_of 4 (tag_under c.tags (receive.the_association c) (take (length c.message - 4) c.message))
    fresh : in_window c.station.settings.back c.station.settings.ahead c.reading (fields_in c.message).tvp ≡ true

  receive_takes_tagged : (c : receive.Call) (s' : Station) (after : Contents) (output : List ℕ) (r : Result HandedOn Refusal) (n : ℕ) (a : Answer)
      → Octets c.message → ShowsHanded r output n a → receive.Received c s' after output r → HandsOn id mode a → c.station.settings.fallback ≡ false → listed_in id (vec_items c.station.settings.listed) ≡ true → WasTagged c
  receive_takes_tagged c s' after output (Err r) n a octets shown i h shut listed = absurd (refusal_hands_nothing r n a shown h)
  receive_takes_tagged c s' after output (Ok x) n a octets shown i h shut listed =
      let s = c.station.settings in
      let X = receive.the_association c in
      let told = shown_is x output n a shown h in
      let is = handed_is c x i.answer in
      let identifier : (header_in c.message).component ≡ id = sym (ap (λ (y : HandedOn). y.component) is) ∙ told.0 in
      let mode_was : receive.mode_under c X ≡ mode = sym (ap (λ (y : HandedOn). y.mode) is) ∙ told.1 in
      let has = has_association c x i.answer in
      ⊎_elim
      (λ t.
      let sealed = sealed_passed c x i.answer t in
      let long = ltb-false _ _ sealed.0 in
      let tag : tag_under c.tags X (receive.covered_in c.message) ≡ _ = eqb-true _ _ (not-false _ sealed.1.1.1.0) in
      record {
        under = subst (SentUnder c.reading c.network (association_under (key_at s.own (header_in c.message).spi) c.contents.associations)) (sym (is_the_association c has.0 has.1)) (found_under c has.0 has.1);
        identifier = identifier;
        mode_is = ap (mode_in (vec_items s.profile) X.ppi) (sym identifier) ∙ mode_was;
        protected = ap protects (sym mode_was) ∙ t;
        long = long;
        tagged = sym (tag_octets c.message octets (omega (arith, long))) ∙ ap (octets_of 4) (sym tag) ∙ ap (λ xs. octets_of 4 (tag_under c.tags X xs)) (covered_before_tag c.message long);
        fresh = not-false _ sealed.1.1.0;
      })
      (λ f. absurd (both_ways _ (open_passed c x i.answer f).1.0 (listed_and_shut s (header_in c.message).component identifier shut listed)))
      (cases_Bool (protects (receive.mode_under c X)))

-- THE LAW

module _ (m : Ciphers) (t : Tags) (settings : Side → Settings) (ts : List Turn) (p q : Both) (new : (side : Side) → Kept side (settings side) [] (at side p)) (run : Runs m t ts p q) where
  -- at a station whose associations stand by the lines above
  at_a_line : (n : ℕ) (turn : Turn) (side : Side) (id : ComponentId) (mode : ProtectionMode) (c : Call) (a : Answer) (before after : Post) → slice_get ts n ≡ Some turn → Kept side before.station.settings (take n ts) before
      → Steps m t c a before after → HandsOn id mode a → before.station.settings.fallback ≡ false → listed_in id (vec_items before.station.settings.listed) ≡ true
      → FromRightlyTagged t before.station.settings ts n side id mode c
  at_a_line n turn side id mode (Admit network stance) a before after e kept (r, is, same, i) h shut listed = keeping_hands_nothing id mode r (subst (HandsOn id mode) is h)
  at_a_line n turn side id mode (Install reading x) a before after e kept i h shut listed = keeping_hands_nothing id mode i.result (subst (HandsOn id mode) i.shown h)
  at_a_line n turn side id mode (Revoke destination spi) a before after e kept (r, is, same, i) h shut listed = keeping_hands_nothing id mode r (subst (HandsOn id mode) is h)
  at_a_line n turn side id mode (Protect reading network component cleartext room) a before after e kept (i, same) h shut listed = sending_hands_nothing id mode i.result i.output a i.shown h
  at_a_line n turn side id mode (Receive reading network waiting message room) a before after e kept i h shut listed =
      let was = receive_takes_tagged id mode _ after.station after.contents i.output i.result _ a i.octets i.shown i.made h shut listed in
      record {
        association = _;
        stands = stands_in_whole ts n side _ _ turn e (kept.held _ _ was.under.is);
        sender = was.under.sender;
        identifier = was.identifier;
        mode_is = was.mode_is;
        protected = was.protected;
        long = was.long;
        tagged = was.tagged;
        live = was.under.alive;
        fresh = was.fresh;
      }
  at_a_line n turn side id mode (Plain reading component waiting cleartext) a before after e kept (i, same) h shut listed =
      plain_takes_none id mode reading component _ before.station after.station i.result _ _ a i.shown i.made h shut listed

  pub listed_only_tagged : ListedOnlyRightlyTagged t settings ts
  listed_only_tagged n turn id mode e h shut listed =
      let side = turn.line.side in
      let line = stepped m t settings ts p q new run n turn e in
      let own = line.kept.settings in
      subst (λ (s : Settings). FromRightlyTagged t s ts n side id mode turn.line.call) own
      (at_a_line n turn side id mode turn.line.call turn.answer line.before line.after e
      (subst (λ (s : Settings). Kept side s (take n ts) line.before) (sym own) line.kept) line.step h
      (ap (λ (s : Settings). s.fallback) own ∙ shut) (ap (λ (s : Settings). listed_in id (vec_items s.listed)) own ∙ listed))
