-- What one station wrote, the other reads.
use Rattle.std.proofs.Common.{◌≡◌, ℕ, ◌+◌, ◌-◌, ◌^◌, ◌<◌, ◌≤◌, Bool, true, false, cond, List, [], ◌++◌, length, take, drop, replicate, is_some, Some, Ok, Err, vec_items, Result, sym, refl, ap, ◌∙◌, subst, ⊎_elim, arith}
use Rattle.std.specs.List.{slice_get}
use Rattle.std.proofs.lemmas.List.{take_at, length-append}
use Rattle.std.proofs.lemmas.Bool.{cases_Bool, cond-true, cond-false, both_ways, and_cases, not-false, ltb-false, leb-false}
use Rattle.octets.specs.Numbers.{Octets, octets_of}
use Rattle.octets.proofs.Widths.{length_octets}
use Rattle.banks.specs.Ciphers.{Ciphers, Lawful, ciphered}
use Rattle.std.specs.Cmp.{IsEquivalence, nat_eq_equiv, on_equiv, and_equiv}
use Rattle.keys.specs.Keys.{iv_of}
use Rattle.banks.specs.Tags.{Tags, LawfulTags, tagged}
use Rattle.banks.specs.Laws.{tagged_small}
use Rattle.register.specs.Places.{Apart}
use Rattle.register.proofs.Lookups.{holds_lookup}
use Rattle.rules.specs.Components.{kind_of}
use Rattle.rules.specs.Layout.{header_in, fields_in, open_payload, sealed_payload, tag_in, open_header, sealed_header, iv_octets, open_message, sealed_message, FieldsFit, OpenUndone, SealedUndone}
use Rattle.rules.specs.Modes.{protects}
use Rattle.rules.specs.Profiles.{mode_in}
use Rattle.rules.specs.declared.component.ComponentId.{ComponentId}
use Rattle.rules.specs.declared.message.IvFields.{IvFields}
use Rattle.rules.specs.declared.message.SecurityHeader.{SecurityHeader}
use Rattle.rules.specs.declared.protection.ProtectionMode.{ProtectionMode}
use Rattle.rules.specs.declared.protection.ProtectionMode.TheVariants.{NoProtection, Integrity, Confidentiality}
use Rattle.rules.specs.declared.refusal.Refusal.{Refusal}
use Rattle.rules.specs.declared.settings.Settings.{Settings}
use Rattle.rules.proofs.Layouts.{undone, length_open_header, length_sealed_header, covered_before_tag}
use Rattle.rules.proofs.Stages.{NoneHolds, passed, gives}
use Rattle.station.specs.Choice.{Chosen, chosen_for}
use Rattle.station.specs.Forms.{is_plain, association_or_blank}
use Rattle.station.specs.Protect as protect
use Rattle.station.specs.Receive as receive
use Rattle.station.specs.Records.{association_key, same_association}
use Rattle.station.specs.Revoke.{key_at}
use Rattle.station.specs.Seal.{turned, tag_under, sealed_under, message_under, message_length}
use Rattle.station.specs.States.{Associations, association_under}
use Rattle.station.specs.declared.protect.Sending.{Sending}
use Rattle.station.specs.declared.protect.Sending.TheVariants.{Plain as PlainSending, Sent as SentSending}
use Rattle.station.specs.declared.records.AssociationKey.{AssociationKey}
use Rattle.station.specs.declared.records.SecurityAssociation.{SecurityAssociation}
use Rattle.station.specs.declared.station.Station.{Station}
use Rattle.station.proofs.Preferences.{chosen_law}
use Rattle.station.proofs.Turns.{turned_keeps, turned_back}
use Rattle.rehearsal.specs.declared.log.Answer.{Answer}
use Rattle.rehearsal.specs.declared.log.Answer.TheVariants.{Done, Refused, WentPlain, Sent, Handed}
use Rattle.rehearsal.specs.declared.log.Call.{Call}
use Rattle.rehearsal.specs.declared.log.Call.TheVariants.{Admit, Install, Revoke, Protect, Receive, Plain}
use Rattle.rehearsal.specs.declared.log.Side.{Side}
use Rattle.rehearsal.specs.Associations.{Installs, AssociationAt}
use Rattle.rehearsal.specs.Laws.{Writes, Receives, Alike, Arrives, WrittenIsRead}
use Rattle.rehearsal.specs.Runs.{Turn, Both, Runs}
use Rattle.rehearsal.specs.Steps.{Post, Steps, ShowsSending}
use Rattle.rehearsal.proofs.Arrivals.{Readable, arrives}
use Rattle.rehearsal.proofs.Keeps.{Kept, at, Stepped, stepped}
use Rattle.rehearsal.proofs.Receptions.{there, found_under}
use Rattle.rehearsal.proofs.Standing.{one_association, stands_in_whole}

-- THE LENGTH OF A MESSAGE

sealed_long : (h : SecurityHeader) (f : IvFields) (payload : List ℕ) (tag : ℕ) → length (sealed_message h f payload tag) ≡ 24 + length payload
sealed_long h f payload tag =
    let whole = length-append (sealed_header h f) (payload ++ octets_of 4 tag) in
    let rest = length-append payload (octets_of 4 tag) in
    omega (arith, length_sealed_header h f, length_octets 4 tag)

open_long : (h : SecurityHeader) (payload : List ℕ) → length (open_message h payload) ≡ 6 + length payload
open_long h payload = length-append (open_header h) payload ∙ ap (λ n. n + length payload) (length_open_header h)

message_long : (m : Ciphers) (law : Lawful m) (t : Tags) (a : SecurityAssociation) (h : SecurityHeader) (f : IvFields) (mode : ProtectionMode) (xs : List ℕ) → length (message_under m t a h f mode xs) ≡ message_length mode (length xs)
message_long m law t a h f NoProtection xs = open_long h xs
message_long m law t a h f Integrity xs = sealed_long h f xs _
message_long m law t a h f Confidentiality xs = sealed_long h f _ _ ∙ ap (λ n. 24 + n) (turned_keeps m law a f Confidentiality xs)

-- AT THE SENDER

-- the association of a message that was written, and what the message is
record Wrote (m : Ciphers) (t : Tags) (p : Post) (network : ℕ) (id : ComponentId) (mode : ProtectionMode) (cleartext message : List ℕ) : Type 0 where
  association : SecurityAssociation
  fields : IvFields
  held : association_under (association_key association) p.contents.associations ≡ Some association
  goes : association.destination ≡ network
  octets : Octets cleartext
  short : length cleartext ≤ 1024
  kind : is_some (kind_of id.kind) ≡ true
  mode_is : mode_in (vec_items p.station.settings.profile) association.ppi id ≡ mode
  fields_fit : protects mode ≡ true → FieldsFit fields
  is : message ≡ message_under m t association (record { spi = association.spi; component = id }) fields mode cleartext

keys_alike : IsEquivalence same_association
keys_alike = and_equiv (on_equiv (λ (k : AssociationKey). k.destination) nat_eq_equiv) (on_equiv (λ (k : AssociationKey). k.spi) nat_eq_equiv)

-- a chosen association is held under its key, and goes to the network
chosen_held : (reading own network : ℕ) (places : Associations) (a : SecurityAssociation) → Apart association_key same_association places → chosen_for reading own network places ≡ Some a
    → (association_under (association_key a) places ≡ Some a) × (a.destination ≡ network)
chosen_held reading own network places a apart e =
    let law = subst (Chosen reading own network places) e (chosen_law reading own network places apart) in
    (holds_lookup association_key same_association keys_alike places apart a law.0.held, law.0.goes)

module _ (c : protect.Call) (law : Lawful c.ciphers) (apart : Apart association_key same_association c.contents.associations) (octets : Octets c.cleartext) where
  abbrev X : SecurityAssociation
  X = protect.the_association c

  abbrev post : Post
  post = record { station = c.station; contents = c.contents }

  abbrev plain : Bool
  plain = is_plain (protect.policy_for c)

  wrote_sent : (s' : Station) (output : List ℕ) (mode : ProtectionMode) (n : ℕ) (message : List ℕ) → message ≡ take n output → protect.Protected c s' output (Ok (SentSending mode n)) → Wrote c.ciphers c.tags post c.network c.component mode c.cleartext message
  wrote_sent s' output mode n message front i =
      let all = passed (protect.checks c) (SentSending mode n) (protect.outcome c) i.answer in
      let outcome = gives (protect.checks c) (SentSending mode n) (protect.outcome c) i.answer in
      ⊎_elim
      (λ t.
      let both : SentSending mode n ≡ PlainSending = outcome ∙ cond-true plain PlainSending (protect.sent_under c X) t in
      absurd (let z : ◌≡◌ {A = ℕ} 0 1 = cc in omega arith))
      (λ f.
      let same : SentSending mode n ≡ protect.sent_under c X = outcome ∙ cond-false plain PlainSending (protect.sent_under c X) f in
      let size : n ≡ protect.needed_under c X = cc in
      let mode_is : protect.mode_under c X ≡ mode = cc in
      let rest = subst NoneHolds (cond-false plain [] (protect.association_checks c ++ protect.room_under c X) f) all.1.1.1.1 in
      let has = there (protect.association_for c) (not-false _ rest.0) in
      let XIs : X ≡ has.0 = ap association_or_blank has.1 in
      let chosen = chosen_held c.reading c.station.settings.own c.network c.contents.associations X apart (has.1 ∙ ap Some (sym XIs)) in
      let wrote : output ≡ protect.message_of c X ++ drop (protect.needed_under c X) c.output = (i.accepted refl).1 ∙ cond-false plain c.output (protect.output_sent c X) f in
      let long : length (protect.message_of c X) ≡ n = message_long c.ciphers law c.tags X (protect.header_under c X) (protect.fields_at c) (protect.mode_under c X) c.cleartext ∙ sym size in
      record {
        association = X;
        fields = protect.fields_at c;
        held = chosen.0;
        goes = chosen.1;
        octets = octets;
        short = ltb-false _ _ all.1.1.0;
        kind = not-false _ all.1.0;
        mode_is = mode_is;
        fields_fit = λ sealed. record {
          tvp = omega arith;
          ne_id = omega (arith, c.station.settings.ne_id_fits);
          prop = ⊎_elim (λ e. absurd (both_ways _ e (ap protects mode_is ∙ sealed))) (λ e. omega (arith, leb-false _ _ e)) (and_cases _ _ rest.1.1.0);
        };
        is = front ∙ ap (take n) wrote ∙ take_at (protect.message_of c X) (drop (protect.needed_under c X) c.output) n long
            ∙ ap (λ (k : ProtectionMode). message_under c.ciphers c.tags X (protect.header_under c X) (protect.fields_at c) k c.cleartext) mode_is;
      })
      (cases_Bool plain)

  wrote_shown : (s' : Station) (output : List ℕ) (r : Result Sending Refusal) (mode : ProtectionMode) (v : _) → ShowsSending r output (Sent mode v) → protect.Protected c s' output r → Wrote c.ciphers c.tags post c.network c.component mode c.cleartext (vec_items v)
  wrote_shown s' output (Err r) mode v shown i = absurd (let z : ◌≡◌ {A = ℕ} 0 1 = cc in omega arith)
  wrote_shown s' output (Ok PlainSending) mode v shown i = absurd (let z : ◌≡◌ {A = ℕ} 0 1 = cc in omega arith)
  wrote_shown s' output (Ok (SentSending k n)) mode v shown i =
      subst (λ (x : ProtectionMode). Wrote c.ciphers c.tags post c.network c.component x c.cleartext (vec_items v)) (sym shown.0) (wrote_sent s' output k n (vec_items v) shown.1 i)

module _ (m : Ciphers) (t : Tags) (law : Lawful m) where
  written : (network : ℕ) (id : ComponentId) (mode : ProtectionMode) (cleartext message : List ℕ) (c : Call) (a : Answer) (p q : Post) → Steps m t c a p q → Writes network id mode cleartext message c a → Wrote m t p network id mode cleartext message
  written network id mode cleartext message (Admit n stance) a p q i w = absurd w
  written network id mode cleartext message (Install reading x) a p q i w = absurd w
  written network id mode cleartext message (Revoke destination spi) a p q i w = absurd w
  written network id mode cleartext message (Protect reading n k octets room) Done p q i w = absurd w
  written network id mode cleartext message (Protect reading n k octets room) (Refused r report) p q i w = absurd w
  written network id mode cleartext message (Protect reading n k octets room) WentPlain p q i w = absurd w
  written network id mode cleartext message (Protect reading n k octets room) (Sent x v) p q (i, same) w =
      subst (λ (y : ℕ). Wrote m t p y id mode cleartext message) w.0
      (subst (λ (y : ComponentId). Wrote m t p n y mode cleartext message) w.1
      (subst (λ (y : ProtectionMode). Wrote m t p n k y cleartext message) w.2
      (subst (λ (y : List ℕ). Wrote m t p n k x y message) w.3
      (subst (Wrote m t p n k x octets.now) w.4 (wrote_shown _ law i.apart i.octets q.station i.output i.result x v i.shown i.made)))))
  written network id mode cleartext message (Protect reading n k octets room) (Handed x y v report) p q i w = absurd w
  written network id mode cleartext message (Receive reading n waiting octets room) a p q i w = absurd w
  written network id mode cleartext message (Plain reading k waiting octets) a p q i w = absurd w

  -- an association that was installed has an SPI of 32 bits
  installed_fits : (k : AssociationKey) (x : SecurityAssociation) (c : Call) (a : Answer) (p q : Post) → Steps m t c a p q → Installs k x c → x.spi < 2 ^ 32
  installed_fits k x (Admit n stance) a p q i h = absurd h
  installed_fits k x (Install reading b) a p q i h = subst (λ (y : SecurityAssociation). y.spi < 2 ^ 32) h.1 i.spi_fits
  installed_fits k x (Revoke destination spi) a p q i h = absurd h
  installed_fits k x (Protect reading n component octets room) a p q i h = absurd h
  installed_fits k x (Receive reading n waiting octets room) a p q i h = absurd h
  installed_fits k x (Plain reading component waiting octets) a p q i h = absurd h

-- AT THE RECEIVER

-- alike associations turn and tag alike
turns_alike : (m : Ciphers) (a b : SecurityAssociation) (f : IvFields) (mode : ProtectionMode) (xs : List ℕ) → Alike a b → turned m b f mode xs ≡ turned m a f mode xs
turns_alike m a b f NoProtection xs alike = refl
turns_alike m a b f Integrity xs alike = refl
turns_alike m a b f Confidentiality xs alike =
    ap (λ n. ciphered m n b.cipher_key (iv_of (iv_octets f)) xs) alike.mea ∙ ap (λ k. ciphered m a.mea k (iv_of (iv_octets f)) xs) alike.cipher_key

tags_alike : (t : Tags) (a b : SecurityAssociation) (xs : List ℕ) → Alike a b → tag_under t b xs ≡ tag_under t a xs
tags_alike t a b xs alike = ap (λ n. tagged t n b.integrity_key xs) alike.mia ∙ ap (λ k. tagged t a.mia k xs) alike.integrity_key

module _ (m : Ciphers) (t : Tags) (law : Lawful m) (tag-law : LawfulTags t) (a : SecurityAssociation) (fits : a.spi < 2 ^ 32) (id : ComponentId) (f : IvFields) (cleartext message : List ℕ) where
  abbrev header : SecurityHeader
  header = record { spi = a.spi; component = id }

  module _ (mode : ProtectionMode) (is : message ≡ message_under m t a header f mode cleartext) where
    abbrev payload : List ℕ
    payload = turned m a f mode cleartext

    abbrev tag : ℕ
    tag = tag_under t a (sealed_header header f ++ payload)

    in_open : protects mode ≡ false → OpenUndone header cleartext × (message ≡ open_message header cleartext)
    in_open p = (undone.0 header cleartext (record { spi = fits }), is ∙ cond-false _ (sealed_under m t a header f mode cleartext) (open_message header cleartext) p)

    in_sealed : protects mode ≡ true → FieldsFit f → SealedUndone header f payload tag × (message ≡ sealed_message header f payload tag)
    in_sealed p fields_fit = (
      undone.1 header f payload tag (record { spi = fits }) fields_fit (tagged_small t tag-law a.mia a.integrity_key (sealed_header header f ++ payload)),
      is ∙ cond-true _ (sealed_under m t a header f mode cleartext) (open_message header cleartext) p,
    )

    -- the header is read back in either shape
    pub header_read : (protects mode ≡ true → FieldsFit f) → header_in message ≡ header
    header_read fields_fit =
        ⊎_elim
        (λ p. let z = in_sealed p (fields_fit p) in ap header_in z.1 ∙ z.0.header)
        (λ p. let o = in_open p in ap header_in o.1 ∙ o.0.header)
        (cases_Bool (protects mode))

-- a receiver with an association alike can read what was written
module _ (c : receive.Call) (law : Lawful c.ciphers) (tag-law : LawfulTags c.tags) (a b : SecurityAssociation) (fits : a.spi < 2 ^ 32) (alike : Alike a b) (id : ComponentId) (f : IvFields) (cleartext : List ℕ) (mode : ProtectionMode)
    (is : c.message ≡ message_under c.ciphers c.tags a (record { spi = a.spi; component = id }) f mode cleartext)
    (octets : Octets cleartext) (short : length cleartext ≤ 1024) (kind : is_some (kind_of id.kind) ≡ true) (fields_fit : protects mode ≡ true → FieldsFit f)
    (modes : mode_in (vec_items c.station.settings.profile) b.ppi id ≡ mode) where
  identifier : (header_in c.message).component ≡ id
  identifier = ap (λ (h : SecurityHeader). h.component) (header_read c.ciphers c.tags law tag-law a fits id f cleartext c.message mode is fields_fit)

  mode_is : receive.mode_under c b ≡ mode
  mode_is = ap (mode_in (vec_items c.station.settings.profile) b.ppi) identifier ∙ modes

  kind_is : is_some (kind_of (header_in c.message).component.kind) ≡ true
  kind_is = ap (λ (x : ComponentId). is_some (kind_of x.kind)) identifier ∙ kind

  readable_sealed : protects mode ≡ true → Readable c b id cleartext
  readable_sealed p =
      let z = in_sealed c.ciphers c.tags law tag-law a fits id f cleartext c.message mode is p (fields_fit p) in
      let h : SecurityHeader = record { spi = a.spi; component = id } in
      let payload = turned c.ciphers a f mode cleartext in
      let tag = tag_under c.tags a (sealed_header h f ++ payload) in
      let sealed : protects (receive.mode_under c b) ≡ true = ap protects mode_is ∙ p in
      let long : length c.message ≡ 24 + length cleartext = ap length z.1 ∙ z.0.long ∙ ap (λ n. 24 + n) (turned_keeps c.ciphers law a f mode cleartext) in
      let size : receive.size_under c b ≡ length c.message - 24 = ap (λ x. length c.message - cond x 24 6) sealed in
      let covered : receive.covered_in c.message ≡ sealed_header h f ++ payload = covered_before_tag c.message (omega (arith, long)) ∙ ap (λ xs. take (length xs - 4) xs) z.1 ∙ z.0.covered in
      let fields_are : fields_in c.message ≡ f = ap fields_in z.1 ∙ z.0.fields in
      let payload_is : sealed_payload c.message ≡ payload = ap sealed_payload z.1 ∙ z.0.payload_is in
      record {
        identifier = identifier;
        kind = kind_is;
        six = omega (arith, long);
        long = λ _. omega (arith, long);
        short = λ _. omega (arith, long);
        open_short = λ e. absurd (both_ways _ e sealed);
        tagged = λ _. tags_alike c.tags a b (receive.covered_in c.message) alike ∙ ap (tag_under c.tags a) covered ∙ sym (ap tag_in z.1 ∙ z.0.tag_is);
        clear = cond-true _ _ (open_payload c.message) sealed
            ∙ ap (λ (x : IvFields). turned c.ciphers b x (receive.mode_under c b) (sealed_payload c.message)) fields_are
            ∙ ap (λ (x : ProtectionMode). turned c.ciphers b f x (sealed_payload c.message)) mode_is
            ∙ ap (turned c.ciphers b f mode) payload_is
            ∙ turns_alike c.ciphers a b f mode payload alike
            ∙ turned_back c.ciphers law a f mode cleartext octets;
        size = omega (arith, long, size);
      }

  readable_open : protects mode ≡ false → Readable c b id cleartext
  readable_open p =
      let o = in_open c.ciphers c.tags law tag-law a fits id f cleartext c.message mode is p in
      let bare : protects (receive.mode_under c b) ≡ false = ap protects mode_is ∙ p in
      let long : length c.message ≡ 6 + length cleartext = ap length o.1 ∙ o.0.long in
      let payload_is : open_payload c.message ≡ cleartext = ap open_payload o.1 ∙ o.0.payload_is in
      let size : receive.size_under c b ≡ length c.message - 6 = ap (λ x. length c.message - cond x 24 6) bare in
      record {
        identifier = identifier;
        kind = kind_is;
        six = omega (arith, long);
        long = λ e. absurd (both_ways _ bare e);
        short = λ e. absurd (both_ways _ bare e);
        open_short = λ _. omega (arith, ap length payload_is);
        tagged = λ e. absurd (both_ways _ bare e);
        clear = cond-false _ _ (open_payload c.message) bare ∙ payload_is;
        size = omega (arith, long, size);
      }

  readable : Readable c b id cleartext
  readable = ⊎_elim readable_sealed readable_open (cases_Bool (protects mode))

-- THE LAW

module _ (m : Ciphers) (t : Tags) (law : Lawful m) (tag-law : LawfulTags t) (settings : Side → Settings) (ts : List Turn) (p q : Both) (new : (side : Side) → Kept side (settings side) [] (at side p)) (run : Runs m t ts p q) where
  -- an association that stands has an SPI of 32 bits
  standing_fits : (n : ℕ) (side : Side) (k : AssociationKey) (x : SecurityAssociation) → AssociationAt ts n side k x → x.spi < 2 ^ 32
  standing_fits n side k x a =
      let turn = a.installed.0 in
      let s = stepped m t settings ts p q new run a.line turn a.installed.1 in
      installed_fits m t law k x turn.line.call turn.answer s.before s.after s.step a.installed.2.1

  module _ (i j : ℕ) (sent received : Turn) (network : ℕ) (id : ComponentId) (mode : ProtectionMode) (cleartext message : List ℕ) (a b : SecurityAssociation)
      (at_i : slice_get ts i ≡ Some sent) (w : Writes network id mode cleartext message sent.line.call sent.answer) (at_j : slice_get ts j ≡ Some received)
      (stands-a : AssociationAt ts i sent.line.side (key_at network (header_in message).spi) a)
      (stands_b : AssociationAt ts j received.line.side (key_at (settings received.line.side).own (header_in message).spi) b)
      (alike : Alike a b) (profiles : vec_items (settings sent.line.side).profile ≡ vec_items (settings received.line.side).profile) where
    from : Stepped m t settings ts p q new run i sent
    from = stepped m t settings ts p q new run i sent at_i

    wrote : Wrote m t from.before network id mode cleartext message
    wrote = written m t law network id mode cleartext message sent.line.call sent.answer from.before from.after from.step w

    abbrev x : SecurityAssociation
    x = wrote.association

    stands_x : AssociationAt ts i sent.line.side (association_key x) x
    stands_x = stands_in_whole ts i sent.line.side (association_key x) x sent at_i (from.kept.held (association_key x) x wrote.held)

    x_fits : x.spi < 2 ^ 32
    x_fits = standing_fits i sent.line.side (association_key x) x stands_x

    -- the association that the message was written under is the one that stands under the network and the message's SPI
    x_is : x ≡ a
    x_is =
        let spi : (header_in message).spi ≡ x.spi = ap (λ (h : SecurityHeader). h.spi) (header_read m t law tag-law x x_fits id wrote.fields cleartext message mode wrote.is wrote.fields_fit) in
        let key : association_key x ≡ key_at network (header_in message).spi = λ n. record { destination = wrote.goes n; spi = sym spi n } in
        one_association ts i sent.line.side (key_at network (header_in message).spi) x a (subst (λ (k : AssociationKey). AssociationAt ts i sent.line.side k x) key stands_x) stands-a

    at_receiver : (c : Call) (answer : Answer) (before after : Post) → Kept received.line.side (settings received.line.side) (take j ts) before → Steps m t c answer before after → Receives message c → Arrives id mode cleartext answer
    at_receiver (Admit n stance) answer before after kept step r = absurd r
    at_receiver (Install reading y) answer before after kept step r = absurd r
    at_receiver (Revoke destination spi) answer before after kept step r = absurd r
    at_receiver (Protect reading n component octets room) answer before after kept step r = absurd r
    at_receiver (Receive reading n waiting octets room) answer before after kept step r =
        let side = received.line.side in
        let c : receive.Call = record { station = before.station; contents = before.contents; ciphers = m; tags = t; reading = reading; network = n; message = octets.now; output = replicate room 0 } in
        let alone : (y : SecurityAssociation) → receive.association_for c ≡ Some y → y ≡ b = λ y e.
        let key : key_at before.station.settings.own (header_in octets.now).spi ≡ key_at (settings side).own (header_in message).spi =
        ap (λ (s : Settings). key_at s.own (header_in octets.now).spi) kept.settings ∙ ap (λ xs. key_at (settings side).own (header_in xs).spi) r in
        one_association ts j side (key_at (settings side).own (header_in message).spi) y b
        (subst (λ (k : AssociationKey). AssociationAt ts j side k y) key (stands_in_whole ts j side _ y received at_j (kept.held _ y (found_under c y e).is)))
        stands_b in
        let near : Alike x b = subst (λ (y : SecurityAssociation). Alike y b) (sym x_is) alike in
        let modes : mode_in (vec_items before.station.settings.profile) b.ppi id ≡ mode =
        ap (λ (s : Settings). mode_in (vec_items s.profile) b.ppi id) kept.settings
        ∙ ap (λ lines. mode_in lines b.ppi id) (sym profiles)
        ∙ ap (λ (s : Settings). mode_in (vec_items s.profile) b.ppi id) (sym from.kept.settings)
        ∙ ap (λ ppi. mode_in (vec_items from.before.station.settings.profile) ppi id) near.ppi
        ∙ wrote.mode_is in
        let can : Readable c b id cleartext =
        readable c law tag-law x b x_fits near id wrote.fields cleartext mode (r ∙ wrote.is) wrote.octets wrote.short wrote.kind wrote.fields_fit modes in
        let mode_same : receive.mode_under c b ≡ mode = ap (mode_in (vec_items before.station.settings.profile) b.ppi) can.identifier ∙ modes in
        subst (λ (k : ProtectionMode). Arrives id k cleartext answer) mode_same
        (arrives c id cleartext b can alone after.station after.contents step.output step.result _ answer step.shown step.made)
    at_receiver (Plain reading component waiting octets) answer before after kept step r = absurd r

  pub written_read : WrittenIsRead settings ts
  written_read i j sent received network id mode cleartext message a b at_i w at_j r stands-a stands_b alike profiles =
      let to = stepped m t settings ts p q new run j received at_j in
      at_receiver i j sent received network id mode cleartext message a b at_i w at_j stands-a stands_b alike profiles received.line.call received.answer to.before to.after to.kept to.step r
