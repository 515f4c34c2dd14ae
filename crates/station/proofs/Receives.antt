-- The checks of receive, stage by stage.
use Rattle.std.proofs.Common.{◌≡◌, ℕ, ◌-◌, ◌<◌, ◌≤◌, Bool, true, false, cond, ltb, List, [], ◌∷◌, ◌++◌, length, take, drop, is_ok, is_err, Some, Ok, Err, vec_items, Result, sym, refl, ap, ◌∙◌, subst, ⊎_elim, arith}
use Rattle.std.proofs.lemmas.List.{take_at, drop_at, take_rest, length-drop, length-take-le}
use Rattle.std.proofs.lemmas.Bool.{ltb-false, leb-false, le-ltb, lt-ltb, or_parts, cases_Bool, cond-true, cond-false, both_ways}
use Rattle.rules.specs.Checks.{first, or_else, decided}
use Rattle.rules.specs.Layout.{part, header_in, fields_in, open_payload, sealed_payload, tag_in, OpenParts, SealedParts, Reads, ReadsAs}
use Rattle.rules.specs.Modes.{protects}
use Rattle.rules.specs.Profiles.{mode_in}
use Rattle.rules.specs.Window.{last_tick}
use Rattle.rules.specs.declared.message.IvFields.{IvFields}
use Rattle.rules.specs.declared.message.Message.TheVariants.{Open, Sealed}
use Rattle.rules.specs.declared.message.OpenMessage.{OpenMessage}
use Rattle.rules.specs.declared.message.SealedMessage.{SealedMessage}
use Rattle.rules.specs.declared.message.SecurityHeader.{SecurityHeader}
use Rattle.rules.specs.declared.protection.ProtectionMode.{ProtectionMode}
use Rattle.rules.specs.declared.settings.Settings.{Settings}
use Rattle.rules.specs.declared.refusal.Refusal.{Refusal}
use Rattle.rules.specs.declared.refusal.Refusal.TheVariants.{MessageTooShort, CleartextTooLong}
use Rattle.rules.proofs.Stages.{stops, passes, gives, passed, retold, accepts}
use Rattle.station.specs.declared.receive.Handed.{Handed}
use Rattle.station.specs.declared.records.HeardKey.{HeardKey}
use Rattle.station.specs.declared.records.SecurityAssociation.{SecurityAssociation}
use Rattle.station.specs.Clock.{clock_checks, read_at}
use Rattle.station.specs.declared.station.Station.{Station}
use Rattle.station.specs.Receive.{HandOver, payload_of, fresh_checks, room_checks, hand_over_checks, Over, HandsOver, Call, heard_key, key_for, entrance_checks, open_checks, covered_in, mode_under, sealed_checks, unsealed_checks, body_checks, the_association, checks, cleartext_under, size_under, handed_under, Received}
use Rattle.station.specs.Seal.{turned}
use Rattle.station.specs.States.{Contents, HeardAdded, RoomForHeard}
use Rattle.station.proofs.Installs.{done, none_of, not_both}

-- THE HAND-OVER OF A SEALED MESSAGE

module _ (h : HandOver) where
  abbrev long : List (Bool × Refusal)
  long = (ltb 1024 (length (payload_of h)), CleartextTooLong 20) ∷ []

  abbrev fresh : List (Bool × Refusal)
  fresh = fresh_checks h.station.settings h.tags h.contents.heard h.reading h.key h.association (h.message.header.octets.now ++ payload_of h) h.message.claimed h.message.tag.place

  abbrev room : List (Bool × Refusal)
  room = room_checks h.contents.heard h.reading (length (payload_of h)) (length h.output)

  abbrev last : ℕ
  last = last_tick h.station.settings.back h.reading h.key.tvp

  refuses : (answer : Result Handed Refusal) (r : Refusal) → answer ≡ Err r → Err r ≡ decided (hand_over_checks h) h.handed → HandsOver h h.station h.contents h.output answer
  refuses answer r is e = record { answer = is ∙ e; refused = λ _. (refl, refl, refl); accepted = not_both answer r is }

  module _ (short : length (payload_of h) ≤ 1024) where
    -- the payload is not too long
    from_fresh : decided (long ++ (fresh ++ room)) h.handed ≡ decided (fresh ++ room) h.handed
    from_fresh = ap (λ b. or_else (cond b (Some (CleartextTooLong 20)) (first (fresh ++ room))) h.handed) (le-ltb 1024 (length (payload_of h)) short)

    pub refuses_fresh : (answer : Result Handed Refusal) (r : Refusal) → answer ≡ Err r → Err r ≡ decided fresh last → HandsOver h h.station h.contents h.output answer
    refuses_fresh answer r is e = refuses answer r is (stops fresh room last h.handed r e ∙ sym from_fresh)

    module _ (tick : ℕ) (young : Ok tick ≡ decided fresh last) where
      from_room : decided (long ++ (fresh ++ room)) h.handed ≡ decided room h.handed
      from_room = from_fresh ∙ passes fresh room tick last h.handed young

      pub tick_is : tick ≡ last
      tick_is = gives fresh tick last young

      pub refuses_room : (answer : Result Handed Refusal) (r : Refusal) → answer ≡ Err r → Err r ≡ decided room done → HandsOver h h.station h.contents h.output answer
      refuses_room answer r is e = refuses answer r is (retold room done h.handed r e ∙ sym from_room)

      module _ (wide : Ok done ≡ decided room done) where
        pub fits : length (payload_of h) ≤ length h.output
        fits = ltb-false _ _ (passed room done done wide).0

        pub place : RoomForHeard (record { key = h.key; last = tick }) h.reading h.contents.heard
        place = record { key_free = none_of _ (passed fresh tick last young).1.1.0; place_free = leb-false _ _ (passed room done done wide).1.0 }

        pub hands : (station : Station) (after : Contents) (output : List ℕ) → Over h station after output → HandsOver h station after output (Ok h.handed)
        hands station after output o =
            record {
              answer = accepts room done done h.handed wide ∙ sym from_room;
              refused = λ e. absurd (let z : ◌≡◌ {A = ℕ} 0 1 = cc in omega arith);
              accepted = λ _. o;
            }

-- a payload copied to the front of the output, and turned there
pub front_turned : (F : List ℕ → List ℕ) (k n : ℕ) (payload copied turned output : List ℕ) → copied ≡ payload → turned ≡ F (take k (copied ++ drop k output)) → k ≡ n → length payload ≡ n → turned ++ drop k (copied ++ drop k output) ≡ F payload ++ drop n output
front_turned F k n payload copied turned output c t k-is size =
    let long : length copied ≡ k = ap length c ∙ size ∙ sym k-is in
    let front : take k (copied ++ drop k output) ≡ copied = take_at copied (drop k output) k long in
    let rest : drop k (copied ++ drop k output) ≡ drop k output = drop_at copied (drop k output) k long in
    let ran : turned ≡ F payload = t ∙ ap F (front ∙ c) in
    cc

-- WHAT READING TELLS

reads_short : (xs : List ℕ) (b : Bool) (e : Refusal) → ReadsAs xs b (Err e) → (e ≡ MessageTooShort (length xs)) × (length xs < cond b 24 6)
reads_short xs true e p = (p.1, p.0)
reads_short xs false e p = (p.1, p.0)

reads_open : (xs : List ℕ) (b : Bool) (m : OpenMessage) → ReadsAs xs b (Ok (Open m)) → (b ≡ false) × OpenParts xs m
reads_open xs true m p = absurd p
reads_open xs false m p = (refl, p.1)

reads_sealed : (xs : List ℕ) (b : Bool) (m : SealedMessage) → ReadsAs xs b (Ok (Sealed m)) → (b ≡ true) × (24 ≤ length xs) × SealedParts xs m
reads_sealed xs true m p = (refl, p.0, p.1)
reads_sealed xs false m p = absurd p

-- THE CALL

abbrev Entry : Type 0
Entry = SecurityHeader × SecurityAssociation

module _ (c : Call) where
  abbrev m : List ℕ
  m = c.message

  abbrev s : Settings
  s = c.station.settings

  abbrev clock : List (Bool × Refusal)
  clock = clock_checks c.station.latest c.reading

  abbrev entrance : List (Bool × Refusal)
  entrance = entrance_checks s c.contents c.reading c.network m

  -- the association, where there is one
  abbrev A : SecurityAssociation
  A = the_association c

  -- what the entrance answers: the header and the association
  abbrev entry : Entry
  entry = (header_in m, A)

  turns_away : (answer : Result Handed Refusal) (r : Refusal) → answer ≡ Err r → Err r ≡ decided (checks c) (handed_under c A) → Received c c.station c.contents c.output answer
  turns_away answer r is e = record { answer = is ∙ e; refused = λ _. (refl, refl, refl); accepted = not_both answer r is }

  pub away_at_clock : (answer : Result Handed Refusal) (r : Refusal) → answer ≡ Err r → Err r ≡ decided clock done → Received c c.station c.contents c.output answer
  away_at_clock answer r is e = turns_away answer r is (stops clock (entrance ++ body_checks c A) done (handed_under c A) r e)

  module _ (read : Ok done ≡ decided clock done) where
    pub in_time : c.reading < 281474976710656
    in_time = leb-false _ _ (or_parts _ _ (passed clock done done read).0).0

    pub away_at_entrance : (answer : Result Handed Refusal) (r : Refusal) → answer ≡ Err r → Err r ≡ decided entrance entry → Received c c.station c.contents c.output answer
    away_at_entrance answer r is e =
        turns_away answer r is (stops entrance (body_checks c A) entry (handed_under c A) r e ∙ sym (passes clock (entrance ++ body_checks c A) done done (handed_under c A) read))

    module _ (got : Entry) (entered : Ok got ≡ decided entrance entry) (mode : ProtectionMode) (mode_is : mode ≡ mode_in (vec_items s.profile) got.1.ppi got.0.component) where
      both : got ≡ entry
      both = gives entrance got entry entered

      h_is : got.0 ≡ header_in m
      h_is = ap (λ (p : Entry). p.0) both

      a_is : got.1 ≡ A
      a_is = ap (λ (p : Entry). p.1) both

      modes : mode ≡ mode_under c A
      modes = mode_is ∙ ap (λ (p : Entry). mode_in (vec_items s.profile) p.1.ppi p.0.component) both

      guards : protects mode ≡ protects (mode_under c A)
      guards = ap protects modes

      at_body : decided (checks c) (handed_under c A) ≡ decided (body_checks c A) (handed_under c A)
      at_body = passes clock (entrance ++ body_checks c A) done done (handed_under c A) read ∙ passes entrance (body_checks c A) got entry (handed_under c A) entered

      pub away_at_shape : (answer : Result Handed Refusal) (r : Refusal) → answer ≡ Err r → Reads m mode (Err r) → Received c c.station c.contents c.output answer
      away_at_shape answer r is p =
          let six = ltb-false _ _ (passed entrance got entry entered).0 in
          let told = reads_short m (protects mode) r p in
          ⊎_elim
          (λ t. let short : ltb (length m) 24 ≡ true = lt-ltb (length m) 24 (subst (λ b. length m < cond b 24 6) t told.1) in
          let first_of : decided (sealed_checks c A) (handed_under c A) ≡ Err (MessageTooShort (length m)) = ap (λ b. or_else (cond b (Some (MessageTooShort (length m))) (first (drop 1 (sealed_checks c A)))) (handed_under c A)) short in
          turns_away answer r is (sym (at_body ∙ ap (λ b. decided (cond b (sealed_checks c A) (unsealed_checks c)) (handed_under c A)) (sym guards ∙ t) ∙ first_of ∙ ap Err (sym told.0))))
          (λ t. absurd (let short : length m < 6 = subst (λ b. length m < cond b 24 6) t told.1 in omega arith))
          (cases_Bool (protects mode))

      pub hands_open : (o : OpenMessage) → Reads m mode (Ok (Open o)) → (station : Station) (output : List ℕ) (r : Result Handed Refusal)
          → r ≡ decided (open_checks s got.0.component o.payload.octets.now (length c.output)) (record { component = got.0.component; mode = mode; «length» = length o.payload.octets.now })
          → (is_err r ≡ true → (station ≡ c.station) × (output ≡ c.output))
          → (is_ok r ≡ true → (station ≡ read_at c.reading c.station) × (output ≡ o.payload.octets.now ++ drop (length o.payload.octets.now) c.output))
          → Received c station c.contents output r
      hands_open o p station output r answer refused accepted =
          let told = reads_open m (protects mode) o p in
          let plain : protects (mode_under c A) ≡ false = sym guards ∙ told.0 in
          let payload : o.payload.octets.now ≡ open_payload m = told.1.payload.octets_are ∙ take_rest m 6 in
          let size : length (open_payload m) ≡ length m - 6 = length-drop 6 m in
          let sizes : size_under c A ≡ length m - 6 = ap (λ b. length m - cond b 24 6) plain in
          let clear : cleartext_under c A ≡ open_payload m = cond-false _ _ _ plain in
          let same_body : decided (body_checks c A) (handed_under c A) ≡ decided (unsealed_checks c) (handed_under c A) = ap (λ b. decided (cond b (sealed_checks c A) (unsealed_checks c)) (handed_under c A)) plain in
          let outcome : record { component = got.0.component; mode = mode; «length» = length o.payload.octets.now } ≡ handed_under c A =
          ap (λ x. record { component = x; mode = mode; «length» = length o.payload.octets.now }) (ap (λ x. x.component) h_is)
          ∙ ap (λ x. record { component = (header_in m).component; mode = x; «length» = length o.payload.octets.now }) modes
          ∙ ap (λ x. record { component = (header_in m).component; mode = mode_under c A; «length» = x }) (ap length payload ∙ size ∙ sym sizes) in
          record {
            answer = answer ∙ ap (λ x. decided (open_checks s x.component o.payload.octets.now (length c.output)) (record { component = got.0.component; mode = mode; «length» = length o.payload.octets.now })) h_is
                ∙ ap (λ x. decided (open_checks s (header_in m).component x (length c.output)) (record { component = got.0.component; mode = mode; «length» = length o.payload.octets.now })) payload
                ∙ ap (decided (unsealed_checks c)) outcome ∙ sym (at_body ∙ same_body);
            refused = λ e. ((refused e).0, refl, (refused e).1);
            accepted = λ e. record {
              station_is = (accepted e).0;
              output_is = (accepted e).1 ∙ ap (λ x. x ++ drop (length x) c.output) payload ∙ ap (λ n. open_payload m ++ drop n c.output) (size ∙ sym sizes) ∙ ap (λ x. x ++ drop (size_under c A) c.output) (sym clear);
              policies = refl;
              associations = refl;
              remembered = λ t. absurd (both_ways _ plain t);
              nothing_remembered = λ _. refl;
            };
          }

      -- the hand-over that the code makes
      abbrev over : SealedMessage → HeardKey → HandOver
      over z key = record { station = c.station; contents = c.contents; ciphers = c.ciphers; tags = c.tags; reading = c.reading; key = key; association = got.1; handed = record { component = got.0.component; mode = mode; «length» = length z.payload.octets.now }; message = z; output = c.output }

      pub hands_sealed : (z : SealedMessage) → Reads m mode (Ok (Sealed z)) → (key : HeardKey) → key ≡ heard_key c.network got.0.spi z.fields → (station : Station) (after : Contents) (output : List ℕ) (r : Result Handed Refusal) → HandsOver (over z key) station after output r → Received c station after output r
      hands_sealed z p key key-is station after output r o =
          let told = reads_sealed m (protects mode) z p in
          let parts = told.2 in
          let sealed : protects (mode_under c A) ≡ true = sym guards ∙ told.0 in
          let payload : z.payload.octets.now ≡ sealed_payload m = parts.payload.octets_are in
          let header : z.header.octets.now ≡ part 0 20 m = parts.header.octets_are in
          let size : length z.payload.octets.now ≡ length m - 24 = ap length payload ∙ length-take-le (length m - 24) (drop 20 m) (simp length-drop (omega (arith, told.1))) in
          let sizes : size_under c A ≡ length m - 24 = ap (λ b. length m - cond b 24 6) sealed in
          let keys : key ≡ key_for c = key-is ∙ ap (λ x. heard_key c.network x.spi z.fields) h_is ∙ ap (heard_key c.network (header_in m).spi) parts.fields in
          -- the checks and the outcome over the pieces that the code has, and over the message
          let over_pieces : HeardKey → SecurityAssociation → List ℕ → ℕ → ℕ → ℕ → Handed → Result Handed Refusal =
          λ k a covered claimed place n handed. decided (((ltb 1024 n, CleartextTooLong 20) ∷ []) ++ (fresh_checks s c.tags c.contents.heard c.reading k a covered claimed place ++ room_checks c.contents.heard c.reading n (length c.output))) handed in
          let handed : record { component = got.0.component; mode = mode; «length» = length z.payload.octets.now } ≡ handed_under c A =
          ap (λ x. record { component = x.component; mode = mode; «length» = length z.payload.octets.now }) h_is
          ∙ ap (λ x. record { component = (header_in m).component; mode = x; «length» = length z.payload.octets.now }) modes
          ∙ ap (λ x. record { component = (header_in m).component; mode = mode_under c A; «length» = x }) (size ∙ sym sizes) in
          let covered : z.header.octets.now ++ z.payload.octets.now ≡ covered_in m = ap (λ x. x ++ z.payload.octets.now) header ∙ ap (λ x. part 0 20 m ++ x) payload in
          let pieces : decided (hand_over_checks (over z key)) (over z key).handed ≡ over_pieces (key_for c) A (covered_in m) (tag_in m) (length m - 4) (length m - 24) (handed_under c A) =
          ap (λ x. over_pieces x got.1 (z.header.octets.now ++ z.payload.octets.now) z.claimed z.tag.place (length z.payload.octets.now) (over z key).handed) keys
          ∙ ap (λ x. over_pieces (key_for c) x (z.header.octets.now ++ z.payload.octets.now) z.claimed z.tag.place (length z.payload.octets.now) (over z key).handed) a_is
          ∙ ap (λ x. over_pieces (key_for c) A x z.claimed z.tag.place (length z.payload.octets.now) (over z key).handed) covered
          ∙ ap (λ x. over_pieces (key_for c) A (covered_in m) x z.tag.place (length z.payload.octets.now) (over z key).handed) parts.claimed
          ∙ ap (λ x. over_pieces (key_for c) A (covered_in m) (tag_in m) x (length z.payload.octets.now) (over z key).handed) parts.tag.place_is
          ∙ ap (λ x. over_pieces (key_for c) A (covered_in m) (tag_in m) (length m - 4) x (over z key).handed) size
          ∙ ap (over_pieces (key_for c) A (covered_in m) (tag_in m) (length m - 4) (length m - 24)) handed in
          let long_enough : ltb (length m) 24 ≡ false = le-ltb (length m) 24 told.1 in
          let whole : decided (checks c) (handed_under c A) ≡ over_pieces (key_for c) A (covered_in m) (tag_in m) (length m - 4) (length m - 24) (handed_under c A) =
          at_body ∙ ap (λ b. decided (cond b (sealed_checks c A) (unsealed_checks c)) (handed_under c A)) sealed
          ∙ ap (λ b. or_else (cond b (Some (MessageTooShort (length m))) (first (drop 1 (sealed_checks c A)))) (handed_under c A)) long_enough in
          let F : SecurityAssociation → IvFields → ProtectionMode → List ℕ → List ℕ = turned c.ciphers in
          let clear : F got.1 z.fields mode z.payload.octets.now ≡ cleartext_under c A =
          ap (λ x. F x z.fields mode z.payload.octets.now) a_is
          ∙ ap (λ x. F A x mode z.payload.octets.now) parts.fields
          ∙ ap (λ x. F A (fields_in m) x z.payload.octets.now) modes
          ∙ ap (F A (fields_in m) (mode_under c A)) payload
          ∙ sym (cond-true _ _ _ sealed) in
          record {
            answer = o.answer ∙ pieces ∙ sym whole;
            refused = o.refused;
            accepted = λ e.
                let done-over = o.accepted e in
                record {
                  station_is = done-over.station_is;
                  output_is = done-over.output_is ∙ ap (λ x. x ++ drop (length z.payload.octets.now) c.output) clear ∙ ap (λ n. cleartext_under c A ++ drop n c.output) (size ∙ sym sizes);
                  policies = done-over.policies;
                  associations = done-over.associations;
                  remembered = λ _. subst (λ k. HeardAdded (record { key = k; last = last_tick s.back c.reading k.tvp }) c.reading c.contents.heard after.heard) keys done-over.remembered;
                  nothing_remembered = λ t. absurd (both_ways _ t sealed);
                };
          }
