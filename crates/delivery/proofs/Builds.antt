-- Messages built under MEA 1 and MIA 1, and read.
use Rattle.std.proofs.Common.{◌≡◌, ℕ, ◌+◌, ◌-◌, ◌%◌, ◌^◌, ◌<◌, Bool, true, false, cond, ◌&&◌, leb, List, [], ◌∷◌, ◌++◌, length, take, drop, is_ok, Some, None, Result, sym, refl, ap, ◌∙◌, subst, mod-lt, arith}
use Rattle.std.proofs.lemmas.List.{append_assoc, append_cancel_left, take-append-drop, take_at}
use Rattle.std.proofs.lemmas.Bool.{both_ways, leb-false}
use Rattle.octets.specs.Numbers.{Octets, octets_of}
use Rattle.octets.proofs.Widths.{length_octets, octets_octets, number_octets, octets_back}
use Rattle.banks.specs.Delivered.{delivered_ciphers, delivered_tags}
use Rattle.keys.specs.Keys.{iv_of}
use Rattle.banks.specs.Mia1.{mia1}
use Rattle.banks.specs.Stream.{mea1_involution}
use Rattle.rules.specs.Checks.{first, or_else, decided}
use Rattle.rules.specs.Layout.{open_header, iv_part, iv_octets, sealed_header, sealed_message, header_in, fields_in, sealed_payload, FieldsFit, SealedUndone}
use Rattle.rules.specs.Modes.{protects}
use Rattle.rules.specs.declared.message.IvFields.{IvFields}
use Rattle.rules.specs.declared.message.SecurityHeader.{SecurityHeader}
use Rattle.rules.specs.declared.protection.ProtectionMode.{ProtectionMode}
use Rattle.rules.specs.declared.protection.ProtectionMode.TheVariants.{NoProtection, Integrity, Confidentiality}
use Rattle.rules.specs.declared.refusal.Refusal.{Refusal}
use Rattle.rules.proofs.Layouts.{undone}
use Rattle.rules.proofs.Stages.{none_holds}
use Rattle.station.specs.Clock.{clock_checks}
use Rattle.station.specs.Forms.{form_checks, is_plain}
use Rattle.station.specs.Protect.{Call, policy_for, the_association, protected_at, mode_under, header_under, fields_at, needed_under, policy_checks, association_checks, room_under, sending_checks, checks, outcome, Protected}
use Rattle.station.specs.declared.protect.Sending.{Sending}
use Rattle.station.specs.declared.records.SecurityAssociation.{SecurityAssociation}
use Rattle.station.specs.declared.station.Station.{Station}
use Rattle.delivery.specs.Delivered.{aes_payload, aes_message}
use Rattle.delivery.specs.Reading.{ReadBack, SentIsRead}
use Rattle.delivery.proofs.Order.{both_none}
use Rattle.delivery.proofs.Sends.{sent_by_aes}
use Rattle.banks.specs.Chaining.{mia1_small}

-- a payload turned back is the cleartext, and as long
payload_back : (a : SecurityAssociation) (f : IvFields) (mode : ProtectionMode) (xs : List ℕ) → Octets xs → aes_payload a f mode (aes_payload a f mode xs) ≡ xs
payload_back a f NoProtection xs o = refl
payload_back a f Integrity xs o = refl
payload_back a f Confidentiality xs o = mea1_involution.back a.cipher_key (iv_of (iv_octets f)) xs o

payload_long : (a : SecurityAssociation) (f : IvFields) (mode : ProtectionMode) (xs : List ℕ) → length (aes_payload a f mode xs) ≡ length xs
payload_long a f NoProtection xs = refl
payload_long a f Integrity xs = refl
payload_long a f Confidentiality xs = mea1_involution.keeps a.cipher_key (iv_of (iv_octets f)) xs

-- a number and its lowest 32 bits have the same four octets
low_octets : (n : ℕ) → octets_of 4 (n % 2 ^ 32) ≡ octets_of 4 n
low_octets n = ap (octets_of 4) (sym (number_octets 4 n)) ∙ octets_back 4 (octets_of 4 n) (length_octets 4 n) (octets_octets 4 n)

module _ (a : SecurityAssociation) (h : SecurityHeader) (f : IvFields) (fit : FieldsFit f) (mode : ProtectionMode) (cleartext : List ℕ) (o : Octets cleartext) where
  abbrev payload : List ℕ
  payload = aes_payload a f mode cleartext

  abbrev tag : ℕ
  tag = mia1 a.integrity_key (sealed_header h f ++ payload)

  abbrev m : List ℕ
  m = aes_message a h f mode cleartext

  -- the header, its SPI cut to 32 bits
  abbrev low : SecurityHeader
  low = record { spi = h.spi % 2 ^ 32; component = h.component }

  same_header : open_header low ≡ open_header h
  unfolding open_header
  same_header = ap (λ xs. xs ++ (h.component.kind ∷ h.component.code ∷ [])) (low_octets h.spi)

  same : sealed_message low f payload tag ≡ m
  same = ap (λ xs. (xs ++ iv_part f) ++ (payload ++ octets_of 4 tag)) same_header

  back : SealedUndone low f payload tag
  back = undone.1 low f payload tag (record { spi = mod-lt h.spi (omega arith) }) fit (mia1_small a.integrity_key (sealed_header h f ++ payload))

  covered : take (length m - 4) m ≡ sealed_header h f ++ payload
  covered = ap (λ xs. take (length xs - 4) xs) (sym same) ∙ back.covered ∙ ap (λ xs. (xs ++ iv_part f) ++ payload) same_header

  end : drop (length m - 4) m ≡ octets_of 4 tag
  end =
      append_cancel_left (take (length m - 4) m) (drop (length m - 4) m) (octets_of 4 tag)
      (take-append-drop (length m - 4) m ∙ sym (append_assoc (sealed_header h f) payload (octets_of 4 tag)) ∙ ap (λ xs. xs ++ octets_of 4 tag) (sym covered))

  fields_back : fields_in m ≡ f
  fields_back = ap fields_in (sym same) ∙ back.fields

  pub built_long : length m ≡ 24 + length cleartext
  built_long = ap length (sym same) ∙ back.long ∙ ap (λ n. 24 + n) (payload_long a f mode cleartext)

  pub read_back : ReadBack a h f mode cleartext m
  read_back =
      record {
        component = ap (λ xs. (header_in xs).component) (sym same) ∙ ap (λ x. x.component) back.header;
        header = λ fits. (undone.1 h f payload tag fits fit (mia1_small a.integrity_key (sealed_header h f ++ payload))).header;
        fields = fields_back;
        tagged = end ∙ ap (λ xs. octets_of 4 (mia1 a.integrity_key xs)) (sym covered);
        cleartext_is = ap (λ x. aes_payload a x mode (sealed_payload m)) fields_back ∙ ap (aes_payload a f mode) (ap sealed_payload (sym same) ∙ back.payload_is) ∙ payload_back a f mode cleartext o;
        long = built_long;
      }

-- THE CALL

-- where something is handed out, nothing was refused
all_none : {V R : Type 0} (cs : List (Bool × R)) (v : V) → is_ok (decided cs v) ≡ true → first cs ≡ None
all_none cs v ok =
    elim (first cs) as (λ o. is_ok (or_else o v) ≡ true → o ≡ None) [
      | Some r ↦ λ e. absurd (both_ways false refl e)
      | None ↦ λ e. refl
    ] ok

module _ (c : Call) (station : Station) (output : List ℕ) (r : Result Sending Refusal) (p : Protected c station output r) where
  abbrev A : SecurityAssociation
  A = the_association c

  -- a call that seals finds fewer than 200 sealed at its reading
  few : is_ok r ≡ true → is_plain (policy_for c) ≡ false → protects (mode_under c A) ≡ true → protected_at c.reading c.station < 200
  few ok secured sealed =
      let pass = all_none (checks c) (outcome c) (ap is_ok (sym p.answer) ∙ ok) in
      let timely = (both_none (clock_checks c.station.latest c.reading) (form_checks c.component (length c.cleartext) ++ (policy_checks c ++ sending_checks c)) pass).1 in
      let formed = (both_none (form_checks c.component (length c.cleartext)) (policy_checks c ++ sending_checks c) timely).1 in
      let sends = (both_none (policy_checks c) (sending_checks c) formed).1 in
      let chosen = sym (ap (λ b. first (cond b [] (association_checks c ++ room_under c A))) secured) ∙ sends in
      let room = none_holds (room_under c A) (both_none (association_checks c) (room_under c A) chosen).1 in
      leb-false _ _ (ap (λ b. b && leb 200 (protected_at c.reading c.station)) (sym sealed) ∙ room.1.0)

  fields_fit : protected_at c.reading c.station < 200 → FieldsFit (fields_at c)
  fields_fit n = record { tvp = mod-lt c.reading (omega arith); ne_id = c.station.settings.ne_id_fits; prop = omega arith }

  pub sent_is_read : c.ciphers ≡ delivered_ciphers → c.tags ≡ delivered_tags → Octets c.cleartext → SentIsRead c output r
  sent_is_read ciphers tags o ok secured sealed mea mia =
      let fit = fields_fit (few ok secured sealed) in
      let h = header_under c A in
      let mode = mode_under c A in
      let size : length (aes_message A h (fields_at c) mode c.cleartext) ≡ needed_under c A =
      built_long A h (fields_at c) fit mode c.cleartext o ∙ sym (ap (λ b. cond b 24 6 + length c.cleartext) sealed) in
      let front : take (needed_under c A) output ≡ aes_message A h (fields_at c) mode c.cleartext =
      ap (take (needed_under c A)) (sent_by_aes c station output r ciphers tags p ok secured sealed mea mia) ∙ take_at _ _ (needed_under c A) size in
      subst (ReadBack A h (fields_at c) mode c.cleartext) (sym front) (read_back A h (fields_at c) fit mode c.cleartext o)
