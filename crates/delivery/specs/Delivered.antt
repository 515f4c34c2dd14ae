-- What the delivered gateway sends: AES in counter mode and CBC-MAC themselves.
use Rattle.std.specs.Prelude.{◌≡◌, ℕ, true, false, List, ◌++◌, drop, is_ok, Result}
use Rattle.octets.specs.Numbers.{octets_of}
use Rattle.keys.specs.Keys.{iv_of}
use Rattle.banks.specs.Mea1.{mea1}
use Rattle.banks.specs.Mia1.{mia1}
use Rattle.rules.specs.Layout.{sealed_header, iv_octets}
use Rattle.rules.specs.Modes.{protects}
use Rattle.rules.specs.declared.message.IvFields.{IvFields}
use Rattle.rules.specs.declared.message.SecurityHeader.{SecurityHeader}
use Rattle.rules.specs.declared.protection.ProtectionMode.{ProtectionMode}
use Rattle.rules.specs.declared.protection.ProtectionMode.TheVariants.{NoProtection, Integrity, Confidentiality}
use Rattle.rules.specs.declared.refusal.Refusal.{Refusal}
use Rattle.station.specs.Forms.{is_plain}
use Rattle.station.specs.Protect.{Call, policy_for, the_association, mode_under, header_under, fields_at, needed_under}
use Rattle.station.specs.declared.protect.Sending.{Sending}
use Rattle.station.specs.declared.records.SecurityAssociation.{SecurityAssociation}

-- the payload: in mode 2 the cleartext under AES in counter mode, the IV the first counter block
abbrev pub aes_payload : SecurityAssociation → IvFields → ProtectionMode → List ℕ → List ℕ
aes_payload a f NoProtection xs = xs
aes_payload a f Integrity xs = xs
aes_payload a f Confidentiality xs = mea1 a.cipher_key (iv_of (iv_octets f)) xs

-- the message: header, payload, and the CBC-MAC of both
abbrev pub aes_message : SecurityAssociation → SecurityHeader → IvFields → ProtectionMode → List ℕ → List ℕ
aes_message a h f mode cleartext =
    let payload = aes_payload a f mode cleartext in
    sealed_header h f ++ (payload ++ octets_of 4 (mia1 a.integrity_key (sealed_header h f ++ payload)))

-- an accepted call that sends in mode 1 or 2 under MEA 1 and MIA 1 leaves this message at the front of the output
abbrev pub SentByAes : Call → List ℕ → Result Sending Refusal → Type 0
SentByAes c output r =
    is_ok r ≡ true → is_plain (policy_for c) ≡ false → protects (mode_under c (the_association c)) ≡ true
    → (the_association c).mea ≡ 1 → (the_association c).mia ≡ 1
    → output ≡ aes_message (the_association c) (header_under c (the_association c)) (fields_at c) (mode_under c (the_association c)) c.cleartext ++ drop (needed_under c (the_association c)) c.output
