-- What the delivered gateway sends under MEA 1 and MIA 1.
use Rattle.std.proofs.Common.{◌≡◌, ℕ, List, ◌++◌, drop, Result, refl, ap, ◌∙◌}
use Rattle.std.proofs.lemmas.Bool.{cond-true, cond-false}
use Rattle.banks.specs.Ciphers.{Ciphers, applied}
use Rattle.banks.specs.Delivered.{delivered_ciphers, delivered_tags}
use Rattle.keys.specs.Keys.{iv_of}
use Rattle.banks.specs.Tags.{Tags, tag_of}
use Rattle.rules.specs.Layout.{sealed_header, sealed_message, iv_octets}
use Rattle.rules.specs.declared.message.IvFields.{IvFields}
use Rattle.rules.specs.declared.protection.ProtectionMode.{ProtectionMode}
use Rattle.rules.specs.declared.protection.ProtectionMode.TheVariants.{NoProtection, Integrity, Confidentiality}
use Rattle.rules.specs.declared.refusal.Refusal.{Refusal}
use Rattle.station.specs.Protect.{Call, the_association, mode_under, header_under, fields_at, needed_under, Protected}
use Rattle.station.specs.Seal.{turned, tag_under, sealed_under}
use Rattle.station.specs.declared.protect.Sending.{Sending}
use Rattle.station.specs.declared.records.SecurityAssociation.{SecurityAssociation}
use Rattle.station.specs.declared.station.Station.{Station}
use Rattle.delivery.specs.Delivered.{aes_payload, aes_message, SentByAes}

-- number 1 is MEA-1
pub payload_is : (a : SecurityAssociation) (f : IvFields) (mode : ProtectionMode) (xs : List ℕ) → a.mea ≡ 1 → turned delivered_ciphers a f mode xs ≡ aes_payload a f mode xs
payload_is a f NoProtection xs e = refl
payload_is a f Integrity xs e = refl
payload_is a f Confidentiality xs e = ap (λ n. applied (delivered_ciphers n) a.cipher_key (iv_of (iv_octets f)) xs) e

-- and MIA-1
message_is : (c : Call) (a : SecurityAssociation) → a.mea ≡ 1 → a.mia ≡ 1
    → sealed_under delivered_ciphers delivered_tags a (header_under c a) (fields_at c) (mode_under c a) c.cleartext ≡ aes_message a (header_under c a) (fields_at c) (mode_under c a) c.cleartext
message_is c a mea mia =
    let h = header_under c a in
    let f = fields_at c in
    ap (λ payload. sealed_message h f payload (tag_under delivered_tags a (sealed_header h f ++ payload))) (payload_is a f (mode_under c a) c.cleartext mea)
    ∙ ap (λ n. sealed_message h f (aes_payload a f (mode_under c a) c.cleartext) (tag_of (delivered_tags n) a.integrity_key (sealed_header h f ++ aes_payload a f (mode_under c a) c.cleartext))) mia

pub sent_by_aes : (c : Call) (station : Station) (output : List ℕ) (r : Result Sending Refusal) → c.ciphers ≡ delivered_ciphers → c.tags ≡ delivered_tags → Protected c station output r → SentByAes c output r
sent_by_aes c station output r ciphers tags p ok secured sealed mea mia =
    let a = the_association c in
    (p.accepted ok).1 ∙ cond-false _ _ _ secured
    ∙ ap (λ x. x ++ drop (needed_under c a) c.output) (cond-true _ _ _ sealed
    ∙ ap (λ (m : Ciphers). sealed_under m c.tags a (header_under c a) (fields_at c) (mode_under c a) c.cleartext) ciphers
    ∙ ap (λ (t : Tags). sealed_under delivered_ciphers t a (header_under c a) (fields_at c) (mode_under c a) c.cleartext) tags
    ∙ message_is c a mea mia)
