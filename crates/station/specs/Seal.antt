-- The octets of protected messages, over any banks.
use Rattle.std.specs.Prelude.{ℕ, ◌+◌, cond, List, ◌++◌}
use Rattle.banks.specs.Ciphers.{Ciphers, ciphered}
use Rattle.keys.specs.Keys.{iv_of}
use Rattle.banks.specs.Tags.{Tags, tagged}
use Rattle.rules.specs.Layout.{sealed_header, iv_octets, open_message, sealed_message}
use Rattle.rules.specs.Modes.{protects}
use Rattle.rules.specs.declared.message.IvFields.{IvFields}
use Rattle.rules.specs.declared.message.SecurityHeader.{SecurityHeader}
use Rattle.rules.specs.declared.protection.ProtectionMode.{ProtectionMode}
use Rattle.rules.specs.declared.protection.ProtectionMode.TheVariants.{NoProtection, Integrity, Confidentiality}
use Rattle.station.specs.declared.records.SecurityAssociation.{SecurityAssociation}

-- the payload of a cleartext, and the cleartext of a payload: the cipher's in mode 2, else the octets themselves
abbrev pub turned : Ciphers → SecurityAssociation → IvFields → ProtectionMode → List ℕ → List ℕ
turned ciphers a f NoProtection xs = xs
turned ciphers a f Integrity xs = xs
turned ciphers a f Confidentiality xs = ciphered ciphers a.mea a.cipher_key (iv_of (iv_octets f)) xs

-- the tag of octets under an association
abbrev pub tag_under : Tags → SecurityAssociation → List ℕ → ℕ
tag_under tags a xs = tagged tags a.mia a.integrity_key xs

-- the message in modes 1 and 2: the tag is over the header and the payload
abbrev pub sealed_under : Ciphers → Tags → SecurityAssociation → SecurityHeader → IvFields → ProtectionMode → List ℕ → List ℕ
sealed_under ciphers tags a h f mode cleartext =
    let payload = turned ciphers a f mode cleartext in
    sealed_message h f payload (tag_under tags a (sealed_header h f ++ payload))

-- the message in any mode
abbrev pub message_under : Ciphers → Tags → SecurityAssociation → SecurityHeader → IvFields → ProtectionMode → List ℕ → List ℕ
message_under ciphers tags a h f mode cleartext = cond (protects mode) (sealed_under ciphers tags a h f mode cleartext) (open_message h cleartext)

-- how many octets it has
abbrev pub message_length : ProtectionMode → ℕ → ℕ
message_length mode n = cond (protects mode) 24 6 + n
