-- Cleartext into payload, and back.
use Rattle.std.proofs.Common.{◌≡◌, ℕ, List, length, refl}
use Rattle.octets.specs.Numbers.{Octets}
use Rattle.banks.specs.Ciphers.{Ciphers, Lawful}
use Rattle.keys.specs.Keys.{iv_of}
use Rattle.banks.specs.Laws.{ciphered_keeps, ciphered_octets, ciphered_back}
use Rattle.rules.specs.Layout.{iv_octets}
use Rattle.rules.specs.declared.message.IvFields.{IvFields}
use Rattle.rules.specs.declared.protection.ProtectionMode.{ProtectionMode}
use Rattle.rules.specs.declared.protection.ProtectionMode.TheVariants.{NoProtection, Integrity, Confidentiality}
use Rattle.station.specs.declared.records.SecurityAssociation.{SecurityAssociation}
use Rattle.station.specs.Seal.{turned}

module _ (m : Ciphers) (law : Lawful m) (a : SecurityAssociation) (f : IvFields) where
  pub turned_keeps : (mode : ProtectionMode) (xs : List ℕ) → length (turned m a f mode xs) ≡ length xs
  turned_keeps NoProtection xs = refl
  turned_keeps Integrity xs = refl
  turned_keeps Confidentiality xs = ciphered_keeps m law a.mea a.cipher_key (iv_of (iv_octets f)) xs

  pub turned_octets : (mode : ProtectionMode) (xs : List ℕ) → Octets xs → Octets (turned m a f mode xs)
  turned_octets NoProtection xs o = o
  turned_octets Integrity xs o = o
  turned_octets Confidentiality xs o = ciphered_octets m law a.mea a.cipher_key (iv_of (iv_octets f)) xs o

  pub turned_back : (mode : ProtectionMode) (xs : List ℕ) → Octets xs → turned m a f mode (turned m a f mode xs) ≡ xs
  turned_back NoProtection xs o = refl
  turned_back Integrity xs o = refl
  turned_back Confidentiality xs o = ciphered_back m law a.mea a.cipher_key (iv_of (iv_octets f)) xs o
