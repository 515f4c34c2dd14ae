-- What the delivered gateway builds, it reads.
use Rattle.std.specs.Prelude.{◌≡◌, ℕ, ◌+◌, true, false, List, length, take, is_ok, Result}
use Rattle.rules.specs.Layout.{header_in, fields_in, sealed_payload, HeaderFits}
use Rattle.rules.specs.Modes.{protects}
use Rattle.rules.specs.declared.message.IvFields.{IvFields}
use Rattle.rules.specs.declared.message.SecurityHeader.{SecurityHeader}
use Rattle.rules.specs.declared.protection.ProtectionMode.{ProtectionMode}
use Rattle.rules.specs.declared.refusal.Refusal.{Refusal}
use Rattle.station.specs.Forms.{is_plain}
use Rattle.station.specs.Protect.{Call, policy_for, the_association, mode_under, header_under, fields_at, needed_under}
use Rattle.station.specs.declared.protect.Sending.{Sending}
use Rattle.station.specs.declared.records.SecurityAssociation.{SecurityAssociation}
use Rattle.delivery.specs.Delivered.{aes_payload}
use Rattle.delivery.specs.Receiving.{EndsWithMac}

-- A message read under an association gives back the component, the header where its SPI fits four octets, the stamp, NE-Id and Prop;
-- its tag is right; and its payload, turned back, is the cleartext.
pub record ReadBack (a : SecurityAssociation) (h : SecurityHeader) (f : IvFields) (mode : ProtectionMode) (cleartext m : List ℕ) : Type 0 where
  pub component : (header_in m).component ≡ h.component
  pub header : HeaderFits h → header_in m ≡ h
  pub fields : fields_in m ≡ f
  pub tagged : EndsWithMac a m
  pub cleartext_is : aes_payload a (fields_in m) mode (sealed_payload m) ≡ cleartext
  pub long : length m ≡ 24 + length cleartext

-- said of an accepted call that sends in mode 1 or 2 under MEA 1 and MIA 1
abbrev pub WhereSealed : Call → Result Sending Refusal → Type 0 → Type 0
WhereSealed c r P =
    is_ok r ≡ true → is_plain (policy_for c) ≡ false → protects (mode_under c (the_association c)) ≡ true
    → (the_association c).mea ≡ 1 → (the_association c).mia ≡ 1 → P

-- the message that a call left at the front of the output is read so, under the association that it was sent under
abbrev pub SentIsRead : Call → List ℕ → Result Sending Refusal → Type 0
SentIsRead c output r =
    WhereSealed c r (ReadBack (the_association c) (header_under c (the_association c)) (fields_at c) (mode_under c (the_association c)) c.cleartext (take (needed_under c (the_association c)) output))
