-- What the delivered gateway makes of a message: the CBC-MAC decides about its tag, and AES in counter mode gives the cleartext.
use Rattle.std.specs.Prelude.{◌≡◌, ℕ, ◌-◌, Bool, true, not, ◌||◌, List, [], ◌∷◌, ◌++◌, length, take, drop, is_ok, None, Err, Result, ◌==◌}
use Rattle.octets.specs.Numbers.{octets_of}
use Rattle.banks.specs.Mia1.{mia1}
use Rattle.rules.specs.Checks.{first}
use Rattle.rules.specs.Layout.{fields_in, sealed_payload}
use Rattle.rules.specs.Modes.{protects}
use Rattle.rules.specs.Window.{in_window}
use Rattle.rules.specs.declared.refusal.Refusal.{Refusal}
use Rattle.rules.specs.declared.refusal.Refusal.TheVariants.{OutsideWindow, TagDiffers}
use Rattle.station.specs.Clock.{clock_checks}
use Rattle.station.specs.Receive.{Call, entrance_checks, shape_checks, mode_under, the_association}
use Rattle.station.specs.Slips.{refusal_number}
use Rattle.station.specs.declared.receive.Handed.{Handed}
use Rattle.station.specs.declared.records.SecurityAssociation.{SecurityAssociation}
use Rattle.delivery.specs.Delivered.{aes_payload}

-- the last four octets of a message are the CBC-MAC of all octets before them
abbrev pub EndsWithMac : SecurityAssociation → List ℕ → Type 0
EndsWithMac a m = drop (length m - 4) m ≡ octets_of 4 (mia1 a.integrity_key (take (length m - 4) m))

-- the stamp of a message has to be in the window
abbrev pub window_checks : Call → List (Bool × Refusal)
window_checks c = (not (in_window c.station.settings.back c.station.settings.ahead c.reading (fields_in c.message).tvp), OutsideWindow) ∷ []

-- the checks of a sealed message that come before the tag's
abbrev pub before_tag : Call → List (Bool × Refusal)
before_tag c =
    clock_checks c.station.latest c.reading
    ++ (entrance_checks c.station.settings c.contents c.reading c.network c.message
    ++ (shape_checks c.message ++ window_checks c))

-- answers that come only where the tag is right: an outcome, which has the number 0, and refusals 43, 44 and 51
abbrev pub past_tag : Result Handed Refusal → Bool
past_tag r = refusal_number r == 0 || (refusal_number r == 43 || (refusal_number r == 44 || refusal_number r == 51))

-- The tag decides: 42 is the answer exactly where the checks before pass and the tag is wrong, and what comes behind needs a right one.
pub record TagDecides (c : Call) (a : SecurityAssociation) (r : Result Handed Refusal) : Type 0 where
  pub refuses : first (before_tag c) ≡ None → (EndsWithMac a c.message → ⊥) → r ≡ Err (TagDiffers (length c.message - 4))
  pub refused : (place : ℕ) → r ≡ Err (TagDiffers place) → (place ≡ length c.message - 4) × (first (before_tag c) ≡ None) × (EndsWithMac a c.message → ⊥)
  pub past : past_tag r ≡ true → EndsWithMac a c.message

-- so it does in modes 1 and 2 under MIA 1
abbrev pub TagByAes : Call → Result Handed Refusal → Type 0
TagByAes c r = protects (mode_under c (the_association c)) ≡ true → (the_association c).mia ≡ 1 → TagDecides c (the_association c) r

-- A message handed on in mode 1 or 2 under MEA 1 leaves its cleartext at the front of the output, and behind it what was there:
-- the payload in mode 1, and in mode 2 the payload under AES in counter mode, from the IV of the message's own fields.
abbrev pub OpenedByAes : Call → List ℕ → Result Handed Refusal → Type 0
OpenedByAes c output r =
    is_ok r ≡ true → protects (mode_under c (the_association c)) ≡ true → (the_association c).mea ≡ 1
    → output ≡ aes_payload (the_association c) (fields_in c.message) (mode_under c (the_association c)) (sealed_payload c.message) ++ drop (length c.message - 24) c.output
