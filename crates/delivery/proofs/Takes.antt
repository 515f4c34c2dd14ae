-- What the delivered gateway makes of a message under MEA 1 and MIA 1.
use Rattle.std.proofs.Common.{◌≡◌, ℕ, ◌-◌, ◌≤◌, Bool, true, cond, not, eqb, List, [], ◌∷◌, ◌++◌, length, drop, is_some, None, Err, Result, sym, refl, ap, ◌∙◌}
use Rattle.std.proofs.lemmas.Bool.{cond-true, ltb-false, not-true, not-false, not_from_false}
use Rattle.octets.specs.Numbers.{Octets}
use Rattle.banks.specs.Ciphers.{Ciphers}
use Rattle.banks.specs.Delivered.{delivered_ciphers, delivered_tags}
use Rattle.banks.specs.Tags.{Tags}
use Rattle.rules.specs.Checks.{first, decided}
use Rattle.rules.specs.Layout.{fields_in, sealed_payload, tag_in}
use Rattle.rules.specs.Modes.{protects}
use Rattle.rules.specs.declared.refusal.Refusal.{Refusal}
use Rattle.rules.specs.declared.refusal.Refusal.TheVariants.{TagDiffers, HeardBefore}
use Rattle.rules.proofs.Stages.{none_holds}
use Rattle.station.specs.Clock.{clock_checks}
use Rattle.station.specs.Receive.{Call, entrance_checks, shape_checks, room_checks, sealed_checks, unsealed_checks, key_for, covered_in, mode_under, cleartext_under, the_association, handed_under, Received}
use Rattle.station.specs.Seal.{turned, tag_under}
use Rattle.station.specs.Slips.{refusal_number}
use Rattle.station.specs.States.{Contents, fresh_under}
use Rattle.station.specs.declared.receive.Handed.{Handed}
use Rattle.station.specs.declared.records.SecurityAssociation.{SecurityAssociation}
use Rattle.station.specs.declared.station.Station.{Station}
use Rattle.delivery.specs.Receiving.{window_checks, before_tag, past_tag, TagByAes, OpenedByAes}
use Rattle.delivery.proofs.Order.{both_none, past_first, at_check, only_check}
use Rattle.delivery.proofs.Sends.{payload_is}
use Rattle.delivery.proofs.Tagged.{right, wrong, unlike}

module _ (c : Call) where
  abbrev m : List ℕ
  m = c.message

  abbrev A : SecurityAssociation
  A = the_association c

  -- the tag's check, and those behind it
  abbrev differs : Tags → Bool
  differs t = not (eqb (tag_under t A (covered_in m)) (tag_in m))

  abbrev tag_refusal : Refusal
  tag_refusal = TagDiffers (length m - 4)

  abbrev behind : List (Bool × Refusal)
  behind = (is_some (fresh_under c.reading (key_for c) c.contents.heard), HeardBefore) ∷ room_checks c.contents.heard c.reading (length m - 24) (length c.output)

  -- refusal 42
  abbrev is_42 : Result Handed Refusal → Bool
  is_42 r = eqb (refusal_number r) 42

  -- a message that passed the checks before the tag's is long enough for one
  long_enough : first (before_tag c) ≡ None → 24 ≤ length m
  long_enough pass =
      let entered = (both_none (clock_checks c.station.latest c.reading) (entrance_checks c.station.settings c.contents c.reading c.network m ++ (shape_checks m ++ window_checks c)) pass).1 in
      let shaped = (both_none (entrance_checks c.station.settings c.contents c.reading c.network m) (shape_checks m ++ window_checks c) entered).1 in
      ltb-false _ _ (none_holds (shape_checks m) (both_none (shape_checks m) (window_checks c) shaped).0).0

  module _ (station : Station) (after : Contents) (output : List ℕ) (r : Result Handed Refusal) (p : Received c station after output r) where
    -- the answer of the checks before the tag's, the tag's, and those behind it
    in_order : c.tags ≡ delivered_tags → protects (mode_under c A) ≡ true → r ≡ decided (before_tag c ++ ((differs delivered_tags, tag_refusal) ∷ behind)) (handed_under c A)
    in_order tags sealed =
        p.answer
        ∙ ap (λ b. decided (clock_checks c.station.latest c.reading ++ (entrance_checks c.station.settings c.contents c.reading c.network m ++ cond b (sealed_checks c A) (unsealed_checks c))) (handed_under c A)) sealed
        ∙ ap (λ (t : Tags). decided (before_tag c ++ ((differs t, tag_refusal) ∷ behind)) (handed_under c A)) tags

    pub tag_by_aes : c.tags ≡ delivered_tags → Octets m → TagByAes c r
    tag_by_aes tags o sealed mia =
        let t = differs delivered_tags in
        let h = handed_under c A in
        let answer = in_order tags sealed in
        record {
          refuses = λ pass never. answer ∙ at_check is_42 (before_tag c) behind t tag_refusal h pass (not_from_false _ (unlike m o (long_enough pass) A mia never));
          refused = λ place e.
              let q = only_check is_42 (before_tag c) behind t tag_refusal h refl refl refl (ap is_42 (sym answer ∙ e)) in
              let here : r ≡ Err tag_refusal = answer ∙ at_check is_42 (before_tag c) behind t tag_refusal h q.0 q.1 in
              let same : place ≡ length m - 4 = cc in
              (same, q.0, wrong m o (long_enough q.0) A mia (not-true _ q.1));
          past = λ e.
              let q = both_none (before_tag c) ((t, tag_refusal) ∷ []) (past_first past_tag (before_tag c ++ ((t, tag_refusal) ∷ [])) behind h refl (ap past_tag (sym answer) ∙ e)) in
              right m o (long_enough q.0) A mia (not-false _ (none_holds ((t, tag_refusal) ∷ []) q.1).0);
        }

    pub opened_by_aes : c.ciphers ≡ delivered_ciphers → OpenedByAes c output r
    opened_by_aes ciphers ok sealed mea =
        (p.accepted ok).output_is
        ∙ ap (λ n. cleartext_under c A ++ drop n c.output) (ap (λ b. length m - cond b 24 6) sealed)
        ∙ ap (λ x. x ++ drop (length m - 24) c.output) (cond-true _ _ _ sealed
        ∙ ap (λ (k : Ciphers). turned k A (fields_in m) (mode_under c A) (sealed_payload m)) ciphers
        ∙ payload_is A (fields_in m) (mode_under c A) (sealed_payload m) mea)
