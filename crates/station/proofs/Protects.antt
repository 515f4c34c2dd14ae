-- The checks of protect, stage by stage.
use Rattle.std.proofs.Common.{◌≡◌, ℕ, not, ◌∷◌, ◌++◌, length, is_some, Some, Err, Result, sym, refl, ap, ◌∙◌}
use Rattle.rules.specs.Checks.{decided}
use Rattle.rules.specs.declared.refusal.Refusal.{Refusal}
use Rattle.rules.specs.declared.refusal.Refusal.TheVariants.{NoLiveAssociation}
use Rattle.rules.proofs.Stages.{stops, retold}
use Rattle.rules.specs.declared.protection.ProtectionMode.{ProtectionMode}
use Rattle.station.specs.declared.protect.Sending.{Sending}
use Rattle.station.specs.declared.records.SecurityAssociation.{SecurityAssociation}
use Rattle.station.specs.Clock.{clock_checks}
use Rattle.station.specs.Forms.{association_or_blank, form_checks}
use Rattle.station.specs.Protect.{Call, association_for, mode_under, needed_under, protected_at, room_checks, room_under, sent_under, the_association, policy_checks, sending_checks, outcome, Sends, Protected}
use Rattle.station.specs.Seal.{message_length}
use Rattle.station.proofs.Installs.{not_both, done}

-- once the association is found, room decides
send_with : (c : Call) (a : SecurityAssociation) → association_for c ≡ Some a → decided ((not (is_some (association_for c)), NoLiveAssociation) ∷ room_under c (the_association c)) (sent_under c (the_association c)) ≡ decided (room_under c a) (sent_under c a)
send_with c a is = ap (λ o. decided ((not (is_some o), NoLiveAssociation) ∷ room_under c (association_or_blank o)) (sent_under c (association_or_blank o))) is

-- room as the code asks for it
pub room_is : (c : Call) (a : SecurityAssociation) (mode : ProtectionMode) (needed count : ℕ) → mode ≡ mode_under c a → needed ≡ message_length mode (length c.cleartext) → count ≡ protected_at c.reading c.station → decided (room_checks mode needed (length c.output) count) done ≡ decided (room_under c a) done
room_is c a mode needed count m n k =
    let room = length c.output in
    ap (λ x. decided (room_checks x needed room count) done) m
    ∙ ap (λ x. decided (room_checks (mode_under c a) x room count) done) (n ∙ ap (λ x. message_length x (length c.cleartext)) m)
    ∙ ap (λ x. decided (room_checks (mode_under c a) (needed_under c a) room x) done) k

pub refuses_room : (c : Call) (a : SecurityAssociation) (answer : Result Sending Refusal) (r : Refusal) → Some a ≡ association_for c → answer ≡ Err r → Err r ≡ decided (room_under c a) done → Sends c c.station c.output answer
refuses_room c a answer r found is e =
    record {
      answer = is ∙ retold (room_under c a) done (sent_under c a) r e ∙ sym (send_with c a (sym found));
      refused = λ _. (refl, refl);
      accepted = not_both answer r is;
    }

-- a reading that is refused leaves all as it was
pub refuses_clock : (c : Call) (answer : Result Sending Refusal) (r : Refusal) → answer ≡ Err r → Err r ≡ decided (clock_checks c.station.latest c.reading) done → Protected c c.station c.output answer
refuses_clock c answer r is e =
    record {
      answer = is ∙ stops (clock_checks c.station.latest c.reading) (form_checks c.component (length c.cleartext) ++ (policy_checks c ++ sending_checks c)) done (outcome c) r e;
      refused = λ _. (refl, refl);
      accepted = not_both answer r is;
    }
