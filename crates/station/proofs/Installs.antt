-- The checks of install, stage by stage.
use Rattle.std.proofs.Common.{◌≡◌, ℕ, Bool, true, false, List, ◌++◌, is_some, is_ok, Some, None, Ok, Err, Option, Result, sym, refl, ap, ◌∙◌, arith}
use Rattle.std.proofs.lemmas.Bool.{both_ways, leb-false}
use Rattle.banks.specs.Ciphers.{Ciphers}
use Rattle.banks.specs.Tags.{Tags}
use Rattle.rules.specs.Checks.{decided}
use Rattle.rules.specs.declared.refusal.Refusal.{Refusal}
use Rattle.rules.proofs.Stages.{stops, passes, passed}
use Rattle.station.specs.declared.records.SecurityAssociation.{SecurityAssociation}
use Rattle.station.specs.declared.station.Station.{Station}
use Rattle.station.specs.Clock.{clock_checks, read_at}
use Rattle.station.specs.Install.{field_checks, place_checks, Installed}
use Rattle.station.specs.States.{Contents, RoomForAssociation, AssociationAdded}

-- no answer is both a refusal and an outcome
pub not_both : {V R : Type 0} {P : Type 0} (answer : Result V R) (r : R) → answer ≡ Err r → is_ok answer ≡ true → P
not_both answer r is ok = absurd (both_ways (is_ok answer) (ap is_ok is) ok)

pub none_of : {X : Type 0} (o : Option X) → is_some o ≡ false → o ≡ None
none_of None e = refl
none_of (Some x) e = absurd (let z : ◌≡◌ {A = ℕ} 0 1 = cc in omega arith)

-- the outcome of a call that only changes the registers
abbrev pub done : Unit {0}
done = tt {0}

module _ (ciphers : Ciphers) (tags : Tags) (reading : ℕ) (a : SecurityAssociation) (s : Station) (before : Contents) where
  abbrev clock : List (Bool × Refusal)
  clock = clock_checks s.latest reading

  abbrev fields : List (Bool × Refusal)
  fields = field_checks s.settings.own ciphers tags reading a

  abbrev place : List (Bool × Refusal)
  place = place_checks reading a before.associations

  pub refuses : (answer : Result (Unit {0}) Refusal) (r : Refusal) → answer ≡ Err r → Err r ≡ decided (clock ++ (fields ++ place)) done → Installed ciphers tags reading a s s before before answer
  refuses answer r is e =
      record { answer = is ∙ e; refused = λ _. (refl, refl); accepted = not_both answer r is; policies = refl; heard = refl }

  module _ (read : Ok done ≡ decided clock done) where
    pub refuses_fields : (r : Refusal) → Err r ≡ decided fields done → Err r ≡ decided (clock ++ (fields ++ place)) done
    refuses_fields r e = stops fields place done done r e ∙ sym (passes clock (fields ++ place) done done done read)

    module _ (right : Ok done ≡ decided fields done) where
      last_stage : decided (clock ++ (fields ++ place)) done ≡ decided place done
      last_stage = passes clock (fields ++ place) done done done read ∙ passes fields place done done done right

      module _ (free : Ok done ≡ decided place done) where
        pub room : RoomForAssociation a reading before.associations
        room = let p = passed place done done free in record { key_free = none_of _ p.0; place_free = leb-false _ _ p.1.0 }

        pub takes : (after : Contents) → AssociationAdded a reading before.associations after.associations → after.policies ≡ before.policies → after.heard ≡ before.heard → Installed ciphers tags reading a s (read_at reading s) before after (Ok done)
        takes after added policies heard =
            record {
              answer = free ∙ sym last_stage;
              refused = λ e. absurd (let z : ◌≡◌ {A = ℕ} 0 1 = cc in omega arith);
              accepted = λ _. (refl, added);
              policies = policies;
              heard = heard;
            }
