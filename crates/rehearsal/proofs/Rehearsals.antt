-- The laws over whole logs, of every run on two new stations.
use Rattle.std.proofs.Common.{◌≡◌, ℕ, List, [], length, IfOk, Ok, Err, Result, sym, refl, ◌∙◌, subst}
use Rattle.banks.specs.Ciphers.{Ciphers, Lawful}
use Rattle.banks.specs.Tags.{Tags, LawfulTags}
use Rattle.register.proofs.Lookups.{none_some}
use Rattle.rules.specs.declared.settings.Settings.{Settings}
use Rattle.station.specs.States.{contents_of, NewRegisters}
use Rattle.station.specs.declared.registers.Registers.{Registers}
use Rattle.station.specs.declared.station.Station.{Station}
use Rattle.rehearsal.specs.declared.log.Answer.{Answer}
use Rattle.rehearsal.specs.declared.log.Line.{Line}
use Rattle.rehearsal.specs.declared.log.Side.{Side}
use Rattle.rehearsal.specs.declared.log.Side.TheVariants.{A, B}
use Rattle.memory.specs.declared.Places.{Places}
use Rattle.rehearsal.specs.Rehearsed.{by_side, new_station, Rehearsed}
use Rattle.rehearsal.specs.Runs.{Turn, turns, Both, both_of, Runs}
use Rattle.rehearsal.proofs.Keeps.{Kept, at}
use Rattle.rehearsal.proofs.Rounds.{not_again}
use Rattle.rehearsal.proofs.Tagged.{listed_only_tagged}
use Rattle.rehearsal.proofs.Written.{written_read}

-- of two facts of what was made a third
pub made_from : {X Y : Type 0} {P Q R : X → Type 0} (r : Result X Y) → ((x : X) → P x → Q x → R x) → IfOk r P → IfOk r Q → IfOk r R
made_from (Ok x) f p q = f x p q
made_from (Err y) f p q = tt

-- new registers, in as many places as were asked for
pub in_places : (places : Places) (policies associations heard : ℕ) (r : Registers) → policies ≡ places.policies → associations ≡ places.associations → heard ≡ places.heard
    → NewRegisters policies associations heard r → NewRegisters places.policies places.associations places.heard r
in_places places policies associations heard r p a h empty =
    subst (λ n. NewRegisters places.policies places.associations n r) h
    (subst (λ n. NewRegisters places.policies n heard r) a (subst (λ n. NewRegisters n associations heard r) p empty))

-- a run that starts at stations that are new
pub from_new : (m : Ciphers) (t : Tags) (ts : List Turn) (sa sb : Settings) (x y : Station) (ra rb : Registers) (end : Both) → x ≡ new_station sa → y ≡ new_station sb → Runs m t ts (both_of x ra y rb) end
    → Runs m t ts (both_of (new_station sa) ra (new_station sb) rb) end
from_new m t ts sa sb x y ra rb end a b run =
    subst (λ (s : Station). Runs m t ts (both_of s ra (new_station sb) rb) end) a (subst (λ (s : Station). Runs m t ts (both_of x ra s rb) end) b run)

-- a new station holds nothing
kept_new : (side : Side) (s : Settings) (policies associations heard : ℕ) (r : Registers) → NewRegisters policies associations heard r → Kept side s [] (record { station = new_station s; contents = contents_of r })
kept_new side s policies associations heard r empty =
    record { settings = refl; held = λ k x e. absurd (none_some (sym (empty.no_association k) ∙ e)); known = λ n reading key h. absurd (none_some h.1) }

module _ (m : Ciphers) (t : Tags) (law : Lawful m) (tag-law : LawfulTags t) (sa sb : Settings) (pa pb : Places) (ra rb : Registers) where
  abbrev start : Both
  start = both_of (new_station sa) ra (new_station sb) rb

  abbrev Empty : Registers → Places → Type 0
  Empty r p = NewRegisters p.policies p.associations p.heard r

  module _ (empty-a : Empty ra pa) (empty-b : Empty rb pb) where
    new : (side : Side) → Kept side (by_side sa sb side) [] (at side start)
    new A = kept_new A sa pa.policies pa.associations pa.heard ra empty-a
    new B = kept_new B sb pb.policies pb.associations pb.heard rb empty-b

    empty : (side : Side) → Empty (by_side ra rb side) (by_side pa pb side)
    empty A = empty-a
    empty B = empty-b

    pub rehearsals : (end : Both) (log : List Line) (answers : List Answer) → length answers ≡ length log → Runs m t (turns log answers) start end → Rehearsed m t (by_side sa sb) (by_side pa pb) log answers
    rehearsals end log answers one run =
        let ts = turns log answers in
        record {
          one_answer_to_a_line = one;
          by_the_rules = record { registers = by_side ra rb; empty = empty; end = end; run = run };
          listed_only_rightly_tagged = listed_only_tagged m t (by_side sa sb) ts start end new run;
          written_is_read = written_read m t law tag-law (by_side sa sb) ts start end new run;
          not_again_before_the_stamp_comes_round = not_again m t (by_side sa sb) ts start end new run;
        }
