-- What a rehearsal answers.
use Rattle.std.specs.Prelude.{◌≡◌, List, length}
use Rattle.banks.specs.Ciphers.{Ciphers}
use Rattle.banks.specs.Tags.{Tags}
use Rattle.rules.specs.declared.settings.Settings.{Settings}
use Rattle.station.specs.States.{NewRegisters}
use Rattle.station.specs.declared.registers.Registers.{Registers}
use Rattle.station.specs.declared.station.Station.{Station}
use Rattle.rehearsal.specs.declared.log.Answer.{Answer}
use Rattle.rehearsal.specs.declared.log.Line.{Line}
use Rattle.rehearsal.specs.declared.log.Side.{Side}
use Rattle.rehearsal.specs.declared.log.Side.TheVariants.{A, B}
use Rattle.memory.specs.declared.Places.{Places}
use Rattle.rehearsal.specs.Laws.{ListedOnlyRightlyTagged, WrittenIsRead, NotAgainBeforeTheStampComesRound}
use Rattle.rehearsal.specs.Runs.{Turn, turns, Both, both_of, Runs}

-- A's or B's
abbrev pub by_side : {X : Type 0} → X → X → Side → X
by_side a b A = a
by_side a b B = b

-- a station that has heard and sent nothing
abbrev pub new_station : Settings → Station
new_station s = record { settings = s; latest = 0; tick = 0; sent = 0 }

-- The answers are those of a run on a new A and a new B, each with empty registers in its places: each line does to its station, and
-- answers, what the rules of its call lay down, from what the lines above it have left; and the other station stays as it is.
pub record ByTheRules (ciphers : Ciphers) (tags : Tags) (settings : Side → Settings) (places : Side → Places) (ts : List Turn) : Type 0 where
  pub registers : Side → Registers
  pub empty : (side : Side) → NewRegisters (places side).policies (places side).associations (places side).heard (registers side)
  pub end : Both
  pub run : Runs ciphers tags ts (both_of (new_station (settings A)) (registers A) (new_station (settings B)) (registers B)) end

pub record Rehearsed (ciphers : Ciphers) (tags : Tags) (settings : Side → Settings) (places : Side → Places) (log : List Line) (answers : List Answer) : Type 0 where
  pub one_answer_to_a_line : length answers ≡ length log
  pub by_the_rules : ByTheRules ciphers tags settings places (turns log answers)
  pub listed_only_rightly_tagged : ListedOnlyRightlyTagged tags settings (turns log answers)
  pub written_is_read : WrittenIsRead settings (turns log answers)
  pub not_again_before_the_stamp_comes_round : NotAgainBeforeTheStampComesRound settings (turns log answers)
