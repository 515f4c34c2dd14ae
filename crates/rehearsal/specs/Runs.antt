-- Running a log on two stations.
use Rattle.std.specs.Prelude.{◌≡◌, List, [], ◌∷◌}
use Rattle.banks.specs.Ciphers.{Ciphers}
use Rattle.banks.specs.Tags.{Tags}
use Rattle.station.specs.States.{contents_of}
use Rattle.station.specs.declared.registers.Registers.{Registers}
use Rattle.station.specs.declared.station.Station.{Station}
use Rattle.rehearsal.specs.declared.log.Answer.{Answer}
use Rattle.rehearsal.specs.declared.log.Line.{Line}
use Rattle.rehearsal.specs.declared.log.Side.{Side}
use Rattle.rehearsal.specs.declared.log.Side.TheVariants.{A, B}
use Rattle.rehearsal.specs.declared.sites.Sites.{Sites}
use Rattle.rehearsal.specs.Steps.{Post, Steps}

-- a line and its answer
pub record Turn : Type 0 where
  pub line : Line
  pub answer : Answer

-- each line beside its answer
abbrev pub turns : List Line → List Answer → List Turn
turns [] xs = []
turns (l ∷ ls) [] = []
turns (l ∷ ls) (x ∷ xs) = record { line = l; answer = x } ∷ turns ls xs

-- both stations
pub record Both : Type 0 where
  pub a : Post
  pub b : Post

abbrev pub both_of : Station → Registers → Station → Registers → Both
both_of s r s' r' = record { a = record { station = s; contents = contents_of r }; b = record { station = s'; contents = contents_of r' } }

abbrev pub sites_of : Sites → Both
sites_of s = both_of s.a.station s.a.registers s.b.station s.b.registers

-- a turn at one station, while the other stays
abbrev pub TurnsAt : Ciphers → Tags → Side → Turn → Both → Both → Type 0
TurnsAt m t A turn p q = Steps m t turn.line.call turn.answer p.a q.a × (q.b ≡ p.b)
TurnsAt m t B turn p q = Steps m t turn.line.call turn.answer p.b q.b × (q.a ≡ p.a)

abbrev pub Turns : Ciphers → Tags → Turn → Both → Both → Type 0
Turns m t turn p q = TurnsAt m t turn.line.side turn p q

-- a run: each turn starts from what the turns above it have left
abbrev pub Runs : Ciphers → Tags → List Turn → Both → Both → Type 0
Runs m t [] p q = q ≡ p
Runs m t (turn ∷ rest) p q = (between : Both) × Turns m t turn p between × Runs m t rest between q
