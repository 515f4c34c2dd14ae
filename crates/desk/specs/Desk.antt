-- What a declaration does to the plan of its station.
use Rattle.std.specs.Prelude.{◌≡◌, ℕ, Bool, List, [], ◌∷◌, ◌++◌, Some, None, Ok, Err, vec_items, Option, Result, IsOk}
use Rattle.std.specs.Option.{option_map}
use Rattle.rules.specs.declared.component.ComponentId.{ComponentId}
use Rattle.desk.specs.declared.Declared.{Declared}
use Rattle.desk.specs.declared.Desk.{Desk}
use Rattle.desk.specs.declared.DeskFault.{DeskFault}
use Rattle.desk.specs.declared.DeskFault.TheVariants.{DeclaredTwice, NotDeclared, NoMemory}
use Rattle.rules.specs.declared.profile.ProfileLine.{ProfileLine}
use Rattle.statements.specs.declared.declaration.Name.{Name}
use Rattle.statements.specs.declared.declaration.Name.TheVariants as names
use Rattle.statements.specs.declared.declaration.Places.{Places}
use Rattle.statements.specs.declared.declaration.Declaration.{Declaration}
use Rattle.statements.specs.declared.declaration.Declaration.TheVariants.{Station, Listed, Profile}

-- what is declared of a station
pub record Plan : Type 0 where
  pub own : ℕ
  pub ne : ℕ
  pub back : ℕ
  pub ahead : ℕ
  pub fallback : Bool
  pub places : Places
  pub listed : List ComponentId
  pub profile : List ProfileLine

abbrev pub plan : Declared → Plan
plan d =
    record {
      own = d.draft.own;
      ne = d.draft.ne_id;
      back = d.draft.back;
      ahead = d.draft.ahead;
      fallback = d.draft.fallback;
      places = d.places;
      listed = vec_items d.draft.listed;
      profile = vec_items d.draft.profile;
    }

-- the plan of a station that is declared
abbrev pub planned : Option Declared → Option Plan
planned d = option_map plan d

-- the plan with a declaration: a station is declared once, and first
abbrev pub entered : Declaration → Option Plan → Result Plan DeskFault
entered (Station name own ne back ahead fallback places) None =
    Ok (record { own = own; ne = ne; back = back; ahead = ahead; fallback = fallback; places = places; listed = []; profile = [] })
entered (Station name own ne back ahead fallback places) (Some p) = Err (DeclaredTwice name)
entered (Listed name kind code) None = Err (NotDeclared name)
entered (Listed name kind code) (Some p) =
    Ok (record { own = p.own; ne = p.ne; back = p.back; ahead = p.ahead; fallback = p.fallback; places = p.places; listed = p.listed ++ record { kind = kind; code = code } ∷ []; profile = p.profile })
entered (Profile name ppi code level) None = Err (NotDeclared name)
entered (Profile name ppi code level) (Some p) =
    Ok (record { own = p.own; ne = p.ne; back = p.back; ahead = p.ahead; fallback = p.fallback; places = p.places; listed = p.listed; profile = p.profile ++ record { ppi = ppi; code = code; level = level } ∷ [] })

-- a declaration changes one plan as it says, or is refused and changes nothing; memory may be short for one that would
-- have been entered
abbrev pub Enters : Declaration → Option Plan → Option Plan → Result (Unit {0}) DeskFault → Type 0
Enters s before after (Ok done) = (p : Plan) × (entered s before ≡ Ok p) × (after ≡ Some p)
Enters s before after (Err NoMemory) = IsOk (entered s before) × (after ≡ before)
Enters s before after (Err (DeclaredTwice name)) = (entered s before ≡ Err (DeclaredTwice name)) × (after ≡ before)
Enters s before after (Err (NotDeclared name)) = (entered s before ≡ Err (NotDeclared name)) × (after ≡ before)

-- and leaves the other station's alone
abbrev pub EntersDesk : Name → Declaration → Desk → Desk → Result (Unit {0}) DeskFault → Type 0
EntersDesk names.A s d e r = Enters s (planned d.declared.a) (planned e.declared.a) r × (e.declared.b ≡ d.declared.b)
EntersDesk names.B s d e r = Enters s (planned d.declared.b) (planned e.declared.b) r × (e.declared.a ≡ d.declared.a)

-- what is declared of a station is taken away, and the other station's stays
abbrev pub Taken : Name → Desk → Desk → Option Declared → Type 0
Taken names.A d e r = (r ≡ d.declared.a) × (e.declared.a ≡ None) × (e.declared.b ≡ d.declared.b)
Taken names.B d e r = (r ≡ d.declared.b) × (e.declared.b ≡ None) × (e.declared.a ≡ d.declared.a)
