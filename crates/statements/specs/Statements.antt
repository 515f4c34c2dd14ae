-- The statements, each by the words that it is made of; their places are counted from 0.
use Rattle.std.specs.Prelude.{ℕ, cond, List, Some, None, Ok, Err, codes, Option, Result}
use Rattle.std.specs.Str.{bytes_eq}
use Rattle.words.specs.Reading.{required, next, number_at, keyword_at, field_at, switch_at, end_at, ended}
use Rattle.words.specs.Words.{word_at}
use Rattle.words.specs.declared.fault.Expected.{Expected}
use Rattle.words.specs.declared.fault.Expected.TheVariants as expected
use Rattle.words.specs.declared.fault.Fault.{Fault}
use Rattle.words.specs.declared.fault.Keyword.TheVariants.{Own, Ne, Back, Ahead, Fallback}
use Rattle.calls.specs.Calls.{called_by}
use Rattle.statements.specs.declared.declaration.Name.{Name}
use Rattle.statements.specs.declared.declaration.Name.TheVariants as names
use Rattle.statements.specs.declared.declaration.Places.{Places}
use Rattle.statements.specs.declared.declaration.Declaration.{Declaration}
use Rattle.statements.specs.declared.declaration.Declaration.TheVariants.{Station, Listed, Profile}
use Rattle.statements.specs.declared.statement.Statement.{Statement}
use Rattle.statements.specs.declared.statement.Statement.TheVariants.{Declares, Calls}

-- the station that a word names
abbrev pub name : List ℕ → Option Name
name w = cond (bytes_eq w (codes "A")) (Some names.A) (cond (bytes_eq w (codes "B")) (Some names.B) None)

-- the word at a place as the name of a station
unfoldable pub name_at : Expected → ℕ → List ℕ → Result Name Fault
name_at e n line = required (name (word_at n line)) n e

-- three numbers of places up to the end of the line
unfoldable pub three_places : List ℕ → Result Places Fault
three_places line =
    next (number_at 65536 13 line) λ policies.
    next (number_at 65536 14 line) λ associations.
    next (number_at 65536 15 line) λ heard.
    next (end_at 16 line) λ _.
    Ok (record { policies = policies; associations = associations; heard = heard })

-- the places that a line gives; 64, 256 and 4,096 where nothing more is written
unfoldable pub places : List ℕ → Result Places Fault
places line =
    cond
    (ended 12 line)
    (Ok (record { policies = 64; associations = 256; heard = 4096 }))
    (cond (bytes_eq (word_at 12 line) (codes "places")) (three_places line) (Err (record { place = 12; expected = expected.PlacesOrEnd })))

-- station NAME own N ne N back N ahead N fallback yes|no [places N N N]
unfoldable pub station : List ℕ → Result Declaration Fault
station line =
    next (name_at expected.StationName 1 line) λ name.
    next (keyword_at Own 2 line) λ _.
    next (number_at 4294967295 3 line) λ own.
    next (field_at Ne 4 line) λ ne.
    next (field_at Back 6 line) λ back.
    next (field_at Ahead 8 line) λ ahead.
    next (switch_at Fallback 10 line) λ fallback.
    next (places line) λ places.
    Ok (Station name own ne back ahead fallback places)

-- listed NAME KIND CODE
unfoldable pub listed : List ℕ → Result Declaration Fault
listed line =
    next (name_at expected.StationName 1 line) λ name.
    next (number_at 255 2 line) λ kind.
    next (number_at 255 3 line) λ code.
    next (end_at 4 line) λ _.
    Ok (Listed name kind code)

-- profile NAME PPI CODE LEVEL
unfoldable pub profile : List ℕ → Result Declaration Fault
profile line =
    next (name_at expected.StationName 1 line) λ name.
    next (number_at 65535 2 line) λ ppi.
    next (number_at 255 3 line) λ code.
    next (number_at 255 4 line) λ level.
    next (end_at 5 line) λ _.
    Ok (Profile name ppi code level)

-- the declaration that the first word begins; none, where it begins something else
unfoldable pub declaration : List ℕ → Option (Result Declaration Fault)
declaration line =
    cond (bytes_eq (word_at 0 line) (codes "station")) (Some (station line))
    (cond (bytes_eq (word_at 0 line) (codes "listed")) (Some (listed line))
    (cond (bytes_eq (word_at 0 line) (codes "profile")) (Some (profile line))
    None))

-- a call at the station that the first word names
unfoldable pub called : List ℕ → Result Statement Fault
called line =
    next (name_at expected.Statement 0 line) λ n.
    next (called_by line) λ call.
    Ok (Calls n call)

-- the statement that a declaration is
abbrev pub declared : Result Declaration Fault → Result Statement Fault
declared (Ok d) = Ok (Declares d)
declared (Err f) = Err f

-- the statement that the first word begins
unfoldable pub begun : List ℕ → Result Statement Fault
begun line =
    cond (bytes_eq (word_at 0 line) (codes "station")) (declared (station line))
    (cond (bytes_eq (word_at 0 line) (codes "listed")) (declared (listed line))
    (cond (bytes_eq (word_at 0 line) (codes "profile")) (declared (profile line))
    (called line)))

-- the statement of a line of text; none, where the line has no word
unfoldable pub statement : List ℕ → Result (Option Statement) Fault
statement line = cond (ended 0 line) (Ok None) (next (begun line) λ s. Ok (Some s))
