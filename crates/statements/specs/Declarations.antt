-- What a declaration speaks of.
use Rattle.statements.specs.declared.declaration.Name.{Name}
use Rattle.statements.specs.declared.declaration.Declaration.{Declaration}
use Rattle.statements.specs.declared.declaration.Declaration.TheVariants.{Station, Listed, Profile}

-- the station that a declaration speaks of
abbrev pub subject : Declaration → Name
subject (Station name own ne back ahead fallback places) = name
subject (Listed name kind code) = name
subject (Profile name ppi code level) = name
