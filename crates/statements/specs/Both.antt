-- What belongs to the two stations.
use Rattle.std.specs.Borrow.{Lends, MutBor, Fml, RattleType}
use Rattle.statements.specs.declared.both.Both.{Both}
use Rattle.statements.specs.contracts.both.Both.{the_row}
use Rattle.statements.specs.declared.declaration.Name.{Name}
use Rattle.statements.specs.declared.declaration.Name.TheVariants as names

-- what that station has
abbrev pub of : {T : Type 0} → Name → Both T → T
of names.A b = b.a
of names.B b = b.b

-- both, where that station has something else
abbrev pub with_of : {T : Type 0} → Name → Both T → T → Both T
with_of names.A b x = record { a = x; b = b.b }
with_of names.B b x = record { a = b.a; b = x }

-- once the borrow r ends, that station has the last value written through r
abbrev pub LendsOf : (T : RattleType) → Name → MutBor (Both T.Denot) → MutBor T.Denot → Fml
LendsOf T name b r = Lends (the_row T) T b r (with_of name b.now)
