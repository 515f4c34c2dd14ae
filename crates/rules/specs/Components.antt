-- What a component is called.
use Rattle.std.specs.Prelude.{ℕ, cond, Some, None, Option, ◌==◌}
use Rattle.rules.specs.declared.component.ComponentKind.{ComponentKind}
use Rattle.rules.specs.declared.component.ComponentKind.TheVariants.{Invoke, ReturnResult, ReturnError}

-- the kind of an octet: 1 invoke, 2 result, 3 error
abbrev pub kind_of : ℕ → Option ComponentKind
kind_of k = cond (k == 1) (Some Invoke) (cond (k == 2) (Some ReturnResult) (cond (k == 3) (Some ReturnError) None))
