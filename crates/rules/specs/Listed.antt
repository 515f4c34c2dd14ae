-- The protected list.
use Rattle.std.specs.Prelude.{Bool, ◌&&◌, List, is_some, ◌==◌}
use Rattle.std.specs.List.{list_all, list_any}
use Rattle.rules.specs.declared.component.ComponentId.{ComponentId}
use Rattle.rules.specs.Components.{kind_of}

-- each identifier is of kind 1, 2 or 3
abbrev pub kinds_known : List ComponentId → Bool
kinds_known ids = list_all (λ id. is_some (kind_of id.kind)) ids

-- the identifier is among them
abbrev pub listed_in : ComponentId → List ComponentId → Bool
listed_in id others = list_any (λ other. other.kind == id.kind && other.code == id.code) others
