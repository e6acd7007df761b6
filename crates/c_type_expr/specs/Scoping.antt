-- How scopes open and close, and how they are held: all declarations in one list, and where each scope but the outermost starts.
use Rattle.std.specs.Prelude.{List, [], ◌∷◌}
use Rattle.c_type_expr.specs.declared.scopes.Binding.{Binding}
use Rattle.c_type_expr.specs.Names.{Names}

abbrev pub no_names : Names
no_names = record { inner = []; outer = [] }

abbrev pub with_binding : Names → Binding → Names
with_binding n b = record n { inner = b ∷ n.inner }

abbrev pub opened_names : Names → Names
opened_names n = record { inner = []; outer = n.inner ∷ n.outer }

abbrev pub closed_by : List (List Binding) → Names
closed_by [] = no_names
closed_by (scope ∷ scopes) = record { inner = scope; outer = scopes }

-- without the innermost scope
abbrev pub closed_names : Names → Names
closed_names n = closed_by n.outer
