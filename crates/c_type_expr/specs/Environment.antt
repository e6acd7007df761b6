-- Where a construct stands: what its names stand for, by scopes (ISO C11 6.2.1 to 6.2.3), and what of the program stands before it.
use Rattle.std.specs.Prelude.{ℕ, Bool, List, [], ◌∷◌, ◌++◌, Option, Some, None}
use Rattle.std.specs.List.{find, position_from}
use Rattle.std.specs.Str.{bytes_eq}
use Rattle.c_type_base.specs.declared.ty.Ty.{Ty}
use Rattle.c_type_base.specs.declared.expr.TNode.{TNode}
use Rattle.c_type_base.specs.declared.expr.TNode.TheVariants as node
use Rattle.c_type_base.specs.declared.typed.StructInfo.{StructInfo}
use Rattle.c_type_base.specs.declared.typed.Target.{Target}
use Rattle.c_type_base.specs.declared.typed.Target.TheVariants as target
use Rattle.c_type_expr.specs.declared.scopes.Place.{Place}
use Rattle.c_type_expr.specs.declared.scopes.Place.TheVariants as place
use Rattle.c_type_expr.specs.declared.scopes.Meaning.{Meaning}
use Rattle.c_type_expr.specs.declared.scopes.Binding.{Binding}

-- an object, in an expression
abbrev pub node_at : Place → TNode
node_at (place.Local n) = node.Local n
node_at (place.Global n) = node.Global n
node_at (place.Extern n) = node.Extern n

-- and in an address that is known before the run
abbrev pub target_at : Place → Option Target
target_at (place.Local n) = None
target_at (place.Global n) = Some (target.Global n)
target_at (place.Extern n) = Some (target.Extern n)

abbrev pub binds : List ℕ → Meaning → Binding
binds name means = record { name = name; means = means }

-- the declarations in scope, the innermost scope first and in each the latest first; and the counts of what stands before
pub record Env : Type 0 where
  -- the tags declared so far, in order
  pub structs : List StructInfo
  pub scopes : List (List Binding)
  -- how many texts of the program stand before
  pub texts : ℕ
  -- how many parameters and locals of the function do
  pub locals : ℕ
  -- the result of the function around, where it is known
  pub result : Option Ty
  -- whether the include line stands before
  pub stdio : Bool

abbrev pub in_scope : List ℕ → List Binding → Option Binding
in_scope name = find (λ b. bytes_eq b.name name)

abbrev pub or_else : {A : Type 0} → Option A → Option A → Option A
or_else None b = b
or_else (Some a) b = Some a

-- the innermost declaration of a name (6.2.1 paragraph 4)
abbrev pub in_scopes : List ℕ → List (List Binding) → Option Binding
in_scopes name [] = None
in_scopes name (scope ∷ scopes) = or_else (in_scope name scope) (in_scopes name scopes)

abbrev pub innermost : List (List Binding) → List Binding
innermost [] = []
innermost (scope ∷ scopes) = scope

abbrev pub with_innermost : List Binding → List (List Binding) → List (List Binding)
with_innermost names [] = names ∷ []
with_innermost names (scope ∷ scopes) = (names ++ scope) ∷ scopes

-- a scope of its own inside
abbrev pub opened : Env → Env
opened env = record env { scopes = [] ∷ env.scopes }

-- the number of a tag among those declared so far
abbrev pub tag_number : List StructInfo → List ℕ → Option ℕ
tag_number structs tag = position_from (λ info. bytes_eq info.name tag) 0 structs
