-- External declarations made of their parts (ISO C11 6.7, 6.9).
use Rattle.std.specs.Prelude.{ℕ, suc, max, Bool, true, false, ◌&&◌, List, [], ◌∷◌, ◌++◌, Option, Some, None, is_some}
use Rattle.c_ast.specs.declared.token.Span.{Span}
use Rattle.c_ast.specs.declared.expr.CType.{CType, out-CType}
use Rattle.c_ast.specs.declared.expr.CType.TheOpen.{CType-F}
use Rattle.c_ast.specs.Tree.{TypeLayer}
use Rattle.c_ast.specs.declared.declaration.Decl.{Decl}
use Rattle.c_ast.specs.declared.declaration.Storage.{Storage}
use Rattle.c_ast.specs.declared.declaration.Storage.TheVariants as storage
use Rattle.c_ast.specs.declared.program.External.{External}
use Rattle.c_ast.specs.declared.program.External.TheVariants as external
use Rattle.c_ast.specs.declared.program.Program.{Program}
use Rattle.c_parse_base.specs.declared.type_read.TypeRead.{TypeRead}
use Rattle.c_parse_decl.specs.declared.declarators.declared.Declared.{Declared}
use Rattle.c_parse_decl.specs.declared.parameter_list.parameters_read.ParametersRead.{ParametersRead}
use Rattle.c_parse_decl.specs.declared.members.body_read.BodyRead.{BodyRead}
use Rattle.c_parse_stmt.specs.declared.block_read.BlockRead.{BlockRead}
use Rattle.c_parse.specs.declared.head.Head.{Head}
use Rattle.c_parse.specs.declared.head.Specifiers.{Specifiers}
use Rattle.c_parse.specs.declared.behind.Ending.{Ending}
use Rattle.c_parse.specs.declared.behind.Behind.{Behind}
use Rattle.c_parse.specs.declared.behind.Behind.TheVariants as behind
use Rattle.c_parse.specs.declared.externals.Externals.{Externals}

-- ---- types at file scope

abbrev pub tag_at : TypeLayer → Option (List ℕ)
tag_at (CType-F.Struct tag) = Some tag
tag_at _ = None

-- the tag of a struct
abbrev pub tag_of : CType → Option (List ℕ)
tag_of ty = tag_at (out-CType ty)

-- a type without a body, and the number of its first byte
abbrev pub plain_head : ℕ × TypeRead → Head
plain_head c = record { base = c.1.ty; tag = tag_of c.1.ty; members = None; span = record { start = c.0; end = c.1.end }; height = 0 }

-- a struct with its body
abbrev pub with_body : Head → BodyRead → Head
with_body a b = record {
  base = a.base;
  tag = a.tag;
  members = Some b.members;
  span = record { start = a.span.start; end = b.end };
  height = max a.height (suc (suc b.height));
}

abbrev pub is_struct : Head → Bool
is_struct a = is_some a.tag

-- a struct's declaration
abbrev pub struct_at : Option (List ℕ) → Option (List Decl) → Span → List External
struct_at None members span = []
struct_at (Some name) members span = external.Struct (record { name = name; members = members; span = span }) ∷ []

-- the struct that a type declares with its body: it stands before what the type heads (6.7.2)
abbrev pub before_at : Option (List ℕ) → Option (List Decl) → Span → List External
before_at tag None span = []
before_at tag (Some members) span = struct_at tag (Some members) span

abbrev pub before_of : Head → List External
before_of a = before_at a.tag a.members a.span

abbrev pub stored : (Storage × ℕ) × Head → Specifiers
stored c = record { storage = c.0.0; start = c.0.1; head = c.1 }

abbrev pub unstored : Head → Specifiers
unstored a = record { storage = storage.None; start = a.span.start; head = a }

abbrev pub no_storage : Storage → Bool
no_storage storage.None = true
no_storage _ = false

-- a semicolon alone may stand behind a struct without a storage class (6.7 paragraph 2)
abbrev pub is_lone : Specifiers → Bool
is_lone s = no_storage s.storage && is_struct s.head

-- ---- what stands behind a type

abbrev pub no_body : Span → Ending
no_body place = record { body = None; height = 0; end = place.end }

abbrev pub body_of : BlockRead → Ending
body_of b = record { body = Some b.tree; height = b.height; end = b.end }

-- a function by its name, its parameters and its end
abbrev pub function_of : Declared → ParametersRead × Ending → Behind
function_of a c = behind.Function (record {
  name = a.name;
  result = a.ty;
  params = c.0.decls;
  body = c.1.body;
  height = max (max a.height c.0.height) c.1.height;
  end = c.1.end;
})

-- how many levels there are below the first one
abbrev pub height_behind : Behind → ℕ
height_behind behind.Lone = 0
height_behind (behind.Objects o) = o.height
height_behind (behind.Function f) = f.height

-- ---- external declarations

abbrev pub items_of : Specifiers → Behind → List External
items_of s behind.Lone = struct_at s.head.tag s.head.members s.head.span
items_of s (behind.Objects o) = before_of s.head ++ external.Objects s.storage o.decls ∷ []
items_of s (behind.Function f) = before_of s.head ++ external.Function (record {
  storage = s.storage;
  name = f.name;
  result = f.result;
  params = f.params;
  body = f.body;
  span = record { start = s.start; end = f.end };
}) ∷ []

abbrev pub external_of : Specifiers × Behind → Externals
external_of c = record { items = items_of c.0 c.1; height = max c.0.head.height (suc (height_behind c.1)) }

abbrev pub include_line : Externals
include_line = record { items = external.Include ∷ []; height = 0 }

abbrev pub more_externals : Externals → Externals → Externals
more_externals a b = record { items = a.items ++ b.items; height = max a.height b.height }

-- the program of external declarations
abbrev pub program_of : List External → Program
program_of items = record { items = items }
