-- What the objects of given files are made of.
use Rattle.std.proofs.Common.{◌≡◌, refl, ℕ, ℤ, pos, List, [], ◌∷◌, ◌++◌, true, false, codes, length, map, replicate, Option, Some, None}
use Rattle.c_ast.specs.declared.declaration.Decl.{Decl}
use Rattle.c_ast.specs.declared.program.Function.{Function}
use Rattle.c_ast.specs.declared.expr.CType.TheVariants as ctype
use Rattle.c_ast.specs.declared.int_type.IntType.TheVariants as int
use Rattle.c_ast.specs.declared.program.Program.{Program}
use Rattle.c_ast.specs.declared.program.External.TheVariants as external
use Rattle.c_ast.specs.declared.declaration.Storage.TheVariants as storage
use Rattle.c_ast.specs.declared.statement.Stmt.{Stmt}
use Rattle.c_ast.specs.declared.token.Span.{Span}
use Rattle.c_type_base.specs.declared.statement.TStmt.{TStmt}
use Rattle.c_type_base.specs.declared.ty.Ty.TheVariants as ty
use Rattle.c_type_base.specs.declared.typed.InitValue.TheVariants as initial
use Rattle.c_type_base.specs.declared.typed.Target.TheVariants as target
use Rattle.c_type_base.specs.declared.typed.Typed.{Typed}
use Rattle.c_type_base.specs.Laws.SizeLaws.{size-int, size-pointer, size-array}
use Rattle.gen_unit.specs.declared.parts.CodeTarget.TheVariants as code_target
use Rattle.gen_unit.specs.declared.parts.UnitCode.{UnitCode}
use Rattle.elf_obj.specs.declared.parts.Home.{Home}
use Rattle.elf_obj.specs.declared.parts.Home.TheVariants.{Undef, Text, Rodata, Init, Zero}
use Rattle.elf_obj.specs.declared.parts.Symbol.{Symbol}
use Rattle.elf_obj.specs.declared.parts.Reloc.{Reloc}
use Rattle.mean_link.specs.Uses.{stmt_uses}
use Rattle.unit_object.specs.Parts.{parts_of, code_reloc, code_symbol}
use Rattle.unit_object.specs.Symbols.{named_symbols, number_of}

abbrev nowhere : Span
nowhere = record { start = 0; end = 0 }

abbrev decl : List ℕ → Decl
decl name = record { name = name; ty = ctype.Int int.Int; init = None; span = nowhere }

abbrev function : List ℕ → Option Stmt → Function
function name body = record {
  storage = storage.None;
  name = name;
  result = ctype.Int int.Int;
  params = [];
  body = body;
  span = nowhere;
}

-- int main(void); static int h; int g = 7; int f(void); int main(void) { .. }
abbrev program : Stmt → Program
program body = record {
  items = external.Function (function (codes "main") None) ∷ external.Objects storage.Static (decl (codes "h") ∷ [])
      ∷ external.Objects storage.None (decl (codes "g") ∷ []) ∷ external.Function (function (codes "f") None)
      ∷ external.Function (function (codes "main") (Some body)) ∷ [];
}

-- the body has the text "hi"
abbrev typed : TStmt → Typed
typed body = record {
  structs = [];
  globals =
      record { name = codes "h"; ty = ty.Int int.Int; local = true; init = []; span = nowhere }
      ∷ record {
        name = codes "g";
        ty = ty.Int int.Int;
        local = false;
        init = record { offset = 0; value = initial.Number 7 4 } ∷ [];
        span = nowhere;
      }
      ∷ [];
  functions = record {
    name = codes "main";
    local = false;
    params = 0;
    result = ty.Int int.Int;
    locals = [];
    body = body;
    span = nowhere;
  } ∷ [];
  externs = record { name = codes "f"; object = None; result = ty.Int int.Int; params = [] } ∷ [];
  texts = (104 ∷ 105 ∷ 0 ∷ []) ∷ [];
}

abbrev symbol : List ℕ → Home → ℕ → Symbol
symbol name home size = record { name = name; home = home; value = 0; size = size; local = false; function = false }

main_calls_f : (body : Stmt) (tbody : TStmt) (code : UnitCode) → stmt_uses tbody ≡ 0 ∷ []
    → code.functions.items ≡ record { name = codes "main"; local = false; start = 0; bytes = 40 } ∷ []
    → (parts_of (program body) (typed tbody) code).symbols
    ≡ record (symbol [] Rodata 16) { local = true } ∷ record (symbol (codes "h") Zero 16) { local = true }
    ∷ record (symbol (codes "main") Text 40) { function = true } ∷ symbol (codes "g") Init 16 ∷ symbol (codes "f") Undef 0 ∷ []
main_calls_f body tbody code uses functions = rw (uses, functions, size-int) refl

its_bytes : (body : Stmt) (tbody : TStmt) (code : UnitCode) →
    (parts_of (program body) (typed tbody) code).init_bytes ≡ 7 ∷ replicate 15 0
its_bytes body tbody code = rw (size-int) refl

its_texts : (body : Stmt) (tbody : TStmt) (code : UnitCode) →
    (parts_of (program body) (typed tbody) code).rodata ≡ 104 ∷ 105 ∷ replicate 14 0
its_texts body tbody code = refl

its_zeros : (body : Stmt) (tbody : TStmt) (code : UnitCode) → (parts_of (program body) (typed tbody) code).zero_bytes ≡ 16
its_zeros body tbody code = rw (size-int) refl

its_tagged : (body : Stmt) (tbody : TStmt) (code : UnitCode) → stmt_uses tbody ≡ 0 ∷ []
    → code.functions.items ≡ record { name = codes "main"; local = false; start = 0; bytes = 40 } ∷ []
    → (parts_of (program body) (typed tbody) code).tagged ≡ 1 ∷ 3 ∷ []
its_tagged body tbody code uses functions = rw (uses, functions) refl

abbrev reloc : ℕ → ℕ → ℕ → ℤ → Reloc
reloc offset kind symbol addend = record { offset = offset; kind = kind; symbol = symbol; addend = addend }

-- a text, an object, and a call
its_relocations : (body : Stmt) (tbody : TStmt) (code : UnitCode) → stmt_uses tbody ≡ 0 ∷ []
    → code.functions.items ≡ record { name = codes "main"; local = false; start = 0; bytes = 40 } ∷ []
    → map (code_reloc (code_symbol (number_of (length (typed tbody).texts) (named_symbols (program body) (typed tbody) code))
    (typed tbody) code)) (
    record { offset = 8; kind = 275; target = code_target.Text 0; addend = pos 0 }
    ∷ record { offset = 16; kind = 311; target = code_target.Global 1; addend = pos 0 }
    ∷ record { offset = 24; kind = 283; target = code_target.Extern 0; addend = pos 0 } ∷ [])
    ≡ reloc 8 275 0 (pos 0) ∷ reloc 16 311 3 (pos 0) ∷ reloc 24 283 4 (pos 0) ∷ []
its_relocations body tbody code uses functions = rw (uses, functions) refl

-- extern int b[4]; int *p = &b[4]; int b[4];
abbrev pointing : Program
pointing = record {
  items = external.Objects storage.Extern (decl (codes "b") ∷ []) ∷ external.Objects storage.None (decl (codes "p") ∷ [])
      ∷ external.Objects storage.None (decl (codes "b") ∷ []) ∷ [];
}

abbrev pointing_typed : Typed
pointing_typed = record {
  structs = [];
  globals =
      record { name = codes "b"; ty = ty.Array (ty.Int int.Int) 4; local = false; init = []; span = nowhere }
      ∷ record {
        name = codes "p";
        ty = ty.Pointer (ty.Int int.Int);
        local = false;
        init = record { offset = 0; value = initial.Address (target.Global 0) (pos 16) } ∷ [];
        span = nowhere;
      }
      ∷ [];
  functions = [];
  externs = [];
  texts = [];
}

-- its address is known to the linker
pointing_bytes : (code : UnitCode) → (parts_of pointing pointing_typed code).init_bytes ≡ replicate 16 0
pointing_bytes code = rw (size-pointer) refl

pointing_relocations : (code : UnitCode) →
    (parts_of pointing pointing_typed code).init_relocs ≡ reloc 0 257 0 (pos 16) ∷ []
pointing_relocations code = refl

pointing_symbols : (code : UnitCode) →
    (parts_of pointing pointing_typed code).symbols ≡ symbol (codes "b") Zero 16 ∷ symbol (codes "p") Init 16 ∷ []
pointing_symbols code = rw (size-array, size-int, size-pointer) refl

-- extern int b; int a = 1; int b = 2;
abbrev later : Program
later = record {
  items = external.Objects storage.Extern (decl (codes "b") ∷ []) ∷ external.Objects storage.None (decl (codes "a") ∷ [])
      ∷ external.Objects storage.None (decl (codes "b") ∷ []) ∷ [];
}

abbrev later_typed : Typed
later_typed = record {
  structs = [];
  globals =
      record {
        name = codes "b";
        ty = ty.Int int.Int;
        local = false;
        init = record { offset = 0; value = initial.Number 2 4 } ∷ [];
        span = nowhere;
      }
      ∷ record {
        name = codes "a";
        ty = ty.Int int.Int;
        local = false;
        init = record { offset = 0; value = initial.Number 1 4 } ∷ [];
        span = nowhere;
      }
      ∷ [];
  functions = [];
  externs = [];
  texts = [];
}

-- symbols stand by first declarations, bytes by definitions
later_symbols : (code : UnitCode) →
    (parts_of later later_typed code).symbols ≡ record (symbol (codes "b") Init 16) { value = 16 } ∷ symbol (codes "a") Init 16 ∷ []
later_symbols code = rw (size-int) refl

later_bytes : (code : UnitCode) → (parts_of later later_typed code).init_bytes ≡ 1 ∷ replicate 15 0 ++ 2 ∷ replicate 15 0
later_bytes code = rw (size-int) refl
