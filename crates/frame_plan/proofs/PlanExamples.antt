-- The lines of given functions and frames.
use Rattle.std.proofs.Common.{◌≡◌, refl, ℕ, List, [], ◌∷◌, false}
use Rattle.std.specs.Fmt.{digits}
use Rattle.std.specs.Prelude.{codes}
use Rattle.c_ast.specs.declared.token.Span.{Span}
use Rattle.c_ast.specs.declared.int_type.IntType.TheVariants as int
use Rattle.c_type_base.specs.declared.ty.Ty.TheVariants as ty
use Rattle.c_type_base.specs.Laws.Opened.{given_types, given_typed}
use Rattle.c_type_base.specs.Laws.SizeLaws.{size-int, align-int}
use Rattle.c_type_base.specs.declared.statement.TItem.TheOpen.{TStmt-F}
use Rattle.c_type_base.specs.declared.statement.TItem.TheFolds.{fold-roll-TStmt}
use Rattle.c_type_base.specs.declared.statement.TStmt.TheVariants as stmt
use Rattle.c_type_base.specs.declared.typed.LocalInfo.{LocalInfo}
use Rattle.c_type_base.specs.declared.typed.TFunction.{TFunction}
use Rattle.c_type_base.specs.declared.typed.Typed.{Typed}
use Rattle.slot_safety.specs.declared.kind.Kind.{Kind}
use Rattle.slot_safety.specs.declared.kind.Kind.TheVariants.{Safe, Tagged}
use Rattle.frame_layout.specs.declared.placed.Part.{Part}
use Rattle.slot_safety.specs.Laws.OccurrenceLaws.{harms-block}
use Rattle.slot_safety.specs.Statements.{stmt_harms}
use Rattle.frame_layout.specs.Frames.{frame_by}
use Rattle.frame_layout.specs.StatementNeeds.{stmt_need, item_step, stmt_step}
use Rattle.frame_plan.specs.Lines.{function_lines, lines}

abbrev nowhere : Span
nowhere = record { start = 0; end = 0 }

abbrev local : List ℕ → LocalInfo
local name = record { name = name; ty = ty.Int int.Int; span = nowhere }

abbrev function : List ℕ → ℕ → List LocalInfo → TFunction
function name params locals = record {
  name = name;
  local = false;
  params = params;
  result = ty.Int int.Int;
  locals = locals;
  body = stmt.Block [];
  span = nowhere;
}

abbrev part : ℕ → ℕ → Kind → Part
part bytes align kind = record { bytes = bytes; align = align; kind = kind; inner = false }

-- char a[16]; char b[16]; int i; where a and b are tagged, with two words
three_lines : function_lines (function (codes "main") 0 (local (codes "a") ∷ local (codes "b") ∷ local (codes "i") ∷ []))
    (frame_by 2 (part 16 1 Tagged ∷ part 16 1 Tagged ∷ part 4 4 Safe ∷ []))
    ≡ codes "function main 80\ntagged 48 16 0 a\ntagged 64 16 1 b\nsafe 40 4 i\n"
unfolding digits
three_lines = refl

-- a function without parameters and locals
one_line : function_lines (function (codes "f") 0 []) (frame_by 0 []) ≡ codes "function f 32\n"
unfolding digits
one_line = refl

-- ---- whole programs

no_words : stmt_need (stmt.Block []) ≡ 0
unfolding given_typed
no_words = fold-roll-TStmt ℕ ℕ item_step stmt_step (TStmt-F.Block [])

no_harm : stmt_harms [] (stmt.Block []) ≡ []
unfolding given_typed
no_harm = harms-block [] []

-- int f(int x) { } int g(void) { }
abbrev program : Typed
program = record {
  structs = [];
  globals = [];
  functions = function (codes "f") 1 (local (codes "x") ∷ []) ∷ function (codes "g") 0 [] ∷ [];
  externs = [];
  texts = [];
}

two_functions : lines program ≡ codes "function f 32\nsafe 24 4 x\nfunction g 32\n"
unfolding digits given_types given_typed
two_functions = rw (no_words, no_harm, size-int [] int.Int, align-int [] int.Int) refl
