-- The bodies of functions that tokens spell are blocks.
use Rattle.std.proofs.Common.{refl, ℕ, List, [], ◌∷◌, ◌++◌}
use Rattle.std.specs.List.{AllByRecursion}
use Rattle.c_ast.specs.Seen.{Seen}
use Rattle.c_ast.specs.declared.expr.CType.{CType}
use Rattle.c_ast.specs.declared.program.External.{External}
use Rattle.c_ast.specs.declared.program.Function.{Function}
use Rattle.c_ast.specs.declared.program.Program.{Program}
use Rattle.c_ast.specs.declared.statement.Stmt.{Stmt}
use Rattle.c_grammar.specs.Externals as grammar
use Rattle.c_grammar.specs.Externals.{Head, FunctionHead, ExternalDeclaration, TranslationUnit}
use Rattle.c_grammar.specs.Statements.{Block, Outside}
use Rattle.c_grammar.specs.Statements as statements
use Rattle.mt_compile.specs.Source.{SpelledBy}
use Rattle.well_typed_order.specs.Bodied.{IsBlock, BlockIfThere, PartBodied, Bodied}

abbrev All : List External → Type 0
All = AllByRecursion PartBodied

all-append : (xs ys : List External) → All xs → All ys → All (xs ++ ys)
all-append [] ys first second = second
all-append (x ∷ xs) ys first second = (first.0, all-append xs ys first.1 second)

head_bodied : {n : ℕ} {before : List External} {base : CType} {w : List Seen} → Head n before base w → All before
head_bodied (grammar.plain base) = tt
head_bodied (grammar.with_body s) = (tt, tt)

before_bodied : {n : ℕ} {before : List External} {f : Function} {w : List Seen} → FunctionHead n before f w → All before
before_bodied (grammar.function_head t _ head _ _ _) = head_bodied head

no_body : {n : ℕ} {before : List External} {f : Function} {w : List Seen} → FunctionHead n before f w → BlockIfThere f.body
no_body (grammar.function_head t _ _ _ _ _) = tt

block_is : {n : ℕ} {s : Stmt} {w : List Seen} → Block Outside n s w → IsBlock s
block_is (statements.block {is = is} l r left items right) = record { items = is; is = refl }

part_bodied : {n : ℕ} {is : List External} {w : List Seen} → ExternalDeclaration n is w → All is
part_bodied (grammar.include t is) = (tt, tt)
part_bodied (grammar.tag z _ is) = (tt, tt)
part_bodied (grammar.structure z s is) = (tt, tt)
part_bodied (grammar.objects z _ head objects is) = all-append _ _ (head_bodied head) (tt, tt)
part_bodied (grammar.declaration z head is) = all-append _ _ (before_bodied head) (no_body head, tt)
part_bodied (grammar.definition head named body) = all-append _ _ (before_bodied head) (block_is body, tt)

unit_bodied : {n : ℕ} {is : List External} {w : List Seen} → TranslationUnit n is w → All is
unit_bodied grammar.no_external = tt
unit_bodied (grammar.more_external unit part) = all-append _ _ (unit_bodied unit) (part_bodied part)

pub spelled-bodied : {text : List ℕ} {program : Program} → SpelledBy text program → Bodied program
spelled-bodied spelled = unit_bodied spelled.spells.spells
