-- What the side conditions keep out: `break` and `continue` outside a loop, an `else` that belongs to a farther `if`, and a parameter
-- `void`.
use Rattle.std.specs.Prelude.{ℕ, List, [], Some, None}
use Rattle.c_ast.specs.Laws.Opened.{given_trees}
use Rattle.c_ast.specs.Tree.{StmtLayer}
use Rattle.c_ast.specs.Seen.{Seen as Token}
use Rattle.c_ast.specs.declared.statement.Stmt.{Stmt, out-Stmt}
use Rattle.c_ast.specs.declared.statement.Item.TheOpen.{Stmt-F}
use Rattle.c_ast.specs.declared.declaration.Decl.{Decl}
use Rattle.c_grammar.specs.Parameters.{OneVoid, Parameters, no_word, void, parameters}
use Rattle.c_grammar.specs.Statements.{Place, Ending, Statement, Outside, Closed, compound, expression, empty, if_then, if_else}
use Rattle.c_grammar.specs.Statements.{while_loop, do_loop, for_loop, return_word, break_word, continue_word, block}

-- is this level a `break` or a `continue`?
abbrev jumps : StmtLayer → Type 0
jumps (Stmt-F.Break s) = Unit {0}
jumps (Stmt-F.Continue s) = Unit {0}
jumps _ = ⊥

no_jump : {e : Ending} {n : ℕ} {s : Stmt} {w : List Token} → Statement Outside e n s w → ¬ jumps (out-Stmt s)
unfolding given_trees
no_jump (compound (block l r bl items br)) h = h
no_jump (expression z e semicolon) h = h
no_jump (empty z semicolon) h = h
no_jump (if_then t l r kt pl e pr s) h = h
no_jump (if_else t l r x kt pl e pr s kx o) h = h
no_jump (while_loop t l r kt pl e pr s) h = h
no_jump (do_loop t x l r z kt s kx pl e pr pz) h = h
no_jump (for_loop t l z r kt pl f c pz d pr s) h = h
no_jump (return_word t z kt e pz) h = h

-- is this level an `if` without `else`?
abbrev lacks_else : StmtLayer → Type 0
lacks_else (Stmt-F.If e s None) = Unit {0}
lacks_else _ = ⊥

-- is this level an `if` with an `else`, and directly between them an `if` without?
abbrev skips_if : StmtLayer → Type 0
skips_if (Stmt-F.If e s (Some o)) = lacks_else (out-Stmt s)
skips_if _ = ⊥

closed_has_else : {p : Place} {n : ℕ} {s : Stmt} {w : List Token} → Statement p Closed n s w → ¬ lacks_else (out-Stmt s)
unfolding given_trees
closed_has_else (compound (block l r bl items br)) h = h
closed_has_else (expression z e semicolon) h = h
closed_has_else (empty z semicolon) h = h
closed_has_else (if_else t l r x kt pl e pr s kx o) h = h
closed_has_else (while_loop t l r kt pl e pr s) h = h
closed_has_else (do_loop t x l r z kt s kx pl e pr pz) h = h
closed_has_else (for_loop t l z r kt pl f c pz d pr s) h = h
closed_has_else (return_word t z kt e pz) h = h
closed_has_else (break_word t z kt pz) h = h
closed_has_else (continue_word t z kt pz) h = h

no_skipped_if : {p : Place} {a : Ending} {n : ℕ} {s : Stmt} {w : List Token} → Statement p a n s w → ¬ skips_if (out-Stmt s)
unfolding given_trees
no_skipped_if (compound (block l r bl items br)) h = h
no_skipped_if (expression z e semicolon) h = h
no_skipped_if (empty z semicolon) h = h
no_skipped_if (if_then t l r kt pl e pr s) h = h
no_skipped_if (if_else t l r x kt pl e pr s kx o) h = closed_has_else s h
no_skipped_if (while_loop t l r kt pl e pr s) h = h
no_skipped_if (do_loop t x l r z kt s kx pl e pr pz) h = h
no_skipped_if (for_loop t l z r kt pl f c pz d pr s) h = h
no_skipped_if (return_word t z kt e pz) h = h
no_skipped_if (break_word t z kt pz) h = h
no_skipped_if (continue_word t z kt pz) h = h

no_parameter : ¬ OneVoid []
no_parameter h = elim h [ ]

no_void_parameter : {n : ℕ} {ds : List Decl} {w : List Token} → Parameters n ds w → ¬ OneVoid ds
no_void_parameter (no_word l r pl pr) h = no_parameter h
no_void_parameter (void l r pl v one pr) h = no_parameter h
no_void_parameter (parameters l r pl ds apart pr) h = apart h
