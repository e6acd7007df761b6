-- Runs lead to later states: calls of functions (this project's own).
use Rattle.std.proofs.Common.{◌≡◌, refl, leb, ℕ, zero, suc, ◌+◌, Bool, true, false, List, [], ◌∷◌, take}
use Rattle.std.specs.Prelude.{if◌then◌else◌}
use Rattle.c_type_base.specs.declared.statement.TItem.TheOpen.{TStmt-F}
use Rattle.c_type_base.specs.declared.statement.TStmt.{out-TStmt}
use Rattle.c_type_base.specs.declared.typed.TFunction.{TFunction}
use Rattle.c_type_base.specs.declared.typed.LocalInfo.{LocalInfo}
use Rattle.block_meaning.specs.Blocks.{Block, ended}
use Rattle.block_meaning.specs.Linkage.{function_named}
use Rattle.block_meaning.specs.Locals.{latest}
use Rattle.block_meaning.specs.Meaning.{open_bytes, new_call, with_arguments, is_of_call, end_call, body_node, body_of, call_of, calls_at}
use Rattle.block_meaning.specs.Meaning.{frame_bytes}
use Rattle.block_meaning.specs.Running.{Function, Deep, Context}
use Rattle.block_meaning.specs.Statements.{StmtLayer, StmtParts, declared}
use Rattle.block_meaning.specs.declared.value.Value.{Value}
use Rattle.code_follows.specs.Later.{Lasts}
use Rattle.code_follows.specs.Laws.Lasting.Words.{KeepsBlocks, stays-same, stays-map, lasts-gives, lasts-stops, lasts-stuck}
use Rattle.code_follows.specs.Laws.Lasting.Words.{lasts-with_blocks, lasts-then, lasts-choice, lasts-some}
use Rattle.code_follows.specs.Laws.Lasting.Expressions.{LastingCalls}
use Rattle.code_follows.specs.Laws.Lasting.Locals.{new_block_lasts, new_locals_lasts}
use Rattle.code_follows.specs.Laws.Lasting.Statements.{LastingStmts, items_lasts, statements_lasts}

arguments_lasts : (here : Context) (k : ℕ) (ls : List LocalInfo) (vs : List Value) → Lasts (with_arguments here k ls vs)
arguments_lasts here k [] [] = lasts-gives here
arguments_lasts here k (l ∷ ls) (v ∷ vs) = lasts-then (lasts-some (latest here.open_calls) (λ c. new_block_lasts here k _))
    (λ inner. arguments_lasts inner (k + 1) ls vs)
arguments_lasts here k _ _ = lasts-stuck

body_node_lasts : {s : StmtParts} → LastingStmts s → (here : Context) (body : StmtLayer) → Lasts (body_node s here body)
body_node_lasts of here (TStmt-F.Block is) = lasts-then (new_locals_lasts here (declared is)) (λ inner. items_lasts of inner is)
body_node_lasts of here _ = lasts-stuck

abbrev pub end_of : ℕ → Block → Block
end_of call b = (if is_of_call call b.kind then ended b else b)

pub end_keeps : (call : ℕ) → KeepsBlocks (end_of call)
end_keeps call = record { kind = λ b. kind_by b (is_of_call call b.kind); size = λ b. size_by b (is_of_call call b.kind) }
  where
    kind_by : (b : Block) (is : Bool) → (if is then ended b else b).kind ≡ b.kind
    kind_by b true = refl
    kind_by b false = refl

    size_by : (b : Block) (is : Bool) → (if is then ended b else b).size ≡ b.size
    size_by b true = refl
    size_by b false = refl

body_lasts : {s : StmtParts} → LastingStmts s → (f : TFunction) (vs : List Value) (here : Context) → Lasts (body_of s f vs here)
body_lasts of f vs here = lasts-then (arguments_lasts here 0 (take f.params f.locals) vs) (λ ready.
    lasts-then (body_node_lasts of ready (out-TStmt f.body)) (λ flow.
    lasts-then (lasts-some (latest here.open_calls) (λ c.
    lasts-with_blocks (end_call c.number) (stays-map (end_of c.number) (end_keeps c.number)))) (λ _. lasts-gives _)))

new_call_lasts : (here : Context) (f : Function) (place : ℕ) → Lasts (new_call here f place)
new_call_lasts here f place = record {
  leads = λ now. record { blocks = stays-same now.blocks; new_calls = _; calls_are = refl; input = λ bytes. bytes };
}

call_of_lasts : {s : StmtParts} → LastingStmts s → (here : Context) (f : Function) (vs : List Value) (g : TFunction) (bytes : ℕ) →
    Lasts (call_of s here f vs g bytes)
call_of_lasts of here f vs g bytes = lasts-choice (leb (open_bytes here.open_calls + bytes) here.program.stack)
    (lasts-then (new_call_lasts here f (open_bytes here.open_calls + bytes)) (λ inner. body_lasts of g vs inner)) (lasts-stops Deep)

pub calls_lasts : (bound : ℕ) → LastingCalls (calls_at bound)
calls_lasts zero here f vs = lasts-stuck
calls_lasts (suc bound) here f vs = lasts-some (function_named here.program.units f) (λ g.
    lasts-some (frame_bytes here.program f) (λ bytes.
    call_of_lasts (statements_lasts (calls_lasts bound) bound) here f vs g bytes))
