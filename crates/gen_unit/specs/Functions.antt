-- The words of a function (the procedure call standard for the Arm 64-bit architecture, with the frame of `frame_layout`).
use Rattle.std.specs.Prelude.{ℕ, suc, ◌/◌, ◌%◌, nat_lt, true, List, [], ◌∷◌, ◌++◌, length, map, take, slice_get, if◌then◌else◌}
use Rattle.c_type_base.specs.declared.statement.TItem.{TItem}
use Rattle.c_type_base.specs.declared.statement.TItem.TheOpen.{TStmt-F}
use Rattle.c_type_base.specs.declared.statement.TStmt.{out-TStmt}
use Rattle.c_type_base.specs.declared.typed.LocalInfo.{LocalInfo}
use Rattle.c_type_base.specs.declared.typed.StructInfo.{StructInfo}
use Rattle.c_type_base.specs.declared.typed.TFunction.{TFunction}
use Rattle.a64_code.specs.declared.instr.Instr.{Instr}
use Rattle.a64_code.specs.declared.instr.Instr.TheVariants.{SubImm, Stp, Ldp, Ret}
use Rattle.a64_laws.specs.Constants.{constant_moves}
use Rattle.a64_laws.specs.Forms.{stack_pointer}
use Rattle.a64_laws.specs.Frames.{frame_pointer, link_register}
use Rattle.block_meaning.specs.Statements.{StmtLayer}
use Rattle.frame_layout.specs.declared.frame.Frame.{Frame}
use Rattle.frame_layout.specs.Frames.{frame}
use Rattle.tag_plan.specs.Lists.{offset_from, entry_list, exit_list}
use Rattle.sym_code.specs.declared.item.SymItem.{SymItem}
use Rattle.gen_base.specs.Accesses.{reached}
use Rattle.gen_base.specs.Code.{Code, nothing, plain, in_turn}
use Rattle.gen_base.specs.Registers.{argument, returned}
use Rattle.gen_stmt.specs.Loops.{Around, in_loop}
use Rattle.gen_stmt.specs.Statements.{store_local, body_code}
use Rattle.gen_unit.specs.Labels.{end_of, label_in, words_in, form_of}
use Rattle.gen_unit.specs.Words.{Word, Form, whole}

-- ---- entry and exit

-- SP goes down by so many bytes, in two steps from 4,096 on
abbrev pub lower : ℕ → List Instr
lower bytes =
    if nat_lt bytes 4096 then SubImm true 0 bytes stack_pointer stack_pointer ∷ []
    else SubImm true 1 (bytes / 4096) stack_pointer stack_pointer ∷ SubImm true 0 (bytes % 4096) stack_pointer stack_pointer ∷ []

-- the frame is made, X29 and X30 are saved at its lowest address, and the tagged slots that live as long as the call get their tags
abbrev pub entry : Frame → List Instr
entry f = lower f.bytes ++ Stp 0 link_register stack_pointer frame_pointer ∷ entry_list f

-- the tags are taken away, and X29, X30 and SP are what they were
abbrev pub exit : Frame → List Instr
exit f = exit_list f ++ Ldp 0 link_register stack_pointer frame_pointer ∷ offset_from stack_pointer f.bytes stack_pointer ++ Ret ∷ []

-- ---- items

-- the arguments come into the slots of the parameters
abbrev pub store_arguments : Frame → ℕ → List LocalInfo → Code
store_arguments f k [] = nothing
store_arguments f k (l ∷ ls) = in_turn (
    store_local k l.ty (reached l.ty (slice_get f.slots k)) (argument k) ∷ store_arguments f (suc k) ls ∷ [])

abbrev pub params_of : TFunction → List LocalInfo
params_of f = take f.params f.locals

abbrev pub parts_of : StmtLayer → List TItem
parts_of (TStmt-F.Block is) = is
parts_of _ = []

-- no loop stands round a body
abbrev pub no_loop : Around
no_loop = in_loop 0 0

-- a function that ends without `return` gives 0
abbrev pub function_code : List StructInfo → TFunction → Frame → Code
function_code structs f fr = in_turn (
    store_arguments fr 0 (params_of f) ∷ body_code structs fr (parts_of (out-TStmt f.body)) no_loop ∷
    plain (constant_moves returned 0) ∷ [])

abbrev pub function_items : List StructInfo → TFunction → List SymItem
function_items structs f = function_code structs f (frame structs f) 0

-- ---- words

-- the words of items in a frame, between entry and exit
abbrev pub words_by : Form → ℕ → List SymItem → List Word
words_by f at is = words_in f (record { label = label_in f at is; exit = end_of f at is }) at is

abbrev pub words_around : Frame → List SymItem → List Word
words_around f is = let at = length (entry f) in
    map whole (entry f) ++ words_by (form_of f at is) at is ++ map whole (exit f)

abbrev pub function_words : List StructInfo → TFunction → List Word
function_words structs f = words_around (frame structs f) (function_items structs f)
