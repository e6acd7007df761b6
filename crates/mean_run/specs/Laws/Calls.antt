-- Calls: which function it is, and how the code stands inside of it and behind it, as the machine does.
use Rattle.std.proofs.Common.{◌≡◌, refl, sym, subst, ap, ◌∙◌, arith, inl, ℕ, ◌+◌, ◌<◌, ◌≤◌, Bool, leb, true, false, List, [], ◌∷◌, ◌++◌}
use Rattle.std.proofs.Common.{length, take, take_all, le-leb, Option, Some, None, Result, Ok, Err}
use Rattle.std.proofs.lemmas.Bool.{lt-leb}
use Rattle.std.specs.Borrow.{Bor}
use Rattle.std.specs.Prelude.{slice_get}
use Rattle.c_ast.specs.declared.token.Span.{Span}
use Rattle.c_type_base.specs.declared.statement.TItem.TheOpen.{TStmt-F}
use Rattle.c_type_base.specs.declared.statement.TStmt.{out-TStmt}
use Rattle.c_type_base.specs.declared.typed.ExternInfo.{ExternInfo}
use Rattle.c_type_base.specs.declared.typed.TFunction.{TFunction}
use Rattle.block_meaning.specs.declared.value.Value.{Value}
use Rattle.block_meaning.specs.Blocks.{Block}
use Rattle.block_meaning.specs.Linkage.{Definition, called_as, definition_of, function_in, function_named, structs_in}
use Rattle.block_meaning.specs.Locals.{latest, local_in, new_locals}
use Rattle.block_meaning.specs.Meaning.{frame_in, frame_bytes, open_bytes, inside, new_call, end_call, result_of, with_arguments}
use Rattle.block_meaning.specs.Running.{Function, Call, Context, State, Goes, Run, and_then, gives, goes_on, with_some, with_blocks}
use Rattle.block_meaning.specs.Running as meaning
use Rattle.block_meaning.specs.Statements.{declared}
use Rattle.mean_machine.specs.Evaluation.{extern_function, if_known}
use Rattle.mean_machine.specs.Evaluation as evaluation
use Rattle.mean_machine.specs.Execution.{Entry, enter, entered, entered_body, entered_call, sequence, start_body}
use Rattle.mean_machine.specs.Frames as machine
use Rattle.mean_machine.specs.Going.{go_by, by, value}
use Rattle.mean_memory.specs.Standing.{IsMemory}
use Rattle.mean_start.specs.declared.file.Called.{Called}
use Rattle.mean_start.specs.declared.file.Extern.{Extern}
use Rattle.mean_start.specs.declared.file.File.{File}
use Rattle.mean_start.specs.Files.{IsFile, IsFileAt, IsExtern, IsLinked, IsProgram, called_by, called_where}
use Rattle.mean_run.specs.declared.entry.Entry as code
use Rattle.mean_expressions.specs.declared.frames.Control.{Control}
use Rattle.mean_expressions.specs.declared.frames.Control.TheVariants.{GivesValue}
use Rattle.mean_expressions.specs.declared.frames.Flow.{Flow}
use Rattle.mean_expressions.specs.declared.frames.FlowFrame.TheVariants as of_flow
use Rattle.mean_expressions.specs.declared.frames.Frame.{Frame}
use Rattle.mean_expressions.specs.declared.frames.Frame.TheVariants.{OnFlow}
use Rattle.mean_run.specs.declared.process.Process.{Process}
use Rattle.c_type_base.specs.declared.ty.Ty.{Ty}
use Rattle.c_type_base.specs.declared.statement.TItem.{TItem}
use Rattle.mean_effects.specs.declared.here.Here.{Here}
use Rattle.mean_effects.specs.declared.now.Ending.{Ending}
use Rattle.mean_effects.specs.declared.now.Ending.TheVariants as ending
use Rattle.mean_effects.specs.declared.now.Now.{Now}
use Rattle.mean_run.specs.Calling.{EntryAnswer, IsEntry, IsInCall, Request, Started, called_answer, next_call, origin_of}
use Rattle.mean_run.specs.Entering.{Behind, Made, Passed}
use Rattle.mean_expressions.specs.Laws.Standing.{free_by}
use Rattle.mean_run.specs.Laws.Moving.{moves-later}
use Rattle.mean_effects.specs.Laws.Giving.{quiet-itself, quiet-through, gives-free, gives-value}
use Rattle.mean_run.specs.Laws.Windows.{take-cleared}
use Rattle.mean_effects.specs.Shown.{IsNow, IsHere, RunsIn, Gives}
use Rattle.mean_expressions.specs.Stacked.{World, IsAt, Stacked, StopsBy, flow_of}
use Rattle.mean_run.specs.Processes.{Moves}

-- ---- which function

-- a file of the program
file_at : (h : Here) (here : Context) (unit : ℕ) (file : File) → IsHere h here → slice_get h.files.now unit ≡ Some file →
    IsFile file here.program unit
file_at h here unit file of_here at = subst (λ x. IsFileAt x here.program unit) at (of_here.program.each unit)

linked_by : (n : Now) (here : Context) (now : State) (span : Span) (unit : ℕ) (info : ExternInfo) (called : Called) (d : Definition)
    (x : Option Function) → unit ≡ here.unit → IsNow n now → called ≡ called_where x → called_as here.program.units here.unit info d ≡ x →
    Gives n now (called_answer unit span called) (if_known here span x now)
linked_by n here now span unit info called d None same shown is by_type =
    subst (λ y. Gives n now (called_answer unit span y) (if_known here span None now)) (sym is)
    (record { told = (refl, same, refl, quiet-itself now) })
linked_by n here now span unit info called d (Some f) same shown is by_type =
    subst (λ y. Gives n now (called_answer unit span y) (if_known here span (Some f) now)) (sym is) (gives-value refl shown)

defined_by : (n : Now) (here : Context) (now : State) (span : Span) (unit : ℕ) (info : ExternInfo) (called : Called)
    (d : Option Definition) → unit ≡ here.unit → IsNow n now → called ≡ called_by here.program.units here.unit info d →
    Gives n now (called_answer unit span called)
    (with_some d (λ x. if_known here span (called_as here.program.units here.unit info x)) now)
defined_by n here now span unit info called None same shown is =
    subst (λ y. Gives n now (called_answer unit span y) (meaning.stuck now)) (sym is) (gives-free n now (meaning.stuck now))
defined_by n here now span unit info called (Some d) same shown is =
    linked_by n here now span unit info called d (called_as here.program.units here.unit info d) same shown is refl

-- what a name stands for that another file defines
pub function-linked : (h : Here) (here : Context) (n : Now) (now : State) (span : Span) (file : File) (number : ℕ) (x : Extern) →
    IsHere h here → IsNow n now → slice_get h.files.now h.unit ≡ Some file → slice_get file.externs.items number ≡ Some x →
    Gives n now (called_answer h.unit span x.called) (evaluation.function_called here span number now)
function-linked h here n now span file number x of_here shown at linked =
    let units = here.program.units in
    let is : IsLinked x units here.unit number =
    subst (λ u. IsLinked x units u number) of_here.unit
    (subst (λ y. IsExtern y units h.unit number) linked ((file_at h here h.unit file of_here at).externs number)) in
    subst (λ y. Gives n now (called_answer h.unit span x.called) (with_some y (extern_function here span) now)) (sym is.is)
    (defined_by n here now span h.unit is.info x.called (definition_of units (Some is.info)) of_here.unit shown is.called)

-- ---- where its body runs

open_place : (h : Here) (here : Context) (calls : List Call) → RunsIn h here calls → h.place ≡ open_bytes calls
open_place h here [] runs = runs
open_place h here (c ∷ cs) runs = runs.place

-- where it fits
pub entry-at : (h : Here) (here : Context) (file : File) (e : code.Entry) (f : Function) (bytes calls first : ℕ) → IsHere h here →
    slice_get h.files.now f.unit ≡ Some file → slice_get file.typed.now.functions f.number ≡ Some e.function.now →
    slice_get file.frames.now f.number ≡ Some bytes → e.here.place ≡ h.place + bytes → e.here.place ≤ h.stack →
    e.here ≡ record h {
      unit = f.unit;
      structs = e.here.structs;
      locals = e.here.locals;
      call = calls;
      place = e.here.place;
      base = first;
    } → e.here.structs.now ≡ file.typed.now.structs → e.here.locals.now ≡ e.function.now.locals →
    IsEntry e here f calls first
entry-at h here file e f bytes calls first of_here at function frame place below is structs locals =
    let program = here.program in
    let of_file = file_at h here f.unit file of_here at in
    let found : function_named program.units f ≡ Some e.function.now = ap (λ x. function_in x f.number) of_file.typed ∙ function in
    let total : h.place + bytes ≡ open_bytes here.open_calls + bytes =
    ap (λ x. x + bytes) (open_place h here here.open_calls of_here.runs_in) in
    record {
      bytes = bytes;
      found = found;
      frame = ap (λ x. frame_in x f.number) of_file.frames ∙ frame;
      fits = le-leb (open_bytes here.open_calls + bytes) program.stack (omega (arith, place, below, total, of_here.stack));
      code = record {
        program = subst (λ x. IsProgram x program) (sym (ap (λ x. x.files.now) is)) of_here.program;
        stack = ap (λ x. x.stack) is ∙ of_here.stack;
        unit = ap (λ x. x.unit) is;
        structs = structs ∙ sym (ap structs_in of_file.typed);
        runs_in = record {
          number = ap (λ x. x.call) is;
          place = place ∙ total;
          locals = λ k. ap (λ x. local_in x k) found ∙ sym (ap (λ ls. slice_get ls k) locals);
        };
      };
      base = ap (λ x. x.base) is;
    }

-- want of memory is free
pub entry_free : (here : Context) (f : Function) (calls first : ℕ) → EntryAnswer (Err ending.NoMemory) here f calls first
entry_free here f calls first = λ k vs now. free_by now (enter here k f vs now)

-- where it does not fit
pub entry-deep : (h : Here) (here : Context) (file : File) (f : Function) (g : TFunction) (bytes : ℕ) (k : List machine.Frame)
    (vs : List Value) (now : State) → IsHere h here → slice_get h.files.now f.unit ≡ Some file →
    slice_get file.typed.now.functions f.number ≡ Some g → slice_get file.frames.now f.number ≡ Some bytes →
    h.stack < h.place + bytes → StopsBy now ending.Deep (enter here k f vs now)
entry-deep h here file f g bytes k vs now of_here at function frame over =
    let program = here.program in
    let of_file = file_at h here f.unit file of_here at in
    let place = open_bytes here.open_calls + bytes in
    let found : function_named program.units f ≡ Some g = ap (λ x. function_in x f.number) of_file.typed ∙ function in
    let sized : frame_bytes program f ≡ Some bytes = ap (λ x. frame_in x f.number) of_file.frames ∙ frame in
    let total : h.place ≡ open_bytes here.open_calls = open_place h here here.open_calls of_here.runs_in in
    let deep : leb place program.stack ≡ false = above place program.stack (omega (arith, over, total, of_here.stack)) in
    let inner : TFunction → ℕ → Run Entry = λ x b. entered here f vs x b in
    subst (λ x. StopsBy now ending.Deep (go_by (with_some x gives now) (λ y. by (with_some (frame_bytes program f) gives)
    (λ b. by (inner y b) (start_body here k y.result))))) (sym found)
    (subst (λ x. StopsBy now ending.Deep (go_by (with_some x gives now) (λ b. by (inner g b) (start_body here k g.result)))) (sym sized)
    (subst (λ x. StopsBy now ending.Deep (go_by (choice_by x) (start_body here k g.result))) (sym deep) (quiet-itself now))) where
      above : (a b : ℕ) → b < a → leb a b ≡ false
      above a b less = lt-leb a b less

      choice_by : Bool → meaning.Result Entry
      choice_by b = meaning.choice b (and_then (new_call here f (open_bytes here.open_calls + bytes))
          (λ ins. with_some (latest ins.open_calls) (entered_call vs g ins))) (meaning.stops meaning.Deep) now

-- ---- the call was entered

entry_by : (e : code.Entry) (here : Context) (f : Function) (vs : List Value) (items : List TItem) (now : State) (bytes : ℕ)
    (ready inner : Context)
    (middle after : State) → leb (open_bytes here.open_calls + bytes) here.program.stack ≡ true →
    out-TStmt e.function.now.body ≡ TStmt-F.Block items →
    (let c = next_call here f (length now.calls) bytes in
    let g = e.function.now in
    with_arguments (inside here c) 0 (take g.params g.locals) vs (record now { calls = now.calls ++ c ∷ [] }) ≡ Goes ready middle →
    new_locals ready (declared items) middle ≡ Goes inner after →
    entered here f vs g bytes now ≡ Goes (record { call = c; inner = inner; items = items }) after)
entry_by e here f vs items now bytes ready inner middle after fits body args locals =
    let c = next_call here f (length now.calls) bytes in
    let g = e.function.now in
    let start = record now { calls = now.calls ++ c ∷ [] } in
    let place = open_bytes here.open_calls + bytes in
    let last : Context → Run Entry = λ x. gives (record { call = c; inner = x; items = items }) in
    ap (λ b. meaning.choice b (and_then (new_call here f place) (λ ins. with_some (latest ins.open_calls) (entered_call vs g ins)))
    (meaning.stops meaning.Deep) now) fits
    ∙ ap (λ x. goes_on x (λ r. entered_body c r (out-TStmt g.body))) args
    ∙ ap (λ s. entered_body c ready s middle) body
    ∙ ap (λ x. goes_on x last) locals

-- its parameters and the locals of its body's outermost block have their blocks
pub started-from : {e : code.Entry} {here : Context} {f : Function} {vs : List Value} {items : List TItem} {n m : Now} {now : State}
    {before middle locals : List (Option ℕ)} (calls : ℕ) (i : IsEntry e here f calls (length before)) → calls ≡ length now.calls →
    out-TStmt e.function.now.body ≡ TStmt-F.Block items →
    (let o = origin_of here (next_call here f calls i.bytes) before now in
    (p : Passed e.here o (with_arguments o.here 0 (take e.function.now.params e.function.now.locals) vs o.start) m middle) →
    Made e.here (record { here = p.reached.inner; locals = middle; start = p.reached.after }) (declared items) n locals →
    Started e (record { here = here; function = f; values = vs; items = items; now = now }) before n locals)
started-from {e = e} {here = here} {f = f} {vs = vs} {items = items} {n = n} {now = now} {before = before} {middle = middle}
    {locals = locals} calls i same body p made =
    let c = next_call here f calls i.bytes in
    let g = e.function.now in
    let r = made.reached in
    let again : (x : ℕ) → x ≡ calls → with_arguments (inside here (next_call here f x i.bytes)) 0 (take g.params g.locals) vs
    (record now { calls = now.calls ++ next_call here f x i.bytes ∷ [] }) ≡ Goes p.reached.inner p.reached.after =
    λ x is. subst (λ y. with_arguments (inside here (next_call here f y i.bytes)) 0 (take g.params g.locals) vs
    (record now { calls = now.calls ++ next_call here f y i.bytes ∷ [] }) ≡ Goes p.reached.inner p.reached.after) (sym is) p.reached.is in
    record {
      bytes = i.bytes;
      found = i.found;
      frame = i.frame;
      call = next_call here f (length now.calls) i.bytes;
      inner = r.inner;
      after = r.after;
      is = entry_by e here f vs items now i.bytes p.reached.inner r.inner p.reached.after r.after i.fits body
          (again (length now.calls) (sym same)) r.is;
      number = sym same ∙ sym i.code.runs_in.number;
      at = r.at;
      kept = sym (take-cleared e.here.base (declared items) locals) ∙ ap (take e.here.base) made.back ∙ p.kept
          ∙ ap (λ b. take b before) i.base ∙ take-whole before;
      shown = r.shown;
      quiet = quiet-through (record { input = p.reached.quiet.input; output = p.reached.quiet.output }) r.quiet;
    } where
      take-whole : {A : Type 0} (xs : List A) → take (length xs) xs ≡ xs
      take-whole xs = take_all (length xs) xs (omega arith)

-- the frame of the call waits, and the body runs
pub moves-started : {p : Process} {r : Result Control Ending} {e : code.Entry} {q : Request} {before locals : List (Option ℕ)} {n : Now}
    (k : List machine.Frame) (s : Started e q before n locals) → Moves p s.after r (sequence s.inner
    (machine.OnFlow (machine.Called q.here s.call e.function.now.result) ∷ k) q.items s.after) →
    Moves p q.now r (enter q.here k q.function q.values q.now)
moves-started {p = p} {r = r} {e = e} {q = q} k s moves =
    let g = e.function.now in
    let inner : TFunction → ℕ → Run Entry = λ x b. entered q.here q.function q.values x b in
    moves-later s.quiet moved where
      moved : Moves p s.after r (enter q.here k q.function q.values q.now)
      moved = subst (λ x. Moves p s.after r (go_by (with_some x gives q.now)
          (λ y. by (with_some (frame_bytes q.here.program q.function) gives)
          (λ b. by (entered q.here q.function q.values y b) (start_body q.here k y.result))))) (sym s.found)
          (subst (λ x. Moves p s.after r (go_by (with_some x gives q.now)
          (λ b. by (entered q.here q.function q.values e.function.now b) (start_body q.here k e.function.now.result)))) (sym s.frame)
          (subst (λ x. Moves p s.after r (go_by x (start_body q.here k e.function.now.result))) (sym s.is) moves))

-- the frame of a call on the stack
pub call-waits : {e : code.Entry} {q : Request} {before locals : List (Option ℕ)} {n : Now} {outside : Here} {frames : List Frame}
    (front : List Frame) (k : List machine.Frame) (s : Started e q before n locals) (t : Bor Ty) → t.now ≡ e.function.now.result →
    frames ≡ front ++ OnFlow (of_flow.Called outside t) ∷ [] → IsAt (record { code = outside; locals = before }) q.here →
    Stacked k front (record { code = outside; locals = before }) q.here →
    Stacked (machine.OnFlow (machine.Called q.here s.call e.function.now.result) ∷ k) frames
    (record { code = e.here; locals = locals }) s.inner
call-waits {e = e} {q = q} {locals = locals} {outside = outside} front k s t same pushed at stacked =
    let there : List (Option ℕ) → World = λ l. record { code = outside; locals = l } in
    record {
      front = front;
      top = OnFlow (of_flow.Called outside t);
      is = pushed;
      shown = record {
        outer = q.here;
        call = s.call;
        is = ap (λ x. machine.OnFlow (machine.Called q.here s.call x)) (sym same);
        number = s.number;
        outside = subst (λ l. IsAt (there l) q.here) (sym s.kept) at;
        shown = subst (λ l. Stacked k front (there l) q.here) (sym s.kept) stacked;
      };
    }

-- ---- it is left

pub moves-returned : {p middle : Process} {h : Here} {c : Call} {v : Value} (b : Behind) (t : Ty) (f : Flow) → IsInCall middle h c b →
    v ≡ result_of t (flow_of f) → p.here ≡ h → p.locals.items ≡ take middle.here.base middle.locals.items →
    p.stack.items ≡ middle.stack.items →
    ((blocks : List Block) → IsMemory middle.now.memory blocks → IsMemory p.now.memory (end_call middle.here.call blocks)) →
    p.now.work ≡ middle.now.work → p.now.calls ≡ middle.now.calls → Moves p b.now (Ok (GivesValue v))
    (by (with_blocks (end_call c.number)) (λ u. value b.outer b.frames (result_of t (flow_of f))) b.now)
moves-returned {p = p} {middle = middle} {h = h} {c = c} b t f inside same code locals stack memory work calls =
    let there : Here → List (Option ℕ) → World = λ x l. record { code = x; locals = l } in
    let left = take middle.here.base middle.locals.items in
    record {
      told = inl (record {
        there = b.outer;
        at = subst (λ x. IsAt (there x p.locals.items) b.outer) (sym code)
            (subst (λ l. IsAt (there h l) b.outer) (sym locals) inside.outside);
        stood = record {
          frames_below = b.frames;
          after = record b.now { blocks = end_call c.number b.now.blocks };
          is = ap (λ x. value b.outer b.frames x (record b.now { blocks = end_call c.number b.now.blocks })) (sym same);
          stack = subst (λ s. Stacked b.frames s (there p.here p.locals.items) b.outer) (sym stack)
              (subst (λ x. Stacked b.frames middle.stack.items (there x p.locals.items) b.outer) (sym code)
              (subst (λ l. Stacked b.frames middle.stack.items (there h l) b.outer) (sym locals) inside.stack));
          now = record {
            memory = subst (λ n. IsMemory p.now.memory (end_call n b.now.blocks)) (sym inside.number)
                (memory b.now.blocks inside.shown.memory);
            work = work ∙ inside.shown.work;
            calls = calls ∙ inside.shown.calls;
          };
          quiet = record { input = refl; output = refl };
        };
      });
    }
