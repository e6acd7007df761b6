-- The object of a declaration, by what the code knows of the local.
use Rattle.std.proofs.Common.{◌≡◌, subst, sym, ◌∙◌, refl, ℕ, List, [], ◌∷◌, Option, Some, Ok, slice_get}
use Rattle.c_type_base.specs.declared.statement.TDecl.{TDecl}
use Rattle.c_type_base.specs.declared.typed.LocalInfo.{LocalInfo}
use Rattle.block_meaning.specs.Blocks.{pointer}
use Rattle.block_meaning.specs.Locals.{latest, local_info}
use Rattle.block_meaning.specs.Memory.{Object, object}
use Rattle.block_meaning.specs.Running.{Call, Context, State, Run, Stuck, gives, with_some}
use Rattle.mean_machine.specs.Execution.{declared_object}
use Rattle.mean_effects.specs.Laws.Giving.{gives-stuck, gives-value}
use Rattle.mean_effects.specs.Shown.{IsNow, IsHere, RunsIn, Gives}
use Rattle.mean_effects.specs.declared.here.Here.{Here}
use Rattle.mean_effects.specs.declared.now.Now.{Now}

-- by the local's block
abbrev at_block : LocalInfo → Option ℕ → Run Object
at_block l block = with_some block (λ b. gives (object l.ty (pointer b 0)))

abbrev of_local : Option LocalInfo → Option ℕ → Run Object
of_local info block = with_some info (λ l. at_block l block)

abbrev in_call : Context → TDecl → List Call → Run Object
in_call here d calls = with_some (latest calls) (λ c. of_local (local_info here c d.local) (here.local d.local))

object_in : (n : Now) (h : Here) (here : Context) (now : State) (d : TDecl) (l : LocalInfo) (block : ℕ) (calls : List Call) →
    RunsIn h here calls → slice_get h.locals.now d.local ≡ Some l → here.local d.local ≡ Some block → IsNow n now →
    Gives n now (Ok (object l.ty (pointer block 0))) (in_call here d calls now)
object_in n h here now d l block [] runs is_local is_block shown = gives-stuck n now (Ok (object l.ty (pointer block 0))) Stuck now tt
object_in n h here now d l block (c ∷ cs) runs is_local is_block shown =
    let found = object l.ty (pointer block 0) in
    subst (λ info. Gives n now (Ok found) (of_local info (here.local d.local) now)) (sym (runs.locals d.local ∙ is_local))
    (subst (λ b. Gives n now (Ok found) (at_block l b now)) (sym is_block) (gives-value refl shown))

pub object-declared : {n : Now} {h : Here} {here : Context} {now : State} {l : LocalInfo} {block : ℕ} (d : TDecl) → IsHere h here →
    slice_get h.locals.now d.local ≡ Some l → here.local d.local ≡ Some block → IsNow n now →
    Gives n now (Ok (object l.ty (pointer block 0))) (declared_object here d now)
object-declared {n = n} {h = h} {here = here} {now = now} {l = l} {block = block} d of_here is_local is_block shown =
    object_in n h here now d l block here.open_calls of_here.runs_in is_local is_block shown
