-- Initialisers and declarations in order are safe.
use Rattle.std.proofs.Common.{◌≡◌, sym, subst, ap, ◌∙◌, ℕ, zero, suc, ◌+◌, ◌≤◌, ◌<◌, arith, Bool, true, false, ◌||◌, List, []}
use Rattle.std.proofs.Common.{◌∷◌, map, take, Option, Some, None}
use Rattle.std.specs.Prelude.{slice_get, IfSome}
use Rattle.std.specs.List.{All, Contains}
use Rattle.std.proofs.lemmas.Option.{same_Some}
use Rattle.std.proofs.lemmas.List.Elements.{All-head, All-tail, All-map, All-contains}
use Rattle.c_ast.specs.declared.token.Span.{Span}
use Rattle.c_type_base.specs.declared.ty.Ty.{Ty, out-Ty}
use Rattle.c_type_base.specs.declared.ty.Ty.TheOpen.{Ty-F}
use Rattle.c_type_base.specs.declared.expr.TExpr.{TExpr}
use Rattle.c_type_base.specs.declared.expr.TNode.{out-TNode}
use Rattle.c_type_base.specs.declared.expr.TNode.TheOpen.{TNode-F}
use Rattle.c_type_base.specs.declared.statement.TInit.{TInit, out-TInit}
use Rattle.c_type_base.specs.declared.statement.TInit.TheOpen.{TInit-F}
use Rattle.c_type_base.specs.declared.statement.TDecl.{TDecl}
use Rattle.c_type_base.specs.declared.typed.LocalInfo.{LocalInfo}
use Rattle.c_type_base.specs.declared.typed.MemberInfo.{MemberInfo}
use Rattle.c_type_base.specs.Layout.{members_of}
use Rattle.c_type_base.specs.Types.{TyLayer, is_there, int_of_level, target_of_level, element_of_level, struct_of_level}
use Rattle.c_type_base.specs.Types.{is_struct, is_array, is_scalar, is_integer, element_of, struct_of}
use Rattle.block_meaning.specs.declared.cell.Cell.TheVariants.{Byte}
use Rattle.block_meaning.specs.declared.value.Pointer.{Pointer}
use Rattle.block_meaning.specs.Blocks.{pointer}
use Rattle.block_meaning.specs.Expressions.{NodeLayer, ExprParts, value_of, parts_at}
use Rattle.block_meaning.specs.ExpressionsInOrder.{Scope, HasValue, file_of}
use Rattle.block_meaning.specs.StatementsInOrder as order
use Rattle.block_meaning.specs.StatementsInOrder.{Initialises, Elements, Members, DeclarationInOrder}
use Rattle.block_meaning.specs.Laws.Progress.Fits.{fits-within, cells_of-within, pointer_in-within}
use Rattle.block_meaning.specs.Laws.Progress.Memory.{stored-safe, write-safe, copy-safe}
use Rattle.block_meaning.specs.Laws.Progress.Safe.{CellWithin, CellsWithin, Safe, Any, safe-gives, safe-then, safe-unit, safe-some}
use Rattle.block_meaning.specs.Laws.Progress.Scenes.{LocalAt, Scene, here_of, later, lower}
use Rattle.block_meaning.specs.Laws.Progress.Expressions.{value-safe}
use Rattle.block_meaning.specs.Laws.Progress.Nodes.{ValuePart, part-value, some-block}
use Rattle.block_meaning.specs.Laws.Progress.Locals.{info-is}
use Rattle.block_meaning.specs.Laws.Progress.Zero.{zero_cells-within}
use Rattle.block_meaning.specs.Locals.{InitParts, text_of, only_run, fill_array, fill_struct, fill_one, fill_elements}
use Rattle.block_meaning.specs.Locals.{fill_members}
use Rattle.block_meaning.specs.Locals.{fill_list, fill_node, fill_at, is_list, after_zero, declared_with}
use Rattle.block_meaning.specs.Locals.{declaration}
use Rattle.block_meaning.specs.Locals.{declarations}
use Rattle.block_meaning.specs.Linkage.{structs_of}
use Rattle.block_meaning.specs.Memory.{Object, object, write}
use Rattle.block_meaning.specs.Running.{Run, and_then, Context}

-- how initialisers run, with so many levels of expressions, and of initialisers, below them
abbrev pub init_parts : {s : Scope} {n w : ℕ} → Scene s n w → ℕ → ℕ → InitParts
init_parts scene levels fuel = record {
  here = here_of scene;
  parts = parts_at scene.calls (here_of scene) levels;
  fill = fill_at (here_of scene) (parts_at scene.calls (here_of scene) levels) fuel;
}

pub record InitSafe (s : Scope) (t : Ty) (init : TInit-F TInit) : Type 0 where
  pub depth : ℕ
  pub safe : {n w : ℕ} (scene : Scene s n w) (levels fuel : ℕ) → depth ≤ levels → depth ≤ fuel → (p : Pointer) → p.block < n →
      Safe n w (fill_node (init_parts scene levels fuel) (object t p) init) Any

pub record ElementsSafe (s : Scope) (t : Ty) (is : List TInit) : Type 0 where
  pub depth : ℕ
  pub safe : {n w : ℕ} (scene : Scene s n w) (levels fuel : ℕ) → depth ≤ levels → depth ≤ fuel → (p : Pointer) → p.block < n →
      (k : ℕ) → Safe n w (fill_elements (init_parts scene levels fuel) (object t p) k is) Any

pub record MembersSafe (s : Scope) (ms : List MemberInfo) (is : List TInit) : Type 0 where
  pub depth : ℕ
  pub safe : {n w : ℕ} (scene : Scene s n w) (levels fuel : ℕ) → depth ≤ levels → depth ≤ fuel → (p : Pointer) → p.block < n →
      Safe n w (fill_members (init_parts scene levels fuel) p ms is) Any

-- one level below
part_init : {s : Scope} {n w : ℕ} {t : Ty} (i : TInit) (part : InitSafe s t (out-TInit i)) (scene : Scene s n w) (levels fuel : ℕ) →
    part.depth ≤ levels → part.depth < fuel → (p : Pointer) → p.block < n →
    Safe n w (fill_at (here_of scene) (parts_at scene.calls (here_of scene) levels) fuel (object t p) i) Any
part_init i part scene levels zero deep enough p within = absurd (omega (arith, enough))
part_init i part scene levels (suc fuel) deep enough p within = part.safe scene levels fuel deep (omega (arith, enough)) p within

-- ---- expressions

pub run-safe : {s : Scope} {n w : ℕ} (e : TExpr) (part : ValuePart s e) (scene : Scene s n w) (levels : ℕ) → part.depth < levels →
    Safe n w (only_run (parts_at scene.calls (here_of scene) levels) e) Any
run-safe e part scene levels deep = safe-then (part-value e part scene levels deep e.span) (λ k more v fits.
    safe-gives tt (λ j further. tt))

scalar_one : {n w : ℕ} (init : InitParts) (o : Object) (e : TExpr) (l : TyLayer) →
    (is_there (int_of_level l) || is_there (target_of_level l)) ≡ true →
    Safe n w (and_then (value_of init.parts e) (λ v. write init.here e.span o v)) Any → Safe n w (fill_one init o e l) Any
scalar_one init o e (Ty-F.Int t) is safe = safe
scalar_one init o e (Ty-F.Pointer t) is safe = safe
scalar_one init o e _ is safe = absurd cc

scalar_safe : {s : Scope} {t : Ty} {e : TExpr} → is_scalar t ≡ true → ValuePart s e → e.ty ≡ t → InitSafe s t (TInit-F.One e)
scalar_safe {t = t} {e = e} is part same = record {
  depth = suc part.depth;
  safe = λ scene levels fuel deep enough p within. scalar_one (init_parts scene levels fuel) (object t p) e (out-Ty t) is
      (safe-then (part-value e part scene levels (omega (arith, deep)) e.span) (λ k more v fits.
      write-safe (here_of scene) e.span (object t p) v (omega (arith, within, more))
      (cells_of-within t k v (some-block (later k more scene)) (fits-within e.ty k v fits))));
}

struct_one : {n w : ℕ} (init : InitParts) (o : Object) (e : TExpr) (l : TyLayer) → is_there (struct_of_level l) ≡ true →
    Safe n w (fill_struct init o e (is_struct e.ty)) Any → Safe n w (fill_one init o e l) Any
struct_one init o e (Ty-F.Struct k) is safe = safe
struct_one init o e _ is safe = absurd cc

struct_safe : {s : Scope} {t : Ty} {e : TExpr} → is_struct t ≡ true → ValuePart s e → e.ty ≡ t → InitSafe s t (TInit-F.One e)
struct_safe {t = t} {e = e} is part same = record {
  depth = suc part.depth;
  safe = λ {n = n} {w = w} scene levels fuel deep enough p within.
      let init = init_parts scene levels fuel in
      let a_struct : is_struct e.ty ≡ true = ap is_struct same ∙ is in
      struct_one init (object t p) e (out-Ty t) is (subst (λ b. Safe n w (fill_struct init (object t p) e b) Any) (sym a_struct)
      (safe-then (part-value e part scene levels (omega (arith, deep)) e.span) (λ k more v fits.
      copy-safe (here_of scene) _ (pointer_in-within k v (some-block (later k more scene)) (fits-within e.ty k v fits))
      (omega (arith, within, more)))));
}

array_one : {n w : ℕ} (init : InitParts) (o : Object) (e : TExpr) (l : TyLayer) (element : Ty) → element_of_level l ≡ Some element →
    ((count : ℕ) → Safe n w (fill_array init count o.at e (out-TNode e.node)) Any) → Safe n w (fill_one init o e l) Any
array_one init o e (Ty-F.Array t count) element is safe = safe count
array_one init o e _ element is safe = absurd cc

text_stored : (n : ℕ) (bytes : List ℕ) → CellsWithin n (map Byte bytes)
text_stored n bytes = All-map (CellWithin n) Byte bytes (λ k d less. tt)

text_safe : {s : Scope} {t element : Ty} {e : TExpr} (k : ℕ) (bytes : List ℕ) → element_of t ≡ Some element →
    out-TNode e.node ≡ TNode-F.Text k → text_of (file_of s) k ≡ Some bytes → InitSafe s t (TInit-F.One e)
text_safe {t = t} {element = element} {e = e} k bytes is node_is there = record {
  depth = 0;
  safe = λ {n = n} {w = w} scene levels fuel deep enough p within.
      let init = init_parts scene levels fuel in
      array_one init (object t p) e (out-Ty t) element is (λ count.
      subst (λ node. Safe n w (fill_array init count p e node) Any) (sym node_is)
      (safe-unit (λ v less. safe-some _ bytes there (stored-safe p (map Byte (take count bytes)) (text_stored n (take count bytes))))));
}

-- the 0 of `{0}`
zero_array : {s : Scope} {n w : ℕ} {t : Ty} (init : InitParts) (count : ℕ) (p : Pointer) (e : TExpr) (node : NodeLayer) →
    HasValue s t node → Safe n w (only_run init.parts e) Any → Safe n w (fill_array init count p e node) Any
zero_array init count p e (TNode-F.Text k) d safe = elim d [ ]
zero_array init count p e _ d safe = safe

zero_struct : {n w : ℕ} (init : InitParts) (o : Object) (e : TExpr) (l : TyLayer) → is_there (int_of_level l) ≡ true →
    Safe n w (only_run init.parts e) Any → Safe n w (fill_struct init o e (is_there (struct_of_level l))) Any
zero_struct init o e (Ty-F.Int t) is safe = safe
zero_struct init o e _ is safe = absurd cc

zero_one : {s : Scope} {n w : ℕ} (init : InitParts) (o : Object) (e : TExpr) (l : TyLayer) →
    (is_there (element_of_level l) || is_there (struct_of_level l)) ≡ true → is_integer e.ty ≡ true → HasValue s e.ty (out-TNode e.node) →
    Safe n w (only_run init.parts e) Any → Safe n w (fill_one init o e l) Any
zero_one init o e (Ty-F.Array t count) is its d safe = zero_array init count o.at e (out-TNode e.node) d safe
zero_one init o e (Ty-F.Struct k) is its d safe = zero_struct init o e (out-Ty e.ty) its safe
zero_one init o e _ is its d safe = absurd cc

zero_safe : {s : Scope} {t : Ty} {e : TExpr} → (is_array t || is_struct t) ≡ true → is_integer e.ty ≡ true →
    HasValue s e.ty (out-TNode e.node) → InitSafe s t (TInit-F.One e)
zero_safe {s = s} {t = t} {e = e} is its d =
    let part : ValuePart s e = value-safe d in record {
      depth = suc part.depth;
      safe = λ scene levels fuel deep enough p within. zero_one (init_parts scene levels fuel) (object t p) e (out-Ty t) is its d
          (run-safe e part scene levels (omega (arith, deep)));
    }

-- ---- lists

elements_list : {n w : ℕ} (init : InitParts) (o : Object) (is : List TInit) (l : TyLayer) (element : Ty) →
    element_of_level l ≡ Some element → Safe n w (fill_elements init (object element o.at) 0 is) Any → Safe n w (fill_list init o is l) Any
elements_list {n = n} {w = w} init o is (Ty-F.Array t count) element there safe =
    subst (λ t. Safe n w (fill_elements init (object t o.at) 0 is) Any) (sym (same_Some t element there)) safe
elements_list init o is _ element there safe = absurd cc

elements_safe : {s : Scope} {t element : Ty} {is : List TInit} {span : Span} → element_of t ≡ Some element → ElementsSafe s element is →
    InitSafe s t (TInit-F.List is span)
elements_safe {s = s} {t = t} {element = element} {is = is} there all = record {
  depth = all.depth;
  safe = λ scene levels fuel deep enough p within. elements_list (init_parts scene levels fuel) (object t p) is (out-Ty t) element
      there (all.safe scene levels fuel deep enough p within 0);
}

members_list : {n w : ℕ} (init : InitParts) (o : Object) (is : List TInit) (l : TyLayer) (number : ℕ) →
    struct_of_level l ≡ Some number →
    Safe n w (fill_members init o.at (members_of (slice_get (structs_of init.here.program.units init.here.unit) number)) is) Any →
    Safe n w (fill_list init o is l) Any
members_list {n = n} {w = w} init o is (Ty-F.Struct k) number there safe =
    subst (λ j. Safe n w (fill_members init o.at (members_of (slice_get (structs_of init.here.program.units init.here.unit) j)) is) Any)
    (sym (same_Some k number there)) safe
members_list init o is _ number there safe = absurd cc

members_safe : {s : Scope} {t : Ty} {number : ℕ} {is : List TInit} {span : Span} → struct_of t ≡ Some number →
    MembersSafe s (members_of (slice_get (structs_of s.program.units s.unit) number)) is → InitSafe s t (TInit-F.List is span)
members_safe {t = t} {number = number} {is = is} there all = record {
  depth = all.depth;
  safe = λ scene levels fuel deep enough p within. members_list (init_parts scene levels fuel) (object t p) is (out-Ty t) number
      there (all.safe scene levels fuel deep enough p within);
}

no_element_safe : {s : Scope} {t : Ty} → ElementsSafe s t []
no_element_safe = record { depth = 0; safe = λ scene levels fuel deep enough p within k. safe-gives tt (λ j more. tt) }

element_safe : {s : Scope} {t : Ty} {i : TInit} {is : List TInit} → InitSafe s t (out-TInit i) → ElementsSafe s t is →
    ElementsSafe s t (i ∷ is)
element_safe {i = i} part rest = record {
  depth = suc (part.depth + rest.depth);
  safe = λ scene levels fuel deep enough p within k.
      safe-then (part_init i part scene levels fuel (omega (arith, deep)) (omega (arith, enough)) _ within) (λ m more a any.
      rest.safe (later m more scene) levels fuel (omega (arith, deep)) (omega (arith, enough)) p (omega (arith, within, more)) (k + 1));
}

no_member_safe : {s : Scope} {ms : List MemberInfo} → MembersSafe s ms []
no_member_safe = record { depth = 0; safe = λ scene levels fuel deep enough p within. safe-gives tt (λ j more. tt) }

member_safe : {s : Scope} {m : MemberInfo} {ms : List MemberInfo} {i : TInit} {is : List TInit} → InitSafe s m.ty (out-TInit i) →
    MembersSafe s ms is → MembersSafe s (m ∷ ms) (i ∷ is)
member_safe {i = i} part rest = record {
  depth = suc (part.depth + rest.depth);
  safe = λ scene levels fuel deep enough p within.
      safe-then (part_init i part scene levels fuel (omega (arith, deep)) (omega (arith, enough)) _ within) (λ k more a any.
      rest.safe (later k more scene) levels fuel (omega (arith, deep)) (omega (arith, enough)) p (omega (arith, within, more)));
}

mutual
  pub init-safe : {s : Scope} {t : Ty} {init : TInit-F TInit} → Initialises s t init → InitSafe s t init
  init-safe (order.scalar is d same) = scalar_safe is (value-safe d) same
  init-safe (order.struct_value is d same) = struct_safe is (value-safe d) same
  init-safe (order.text {k} {bytes} is node_is there) = text_safe k bytes is node_is there
  init-safe (order.zero_of_list is d its) = zero_safe is its d
  init-safe (order.elements there ds) = elements_safe there (elements-safe ds)
  init-safe (order.members there ds) = members_safe there (members-safe ds)

  pub elements-safe : {s : Scope} {t : Ty} {is : List TInit} → Elements s t is → ElementsSafe s t is
  elements-safe order.no_element = no_element_safe
  elements-safe (order.element d ds) = element_safe (init-safe d) (elements-safe ds)

  pub members-safe : {s : Scope} {ms : List MemberInfo} {is : List TInit} → Members s ms is → MembersSafe s ms is
  members-safe order.no_member = no_member_safe
  members-safe (order.member d ds) = member_safe (init-safe d) (members-safe ds)

-- ---- declarations

pub record DeclarationsSafe (s : Scope) (ds : List TDecl) : Type 0 where
  pub depth : ℕ
  pub safe : {n w : ℕ} (scene : Scene s n w) (levels : ℕ) → depth ≤ levels →
      Safe n w (declarations (here_of scene) (parts_at scene.calls (here_of scene) levels) levels ds) Any

after_zero_safe : {n w : ℕ} (here : Context) (o : Object) (b : Bool) {m : Run (Unit {0})} → 0 < n → o.at.block < n →
    ((k : ℕ) → n ≤ k → Safe k w m Any) → Safe n w (after_zero here o b m) Any
after_zero_safe {n = n} here o false some within each = each n (omega arith)
after_zero_safe {n = n} here o true some within each =
    safe-then (stored-safe o.at _ (zero_cells-within n some _ o.ty)) (λ k more a any. each k more)

pub record DeclarationSafe (s : Scope) (d : TDecl) (init : Option TInit) : Type 0 where
  pub depth : ℕ
  pub safe : {n w : ℕ} (scene : Scene s n w) (levels : ℕ) → depth ≤ levels →
      Safe n w (declared_with (here_of scene) (parts_at scene.calls (here_of scene) levels) levels d init) Any

declaration_by : {s : Scope} {d : TDecl} (l : LocalInfo) → slice_get s.function.locals d.local ≡ Some l → Contains s.locals d.local →
    (init : Option TInit) → IfSome init (λ i. Initialises s l.ty (out-TInit i)) → DeclarationSafe s d init
declaration_by l is has None fits = record { depth = 0; safe = λ scene levels deep. safe-gives tt (λ k more. tt) }
declaration_by {s = s} {d = d} l is has (Some i) fits =
    let part : InitSafe s l.ty (out-TInit i) = init-safe fits in record {
      depth = suc part.depth;
      safe = λ {n = n} scene levels deep. safe-unit (λ v less.
          let at = All-contains (LocalAt n scene.local) s.locals d.local scene.of_locals has in
          let here = here_of scene in
          let o = object l.ty (pointer at.block 0) in
          safe-some _ scene.call scene.call_is (safe-some _ l (info-is scene scene.local d.local l is) (safe-some _ at.block at.is
          (after_zero_safe here o (is_list (out-TInit i) || is_array l.ty) (some-block scene) at.within (λ k more.
          part_init i part (lower v (omega (arith, less)) (later k more scene)) levels levels (omega (arith, deep)) (omega (arith, deep))
          (pointer at.block 0) (omega (arith, at.within, more)))))));
    }

declarations_by : {n w : ℕ} (here : Context) (parts : ExprParts) (depth : ℕ) (d : TDecl) (ds : List TDecl) →
    Safe n w (declaration here parts depth d) Any → ((k : ℕ) → n ≤ k → Safe k w (declarations here parts depth ds) Any) →
    Safe n w (declarations here parts depth (d ∷ ds)) Any
declarations_by here parts depth d ds first rest = safe-then first (λ k more a any. rest k more)

no_declaration_safe : {s : Scope} → DeclarationsSafe s []
no_declaration_safe = record { depth = 0; safe = λ scene levels deep. safe-gives tt (λ k more. tt) }

declaration_safe : {s : Scope} {d : TDecl} {ds : List TDecl} → DeclarationSafe s d d.init → DeclarationsSafe s ds →
    DeclarationsSafe s (d ∷ ds)
declaration_safe {d = d} {ds = ds} first rest = record {
  depth = first.depth + rest.depth;
  safe = λ scene levels deep.
      declarations_by (here_of scene) (parts_at scene.calls (here_of scene) levels) levels d ds
      (first.safe scene levels (omega (arith, deep))) (λ k more. rest.safe (later k more scene) levels (omega (arith, deep)));
}

pub declarations-safe : {s : Scope} (ds : List TDecl) → All (DeclarationInOrder s) ds → DeclarationsSafe s ds
declarations-safe [] all = no_declaration_safe
declarations-safe {s = s} (d ∷ ds) all =
    let one = All-head (DeclarationInOrder s) d ds all in
    declaration_safe (declaration_by one.info one.info_is one.in_scope d.init one.init)
    (declarations-safe ds (All-tail (DeclarationInOrder s) d ds all))
