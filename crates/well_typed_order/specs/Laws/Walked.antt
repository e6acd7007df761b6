-- What holds behind the parts of a file that break no rule: names mean what is there, types are known, and what is defined is in order.
use Rattle.std.specs.Prelude.{not}
use Rattle.std.proofs.Common.{◌≡◌, refl, sym, ◌∙◌, ap, subst, ℕ, zero, suc, ◌+◌, true, false, ◌||◌, List, []}
use Rattle.std.proofs.Common.{◌∷◌, map, slice_get, length, Option, Some, None}
use Rattle.std.specs.Str.{bytes_eq}
use Rattle.std.specs.List.{AllByRecursion, list_any}
use Rattle.c_ast.specs.declared.declaration.Decl.{Decl}
use Rattle.c_ast.specs.declared.declaration.StructDecl.{StructDecl}
use Rattle.c_ast.specs.declared.program.External.TheVariants as external
use Rattle.c_ast.specs.declared.int_type.IntType.TheVariants as int
use Rattle.c_type_base.specs.declared.expr.Callee.TheVariants as callee
use Rattle.c_type_base.specs.Laws.GrowthLaws.{Extends, AllComplete, some}
use Rattle.c_type_base.specs.Layout.{members_of, type_of}
use Rattle.c_type_base.specs.Sizes.{is_complete, complete_struct}
use Rattle.c_type_base.specs.Types.{is_void, is_scalar}
use Rattle.c_type_base.specs.declared.ty.Ty.{Ty}
use Rattle.c_type_base.specs.declared.typed.GlobalInfo.{GlobalInfo}
use Rattle.c_type_base.specs.declared.typed.MemberInfo.{MemberInfo}
use Rattle.c_type_base.specs.declared.typed.StructInfo.{StructInfo}
use Rattle.c_type_base.specs.declared.typed.TFunction.{TFunction}
use Rattle.c_type_expr.specs.declared.scopes.Binding.{Binding}
use Rattle.c_type_expr.specs.declared.scopes.Meaning.TheVariants as means
use Rattle.c_type_expr.specs.declared.scopes.Signature.{Signature}
use Rattle.c_type_expr.specs.Environment.{binds, tag_number, in_scopes}
use Rattle.c_type_expr.specs.Outcomes.{behind}
use Rattle.c_type_stmt.specs.Declarations.{eof_name}
use Rattle.c_types.specs.declared.names.FileNames.{FileNames}
use Rattle.c_types.specs.declared.redeclared.Declared.{Declared}
use Rattle.c_types.specs.declared.redeclared.Kind.{Kind}
use Rattle.c_types.specs.declared.redeclared.Kind.TheVariants.{AnObject, AFunction}
use Rattle.c_types.specs.Files.{object_place, function_callee, putchar_name, getchar_name}
use Rattle.c_types.specs.Functions.{main_name}
use Rattle.c_types.specs.Laws.PromiseLaws.{part-good}
use Rattle.c_types.specs.Laws.TableLaws.{AllReady}
use Rattle.c_types.specs.Redeclarations.{putchar_type, getchar_type}
use Rattle.c_types.specs.Structs.{member, members}
use Rattle.c_types.specs.Units.{Judgement, with_names, included, with_tag, with_body, with_members}
use Rattle.c_types.specs.Units.{struct_judged}
use Rattle.block_meaning.specs.ExpressionsInOrder as order
use Rattle.block_meaning.specs.ExpressionsInOrder.{Scope}
use Rattle.block_meaning.specs.Linkage.{parameter_types, structs_of}
use Rattle.block_meaning.specs.ProgramsInOrder.{FunctionInOrder}
use Rattle.block_meaning.specs.Running.{Program}
use Rattle.well_typed_order.specs.Standing.{MeansIn, TextsIn, Silent}
use Rattle.well_typed_order.specs.Laws.Expressions.{whole-good}
use Rattle.well_typed_order.specs.Laws.Good.{none-after}
use Rattle.well_typed_order.specs.Laws.Growth.{In, Grows}
use Rattle.well_typed_order.specs.Laws.FirstBytes.{PieceIn}
use Rattle.well_typed_order.specs.Laws.Judged.{At, MembersComplete, env-like, at-names, length-both}
use Rattle.well_typed_order.specs.Laws.Known.{int-plain}
use Rattle.well_typed_order.specs.Laws.Parts.{no-names, found-names}
use Rattle.well_typed_order.specs.Laws.Scopes.{outside, nowhere}

-- what the declarations of a file declare is there
pub record Tables (s : Scope) (names : FileNames) (ds : List Declared) : Type 0 where
  pub object : (d : Declared) (t : Ty) → In ds d → d.kind ≡ AnObject (Some t) → is_void t ≡ false →
      MeansIn s (means.Object (object_place names d.name) (Some t))
  pub function : (d : Declared) (sig : Signature) → In ds d → d.kind ≡ AFunction (Some sig) →
      (is_void sig.result || is_scalar sig.result) ≡ true → MeansIn s (means.Function (function_callee names d.name) (Some sig))

-- no rule is broken so far, and what is declared so far is there
pub record Sound (s : Scope) (names : FileNames) (j : Judgement) : Type 0 where
  pub kept : j.faults ≡ []
  pub texts : TextsIn s 0 j.texts
  pub tables : Tables s names j.declared
  pub structs : Extends j.env.structs (structs_of s.program.units s.unit)

pub sound-before : (s : Scope) (names : FileNames) (j after : Judgement) → Grows j after → Sound s names after → Sound s names j
sound-before s names j after grows sound = record {
  kept = grows.kept sound.kept;
  texts = grows.texts s sound.texts;
  tables = record {
    object = λ d t is. sound.tables.object d t (grows.declared d is);
    function = λ d sig is. sound.tables.function d sig (grows.declared d is);
  };
  structs = λ n complete.
      let same = grows.structs sound.kept n complete in
      sound.structs n (ap complete_struct same ∙ complete) ∙ same;
}

-- a type is known, and is one that an object may have, or a function
abbrev pub KindFine : Kind → Type 0
KindFine (AnObject None) = ⊥
KindFine (AnObject (Some t)) = is_void t ≡ false
KindFine (AFunction None) = ⊥
KindFine (AFunction (Some sig)) = (is_void sig.result || is_scalar sig.result) ≡ true

-- an object that a file defines
pub record GlobalFine (s : Scope) (ds : List Declared) (g : GlobalInfo) : Type 0 where
  pub by : Declared
  pub declared : In ds by
  pub name_is : by.name ≡ g.name
  pub kind_is : by.kind ≡ AnObject (Some g.ty)
  pub pieces : AllByRecursion (PieceIn s) g.init

-- and a function
pub record FunctionFine (program : Program) (unit : ℕ) (ds : List Declared) (f : TFunction) : Type 0 where
  pub by : Declared
  pub declared : In ds by
  pub name_is : by.name ≡ f.name
  pub kind_is : by.kind ≡ AFunction (Some (record { result = f.result; params = parameter_types f }))
  pub in_order : FunctionInOrder program unit f
  pub main : bytes_eq f.name main_name ≡ true → f.params ≡ 0

-- what defines something has left it there
abbrev pub Left : Judgement → Kind → List ℕ → Type 0
Left j (AnObject t) name = (g : GlobalInfo) × In j.globals g × (g.name ≡ name)
Left j (AFunction sig) name = (f : TFunction) × In j.functions f × (f.name ≡ name)

pub record Walked (program : Program) (unit : ℕ) (j : Judgement) : Type 0 where
  pub at : At (outside program unit) j
  pub ready : AllReady j.env.structs
  pub kinds : (d : Declared) → In j.declared d → KindFine d.kind
  pub globals : (g : GlobalInfo) → In j.globals g → GlobalFine (outside program unit) j.declared g
  pub functions : (f : TFunction) → In j.functions f → FunctionFine program unit j.declared f
  pub left : (d : Declared) → In j.declared d → d.defined ≡ true → Left j d.kind d.name

-- ---- structs

all_complete : (structs : List StructInfo) (ms : List MemberInfo) → AllComplete structs (map type_of ms) → (k : ℕ) (m : MemberInfo) →
    slice_get ms k ≡ Some m → is_complete structs m.ty ≡ true
all_complete structs [] all k m is = absurd cc
all_complete structs (x ∷ ms) (some complete all) zero m is =
    let same : x ≡ m = cc in subst (λ (m : MemberInfo). is_complete structs m.ty ≡ true) same complete
all_complete structs (x ∷ ms) (some complete all) (suc k) m is = all_complete structs ms all k m is

pub ready-complete : (structs : List StructInfo) → AllReady structs → MembersComplete structs
ready-complete structs ready number k m is = by_info (slice_get structs number) refl is
  where
    by_info : (o : Option StructInfo) → slice_get structs number ≡ o → slice_get (members_of o) k ≡ Some m →
        is_complete structs m.ty ≡ true
    by_info None same is = absurd cc
    by_info (Some info) same is = all_complete structs info.members (ready number info same).all k m is

-- the members of all structs of a file are objects
abbrev pub FinalObjects : Scope → Type 0
FinalObjects s = (number k : ℕ) (m : MemberInfo) → slice_get (members_of (slice_get (structs_of s.program.units s.unit) number)) k ≡
    Some m →
    is_void m.ty ≡ false

member_silent : (new : _) (d : Decl) → Silent (member new d)
member_silent new d env = (whole-good nowhere d.ty d.span).silent env

members_silent : (seen : List (List ℕ)) (ds : List Decl) → Silent (members seen ds)
members_silent seen [] env = refl
members_silent seen (d ∷ ds) env =
    let one = member (not (list_any (bytes_eq d.name) seen)) d env in
    none-after (members (d.name ∷ seen) ds (behind one env)).names one.names (members_silent (d.name ∷ seen) ds (behind one env))
    (member_silent (not (list_any (bytes_eq d.name) seen)) d env)

-- names and texts, whatever the structs are
record Named (s : Scope) (j : Judgement) : Type 0 where
  names : (name : List ℕ) (b : Binding) → in_scopes name j.env.scopes ≡ Some b → MeansIn s b.means
  texts_are : j.env.texts ≡ length j.texts

-- the same but for structs, faults and texts
record Beside (j after : Judgement) : Type 0 where
  declared : after.declared ≡ j.declared
  globals : after.globals ≡ j.globals
  functions : after.functions ≡ j.functions

tag_named : (s : Scope) (j : Judgement) (tag : List ℕ) (o : Option ℕ) → Named s j → Named s (with_tag j tag o)
tag_named s j tag (Some n) named = named
tag_named s j tag None named = record { names = named.names; texts_are = named.texts_are }

tag_beside : (j : Judgement) (tag : List ℕ) (o : Option ℕ) → Beside j (with_tag j tag o)
tag_beside j tag (Some n) = record { declared = refl; globals = refl; functions = refl }
tag_beside j tag None = record { declared = refl; globals = refl; functions = refl }

body_named : (s : Scope) (j : Judgement) (d : StructDecl) (o : Option ℕ) (ds : List Decl) → Named s j → Named s (with_body j d o ds)
body_named s j d None ds named = named
body_named s j d (Some n) ds named =
    let o = members [] ds j.env in
    record {
      names = λ name b is. found-names (MeansIn s) name o.names j.env.scopes b
          (no-names (MeansIn s) o.names (members_silent [] ds j.env)) (named.names name) is;
      texts_are = ap (λ n. n + length o.texts) named.texts_are ∙ sym (length-both j.texts o.texts);
    }

body_beside : (j : Judgement) (d : StructDecl) (o : Option ℕ) (ds : List Decl) → Beside j (with_body j d o ds)
body_beside j d None ds = record { declared = refl; globals = refl; functions = refl }
body_beside j d (Some n) ds = record { declared = refl; globals = refl; functions = refl }

members_named : (s : Scope) (j : Judgement) (d : StructDecl) (ds : Option (List Decl)) → Named s j → Named s (with_members j d ds)
members_named s j d None named = named
members_named s j d (Some ds) named = body_named s j d (tag_number j.env.structs d.name) ds named

members_beside : (j : Judgement) (d : StructDecl) (ds : Option (List Decl)) → Beside j (with_members j d ds)
members_beside j d None = record { declared = refl; globals = refl; functions = refl }
members_beside j d (Some ds) = body_beside j d (tag_number j.env.structs d.name) ds

beside_then : (a b c : Judgement) → Beside a b → Beside b c → Beside a c
beside_then a b c first next = record {
  declared = next.declared ∙ first.declared;
  globals = next.globals ∙ first.globals;
  functions = next.functions ∙ first.functions;
}

left_beside : (j after : Judgement) → Beside j after → (k : Kind) (name : List ℕ) → Left j k name → Left after k name
left_beside j after beside (AnObject t) name (g, is, named) = (g, subst (λ gs. In gs g) (sym beside.globals) is, named)
left_beside j after beside (AFunction sig) name (f, is, named) = (f, subst (λ fs. In fs f) (sym beside.functions) is, named)

module _ (program : Program) (unit : ℕ) where
  abbrev here : Scope
  here = outside program unit

  walked_beside : (j after : Judgement) → Beside j after → At here after → AllReady after.env.structs → Walked program unit j →
      Walked program unit after
  walked_beside j after beside at ready walked = record {
    at = at;
    ready = ready;
    kinds = λ d is. walked.kinds d (subst (λ ds. In ds d) beside.declared is);
    globals = λ g is. subst (λ ds. GlobalFine here ds g) (sym beside.declared)
        (walked.globals g (subst (λ gs. In gs g) beside.globals is));
    functions = λ f is. subst (λ ds. FunctionFine program unit ds f) (sym beside.declared)
        (walked.functions f (subst (λ fs. In fs f) beside.functions is));
    left = λ d is defines. left_beside j after beside d.kind d.name
        (walked.left d (subst (λ ds. In ds d) beside.declared is) defines);
  }

  pub walked-struct : (names : FileNames) (j : Judgement) (d : StructDecl) → FinalObjects here → Sound here names (struct_judged j d) →
      Walked program unit j → Walked program unit (struct_judged j d)
  walked-struct names j d objects sound walked =
      let o = tag_number j.env.structs d.name in
      let tagged = with_tag j d.name o in
      let after = struct_judged j d in
      let named = members_named here tagged d d.members
      (tag_named here j d.name o (record { names = walked.at.env.names; texts_are = walked.at.texts_are })) in
      let beside = beside_then j tagged after (tag_beside j d.name o) (members_beside tagged d d.members) in
      let ready = part-good names j (external.Struct d) (λ is. walked.ready) sound.kept in
      walked_beside j after beside (record {
        env = record {
          table = record { extends = sound.structs; objects = objects; complete = ready-complete after.env.structs ready };
          names = named.names;
        };
        texts_are = named.texts_are;
      }) ready walked

  -- ---- the include line

  pub walked-included : (j : Judgement) → Walked program unit j → Walked program unit (included j)
  walked-included j walked =
      let ns = binds eof_name means.Eof
      ∷ binds getchar_name (means.Function callee.Getchar (Some getchar_type))
      ∷ binds putchar_name (means.Function callee.Putchar (Some putchar_type)) ∷ [] in
      let named = at-names here j ns (
        tt,
        (
          record { callable = order.getchar; plain = int-plain int.Int },
          (record { callable = order.putchar; plain = int-plain int.Int }, tt),
        ),
      ) walked.at in
      walked_beside j (included j) (record { declared = refl; globals = refl; functions = refl }) (record {
        env = env-like here (with_names j ns).env (included j).env refl refl named.env;
        texts_are = named.texts_are;
      }) walked.ready walked
