-- Where constructs stand: among names that mean what is there, with the texts of the file and the locals of the function; and what holds
-- there of one that breaks no rule.
use Rattle.block_meaning.specs.ExpressionsInOrder.{Scope, HasValue, Designates, Callable, file_of}
use Rattle.block_meaning.specs.Linkage.{structs_of}
use Rattle.block_meaning.specs.Locals.{text_of}
use Rattle.block_meaning.specs.ProgramsInOrder.{TargetInOrder}
use Rattle.c_type_base.specs.Laws.GrowthLaws.{Extends}
use Rattle.c_type_base.specs.Layout.{members_of}
use Rattle.c_type_base.specs.Sizes.{is_complete}
use Rattle.c_type_base.specs.Types.{is_void, is_integer, is_array, is_struct}
use Rattle.c_type_base.specs.declared.expr.Callee.{Callee}
use Rattle.c_type_base.specs.declared.expr.TNode.{out-TNode}
use Rattle.c_type_base.specs.declared.known.Constancy.TheVariants.{Is}
use Rattle.c_type_base.specs.declared.known.Fixed.{Fixed}
use Rattle.c_type_base.specs.declared.known.Known.{Known}
use Rattle.c_type_base.specs.declared.ty.Ty.{Ty}
use Rattle.c_type_base.specs.declared.typed.LocalInfo.{LocalInfo}
use Rattle.c_type_base.specs.declared.typed.MemberInfo.{MemberInfo}
use Rattle.c_type_base.specs.declared.typed.StructInfo.{StructInfo}
use Rattle.c_type_base.specs.declared.typed.Target.{Target}
use Rattle.c_type_base.specs.declared.typed.Typed.{Typed}
use Rattle.c_type_expr.specs.Environment.{Env, node_at, target_at, in_scopes}
use Rattle.c_type_expr.specs.Outcomes.{Outcome, Judged}
use Rattle.c_type_expr.specs.declared.scopes.Binding.{Binding}
use Rattle.c_type_expr.specs.declared.scopes.Meaning.{Meaning}
use Rattle.c_type_expr.specs.declared.scopes.Place.{Place}
use Rattle.c_type_expr.specs.declared.scopes.Signature.{Signature}
use Rattle.std.specs.Prelude.{◌≡◌, ℕ, true, false, ◌||◌, Option, Some, None, List, [], ◌+◌, slice_get}
use Rattle.std.specs.List.{AllByRecursion}
use Rattle.c_type_expr.specs.declared.scopes.Meaning.TheVariants as means

-- it is known, and has a property
abbrev pub There : {A : Type 0} → Option A → (A → Type 0) → Type 0
There None P = ⊥
There (Some a) P = P a

-- what an address is of is there in a file
abbrev pub TargetIn : Option Typed → Target → Type 0
TargetIn None t = ⊥
TargetIn (Some u) t = TargetInOrder u t

abbrev pub AddressIn : Scope → Option Target → Type 0
AddressIn s None = Unit {0}
AddressIn s (Some t) = TargetIn (file_of s) t

-- the address that is known before the run, if there is one
abbrev pub FixedIn : Scope → Option Fixed → Type 0
FixedIn s None = Unit {0}
FixedIn s (Some f) = AddressIn s f.target

-- an array or a struct that is no lvalue is a struct that was assigned, or a member of one
pub record KnownIn (s : Scope) (k : Known) : Type 0 where
  pub place : (k.lvalue || (is_array k.tree.ty || is_struct k.tree.ty)) ≡ true → Designates s k.tree.ty (out-TNode k.tree.node)
  pub gives : k.lvalue ≡ false → is_array k.tree.ty ≡ false → HasValue s k.tree.ty (out-TNode k.tree.node)
  pub object : k.lvalue ≡ true → is_void k.tree.ty ≡ false
  pub integer : (n : ℕ) → k.constant ≡ Is n → is_integer k.tree.ty ≡ true
  pub fixed : FixedIn s k.fixed

-- a value
pub record ValueIn (s : Scope) (k : Known) : Type 0 where
  pub has : HasValue s k.tree.ty (out-TNode k.tree.node)
  pub integer : (n : ℕ) → k.constant ≡ Is n → is_integer k.tree.ty ≡ true
  pub fixed : FixedIn s k.fixed

-- the structs that are declared so far are those of the file, and their members are objects
pub record TableIn (env : Env) (s : Scope) : Type 0 where
  pub extends : Extends env.structs (structs_of s.program.units s.unit)
  pub objects : (number k : ℕ) (m : MemberInfo) → slice_get (members_of (slice_get (structs_of s.program.units s.unit) number)) k ≡ Some m →
      is_void m.ty ≡ false
  pub complete : (number k : ℕ) (m : MemberInfo) → slice_get (members_of (slice_get env.structs number)) k ≡ Some m →
      is_complete env.structs m.ty ≡ true

-- an object of a type is there
pub record ObjectIn (s : Scope) (place : Place) (t : Ty) : Type 0 where
  pub designates : Designates s t (out-TNode (node_at place))
  pub object : is_void t ≡ false
  pub address : AddressIn s (target_at place)

-- and a function, which gives a scalar or nothing
pub record FunctionIn (s : Scope) (f : Callee) (sig : Signature) : Type 0 where
  pub callable : Callable s f sig.params sig.result
  pub plain : (is_array sig.result || is_struct sig.result) ≡ false

-- what a name means is there, and has a type
abbrev pub MeansIn : Scope → Meaning → Type 0
MeansIn s (means.Object place None) = ⊥
MeansIn s (means.Object place (Some t)) = ObjectIn s place t
MeansIn s (means.Function f None) = ⊥
MeansIn s (means.Function f (Some sig)) = FunctionIn s f sig
MeansIn s means.Eof = Unit {0}

pub record EnvIn (env : Env) (s : Scope) : Type 0 where
  pub table : TableIn env s
  pub names : (name : List ℕ) (b : Binding) → in_scopes name env.scopes ≡ Some b → MeansIn s b.means

-- these texts are those of the file from a number on
abbrev pub TextsIn : Scope → ℕ → List (List ℕ) → Type 0
TextsIn s from texts = (k : ℕ) (bytes : List ℕ) → slice_get texts k ≡ Some bytes → text_of (file_of s) (from + k) ≡ Some bytes

-- it adds no name
abbrev pub Silent : {A : Type 0} → Judged A → Type 0
Silent p = (env : Env) → (p env).names ≡ []

-- a construct stands there, and more holds of the structs that are declared so far
pub record Inside (More : List StructInfo → Type 0) (env : Env) (s : Scope) : Type 0 where
  pub here : EnvIn env s
  pub more : More env.structs

abbrev pub NoMore : List StructInfo → Type 0
NoMore structs = Unit {0}

-- where it breaks no rule, it is known, and has a property
pub record GoodIf {A : Type 0} (More : List StructInfo → Type 0) (s : Scope) (P : A → Type 0) (p : Judged A) : Type 0 where
  pub silent : Silent p
  pub holds : (env : Env) → Inside More env s → (p env).faults ≡ [] → TextsIn s env.texts (p env).texts → There (p env).known P

abbrev pub Good : {A : Type 0} → Scope → (A → Type 0) → Judged A → Type 0
Good = GoodIf NoMore

-- these locals are those of the function from a number on
abbrev pub LocalsIn : Scope → ℕ → List LocalInfo → Type 0
LocalsIn s from locals = (k : ℕ) (l : LocalInfo) → slice_get locals k ≡ Some l → slice_get s.function.locals (from + k) ≡ Some l

-- the texts and locals of a part are those of the file and of the function
pub record Adds {A : Type 0} (s : Scope) (env : Env) (o : Outcome A) : Type 0 where
  pub texts : TextsIn s env.texts o.texts
  pub locals : LocalsIn s env.locals o.locals

-- what names stand for has a property
abbrev pub Names : (Meaning → Type 0) → List Binding → Type 0
Names G names = AllByRecursion (λ (b : Binding). G b.means) names

-- a part of the function stands there
pub record Stands (env : Env) (s : Scope) : Type 0 where
  pub here : EnvIn env s
  pub result : env.result ≡ Some s.function.result

pub record Holds {A : Type 0} (s : Scope) (P : A → Type 0) (o : Outcome A) : Type 0 where
  pub known : There o.known P
  pub names : Names (MeansIn s) o.names

-- where a part breaks no rule, and what its names stand for has a property, it is known, and the names mean what is there
pub record Part {A : Type 0} (s : Scope) (G : Meaning → Type 0) (P : A → Type 0) (p : Judged A) : Type 0 where
  pub holds : (env : Env) → Stands env s → Names G (p env).names → Adds s env (p env) → (p env).faults ≡ [] → Holds s P (p env)
