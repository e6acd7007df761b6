-- Scopes with more or fewer locals: names that mean what is there still do where the locals among them are in scope.
use Rattle.std.proofs.Common.{◌≡◌, refl, sym, subst, ℕ, zero, suc, ◌+◌, arith, List, [], ◌∷◌, ◌++◌, slice_get, Option, Some, None, true}
use Rattle.std.specs.List.{Contains}
use Rattle.c_type_base.specs.Laws.Opened.{given_typed}
use Rattle.c_type_base.specs.declared.ty.Ty.{Ty}
use Rattle.c_type_base.specs.declared.expr.Callee.{Callee}
use Rattle.c_type_base.specs.declared.expr.TNode.{out-TNode}
use Rattle.c_type_base.specs.declared.expr.TNode.TheOpen.{TNode-F}
use Rattle.c_type_base.specs.declared.ty.Ty.TheVariants as ty
use Rattle.c_type_base.specs.declared.statement.TStmt.TheVariants as tstmt
use Rattle.c_type_base.specs.declared.typed.LocalInfo.{LocalInfo}
use Rattle.c_type_base.specs.declared.typed.TFunction.{TFunction}
use Rattle.c_type_expr.specs.declared.scopes.Meaning.{Meaning}
use Rattle.c_type_expr.specs.declared.scopes.Meaning.TheVariants as means
use Rattle.c_type_expr.specs.declared.scopes.Place.{Place}
use Rattle.c_type_expr.specs.declared.scopes.Place.TheVariants as place
use Rattle.c_type_expr.specs.Environment.{Env, node_at, opened}
use Rattle.block_meaning.specs.ExpressionsInOrder as order
use Rattle.block_meaning.specs.ExpressionsInOrder.{Scope, Designates, Callable}
use Rattle.block_meaning.specs.ProgramsInOrder.{numbered}
use Rattle.block_meaning.specs.Running.{Program}
use Rattle.well_typed_order.specs.Standing.{MeansIn, EnvIn, Stands}

-- ---- outside functions

abbrev pub no_function : TFunction
no_function = record {
  name = [];
  local = true;
  params = 0;
  result = ty.Void;
  locals = [];
  body = tstmt.Empty;
  span = record { start = 0; end = 0 };
}

-- at file scope
abbrev pub outside : Program → ℕ → Scope
outside program unit = record { program = program; unit = unit; function = no_function; locals = [] }

-- nowhere in a program
abbrev pub nowhere : Scope
nowhere = outside (record { units = []; frames = []; stack = 0 }) 0

-- ---- lists that contain a number

pub contains-here : (k : ℕ) (ks : List ℕ) → Contains (k ∷ ks) k
contains-here k ks = (0, omega arith, refl)

pub contains-there : (j k : ℕ) (ks : List ℕ) → Contains ks k → Contains (j ∷ ks) k
contains-there j k ks (i, less, is) = (suc i, omega (arith, less), is)

pub contains-back : (ks more : List ℕ) (k : ℕ) → Contains more k → Contains (ks ++ more) k
contains-back [] more k has = has
contains-back (j ∷ ks) more k has = contains-there j k (ks ++ more) (contains-back ks more k has)

pub contains-front : (ks more : List ℕ) (k : ℕ) → Contains ks k → Contains (ks ++ more) k
contains-front [] more k (i, less, is) = absurd (omega (arith, less))
contains-front (j ∷ ks) more k (zero, less, is) = (0, omega arith, is)
contains-front (j ∷ ks) more k (suc i, less, is) =
    contains-there j k (ks ++ more) (contains-front ks more k (i, omega (arith, less), is))

-- each local of a function has its number
numbered_from : (ls : List LocalInfo) (from j : ℕ) (l : LocalInfo) → slice_get ls j ≡ Some l → Contains (numbered from ls) (from + j)
numbered_from [] from j l is = absurd cc
numbered_from (x ∷ ls) from zero l is =
    let same : from + 0 ≡ from = omega arith in
    subst (λ k. Contains (from ∷ numbered (from + 1) ls) k) (sym same) (contains-here from (numbered (from + 1) ls))
numbered_from (x ∷ ls) from (suc j) l is =
    let same : from + 1 + j ≡ from + suc j = omega arith in
    subst (λ k. Contains (from ∷ numbered (from + 1) ls) k) same
    (contains-there from (from + 1 + j) (numbered (from + 1) ls) (numbered_from ls (from + 1) j l is))

pub numbered-all : (ls : List LocalInfo) (j : ℕ) (l : LocalInfo) → slice_get ls j ≡ Some l → Contains (numbered 0 ls) j
numbered-all ls j l is =
    let same : 0 + j ≡ j = omega arith in
    subst (λ k. Contains (numbered 0 ls) k) same (numbered_from ls 0 j l is)

-- ---- names of locals

-- a local, whose number is one of these
abbrev pub HeldIn : List ℕ → Meaning → Type 0
HeldIn ks (means.Object (place.Local k) t) = Contains ks k
HeldIn ks _ = ⊥

abbrev pub Anything : Meaning → Type 0
Anything m = Unit {0}

-- a local of which it holds is in scope
abbrev pub Bounds : Scope → (Meaning → Type 0) → Type 0
Bounds s G = (k : ℕ) (t : Option Ty) (l : LocalInfo) → G (means.Object (place.Local k) t) → slice_get s.function.locals k ≡ Some l →
    Contains s.locals k

-- with all locals of the function in scope
abbrev pub wide : Scope → Scope
wide s = record s { locals = numbered 0 s.function.locals }

pub bounds-wide : (s : Scope) → Bounds (wide s) Anything
bounds-wide s k t l any is = numbered-all s.function.locals k l is

pub bounds-held : (s : Scope) → Bounds s (HeldIn s.locals)
bounds-held s k t l held is = held

-- ---- the same scope with other locals

module _ (s : Scope) (ks : List ℕ) (more : (k : ℕ) (l : LocalInfo) → Contains s.locals k → slice_get s.function.locals k ≡ Some l →
    Contains ks k) where
  abbrev other : Scope
  other = record s { locals = ks }

  local_in : {t : Ty} {k : ℕ} → Designates s t (TNode-F.Local k) → Designates other t (TNode-F.Local k)
  local_in (order.local {k} {l} contains is) = order.local (more k l contains is) is

  global_in : {t : Ty} {k : ℕ} → Designates s t (TNode-F.Global k) → Designates other t (TNode-F.Global k)
  global_in (order.global is) = order.global is

  extern_in : {t : Ty} {k : ℕ} → Designates s t (TNode-F.Extern k) → Designates other t (TNode-F.Extern k)
  extern_in (order.extern_object is its defines) = order.extern_object is its defines

  place_in : (t : Ty) (p : Place) → Designates s t (out-TNode (node_at p)) → Designates other t (out-TNode (node_at p))
  unfolding given_typed
  place_in t (place.Local k) is = local_in is
  place_in t (place.Global k) is = global_in is
  place_in t (place.Extern k) is = extern_in is

  callable_in : (f : Callee) (ts : List Ty) (t : Ty) → Callable s f ts t → Callable other f ts t
  callable_in f ts t (order.function is) = order.function is
  callable_in f ts t (order.extern is its defines) = order.extern is its defines
  callable_in f ts t order.putchar = order.putchar
  callable_in f ts t order.getchar = order.getchar

  means_in : (m : Meaning) → MeansIn s m → MeansIn other m
  means_in (means.Object p None) is = is
  means_in (means.Object p (Some t)) is =
      record { designates = place_in t p is.designates; object = is.object; address = is.address }
  means_in (means.Function f None) is = is
  means_in (means.Function f (Some sig)) is =
      record { callable = callable_in f sig.params sig.result is.callable; plain = is.plain }
  means_in means.Eof is = is

  env_in : (env : Env) → EnvIn env s → EnvIn env other
  env_in env inside = record {
    table = record {
      extends = inside.table.extends;
      objects = inside.table.objects;
      complete = inside.table.complete;
    };
    names = λ name b is. means_in b.means (inside.names name b is);
  }

  -- inside a scope of its own, a part stands where those around it do
  pub stands-other : (env : Env) → Stands env s → Stands (opened env) other
  stands-other env stands = record {
    here = record {
      table = record {
        extends = stands.here.table.extends;
        objects = stands.here.table.objects;
        complete = stands.here.table.complete;
      };
      names = λ name b is. (env_in env stands.here).names name b is;
    };
    result = stands.result;
  }

-- a scope inside, which declares some locals
pub stands-within : (s : Scope) (ks : List ℕ) (env : Env) → Stands env s → Stands (opened env) (record s { locals = ks ++ s.locals })
stands-within s ks env = stands-other s (ks ++ s.locals) (λ k l contains is. contains-back ks s.locals k contains) env

pub stands-wide : (s : Scope) (env : Env) → Stands env s → Stands (opened env) (wide s)
stands-wide s env = stands-other s (numbered 0 s.function.locals) (λ k l contains is. numbered-all s.function.locals k l is) env

-- ---- inside a function

module _ (program : Program) (unit : ℕ) (f : TFunction) (ks : List ℕ) where
  abbrev inside : Scope
  inside = record { program = program; unit = unit; function = f; locals = ks }

  nothing_local : {t : Ty} {k : ℕ} → Designates (outside program unit) t (TNode-F.Local k) → ⊥
  nothing_local (order.local {k} {l} (j, less, is) there) = absurd (omega (arith, less))

  global_inside : {t : Ty} {k : ℕ} → Designates (outside program unit) t (TNode-F.Global k) → Designates inside t (TNode-F.Global k)
  global_inside (order.global is) = order.global is

  extern_inside : {t : Ty} {k : ℕ} → Designates (outside program unit) t (TNode-F.Extern k) → Designates inside t (TNode-F.Extern k)
  extern_inside (order.extern_object is its defines) = order.extern_object is its defines

  place_inside : (t : Ty) (p : Place) → Designates (outside program unit) t (out-TNode (node_at p)) →
      Designates inside t (out-TNode (node_at p))
  unfolding given_typed
  place_inside t (place.Local k) is = absurd (nothing_local is)
  place_inside t (place.Global k) is = global_inside is
  place_inside t (place.Extern k) is = extern_inside is

  callable_inside : (g : Callee) (ts : List Ty) (t : Ty) → Callable (outside program unit) g ts t → Callable inside g ts t
  callable_inside g ts t (order.function is) = order.function is
  callable_inside g ts t (order.extern is its defines) = order.extern is its defines
  callable_inside g ts t order.putchar = order.putchar
  callable_inside g ts t order.getchar = order.getchar

  means_inside : (m : Meaning) → MeansIn (outside program unit) m → MeansIn inside m
  means_inside (means.Object p None) is = is
  means_inside (means.Object p (Some t)) is =
      record { designates = place_inside t p is.designates; object = is.object; address = is.address }
  means_inside (means.Function g None) is = is
  means_inside (means.Function g (Some sig)) is =
      record { callable = callable_inside g sig.params sig.result is.callable; plain = is.plain }
  means_inside means.Eof is = is

  -- what stands at file scope means the same there
  pub env-inside : (env : Env) → EnvIn env (outside program unit) → EnvIn env inside
  env-inside env here = record {
    table = record { extends = here.table.extends; objects = here.table.objects; complete = here.table.complete };
    names = λ name b is. means_inside b.means (here.names name b is);
  }

pub env-opened : (s : Scope) (env : Env) → EnvIn env s → EnvIn (opened env) s
env-opened s env here = record {
  table = record { extends = here.table.extends; objects = here.table.objects; complete = here.table.complete };
  names = λ name b is. here.names name b is;
}
