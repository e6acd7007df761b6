-- Parameters that keep all rules: their types are known, and their names mean what is there.
use Rattle.std.proofs.Common.{◌≡◌, refl, sym, ◌∙◌, ap, subst, ℕ, suc, ◌+◌, ◌<◌, ◌≤◌, arith, Bool, List, [], ◌∷◌, ◌++◌, length}
use Rattle.std.proofs.Common.{map, slice_get, Option, Some, None}
use Rattle.std.specs.Prelude.{leb, if◌then◌else◌}
use Rattle.std.specs.List.{Contains}
use Rattle.c_ast.specs.declared.declaration.Decl.{Decl}
use Rattle.c_type_base.specs.Sizes.{size, is_complete, largest}
use Rattle.c_type_base.specs.Types.{is_scalar}
use Rattle.c_type_base.specs.declared.ty.Ty.{Ty}
use Rattle.c_type_base.specs.declared.known.Written.{Written}
use Rattle.c_type_base.specs.declared.typed.LocalInfo.{LocalInfo}
use Rattle.c_type_expr.specs.Environment.{Env}
use Rattle.c_type_expr.specs.Expressions.{written}
use Rattle.c_type_expr.specs.Faults.{rule}
use Rattle.c_type_expr.specs.Outcomes.{Outcome, behind, joined, listed, each}
use Rattle.c_types.specs.Functions.{adjusted, counted, parameter_rules, is_new_parameter, declares_parameter, parameter}
use Rattle.c_types.specs.Laws.QuietLaws.{written_quiet}
use Rattle.block_meaning.specs.ExpressionsInOrder.{Scope}
use Rattle.block_meaning.specs.Linkage.{type_of_local}
use Rattle.well_typed_order.specs.Standing.{MeansIn, EnvIn, There, Names, Adds}
use Rattle.well_typed_order.specs.Laws.Binary.{kept-first, kept-rest}
use Rattle.well_typed_order.specs.Laws.Expressions.{written-good}
use Rattle.well_typed_order.specs.Laws.Good.{none-is}
use Rattle.well_typed_order.specs.Laws.Judged.{length-both}
use Rattle.well_typed_order.specs.Laws.Locals.{object-there}
use Rattle.well_typed_order.specs.Laws.Parts.{Split, env-named, no-names, any-names, names-both, first-adds, second-adds}
use Rattle.well_typed_order.specs.Laws.Parts.{first-kept, second-kept}
use Rattle.well_typed_order.specs.Laws.Scopes.{Anything}
use Rattle.well_typed_order.specs.Laws.Unary.{each-kept}

-- locals with numbers below a bound are in scope
abbrev pub Below : Scope → ℕ → Type 0
Below s limit = (k : ℕ) (l : LocalInfo) → slice_get s.function.locals k ≡ Some l → k < limit → Contains s.locals k

pub record ParameterFine (s : Scope) (o : Outcome Ty) : Type 0 where
  pub info : LocalInfo
  pub locals_are : o.locals ≡ info ∷ []
  pub known : There o.known (λ t. t ≡ info.ty)
  pub names : Names (MeansIn s) o.names

pub record ParametersFine (s : Scope) (ds : List Decl) (o : Outcome (List Ty)) : Type 0 where
  pub count : length o.locals ≡ length ds
  pub known : There o.known (λ ts. ts ≡ map type_of_local o.locals)
  pub names : Names (MeansIn s) o.names

module _ (s : Scope) (limit : ℕ) (below : Below s limit) where
  by_type : (defines : Bool) (d : Decl) (env : Env) → EnvIn env s → (o : Option Written) → (written d.ty d.span env).known ≡ o →
      let w = written d.ty d.span env in
      let b = declares_parameter defines d o (behind w env) in
      Adds s env (joined w b b.known) → w.faults ++ b.faults ≡ [] → env.locals + length (w.locals ++ b.locals) ≤ limit →
      ParameterFine s (joined w b b.known)
  by_type defines d env inside None is adds kept within =
      let w = written d.ty d.span env in
      let b = declares_parameter defines d None (behind w env) in
      let split : Split s Anything env w b =
      record { names = any-names (b.names ++ w.names); texts = adds.texts; locals = adds.locals; kept = kept } in
      let there = (written-good s d.ty d.span).holds env (record { here = inside; more = tt }) (first-kept w b split)
      (first-adds w b split).texts in
      absurd (none-is (λ (w : Written). Unit {0}) w.known is there)
  by_type defines d env inside (Some form) is adds kept within =
      let w = written d.ty d.span env in
      let here = behind w env in
      let b = declares_parameter defines d (Some form) here in
      let split : Split s Anything env w b =
      record { names = any-names (b.names ++ w.names); texts = adds.texts; locals = adds.locals; kept = kept } in
      let t = adjusted form in
      let info : LocalInfo = record { name = d.name; ty = t; span = d.span } in
      let new = is_new_parameter defines here d.name in
      let rules = rule 10 new ∷ parameter_rules here.structs (Some form) in
      let own = second-kept w b split in
      let small = rule 17 (leb (size here.structs (counted form)) largest) ∷ [] in
      let whole = rule 15 (is_complete here.structs t) ∷ small in
      let complete = kept-first d.span 15 (is_complete here.structs t) small
      (kept-rest d.span 12 (is_scalar t) whole (kept-rest d.span 10 new (rule 12 (is_scalar t) ∷ whole) own)) in
      let zero_on : here.locals + 0 ≡ here.locals = omega arith in
      let there = subst (λ k. slice_get s.function.locals k ≡ Some info) zero_on ((second-adds w b split).locals 0 info refl) in
      let counted_in : length (w.locals ++ b.locals) ≡ length w.locals + 1 = length-both w.locals (info ∷ []) in
      let contains = below here.locals info there (omega (arith, within, counted_in)) in
      let object = object-there s t here.locals d.name d.span contains there env.structs complete in
      record {
        info = info;
        locals_are = ap (λ ls. ls ++ info ∷ []) (written_quiet d.ty d.span env).locals;
        known = subst (λ b. There (if b then Some t else None) (λ u. u ≡ t)) (sym (each-kept d.span rules own)) refl;
        names = names-both (MeansIn s) b.names w.names (object, tt) (no-names (MeansIn s) w.names ((written-good s d.ty d.span).silent
            env));
      }

  -- a parameter without a fault
  parameter_fine : (defines : Bool) (d : Decl) (env : Env) → EnvIn env s → Adds s env (parameter defines d env) →
      (parameter defines d env).faults ≡ [] → env.locals + length (parameter defines d env).locals ≤ limit →
      ParameterFine s (parameter defines d env)
  parameter_fine defines d env inside adds kept within = by_type defines d env inside _ refl adds kept within

  one_more : (a b : List LocalInfo) (info : LocalInfo) (ds : List Decl) (d : Decl) → a ≡ info ∷ [] → length b ≡ length ds →
      length (a ++ b) ≡ length (d ∷ ds)
  one_more [] b info ds d is same = absurd cc
  one_more (x ∷ []) b info ds d is same = ap suc same
  one_more (x ∷ y ∷ a) b info ds d is same = absurd cc

  types_more : (a b : List LocalInfo) (info : LocalInfo) (t : Option Ty) (ts : Option (List Ty)) → a ≡ info ∷ [] →
      There t (λ t. t ≡ info.ty) → There ts (λ ts. ts ≡ map type_of_local b) →
      There (listed t ts) (λ ts. ts ≡ map type_of_local (a ++ b))
  types_more a b info None ts is one rest = one
  types_more a b info (Some t) None is one rest = rest
  types_more a b info (Some t) (Some ts) is one rest =
      subst (λ a. t ∷ ts ≡ map type_of_local (a ++ b)) (sym is) (both_same t info.ty ts (map type_of_local b) one rest)
    where
      both_same : (t u : Ty) (ts us : List Ty) → t ≡ u → ts ≡ us → ◌≡◌ {A = List Ty} (t ∷ ts) (u ∷ us)
      both_same t u ts us one rest = ap (λ t. t ∷ ts) one ∙ ap (λ ts. u ∷ ts) rest

  pub parameters-fine : (defines : Bool) (ds : List Decl) (env : Env) → EnvIn env s → Adds s env (each (map (parameter defines) ds) env) →
      (each (map (parameter defines) ds) env).faults ≡ [] → env.locals + length (each (map (parameter defines) ds) env).locals ≤ limit →
      ParametersFine s ds (each (map (parameter defines) ds) env)
  parameters-fine defines [] env inside adds kept within = record { count = refl; known = refl; names = tt }
  parameters-fine defines (d ∷ ds) env inside adds kept within =
      let a = parameter defines d env in
      let b = each (map (parameter defines) ds) (behind a env) in
      let split : Split s Anything env a b =
      record { names = any-names (b.names ++ a.names); texts = adds.texts; locals = adds.locals; kept = kept } in
      let counted_in : length (a.locals ++ b.locals) ≡ length a.locals + length b.locals = length-both a.locals b.locals in
      let one = parameter_fine defines d env inside (first-adds a b split) (first-kept a b split) (omega (arith, within, counted_in)) in
      let rest = parameters-fine defines ds (behind a env) (env-named s env a one.names inside) (second-adds a b split)
      (second-kept a b split) (omega (arith, within, counted_in)) in
      record {
        count = one_more a.locals b.locals one.info ds d one.locals_are rest.count;
        known = types_more a.locals b.locals one.info a.known b.known one.locals_are one.known rest.known;
        names = names-both (MeansIn s) b.names a.names rest.names one.names;
      }
