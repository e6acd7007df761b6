-- Where a part of a file stands among what was declared before it: names mean what is there, and texts have their numbers.
use Rattle.std.proofs.Common.{◌≡◌, refl, sym, ◌∙◌, ap, subst, ℕ, ◌+◌, arith, List, [], ◌∷◌, ◌++◌, length, slice_get, true, Some, None}
use Rattle.c_type_base.specs.Laws.GrowthLaws.{Extends}
use Rattle.c_type_base.specs.Layout.{members_of}
use Rattle.c_type_base.specs.Sizes.{is_complete}
use Rattle.c_type_base.specs.declared.typed.MemberInfo.{MemberInfo}
use Rattle.c_type_base.specs.declared.typed.StructInfo.{StructInfo}
use Rattle.c_type_expr.specs.declared.scopes.Binding.{Binding}
use Rattle.c_type_expr.specs.Environment.{Env, in_scopes}
use Rattle.c_type_expr.specs.Outcomes.{Outcome, Judged, behind}
use Rattle.c_types.specs.Units.{Judgement, with_outcome, with_names}
use Rattle.block_meaning.specs.ExpressionsInOrder.{Scope}
use Rattle.block_meaning.specs.Linkage.{structs_of}
use Rattle.well_typed_order.specs.Standing.{MeansIn, EnvIn, TextsIn, GoodIf, There, Names}
use Rattle.well_typed_order.specs.Laws.Good.{front, back, texts-front, texts-back}
use Rattle.well_typed_order.specs.Laws.Parts.{env-named}

-- behind some parts of a file
pub record At (s : Scope) (j : Judgement) : Type 0 where
  pub env : EnvIn j.env s
  pub texts_are : j.env.texts ≡ length j.texts

-- members of structs are complete
abbrev pub MembersComplete : List StructInfo → Type 0
MembersComplete structs = (number k : ℕ) (m : MemberInfo) → slice_get (members_of (slice_get structs number)) k ≡ Some m →
    is_complete structs m.ty ≡ true

-- where names and structs are the same
pub env-like : (s : Scope) (env other : Env) → other.structs ≡ env.structs → other.scopes ≡ env.scopes → EnvIn env s → EnvIn other s
env-like s env other structs scopes inside = record {
  table = record {
    extends = subst (λ (l : List StructInfo). Extends l (structs_of s.program.units s.unit)) (sym structs) inside.table.extends;
    objects = inside.table.objects;
    complete = subst (λ (l : List StructInfo). MembersComplete l) (sym structs) inside.table.complete;
  };
  names = λ name b is. inside.names name b (subst (λ scopes. in_scopes name scopes ≡ Some b) scopes is);
}

pub length-both : {A : Type 0} (a b : List A) → length (a ++ b) ≡ length a + length b
length-both [] b = sym (omega arith)
length-both (x ∷ a) b = let same = length-both a b in omega (arith, same)

-- ---- what follows

module _ (s : Scope) where
  pub at-outcome : {A : Type 0} (j : Judgement) (o : Outcome A) → Names (MeansIn s) o.names → At s j → At s (with_outcome j o)
  at-outcome j o names at = record {
    env = env-like s (behind o j.env) (with_outcome j o).env refl refl (env-named s j.env o names at.env);
    texts_are = ap (λ n. n + length o.texts) at.texts_are ∙ sym (length-both j.texts o.texts);
  }

  pub at-names : (j : Judgement) (names : List Binding) → Names (MeansIn s) names → At s j → At s (with_names j names)
  at-names j names all at =
      let o : Outcome (Unit {0}) = record { faults = []; texts = []; locals = []; names = names; known = None } in at-outcome j o all at

  texts_at : (j : Judgement) (texts : List (List ℕ)) → j.env.texts ≡ length j.texts → TextsIn s 0 (j.texts ++ texts) →
      TextsIn s j.env.texts texts
  texts_at j texts same all =
      let zero_on : 0 + length j.texts ≡ j.env.texts = omega (arith, same) in
      subst (λ n. TextsIn s n texts) zero_on (texts-back s 0 j.texts texts all)

  -- a part without a fault is known, and has its property
  pub at-good : {A : Type 0} {M : List StructInfo → Type 0} {P : A → Type 0} (j : Judgement) (p : Judged A) → GoodIf M s P p → At s j →
      M j.env.structs → (with_outcome j (p j.env)).faults ≡ [] → TextsIn s 0 (with_outcome j (p j.env)).texts →
      There (p j.env).known P
  at-good j p good at more kept texts =
      good.holds j.env (record { here = at.env; more = more }) (back j.faults (p j.env).faults kept)
      (texts_at j (p j.env).texts at.texts_are texts)

  pub at-texts : {A : Type 0} (j : Judgement) (o : Outcome A) → At s j → TextsIn s 0 (with_outcome j o).texts →
      TextsIn s j.env.texts o.texts
  at-texts j o at texts = texts_at j o.texts at.texts_are texts

  -- what is kept and written before it
  pub kept-before : {A : Type 0} (j : Judgement) (o : Outcome A) → (with_outcome j o).faults ≡ [] → j.faults ≡ []
  kept-before j o kept = front j.faults o.faults kept

  pub texts-before : {A : Type 0} (j : Judgement) (o : Outcome A) → TextsIn s 0 (with_outcome j o).texts → TextsIn s 0 j.texts
  texts-before j o texts = texts-front s 0 j.texts o.texts texts
