-- A file that breaks no rule, where its tables have what its names are declared as.
use Rattle.std.proofs.Common.{◌≡◌, refl, ◌∙◌, ap, subst, ℕ, ◌+◌, arith, List, [], ◌∷◌, slice_get, Option, Some, None}
use Rattle.c_ast.specs.declared.program.Program.{Program}
use Rattle.c_type_base.specs.Layout.{members_of}
use Rattle.c_type_base.specs.declared.typed.StructInfo.{StructInfo}
use Rattle.c_type_base.specs.declared.typed.Typed.{Typed}
use Rattle.c_ast.specs.declared.program.External.{External}
use Rattle.c_types.specs.declared.names.FileNames.{FileNames}
use Rattle.c_types.specs.Files.{file_names}
use Rattle.c_types.specs.Laws.PromiseLaws.{Good, part-good}
use Rattle.c_types.specs.Laws.TableLaws.{AllReady, none_ready}
use Rattle.c_types.specs.Units.{Judgement, start, part_judged, parts_judged, judged}
use Rattle.block_meaning.specs.ExpressionsInOrder.{Scope}
use Rattle.block_meaning.specs.Linkage.{structs_of, structs_in}
use Rattle.block_meaning.specs.Locals.{text_of}
use Rattle.block_meaning.specs.Running as running
use Rattle.well_typed_order.specs.Bodied.{Bodied}
use Rattle.well_typed_order.specs.Standing.{TextsIn}
use Rattle.well_typed_order.specs.Laws.Lookups.{Lookups, lookups-tables}
use Rattle.well_typed_order.specs.Laws.Scopes.{outside}
use Rattle.well_typed_order.specs.Laws.Unary.{complete-object}
use Rattle.well_typed_order.specs.Laws.Walk.{parts-walked}
use Rattle.well_typed_order.specs.Laws.Walked.{Walked, FinalObjects, ready-complete}

parts_good : (names : FileNames) (j : Judgement) (es : List External) → Good j → Good (parts_judged names j es)
parts_good names j [] good = good
parts_good names j (e ∷ es) good = parts_good names (part_judged names j e) es (part-good names j e good)

module _ (p : Program) (kept : (judged p).faults ≡ []) (bodied : Bodied p) where
  pub file-ready : AllReady (judged p).env.structs
  file-ready = parts_good (file_names p) start p.items (λ is. none_ready) kept

  module _ (program : running.Program) (unit : ℕ) (u : Typed) (unit_is : slice_get program.units unit ≡ Some u)
      (structs : u.structs ≡ (judged p).env.structs) (texts : u.texts ≡ (judged p).texts) where
    abbrev s : Scope
    s = outside program unit

    structs_are : structs_of program.units unit ≡ (judged p).env.structs
    structs_are = ap structs_in unit_is ∙ structs

    objects : FinalObjects s
    objects number k m is =
        let there = subst (λ (l : List StructInfo). slice_get (members_of (slice_get l number)) k ≡ Some m) structs_are is in
        complete-object (judged p).env.structs m.ty (ready-complete (judged p).env.structs file-ready number k m there)

    texts_in : TextsIn s 0 (judged p).texts
    texts_in k bytes is =
        let same : k ≡ 0 + k = omega arith in
        ap (λ o. text_of o (0 + k)) unit_is ∙ ap (λ l. slice_get l (0 + k)) texts
        ∙ subst (λ k. slice_get (judged p).texts k ≡ Some bytes) same is

    none_walked : Walked program unit start
    none_walked = record {
      at = record {
        env = record {
          table = record { extends = λ n complete. absurd cc; objects = objects; complete = λ number k m is. absurd cc };
          names = λ name b is. absurd cc;
        };
        texts_are = refl;
      };
      ready = none_ready;
      kinds = λ d has. let no : ◌≡◌ {A = Option _} None (Some d) = has.1 in absurd cc;
      globals = λ g has. let no : ◌≡◌ {A = Option _} None (Some g) = has.1 in absurd cc;
      functions = λ f has. let no : ◌≡◌ {A = Option _} None (Some f) = has.1 in absurd cc;
      left = λ d has defines. let no : ◌≡◌ {A = Option _} None (Some d) = has.1 in absurd cc;
    }

    pub file-walked : Lookups s (file_names p) (judged p).declared → Walked program unit (judged p)
    file-walked lookups = parts-walked program unit (file_names p) start p.items bodied objects (record {
      kept = kept;
      texts = texts_in;
      tables = lookups-tables p kept s lookups;
      structs = λ n complete. ap (λ (l : List StructInfo). slice_get l n) structs_are;
    }) none_walked
