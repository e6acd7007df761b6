-- The parts of a file are walked one by one.
use Rattle.std.proofs.Common.{◌≡◌, refl, sym, ◌∙◌, ap, subst, ℕ, ◌+◌, ◌<◌, true, List, [], ◌∷◌, ◌++◌, length, take, get_or}
use Rattle.std.proofs.Common.{Option, Some, None}
use Rattle.std.proofs.lemmas.List.{take_more}
use Rattle.c_ast.specs.declared.declaration.Decl.{Decl}
use Rattle.c_ast.specs.declared.declaration.StructDecl.{StructDecl}
use Rattle.c_ast.specs.declared.program.External.{External}
use Rattle.c_ast.specs.declared.program.External.TheVariants as external
use Rattle.c_type_base.specs.declared.expr.Callee.TheVariants as callee
use Rattle.c_type_expr.specs.declared.scopes.Binding.{Binding}
use Rattle.c_type_expr.specs.declared.scopes.Meaning.{Meaning}
use Rattle.c_type_expr.specs.declared.scopes.Meaning.TheVariants as means
use Rattle.c_type_expr.specs.declared.walk.Walk.{Walk}
use Rattle.c_type_expr.specs.Environment.{binds, tag_number}
use Rattle.c_type_expr.specs.Scoping.{with_binding}
use Rattle.c_type_stmt.specs.Declarations.{eof_name}
use Rattle.c_types.specs.declared.file_walk.FileWalk.{FileWalk}
use Rattle.c_types.specs.Files.{FileNames, putchar_name, getchar_name}
use Rattle.c_types.specs.Recalled.{Recalls}
use Rattle.c_types.specs.Redeclarations.{putchar_type, getchar_type}
use Rattle.c_types.specs.Standing.{Stands, FileStands}
use Rattle.c_types.specs.Units.{Judgement, with_names, included, with_tag, with_body, with_members, struct_judged}
use Rattle.c_types.specs.Units.{part_judged, parts_judged}
use Rattle.c_types.specs.Laws.StandingLaws.{stands_names, stands_stdio}

-- ---- the include line

-- one name more
abbrev named : Walk → Binding → Walk
named w b = record w { scopes = with_binding w.scopes b }

pub included_walked : (writes reads : Meaning) (w w1 w2 w3 w4 : Walk) →
    w1 ≡ record w { scopes = with_binding w.scopes (binds putchar_name writes) } →
    w2 ≡ record w1 { scopes = with_binding w1.scopes (binds getchar_name reads) } →
    w3 ≡ record w2 { scopes = with_binding w2.scopes (binds eof_name means.Eof) } → w4 ≡ record w3 { stdio = true } →
    writes ≡ means.Function callee.Putchar (Some putchar_type) → reads ≡ means.Function callee.Getchar (Some getchar_type) →
    (j : Judgement) → Stands w j → Stands w4 (included j)
included_walked writes reads w w1 w2 w3 w4 first second third last writes_is reads_is j stands =
    let names = binds eof_name means.Eof ∷ binds getchar_name (means.Function callee.Getchar (Some getchar_type)) ∷
    binds putchar_name (means.Function callee.Putchar (Some putchar_type)) ∷ [] in
    let all : w3 ≡ record w { scopes = record w.scopes { inner = names ++ w.scopes.inner } } =
    third ∙ ap (λ x. named x (binds eof_name means.Eof)) second
    ∙ ap (λ x. named (named x (binds getchar_name reads)) (binds eof_name means.Eof)) first
    ∙ (λ i. named (named (named w (binds putchar_name (writes_is i))) (binds getchar_name (reads_is i))) (binds eof_name means.Eof)) in
    stands_stdio w3 w4 (with_names j names) (stands_names names w w3 j stands all) last

-- ---- parts

-- what a struct's declaration leaves of a file
pub record Keeps (j k : Judgement) : Type 0 where
  pub declared_are : k.declared ≡ j.declared
  pub globals_are : k.globals ≡ j.globals
  pub functions_are : k.functions ≡ j.functions

keeps_all : (j : Judgement) → Keeps j j
keeps_all j = record { declared_are = refl; globals_are = refl; functions_are = refl }

tag_keeps : (j : Judgement) (tag : List ℕ) (number : Option ℕ) → Keeps j (with_tag j tag number)
tag_keeps j tag None = record { declared_are = refl; globals_are = refl; functions_are = refl }
tag_keeps j tag (Some number) = keeps_all j

body_keeps : (j : Judgement) (d : StructDecl) (number : Option ℕ) (ds : List Decl) → Keeps j (with_body j d number ds)
body_keeps j d None ds = keeps_all j
body_keeps j d (Some number) ds = record { declared_are = refl; globals_are = refl; functions_are = refl }

members_keep : (j : Judgement) (d : StructDecl) (ds : Option (List Decl)) → Keeps j (with_members j d ds)
members_keep j d None = keeps_all j
members_keep j d (Some ds) = body_keeps j d (tag_number j.env.structs d.name) ds

struct_keeps : (j : Judgement) (d : StructDecl) → Keeps j (struct_judged j d)
struct_keeps j d =
    let tag = tag_keeps j d.name (tag_number j.env.structs d.name) in
    let body = members_keep (with_tag j d.name (tag_number j.env.structs d.name)) d d.members in
    record {
      declared_are = body.declared_are ∙ tag.declared_are;
      globals_are = body.globals_are ∙ tag.globals_are;
      functions_are = body.functions_are ∙ tag.functions_are;
    }

-- a part that declares no object and no function
walk_part : (f : FileWalk) (w : Walk) (j k : Judgement) → FileStands f j → Stands w k → Keeps j k →
    FileStands (record f { walk = w }) k
walk_part f w j k before stands keeps = record {
  walk_stands = stands;
  recalls = subst (Recalls f.declared) (sym keeps.declared_are) before.recalls;
  globals_are = before.globals_are ∙ sym keeps.globals_are;
  functions_are = before.functions_are ∙ sym keeps.functions_are;
}

pub include_part : (names : FileNames) (f : FileWalk) (w : Walk) → ((j : Judgement) → Stands f.walk j → Stands w (included j)) →
    (j : Judgement) → FileStands f j → FileStands (record f { walk = w }) (part_judged names j external.Include)
include_part names f w passes j before =
    walk_part f w j (included j) before (passes j before.walk_stands)
    (record { declared_are = refl; globals_are = refl; functions_are = refl })

pub struct_part : (names : FileNames) (d : StructDecl) (f : FileWalk) (w : Walk) →
    ((j : Judgement) → Stands f.walk j → Stands w (struct_judged j d)) →
    (j : Judgement) → FileStands f j → FileStands (record f { walk = w }) (part_judged names j (external.Struct d))
struct_part names d f w passes j before =
    walk_part f w j (struct_judged j d) before (passes j before.walk_stands) (struct_keeps j d)

-- ---- all of them

parts-append : (names : FileNames) (j : Judgement) (es : List External) (e : External) →
    parts_judged names j (es ++ e ∷ []) ≡ part_judged names (parts_judged names j es) e
parts-append names j [] e = refl
parts-append names j (x ∷ es) e = parts-append names (part_judged names j x) es e

pub parts_next : (names : FileNames) (es : List External) (i : ℕ) (e : External) (f f1 f2 : FileWalk) → i < length es →
    e ≡ get_or es i e → ((j : Judgement) → FileStands f j → FileStands f1 (parts_judged names j (take i es))) →
    ((j : Judgement) → FileStands f1 j → FileStands f2 (part_judged names j e)) →
    (j : Judgement) → FileStands f j → FileStands f2 (parts_judged names j (take (i + 1) es))
parts_next names es i e f f1 f2 below is before one j stands =
    let so_far = parts_judged names j (take i es) in
    subst (λ l. FileStands f2 (parts_judged names j l)) (sym (take_more es i e below))
    (subst (FileStands f2) (sym (parts-append names j (take i es) (get_or es i e)))
    (subst (λ x. FileStands f2 (part_judged names so_far x)) is (one so_far (before j stands))))
