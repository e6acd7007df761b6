-- The names of a file that breaks no rule: what is declared has a number among those that the file defines, or among the externs.
use Rattle.std.proofs.Common.{◌⊎◌, inl, inr, ◌≡◌, refl, sym, ◌∙◌, ap, subst, ℕ, zero, suc, Bool, true, false, ◌&&◌, ◌||◌, List, [], ◌∷◌}
use Rattle.std.proofs.Common.{map, slice_get, Option, Some, None}
use Rattle.std.specs.Prelude.{not, flat_map, if◌then◌else◌}
use Rattle.std.specs.List.{filter, list_any}
use Rattle.std.specs.Str.{bytes_eq}
use Rattle.c_ast.specs.declared.program.Program.{Program}
use Rattle.c_type_expr.specs.declared.scopes.Signature.{Signature}
use Rattle.c_type_stmt.specs.Declarations.{eof_name}
use Rattle.c_types.specs.declared.names.FileNames.{FileNames}
use Rattle.c_types.specs.declared.names.Mention.{Mention}
use Rattle.c_types.specs.declared.redeclared.Declared.{Declared}
use Rattle.c_types.specs.declared.redeclared.Kind.{Kind}
use Rattle.c_types.specs.declared.redeclared.Kind.TheVariants.{AnObject, AFunction}
use Rattle.c_types.specs.Files.{mentions, once, is_library, defined_as, name_in, file_names, number_among}
use Rattle.c_types.specs.Files.{putchar_name, getchar_name}
use Rattle.c_types.specs.Redeclarations.{same_kind, equal, agree, library, putchar_type, getchar_type}
use Rattle.c_types.specs.Units.{start, judged}
use Rattle.well_typed_order.specs.Laws.Growth.{In}
use Rattle.well_typed_order.specs.Laws.Mentions.{is_function, mention_of, onto, parts-mentions, Chain, parts-chain, OneKind, one-kind}
use Rattle.well_typed_order.specs.Laws.Mentions.{chain-kind, chain-library}
use Rattle.well_typed_order.specs.Laws.Numbers.{eq-name, name-eq, filter-passes, passes-filter, any-passes, in-once, onto-in}
use Rattle.well_typed_order.specs.Laws.Numbers.{passes-position, in-onto, in-map, map-in}

-- ---- booleans

pub three : (a b c : Bool) → (a && b && c) ≡ true → (a ≡ true) × (b ≡ true) × (c ≡ true)
three true true c is = (refl, refl, is)
three true false c is = absurd cc
three false b c is = absurd cc

pub three-back : (a b c : Bool) → a ≡ false → b ≡ false → c ≡ false → (not a && not b && not c) ≡ true
three-back false false false is its other = refl
three-back true b c is its other = absurd cc
three-back false true c is its other = absurd cc
three-back false false true is its other = absurd cc

pub by-false : (b : Bool) → (b ≡ true → ⊥) → b ≡ false
by-false true never = absurd (never refl)
by-false false never = refl

same_sort : (m f : Bool) → (if m then f else not f) ≡ true → m ≡ f
same_sort true true is = refl
same_sort true false is = absurd cc
same_sort false true is = absurd cc
same_sort false false is = refl

module _ (p : Program) (kept : (judged p).faults ≡ []) where
  abbrev names : FileNames
  names = file_names p

  abbrev ms : List Mention
  ms = flat_map mentions p.items

  abbrev ds : List Declared
  ds = (judged p).declared

  mentioned : map mention_of ds ≡ onto ms []
  mentioned = parts-mentions names start p.items

  pub chain : Chain names ds
  chain = parts-chain names start p.items kept tt

  pub declared-mention : (d : Declared) → In ds d → In ms (mention_of d)
  declared-mention d has =
      by_side (onto-in ms [] (mention_of d) (subst (λ l. In l (mention_of d)) mentioned (in-map mention_of ds d has)))
    where
      by_side : (In ms (mention_of d)) ⊎ (In [] (mention_of d)) → In ms (mention_of d)
      by_side (inl has) = has
      by_side (inr (k, is)) = absurd cc

  pub mention-declared : (m : Mention) → In ms m → (d : Declared) × In ds d × (mention_of d ≡ m)
  mention-declared m has = map-in mention_of ds m (subst (λ l. In l m) (sym mentioned) (in-onto ms [] m has))

  -- a declaration that defines a name
  pub record DefinedAs (function : Bool) (name : List ℕ) : Type 0 where
    pub by : Declared
    pub declared : In ds by
    pub name_is : by.name ≡ name
    pub defines : by.defined ≡ true
    pub sort_is : is_function by.kind ≡ function

  pub defined-as : (function : Bool) (name : List ℕ) → defined_as function ms name ≡ true → DefinedAs function name
  defined-as function name is =
      let found = any-passes (λ m. bytes_eq m.name name && m.defines && (if m.function then function else not function)) ms is in
      let m = found.0 in
      let all = three (bytes_eq m.name name) m.defines (if m.function then function else not function) found.1.passes in
      let d = mention-declared m found.1.there in
      record {
        by = d.0;
        declared = d.1;
        name_is = ap (λ (m : Mention). m.name) d.2 ∙ eq-name m.name name all.0;
        defines = ap (λ (m : Mention). m.defines) d.2 ∙ all.1;
        sort_is = ap (λ (m : Mention). m.function) d.2 ∙ same_sort m.function function all.2;
      }

  pub global-defined : (k : ℕ) (name : List ℕ) → slice_get names.globals k ≡ Some name → DefinedAs false name
  global-defined k name is = defined-as false name (filter-passes (defined_as false ms) (once [] (map name_in ms)) name (k, is)).passes

  pub function-defined : (k : ℕ) (name : List ℕ) → slice_get names.functions k ≡ Some name → DefinedAs true name
  function-defined k name is = defined-as true name (filter-passes (defined_as true ms) (once [] (map name_in ms)) name (k, is)).passes

  -- each name of an extern is declared
  pub extern-declared : (k : ℕ) (name : List ℕ) → slice_get names.externs k ≡ Some name → (d : Declared) × In ds d × (d.name ≡ name)
  extern-declared k name is =
      let test = λ (n : List ℕ). not (defined_as false ms n) && not (defined_as true ms n) && not (names.includes && is_library n) in
      let passed = filter-passes (λ n. not (defined_as false ms n) && not (defined_as true ms n) && not (names.includes && is_library n))
      (once [] (map name_in ms)) name (k, is) in
      let found = map-in name_in ms name (once_in [] (map name_in ms) name passed.there) in
      let d = mention-declared found.0 found.1 in
      (d.0, d.1, ap (λ (m : Mention). m.name) d.2 ∙ found.2)
    where
      later : (x n : List ℕ) (xs : List (List ℕ)) (b : Bool) (old new : List (List ℕ)) → (In old n → In xs n) → (In new n → In xs n) →
          In (if b then old else x ∷ new) n → In (x ∷ xs) n
      later x n xs true old new first next has = let found = first has in (suc found.0, found.1)
      later x n xs false old new first next (zero, is) = (zero, is)
      later x n xs false old new first next (suc k, is) = let found = next (k, is) in (suc found.0, found.1)

      once_in : (seen xs : List (List ℕ)) (n : List ℕ) → In (once seen xs) n → In xs n
      once_in seen [] n (k, is) = absurd cc
      once_in seen (x ∷ xs) n has = later x n xs (list_any (bytes_eq x) seen) (once seen xs) (once (x ∷ seen) xs) (once_in seen xs n)
          (once_in (x ∷ seen) xs n) has

  -- ---- what is no definition of this file

  one_name : (d e : Declared) → In ds d → In ds e → d.name ≡ e.name → OneKind d.kind e.kind
  one_name d e of_d of_e same =
      chain-kind names ds chain d e of_d of_e (name-eq d.name e.name same) (name-eq e.name d.name (sym same))

  pub one-name : (d e : Declared) → In ds d → In ds e → d.name ≡ e.name → OneKind d.kind e.kind
  one-name = one_name

  sorts : (k l : Kind) → OneKind k l → is_function k ≡ is_function l
  sorts (AnObject s) (AnObject t) one = refl
  sorts (AFunction f) (AFunction g) one = refl
  sorts (AnObject None) (AFunction g) one = absurd one
  sorts (AnObject (Some s)) (AFunction g) one = absurd one
  sorts (AFunction None) (AnObject t) one = absurd one
  sorts (AFunction (Some f)) (AnObject t) one = absurd one

  other_sort : (d : Declared) (function : Bool) → In ds d → is_function d.kind ≡ not function → defined_as function ms d.name ≡ false
  other_sort d function has is = by-false (defined_as function ms d.name) (λ defined.
      let e = defined-as function d.name defined in
      clash function (sym is ∙ sorts d.kind e.by.kind (one_name d e.by has e.declared (sym e.name_is)) ∙ e.sort_is))
    where
      clash : (b : Bool) → not b ≡ b → ⊥
      clash true is = absurd cc
      clash false is = absurd cc

  -- it is among the externs where this file does not define it
  pub among-externs : (d : Declared) → In ds d → defined_as false ms d.name ≡ false → defined_as true ms d.name ≡ false →
      (names.includes && is_library d.name) ≡ false → (k : ℕ) × (number_among names.externs d.name ≡ Some k)
  among-externs d has objects functions library =
      let named = in-once [] (map name_in ms) d.name (in-map name_in ms (mention_of d) (declared-mention d has)) refl in
      let among = passes-filter (λ n. not (defined_as false ms n) && not (defined_as true ms n) && not (names.includes && is_library n))
      (once [] (map name_in ms)) d.name named (three-back _ _ _ objects functions library) in
      passes-position (bytes_eq d.name) 0 names.externs d.name among (name-eq d.name d.name refl)

  -- nor among its definitions, where it has no number there
  no_definition : (function : Bool) (list : List (List ℕ)) → list ≡ filter (defined_as function ms) (once [] (map name_in ms)) →
      (d : Declared) → In ds d → number_among list d.name ≡ None → defined_as function ms d.name ≡ false
  no_definition function list same d has none = by-false (defined_as function ms d.name) (λ defined.
      let named = in-once [] (map name_in ms) d.name (in-map name_in ms (mention_of d) (declared-mention d has)) refl in
      let among = passes-filter (defined_as function ms) (once [] (map name_in ms)) d.name named defined in
      let place = passes-position (bytes_eq d.name) 0 list d.name (subst (λ l. In l d.name) (sym same) among) (name-eq d.name d.name
      refl) in
      let clash : ◌≡◌ {A = Option ℕ} None (Some place.0) = sym none ∙ place.1 in absurd cc)

  pub no-object : (d : Declared) → In ds d → number_among names.globals d.name ≡ None → defined_as false ms d.name ≡ false
  no-object d has none = no_definition false names.globals refl d has none

  pub no-function : (d : Declared) → In ds d → number_among names.functions d.name ≡ None → defined_as true ms d.name ≡ false
  no-function d has none = no_definition true names.functions refl d has none

  pub object-no-function : (d : Declared) → In ds d → is_function d.kind ≡ false → defined_as true ms d.name ≡ false
  object-no-function d has is = other_sort d true has is

  pub function-no-object : (d : Declared) → In ds d → is_function d.kind ≡ true → defined_as false ms d.name ≡ false
  function-no-object d has is = other_sort d false has is

  -- ---- the include line

  abbrev AgreesBy : Declared → Bool → Bool → Bool → Bool → Type 0
  AgreesBy d i e put get = (if i then not e && (if put then agree d (library putchar_name putchar_type) else true)
      && (if get then agree d (library getchar_name getchar_type) else true) else true) ≡ true

  agrees_by : (d : Declared) → In ds d →
      AgreesBy d names.includes (bytes_eq d.name eof_name) (bytes_eq d.name putchar_name) (bytes_eq d.name getchar_name)
  agrees_by d has = chain-library names ds chain d has

  kind_of : (d : Declared) (name : List ℕ) (sig : Signature) → agree d (library name sig) ≡ true → OneKind d.kind (AFunction (Some sig))
  kind_of d name sig is = one-kind d.kind (AFunction (Some sig)) (three (same_kind d.kind (AFunction (Some sig))) (equal d.local false)
      (not (d.defined && true)) is).0

  pub putchar-kind : (d : Declared) → In ds d → names.includes ≡ true → bytes_eq d.name putchar_name ≡ true →
      OneKind d.kind (AFunction (Some putchar_type))
  putchar-kind d has include is = by_bools names.includes (bytes_eq d.name eof_name) (bytes_eq d.name putchar_name)
      (bytes_eq d.name getchar_name) include is (agrees_by d has)
    where
      by_bools : (i e put get : Bool) → i ≡ true → put ≡ true → AgreesBy d i e put get → OneKind d.kind (AFunction (Some putchar_type))
      by_bools true e true get include is agrees =
          kind_of d putchar_name putchar_type (three (not e) (agree d (library putchar_name putchar_type)) _ agrees).1
      by_bools false e put get include is agrees = absurd cc
      by_bools true e false get include is agrees = absurd cc

  pub getchar-kind : (d : Declared) → In ds d → names.includes ≡ true → bytes_eq d.name getchar_name ≡ true →
      OneKind d.kind (AFunction (Some getchar_type))
  getchar-kind d has include is = by_bools names.includes (bytes_eq d.name eof_name) (bytes_eq d.name putchar_name)
      (bytes_eq d.name getchar_name) include is (agrees_by d has)
    where
      by_bools : (i e put get : Bool) → i ≡ true → get ≡ true → AgreesBy d i e put get → OneKind d.kind (AFunction (Some getchar_type))
      by_bools true e put true include is agrees =
          kind_of d getchar_name getchar_type
          (three (not e) (if put then agree d (library putchar_name putchar_type) else true) _ agrees).2
      by_bools false e put get include is agrees = absurd cc
      by_bools true e put false include is agrees = absurd cc

  -- no object has a name of the include line
  pub object-no-library : (d : Declared) → In ds d → is_function d.kind ≡ false → (names.includes && is_library d.name) ≡ false
  object-no-library d has is = by-false (names.includes && is_library d.name) (λ both.
      by_names names.includes (bytes_eq d.name putchar_name) (bytes_eq d.name getchar_name) refl refl refl both)
    where
      clash : (sig : Signature) → OneKind d.kind (AFunction (Some sig)) → ⊥
      clash sig one = let no : false ≡ true = sym is ∙ sorts d.kind (AFunction (Some sig)) one in absurd cc

      by_names : (i put get : Bool) → names.includes ≡ i → bytes_eq d.name putchar_name ≡ put → bytes_eq d.name getchar_name ≡ get →
          (i && (put || get)) ≡ true → ⊥
      by_names true true get include is_put is_get both = clash putchar_type (putchar-kind d has include is_put)
      by_names true false true include is_put is_get both = clash getchar_type (getchar-kind d has include is_get)
      by_names true false false include is_put is_get both = absurd cc
      by_names false put get include is_put is_get both = absurd cc
