-- Before the call of `main` there are the blocks of all files, and addresses in them name such blocks.
use Rattle.std.proofs.Common.{◌≡◌, refl, sym, subst, ap, ℕ, suc, ◌+◌, ◌<◌, arith, List, [], ◌∷◌, ◌++◌, length, map}
use Rattle.std.proofs.Common.{Option, Some, None}
use Rattle.std.specs.Prelude.{slice_get}
use Rattle.std.specs.List.{All}
use Rattle.std.proofs.lemmas.List.{length-append}
use Rattle.std.proofs.lemmas.List.Elements.{All-nil, All-cons, All-head, All-tail, All-append, All-map}
use Rattle.c_type_base.specs.declared.typed.Typed.{Typed}
use Rattle.c_type_base.specs.declared.typed.StructInfo.{StructInfo}
use Rattle.c_type_base.specs.declared.typed.ExternInfo.{ExternInfo}
use Rattle.c_type_base.specs.declared.typed.GlobalInfo.{GlobalInfo}
use Rattle.c_type_base.specs.declared.typed.TFunction.{TFunction}
use Rattle.c_type_base.specs.declared.typed.InitPiece.{InitPiece}
use Rattle.c_type_base.specs.declared.typed.InitValue.{InitValue}
use Rattle.c_type_base.specs.declared.typed.InitValue.TheVariants as initial
use Rattle.c_type_base.specs.declared.typed.Target.{Target}
use Rattle.c_type_base.specs.declared.typed.Target.TheVariants as target
use Rattle.block_meaning.specs.declared.cell.Cell.{Cell}
use Rattle.block_meaning.specs.declared.cell.Cell.TheVariants.{Byte, Part}
use Rattle.block_meaning.specs.Blocks.{Block, pointer, null_block, block_of, with_cells}
use Rattle.block_meaning.specs.declared.kind.Kind.TheVariants.{Text, Code}
use Rattle.block_meaning.specs.Laws.Progress.Fits.{pointer_cells-within, number_cells-within}
use Rattle.block_meaning.specs.Laws.Progress.Linked.{all_blocks, object-within, text-within, defined-within}
use Rattle.block_meaning.specs.Laws.Progress.Linked.{definition-block}
use Rattle.block_meaning.specs.Laws.Progress.Memory.{with_cells-within}
use Rattle.block_meaning.specs.Laws.Progress.Safe.{CellWithin, CellsWithin, BlockWithin, BlocksWithin}
use Rattle.block_meaning.specs.Laws.Progress.Zero.{zero_cells-within}
use Rattle.block_meaning.specs.Linkage.{blocks_in, Definition, defined, definition_of, block_of_definition, extern_at}
use Rattle.block_meaning.specs.Opening.{zero_cells, unsigned, or_null, target_block, number_at, scalar_over, with_pieces}
use Rattle.block_meaning.specs.Opening.{objects_from, texts_from, codes_from, opening_from, opening}
use Rattle.block_meaning.specs.ProgramsInOrder.{TargetInOrder, InitInOrder, PieceInOrder, ObjectInOrder}

-- ---- how many

objects_count : (units : List Typed) (unit : ℕ) (structs : List StructInfo) (k : ℕ) (gs : List GlobalInfo) →
    length (objects_from units unit structs k gs) ≡ length gs
objects_count units unit structs k [] = refl
objects_count units unit structs k (g ∷ gs) = ap suc (objects_count units unit structs (k + 1) gs)

texts_count : (unit k : ℕ) (ts : List (List ℕ)) → length (texts_from unit k ts) ≡ length ts
texts_count unit k [] = refl
texts_count unit k (t ∷ ts) = ap suc (texts_count unit (k + 1) ts)

codes_count : (unit k : ℕ) (fs : List TFunction) → length (codes_from unit k fs) ≡ length fs
codes_count unit k [] = refl
codes_count unit k (f ∷ fs) = ap suc (codes_count unit (k + 1) fs)

files_count : (units : List Typed) (unit : ℕ) (us : List Typed) → length (opening_from units unit us) ≡ blocks_in us
files_count units unit [] = refl
files_count units unit (u ∷ us) =
    let objects = objects_from units unit u.structs 0 u.globals in
    let texts = texts_from unit 0 u.texts in
    let codes = codes_from unit 0 u.functions in
    let rest = opening_from units (unit + 1) us in
    let of_objects : length objects ≡ length u.globals = objects_count units unit u.structs 0 u.globals in
    let of_texts : length texts ≡ length u.texts = texts_count unit 0 u.texts in
    let of_codes : length codes ≡ length u.functions = codes_count unit 0 u.functions in
    let of_rest : length rest ≡ blocks_in us = files_count units (unit + 1) us in
    lengths objects texts codes rest of_objects of_texts of_codes of_rest
  where
    lengths : (a b c d : List Block) {k l m n : ℕ} → length a ≡ k → length b ≡ l → length c ≡ m → length d ≡ n →
        length (a ++ b ++ c ++ d) ≡ k + l + m + n
    lengths a b c d of_a of_b of_c of_d =
        let first = length-append (a ++ b ++ c) d in
        let second = length-append (a ++ b) c in
        let third = length-append a b in
        omega (arith, of_a, of_b, of_c, of_d, first, second, third)

pub opening-count : (units : List Typed) → length (opening units) ≡ all_blocks units
opening-count units = let rest = files_count units 0 units in omega (arith, rest)

-- ---- what they hold

module _ (units : List Typed) where
  abbrev count : ℕ
  count = all_blocks units

  defined_or_null : (name : List ℕ) (o : Option Definition) → defined units name ≡ o → or_null (block_of_definition units o) < count
  defined_or_null name None is = omega arith
  defined_or_null name (Some d) is =
      let block = definition-block units d (defined-within units name d is) in
      subst (λ o. or_null o < count) (sym block.is) block.within

  extern_or_null : (o : Option ExternInfo) → or_null (block_of_definition units (definition_of units o)) < count
  extern_or_null None = omega arith
  extern_or_null (Some e) = defined_or_null e.name (defined units e.name) refl

  target_within : (unit : ℕ) (u : Typed) (t : Target) → slice_get units unit ≡ Some u → TargetInOrder u t →
      target_block units unit t < count
  target_within unit u (target.Global k) is less = object-within units unit u k is less
  target_within unit u (target.Extern k) is less = extern_or_null (extern_at units unit k)
  target_within unit u (target.Text k) is less = text-within units unit u k is less

  number_within : (there : Option Cell) (bytes k : ℕ) → CellsWithin count (number_at there bytes k)
  number_within None bytes k = number_cells-within count bytes k
  number_within (Some (Part j block offset)) bytes k = pointer_cells-within count (pointer 0 k) (omega arith)
  number_within (Some _) bytes k = number_cells-within count bytes k

  scalar_within : (unit : ℕ) (u : Typed) (there : Option Cell) (v : InitValue) → slice_get units unit ≡ Some u → InitInOrder u v →
      CellsWithin count (scalar_over units unit there v)
  scalar_within unit u there (initial.Number k bytes) is in_order = number_within there bytes k
  scalar_within unit u there (initial.Address t offset) is in_order =
      pointer_cells-within count (pointer (target_block units unit t) (unsigned offset)) (target_within unit u t is in_order)

  pieces_within : (unit : ℕ) (u : Typed) → slice_get units unit ≡ Some u → (ps : List InitPiece) → All (PieceInOrder u) ps →
      (cells : List Cell) → CellsWithin count cells → CellsWithin count (with_pieces units unit ps cells)
  pieces_within unit u is [] all cells within = within
  pieces_within unit u is (p ∷ ps) all cells within =
      let new = scalar_over units unit (slice_get cells p.offset) p.value in
      let of_new = scalar_within unit u (slice_get cells p.offset) p.value is (All-head (PieceInOrder u) p ps all) in
      pieces_within unit u is ps (All-tail (PieceInOrder u) p ps all) (with_cells p.offset new cells)
      (with_cells-within count p.offset new cells of_new within)

  objects_within : (unit : ℕ) (u : Typed) → slice_get units unit ≡ Some u → (k : ℕ) (gs : List GlobalInfo) → All (ObjectInOrder u) gs →
      BlocksWithin count (objects_from units unit u.structs k gs)
  objects_within unit u is k [] all = All-nil (BlockWithin count)
  objects_within unit u is k (g ∷ gs) all =
      All-cons (BlockWithin count) _ (objects_from units unit u.structs (k + 1) gs)
      (pieces_within unit u is g.init (All-head (ObjectInOrder u) g gs all) (zero_cells u.structs g.ty)
      (zero_cells-within count (omega arith) u.structs g.ty))
      (objects_within unit u is (k + 1) gs (All-tail (ObjectInOrder u) g gs all))

  texts_within : (unit k : ℕ) (ts : List (List ℕ)) → BlocksWithin count (texts_from unit k ts)
  texts_within unit k [] = All-nil (BlockWithin count)
  texts_within unit k (t ∷ ts) = All-cons (BlockWithin count) (block_of (Text unit k) (map Byte t)) (texts_from unit (k + 1) ts)
      (All-map (CellWithin count) Byte t (λ j d less. tt)) (texts_within unit (k + 1) ts)

  codes_within : (unit k : ℕ) (fs : List TFunction) → BlocksWithin count (codes_from unit k fs)
  codes_within unit k [] = All-nil (BlockWithin count)
  codes_within unit k (f ∷ fs) = All-cons (BlockWithin count) (block_of (Code unit k) []) (codes_from unit (k + 1) fs)
      (All-nil (CellWithin count)) (codes_within unit (k + 1) fs)

  files_within : ((unit : ℕ) (u : Typed) → slice_get units unit ≡ Some u → All (ObjectInOrder u) u.globals) →
      (unit : ℕ) (us : List Typed) → ((k : ℕ) (u : Typed) → slice_get us k ≡ Some u → slice_get units (unit + k) ≡ Some u) →
      BlocksWithin count (opening_from units unit us)
  files_within in_order unit [] rest = All-nil (BlockWithin count)
  files_within in_order unit (u ∷ us) rest =
      let same : unit + 0 ≡ unit = omega arith in
      let is : slice_get units unit ≡ Some u = subst (λ k. slice_get units k ≡ Some u) same (rest 0 u refl) in
      All-append (BlockWithin count) _ _ (All-append (BlockWithin count) _ _ (All-append (BlockWithin count) _ _
      (objects_within unit u is 0 u.globals (in_order unit u is)) (texts_within unit 0 u.texts)) (codes_within unit 0 u.functions))
      (files_within in_order (unit + 1) us (λ k v there.
      let next : unit + suc k ≡ unit + 1 + k = omega arith in
      subst (λ j. slice_get units j ≡ Some v) next (rest (suc k) v there)))

  pub opening-within : ((unit : ℕ) (u : Typed) → slice_get units unit ≡ Some u → All (ObjectInOrder u) u.globals) →
      BlocksWithin (length (opening units)) (opening units)
  opening-within in_order =
      subst (λ n. BlocksWithin n (opening units)) (sym (opening-count units))
      (All-cons (BlockWithin count) null_block (opening_from units 0 units) (All-nil (CellWithin count))
      (files_within in_order 0 units (λ k u is.
      let same : k ≡ 0 + k = omega arith in subst (λ j. slice_get units j ≡ Some u) same is)))
