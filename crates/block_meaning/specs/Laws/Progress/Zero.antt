-- The cells of an object that is zero point to the null block alone.
use Rattle.std.proofs.Common.{◌≡◌, sym, subst, ℕ, zero, suc, ◌<◌, List, [], ◌∷◌, length, replicate}
use Rattle.std.specs.Prelude.{slice_get}
use Rattle.std.proofs.lemmas.List.Elements.{All-nil, All-append, All-replicate}
use Rattle.c_type_base.specs.Laws.Opened.{given_types}
use Rattle.c_type_base.specs.declared.ty.Ty.{Ty, roll-Ty, map-Ty}
use Rattle.c_type_base.specs.declared.ty.Ty.TheOpen.{Ty-F}
use Rattle.c_type_base.specs.declared.ty.Ty.TheFolds.{ind-Ty, fold-roll-Ty}
use Rattle.c_type_base.specs.declared.typed.StructInfo.{StructInfo}
use Rattle.c_type_base.specs.declared.typed.MemberInfo.{MemberInfo}
use Rattle.c_type_base.specs.Layout.{members_of}
use Rattle.c_type_base.specs.Sizes.{int_bytes, bytes_of_struct}
use Rattle.block_meaning.specs.declared.cell.Cell.{Cell}
use Rattle.block_meaning.specs.declared.cell.Cell.TheVariants.{Byte}
use Rattle.block_meaning.specs.Blocks.{null, with_cells}
use Rattle.block_meaning.specs.Laws.Progress.Fits.{pointer_cells-within}
use Rattle.block_meaning.specs.Laws.Progress.Memory.{with_cells-within}
use Rattle.block_meaning.specs.Laws.Progress.Safe.{CellWithin, CellsWithin}
use Rattle.block_meaning.specs.Opening.{repeated, zero_step, zero_by, zero_members, zero_in_struct, zero_cells}

module _ (n : ℕ) (some : 0 < n) where
  repeated_within : (k : ℕ) (cells : List Cell) → CellsWithin n cells → CellsWithin n (repeated k cells)
  repeated_within zero cells all = All-nil (CellWithin n)
  repeated_within (suc k) cells all = All-append (CellWithin n) cells (repeated k cells) all (repeated_within k cells all)

  module _ (of_struct : ℕ → List Cell) (structs_within : (k : ℕ) → CellsWithin n (of_struct k)) where
    abbrev Within : Ty → Type 0
    Within t = CellsWithin n (zero_by of_struct t)

    abbrev With : Type 0
    With = (t : Ty) × Within t

    types_with : Ty-F With → Ty-F Ty
    types_with = map-Ty With Ty (λ e. e.0)

    level : (y : Ty-F With) → Within (roll-Ty (types_with y))
    unfolding types_with given_types
    level Ty-F.Void = subst (CellsWithin n) (sym (fold-roll-Ty (List Cell) (zero_step of_struct) Ty-F.Void)) (All-nil (CellWithin n))
    level (Ty-F.Int i) = subst (CellsWithin n) (sym (fold-roll-Ty (List Cell) (zero_step of_struct) (Ty-F.Int i)))
        (All-replicate (CellWithin n) (int_bytes i) (Byte 0) tt)
    level (Ty-F.Pointer t) = subst (CellsWithin n) (sym (fold-roll-Ty (List Cell) (zero_step of_struct) (Ty-F.Pointer t.0)))
        (pointer_cells-within n null some)
    level (Ty-F.Array t k) = subst (CellsWithin n) (sym (fold-roll-Ty (List Cell) (zero_step of_struct) (Ty-F.Array t.0 k)))
        (repeated_within k (zero_by of_struct t.0) t.1)
    level (Ty-F.Struct k) = subst (CellsWithin n) (sym (fold-roll-Ty (List Cell) (zero_step of_struct) (Ty-F.Struct k)))
        (structs_within k)

    levels : (x : Ty-F Ty) (y : Ty-F With) → types_with y ≡ x → Within (roll-Ty x)
    levels x y is = subst (λ x. Within (roll-Ty x)) is (level y)

    zero_by-within : (t : Ty) → Within t
    unfolding types_with
    zero_by-within = ind-Ty Within levels

  members_within : (zeros : Ty → List Cell) → ((t : Ty) → CellsWithin n (zeros t)) → (ms : List MemberInfo) (cells : List Cell) →
      CellsWithin n cells → CellsWithin n (zero_members zeros ms cells)
  members_within zeros each [] cells all = all
  members_within zeros each (m ∷ ms) cells all =
      members_within zeros each ms (with_cells m.offset (zeros m.ty) cells)
      (with_cells-within n m.offset (zeros m.ty) cells (each m.ty) all)

  struct_within : (depth : ℕ) (structs : List StructInfo) (k : ℕ) → CellsWithin n (zero_in_struct depth structs k)
  struct_within zero structs k = All-nil (CellWithin n)
  struct_within (suc deeper) structs k =
      let info = slice_get structs k in
      let bytes = bytes_of_struct info in
      members_within (zero_by (zero_in_struct deeper structs))
      (zero_by-within (zero_in_struct deeper structs) (struct_within deeper structs))
      (members_of info) (replicate bytes (Byte 0)) (All-replicate (CellWithin n) bytes (Byte 0) tt)

  pub zero_cells-within : (structs : List StructInfo) (t : Ty) → CellsWithin n (zero_cells structs t)
  zero_cells-within structs = zero_by-within (zero_in_struct (length structs) structs) (struct_within (length structs) structs)
