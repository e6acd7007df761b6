-- A scalar access that is in order is aligned in memory (this project's own).
use Rattle.std.specs.Prelude.{◌≡◌, ℕ, ◌%◌, ◌≤◌, true, false, slice_get, Some, refl}
use Rattle.std.proofs.Common.{arith, ap, sym, subst, inl, inr, ◌∙◌}
use Rattle.c_type_base.specs.Sizes.{size}
use Rattle.a64_code.specs.State.{State}
use Rattle.a64_laws.specs.Laws.Effects.Accesses.{IsSize}
use Rattle.a64_laws.specs.Laws.Loads.{load_is_size}
use Rattle.slot_safety.specs.declared.kind.Kind.{Kind as SlotKind}
use Rattle.slot_safety.specs.declared.kind.Kind.TheVariants.{Safe, Tagged}
use Rattle.frame_layout.specs.declared.frame.Frame.{Frame}
use Rattle.frame_layout.specs.Frames.{frame}
use Rattle.block_meaning.specs.Access.{is_null_block, is_text}
use Rattle.block_meaning.specs.Blocks.{Block}
use Rattle.block_meaning.specs.Linkage.{structs_of}
use Rattle.block_meaning.specs.ProgramsInOrder.{InOrder}
use Rattle.block_meaning.specs.Running.{Call, Context, State as MeaningState}
use Rattle.block_meaning.specs.declared.access.Access.{Access}
use Rattle.block_meaning.specs.declared.kind.Kind.{Kind}
use Rattle.block_meaning.specs.declared.kind.Kind.TheVariants.{NullBlock, Global, Text, Code, Local}
use Rattle.code_relation.specs.Calls.{lowest, frame_of}
use Rattle.code_relation.specs.Injects.{Injects}
use Rattle.code_relation.specs.Loaded.{IsFileBlock}
use Rattle.code_relation.specs.Sites.{Given, units_of, Lives, site_of, slot_in, is_object, is_of_file}
use Rattle.code_relation.specs.Stands.{WasOpened, IsLocal}
use Rattle.code_relation.specs.Laws.LocalBytes.{InFrame, in_frame, frame_is, laid_out}
use Rattle.gen_base.specs.Accesses.{load_of}
use Rattle.gen_laws.specs.Laws.Numbers.{some_same}
use Rattle.code_follows.specs.Aligned.{AlignedSlots}
use Rattle.code_follows.specs.Laws.Accessing.{IsInOrder, address_in, sum_aligned, granule_aligned}
use Rattle.code_follows.specs.Laws.BlockBytes.{is_code, code_empty}
use Rattle.code_follows.specs.Laws.BlockTags.{site_of_file}
use Rattle.code_follows.specs.Laws.GranuleOwners.{OpenFrame, open_frame, local_open_call, local_bytes}
use Rattle.code_follows.specs.Laws.ScalarSizes.{ScalarBytes, scalar_bytes}
use Rattle.code_follows.specs.Laws.SlotAccess.{safe_start}

-- where a multiple of a size starts, so does one of a smaller size
smaller_aligned : (n m start : ℕ) → IsSize n → IsSize m → n ≤ m → start % m ≡ 0 → start % n ≡ 0
smaller_aligned n m start small large less whole = by_large large less whole small
  where
    by_small : (m : ℕ) → IsSize n → n ≤ m → start % m ≡ 0 → (start % m ≡ 0 → start % 1 ≡ 0) → (2 ≤ m → start % m ≡ 0 → start % 2 ≡ 0) →
        (4 ≤ m → start % m ≡ 0 → start % 4 ≡ 0) → (8 ≤ m → start % m ≡ 0 → start % 8 ≡ 0) → start % n ≡ 0
    by_small m (inl is) less whole one two four eight = subst (λ (x : ℕ). start % x ≡ 0) (sym is) (one whole)
    by_small m (inr (inl is)) less whole one two four eight =
        subst (λ (x : ℕ). start % x ≡ 0) (sym is) (two (omega (arith, is, less)) whole)
    by_small m (inr (inr (inl is))) less whole one two four eight =
        subst (λ (x : ℕ). start % x ≡ 0) (sym is) (four (omega (arith, is, less)) whole)
    by_small m (inr (inr (inr is))) less whole one two four eight =
        subst (λ (x : ℕ). start % x ≡ 0) (sym is) (eight (omega (arith, is, less)) whole)

    by_large : IsSize m → n ≤ m → start % m ≡ 0 → IsSize n → start % n ≡ 0
    by_large (inl is) less whole small =
        by_small 1 small (omega (arith, is, less)) (subst (λ (x : ℕ). start % x ≡ 0) is whole) (λ w. w) (λ l w. absurd (omega (arith, l)))
        (λ l w. absurd (omega (arith, l))) (λ l w. absurd (omega (arith, l)))
    by_large (inr (inl is)) less whole small =
        by_small 2 small (omega (arith, is, less)) (subst (λ (x : ℕ). start % x ≡ 0) is whole) (λ w. omega arith) (λ l w. w)
        (λ l w. absurd (omega (arith, l))) (λ l w. absurd (omega (arith, l)))
    by_large (inr (inr (inl is))) less whole small =
        by_small 4 small (omega (arith, is, less)) (subst (λ (x : ℕ). start % x ≡ 0) is whole) (λ w. omega arith) (λ l w. omega (arith, w))
        (λ l w. w) (λ l w. absurd (omega (arith, l)))
    by_large (inr (inr (inr is))) less whole small =
        by_small 8 small (omega (arith, is, less)) (subst (λ (x : ℕ). start % x ≡ 0) is whole) (λ w. omega arith) (λ l w. omega (arith, w))
        (λ l w. omega (arith, w)) (λ l w. w)

-- a scalar access
pub record IsScalarAccess (a : Access) : Type 0 where
  pub size : IsSize a.size
  pub align_is : a.align ≡ a.size

module _ {g : Given} {here : Context} {now : MeaningState} {s : State} (injects : Injects g here now s) (order : InOrder g.program)
    (slots : AlignedSlots (units_of g)) (a : Access) (scalar : IsScalarAccess a) (b : Block) (lives : Lives now a.at.block b)
    (ordered : IsInOrder b a) where
  by_start : (site_of g now a.at.block b).start % a.size ≡ 0 → address_in g now a b % a.size ≡ 0
  by_start start =
      sum_aligned a.size (site_of g now a.at.block b).start a.at.offset scalar.size start
      (subst (λ (n : ℕ). a.at.offset % n ≡ 0) scalar.align_is ordered.aligned)

  some : 1 ≤ a.size
  some = by_size scalar.size
    where
      by_size : IsSize a.size → 1 ≤ a.size
      by_size (inl is) = omega (arith, is)
      by_size (inr (inl is)) = omega (arith, is)
      by_size (inr (inr (inl is))) = omega (arith, is)
      by_size (inr (inr (inr is))) = omega (arith, is)

  at_most : a.size ≤ 8
  at_most = by_size scalar.size
    where
      by_size : IsSize a.size → a.size ≤ 8
      by_size (inl is) = omega (arith, is)
      by_size (inr (inl is)) = omega (arith, is)
      by_size (inr (inr (inl is))) = omega (arith, is)
      by_size (inr (inr (inr is))) = omega (arith, is)

  of_file : (of_file : is_of_file b.kind ≡ true) →
      ((was : WasOpened g a.at.block b) → IsFileBlock g a.at.block was.before → (g.starts a.at.block).start % 16 ≡ 0) →
      address_in g now a b % a.size ≡ 0
  of_file file whole =
      let was : WasOpened g a.at.block b = injects.stands.of_files a.at.block b lives.is file in
      by_start (granule_aligned a.size (site_of g now a.at.block b).start scalar.size
      (subst (λ (n : ℕ). n % 16 ≡ 0) (sym (ap (λ y. y.start) (site_of_file g now b.kind a.at.block file)))
      (whole was (record { is = was.is; of_file = ap is_of_file (sym was.kind_is) ∙ file }))))

  of_local : (call k : ℕ) → b.kind ≡ Local call k → (site_of g now a.at.block b).start % a.size ≡ 0
  of_local call k kind_is = by_slot (in_frame injects order a.at.block b call k lives.is kind_is)
    where
      by_slot : InFrame injects order a.at.block b call k → (site_of g now a.at.block b).start % a.size ≡ 0
      by_slot at = by_kind at.slot.kind refl
        where
          frame_c : OpenFrame injects order at.of
          frame_c = open_frame injects order at.of (local_open_call injects order a.at.block b call k at.of lives kind_is at.of_is)

          l : IsLocal g now b call k
          l = injects.stands.locals a.at.block b call k lives.is kind_is

          started : (n : ℕ) → at.slot.start % n ≡ 0 → n ≡ a.size → (site_of g now a.at.block b).start % a.size ≡ 0
          started n whole is =
              subst (λ (x : ℕ). x % a.size ≡ 0) (sym at.start_is)
              (sum_aligned a.size (lowest at.of) at.slot.start scalar.size
              (granule_aligned a.size (lowest at.of) scalar.size frame_c.lowest_whole) (subst (λ (x : ℕ). at.slot.start % x ≡ 0) is whole))

          by_kind : (kind : SlotKind) → at.slot.kind ≡ kind → (site_of g now a.at.block b).start % a.size ≡ 0
          by_kind Tagged tag =
              let bytes = local_bytes injects order a.at.block b call k at.of at.slot lives.is kind_is at.of_is at.slot_is tag in
              started a.size (granule_aligned a.size at.slot.start scalar.size bytes.1.start_whole) refl
          by_kind Safe safe =
              let structs = structs_of (units_of g) l.made_by.function.unit in
              let made : l.made_by ≡ at.of = some_same (sym l.call_is ∙ at.of_is) in
              let there : slice_get (frame_of (units_of g) l.made_by.function).slots k ≡ Some at.slot =
              ap (λ (d : Call). slot_in g d k) made ∙ at.slot_is in
              let of_frame : slice_get (frame structs l.function).slots k ≡ Some at.slot =
              ap (λ (y : Frame). slice_get y.slots k) (sym (frame_is (units_of g) l.made_by.function l.function l.function_is)) ∙ there in
              started a.size (elim (slots.each l.made_by.function l.function k l.info at.slot l.function_is l.info_is there safe) [
                | inl scalar_type ↦
                    let bytes : ScalarBytes structs l.info.ty = scalar_bytes structs l.info.ty scalar_type in
                    smaller_aligned a.size (size structs l.info.ty) at.slot.start scalar.size
                    (subst (λ n. IsSize n) bytes.size_is (load_is_size (load_of l.info.ty)))
                    (omega (arith, ordered.within, l.size_is))
                    (subst (λ (n : ℕ). at.slot.start % n ≡ 0) bytes.align_is
                    (safe_start structs l.function (laid_out g.program order l.made_by.function l.function l.function_is) k l.info at.slot
                    l.info_is of_frame safe))
                | inr whole ↦ smaller_aligned a.size 8 at.slot.start scalar.size (inr (inr (inr refl))) at_most whole
              ]) refl

  pub aligned_there : address_in g now a b % a.size ≡ 0
  aligned_there = by_kind b.kind refl
    where
      by_kind : (kind : Kind) → b.kind ≡ kind → address_in g now a b % a.size ≡ 0
      by_kind NullBlock is = absurd (let both : true ≡ false = sym (ap is_null_block is) ∙ ordered.not_null in cc)
      by_kind (Global unit k) is =
          of_file (ap is_of_file is) (λ was file.
          injects.files.objects_whole a.at.block was.before file (ap is_object (sym was.kind_is) ∙ ap is_object is))
      by_kind (Text unit k) is =
          of_file (ap is_of_file is) (λ was file.
          injects.files.texts_whole a.at.block was.before file (ap is_text (sym was.kind_is) ∙ ap is_text is))
      by_kind (Code unit k) is =
          let was : WasOpened g a.at.block b = injects.stands.of_files a.at.block b lives.is (ap is_of_file is) in
          absurd (omega (
            arith,
            some,
            ordered.within,
            was.size_is,
            code_empty (units_of g) a.at.block was.before was.is (ap is_code (sym was.kind_is) ∙ ap is_code is),
          ))
      by_kind (Local call k) is = by_start (of_local call k is)
