-- What the load of a scalar puts into its register is the value that the meaning reads (this project's own).
use Rattle.std.specs.Prelude.{◌≡◌, ℕ, ◌+◌, ◌%◌, ◌<◌, true, refl}
use Rattle.std.proofs.Common.{ap, sym, subst, ◌∙◌}
use Rattle.mt_base.specs.Granules.{granule_of}
use Rattle.mt_base.specs.Memory.{load}
use Rattle.c_ast.specs.declared.int_type.IntType.{IntType}
use Rattle.c_type_base.specs.Conversions.{wrap}
use Rattle.c_type_base.specs.Sizes.{int_bytes}
use Rattle.c_type_base.specs.Types.{TyLayer, is_scalar}
use Rattle.c_type_base.specs.declared.ty.Ty.{Ty, out-Ty}
use Rattle.c_type_base.specs.declared.ty.Ty.TheOpen.{Ty-F}
use Rattle.a64_code.specs.declared.instr.Instr.{Instr}
use Rattle.a64_code.specs.declared.instr.Reg.{Reg}
use Rattle.a64_code.specs.Effect.{effect}
use Rattle.a64_code.specs.State.{State}
use Rattle.a64_code.specs.Stepped.{Leads}
use Rattle.a64_laws.specs.Forms.{Points, load_size, puts_register}
use Rattle.a64_laws.specs.Laws.Effects.Open.{IsReadable}
use Rattle.block_meaning.specs.Access.{ReadsAs, read_in}
use Rattle.block_meaning.specs.Blocks.{Block}
use Rattle.block_meaning.specs.Running.{Context, State as MeaningState}
use Rattle.block_meaning.specs.declared.access.Access.{Access}
use Rattle.block_meaning.specs.declared.value.Value.{Value}
use Rattle.block_meaning.specs.declared.value.Value.TheVariants.{Number, Address}
use Rattle.code_relation.specs.Injects.{Injects}
use Rattle.code_relation.specs.Sites.{Given, Lives}
use Rattle.code_relation.specs.Laws.Reading.{read-integer}
use Rattle.code_relation.specs.Laws.ReadingPointers.{ReadsPointer, read-pointer}
use Rattle.gen_base.specs.Accesses.{load_of, load_of_level, OnStack, Behind, load_scalar}
use Rattle.gen_laws.specs.Laws.Accesses.{IsNear, load_near-integer, load_far-integer, load_near-pointer, load_far-pointer, load_size-int}
use Rattle.gen_laws.specs.Laws.Numbers.{wrap-is_of}
use Rattle.code_follows.specs.Values.{IsOfLevel, ValueIs}
use Rattle.code_follows.specs.Laws.Accessing.{address_in}
use Rattle.code_follows.specs.Laws.ScalarSizes.{ScalarIs, integer, pointer, scalar_is}

-- an instruction puts a value of a type into a register
pub record PutsValue (g : Given) (t : Ty) (v : Value) (now : MeaningState) (instr : Instr) (r : Reg) (s : State) : Type 0 where
  pub number : ℕ
  pub leads : effect instr s ≡ Leads (puts_register r number s)
  pub is : ValueIs g t v now number

number_value : {g : Given} {now : MeaningState} (t : Ty) (u : IntType) (v : Value) (n : ℕ) → out-Ty t ≡ Ty-F.Int u → v ≡ Number
    (wrap u n) →
    ValueIs g t v now (wrap u n)
number_value {g} {now} t u v n of is =
    subst (λ (x : Value). ValueIs g t x now (wrap u n)) (sym is)
    (record { of = subst (λ (l : TyLayer). IsOfLevel l (Number (wrap u n))) (sym of) (wrap-is_of u n); holds = refl })

pointer_value : {g : Given} {now : MeaningState} (t target : Ty) (v : Value) (n : ℕ) → out-Ty t ≡ Ty-F.Pointer target →
    ReadsPointer g now v n → ValueIs g t v now n
pointer_value {g} {now} t target v n of is =
    subst (λ (x : Value). ValueIs g t x now n) (sym is.is)
    (record { of = subst (λ (l : TyLayer). IsOfLevel l (Address is.pointer)) (sym of) tt; holds = is.number })

module _ {g : Given} {here : Context} {now : MeaningState} {s : State} (injects : Injects g here now s) (t : Ty)
    (scalar : is_scalar t ≡ true) (a : Access) (size_is : a.size ≡ load_size (load_of t)) (b : Block)
    (lives : Lives now a.at.block b) (v : Value)
    (reads : read_in b t a ≡ ReadsAs v) (r : Reg) (small : r.0 < 31) where
  bytes : (x : ℕ) → s.byte x < 256
  bytes x = injects.in_range.bytes x

  -- from SP, where the address is so many bytes on
  pub puts_near : (offset : ℕ) → s.sp + offset ≡ address_in g now a b → IsNear s offset a.size → IsReadable s (s.sp + offset) a.size →
      PutsValue g t v now (load_scalar t (OnStack offset) r) r s
  puts_near offset at near readable = by_case (scalar_is t scalar)
    where
      by_case : ScalarIs t → PutsValue g t v now (load_scalar t (OnStack offset) r) r s
      by_case (integer u is) =
          let size : a.size ≡ int_bytes u = size_is ∙ ap (λ l. load_size (load_of_level l)) is ∙ load_size-int u in
          let read = read-integer injects.cells lives (injects.stands.cells a.at.block b lives) u a t is v reads in
          let same : load a.size s.byte (address_in g now a b) ≡ load (int_bytes u) s.byte (s.sp + offset) =
          ap (λ n. load n s.byte (address_in g now a b)) size ∙ ap (load (int_bytes u) s.byte) (sym at) in
          record {
            number = wrap u (load (int_bytes u) s.byte (s.sp + offset));
            leads = load_near-integer t u is r s offset small bytes (subst (λ n. IsNear s offset n) size near)
                (subst (λ n. IsReadable s (s.sp + offset) n) size readable);
            is = number_value t u v (load (int_bytes u) s.byte (s.sp + offset)) is (read.is ∙ ap (λ n. Number (wrap u n)) same);
          }
      by_case (pointer target is) =
          let size : a.size ≡ 8 = size_is ∙ ap (λ l. load_size (load_of_level l)) is in
          let read = read-pointer injects.cells lives (injects.stands.cells a.at.block b lives) a size t target is v reads in
          record {
            number = load 8 s.byte (s.sp + offset);
            leads = load_near-pointer t target is r s offset small (subst (λ n. IsNear s offset n) size near)
                (subst (λ n. IsReadable s (s.sp + offset) n) size readable);
            is = pointer_value t target v (load 8 s.byte (s.sp + offset)) is
                (subst (λ at. ReadsPointer g now v (load 8 s.byte at)) (sym at) read);
          }

  -- behind a register, whose tag is that of the granule
  pub puts_far : (p : Reg) (tag : ℕ) → p.0 < 31 → Points (s.register p.0) (address_in g now a b) tag →
      address_in g now a b % a.size ≡ 0 → IsReadable s (address_in g now a b) a.size → s.tag (granule_of (address_in g now a b)) ≡ tag →
      PutsValue g t v now (load_scalar t (Behind p) r) r s
  puts_far p tag base points aligned readable agrees = by_case (scalar_is t scalar)
    where
      by_case : ScalarIs t → PutsValue g t v now (load_scalar t (Behind p) r) r s
      by_case (integer u is) =
          let size : a.size ≡ int_bytes u = size_is ∙ ap (λ l. load_size (load_of_level l)) is ∙ load_size-int u in
          let read = read-integer injects.cells lives (injects.stands.cells a.at.block b lives) u a t is v reads in
          record {
            number = wrap u (load (int_bytes u) s.byte (address_in g now a b));
            leads = load_far-integer t u is r s p (address_in g now a b) tag base small bytes points
                (subst (λ (n : ℕ). address_in g now a b % n ≡ 0) size aligned)
                (subst (λ n. IsReadable s (address_in g now a b) n) size readable) agrees;
            is = number_value t u v (load (int_bytes u) s.byte (address_in g now a b)) is
                (read.is ∙ ap (λ n. Number (wrap u (load n s.byte (address_in g now a b)))) size);
          }
      by_case (pointer target is) =
          let size : a.size ≡ 8 = size_is ∙ ap (λ l. load_size (load_of_level l)) is in
          let read = read-pointer injects.cells lives (injects.stands.cells a.at.block b lives) a size t target is v reads in
          record {
            number = load 8 s.byte (address_in g now a b);
            leads = load_far-pointer t target is r s p (address_in g now a b) tag base small points
                (subst (λ (n : ℕ). address_in g now a b % n ≡ 0) size aligned)
                (subst (λ n. IsReadable s (address_in g now a b) n) size readable) agrees;
            is = pointer_value t target v (load 8 s.byte (address_in g now a b)) is read;
          }
