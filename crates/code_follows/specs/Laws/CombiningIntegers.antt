-- The code of an operator with `=` on two integers, behind both operands: what it leaves in the register is the number of what the operator
-- gives, or a division by 0 is told (this project's own). Memory stays as it is.
use Rattle.std.specs.Prelude.{◌≡◌, ◌≢◌, ℕ, ◌+◌, ◌^◌, ◌<◌, ◌≤◌, ◌⊎◌, Bool, true, false, ◌||◌, List, [], ◌∷◌, length, Some, refl}
use Rattle.std.proofs.Common.{arith, ap, sym, subst, inl, inr, ◌∙◌}
use Rattle.std.proofs.Math.Path.{fun_ext}
use Rattle.std.proofs.lemmas.Bool.{cases_Bool}
use Rattle.c_ast.specs.declared.int_type.IntType.{IntType}
use Rattle.c_ast.specs.declared.operator.AssignOperator.{AssignOperator}
use Rattle.c_ast.specs.declared.operator.BinaryOperator.{BinaryOperator}
use Rattle.c_ast.specs.declared.operator.BinaryOperator.TheVariants as binary
use Rattle.c_ast.specs.declared.token.Span.{Span}
use Rattle.c_type_base.specs.Arithmetic.{binary_value}
use Rattle.c_type_base.specs.Conversions.{wrap}
use Rattle.c_type_base.specs.Types.{TyLayer, int_of_level, is_there, is_integer}
use Rattle.c_type_base.specs.declared.ty.Ty.{Ty, out-Ty}
use Rattle.c_type_base.specs.declared.ty.Ty.TheOpen.{Ty-F}
use Rattle.a64_code.specs.declared.instr.Instr.{Instr}
use Rattle.a64_code.specs.declared.instr.Reg.{Reg}
use Rattle.a64_code.specs.State.{State}
use Rattle.block_meaning.specs.ExpressionsInOrder.{Arithmetic, Shift, Logical, group_of}
use Rattle.block_meaning.specs.Operators.{operand, or_int, int_in, binary_of, computing_type, or_divide, combined}
use Rattle.block_meaning.specs.Running.{Run, gives, goes_on, and_then, State as MeaningState}
use Rattle.block_meaning.specs.Values.{value_as, converted_to}
use Rattle.block_meaning.specs.declared.value.Value.{Value}
use Rattle.block_meaning.specs.declared.value.Value.TheVariants.{Number}
use Rattle.code_relation.specs.Numbers.{Holds}
use Rattle.code_relation.specs.Sites.{Given}
use Rattle.code_runs.specs.Bounded.{Account}
use Rattle.gen_base.specs.Code.{plain, in_turn}
use Rattle.gen_base.specs.Conversions.{between_integers}
use Rattle.gen_base.specs.Integers.{on_integers, unless_zero}
use Rattle.gen_base.specs.Operators.{combined as combined_code}
use Rattle.gen_base.specs.Registers.{left, scratch}
use Rattle.gen_laws.specs.Computes.{Computes, IsOf, IsPromoted, all, all_but}
use Rattle.gen_laws.specs.Laws.Combining.{group-of_assign, assigned-is_of, combined-divides}
use Rattle.gen_laws.specs.Laws.Conversions.{between-computes}
use Rattle.gen_laws.specs.Laws.Integers.{on_integers-plain, on_integers-divides, integers-compute}
use Rattle.gen_laws.specs.Laws.Numbers.{IsOf-lt, wrap-is_of}
use Rattle.gen_laws.specs.Operations.{integer_instrs, is_division}
use Rattle.code_follows.specs.Covered.{is_promoted, combines_in}
use Rattle.code_follows.specs.Parts.{Result, On, Goes}
use Rattle.code_follows.specs.Scene.{Scene, IsScene, given_in, structs_in, Lies}
use Rattle.code_follows.specs.Steps.{Suits}
use Rattle.code_follows.specs.Values.{IsOfLevel, ValueIs}
use Rattle.code_follows.specs.Laws.Coming.{Computes-where}
use Rattle.code_follows.specs.Laws.Computing.{Suits-other}
use Rattle.code_follows.specs.Laws.Converting.{between_short}
use Rattle.code_follows.specs.Laws.Dividing.{Goes-unless_zero}
use Rattle.code_follows.specs.Laws.Going.{Goes-same, Goes-computes, On-at}
use Rattle.code_follows.specs.Laws.Lying.{HasInstrs, Lies-turn, Lies-plain, Lies-none}
use Rattle.code_follows.specs.Laws.Nodes.Divided.{no_number, some_number, division_short}
use Rattle.code_follows.specs.Laws.Nodes.Integers.{ValueIs-integer, HasNumber, has_number, target-none, integer_short}
use Rattle.code_follows.specs.Laws.Nodes.OnIntegers.{is_promoted-is, no_pointer}
use Rattle.code_follows.specs.Laws.Walking.{Short}

-- ---- lists, of which memory is known to stay

pub Goes-list_kept : {A : Type 0} {k : Scene} {first : ℕ} {reg : Reg} {alone : Bool} {result : Result A} {s : State} {to leaves : ℕ}
    {a : Account} {owes spare from middle : ℕ} {m : Run A} {now : MeaningState} {t : State} {instrs : List Instr}
    {into : Reg} {spares : ℕ → Type 0} {value most : ℕ} (left : ℕ) → HasInstrs k instrs from middle → Short most instrs →
    ((u : State) → u.register ≡ t.register → u.pc < 2 ^ 56 → Computes instrs into value spares u) → Suits alone reg into spares →
    On k first reg alone s from a owes spare now t → owes ≤ length instrs → most + left ≤ spare →
    ((u : State) (c : Account) → u.register into.0 ≡ value → ((r : ℕ) → r ≢ into.0 → spares r → u.register r ≡ t.register r) →
    u.byte ≡ t.byte → On k first reg alone s middle c 0 left now u → Goes k first reg alone result s to leaves c m now u) →
    Goes k first reg alone result s to leaves a m now t
Goes-list_kept {t = t} {instrs} {into} {spares} {value} left has short each suits on pays fits more =
    let computes : Computes instrs into value spares t = Computes-where has on.came.comes.pc each in
    Goes-computes left has short.quiet computes suits on pays (omega (arith, short.few, fits))
    (more computes.to _ computes.holds computes.registers computes.same.byte)

-- ---- integers

evaluates : (o : AssignOperator) → group_of (binary_of o) ≢ Logical
evaluates o logical = by_group (group-of_assign o)
  where
    by_group : (group_of (binary_of o) ≡ Arithmetic) ⊎ (group_of (binary_of o) ≡ Shift) → ⊥
    by_group (inl group) = absurd (let e : Arithmetic ≡ Logical = sym group ∙ logical in cc)
    by_group (inr group) = absurd (let e : Shift ≡ Logical = sym group ∙ logical in cc)

-- but for shifts, an operator computes in the second type
computing_second : (o : BinaryOperator) (i j : IntType) → group_of o ≢ Shift → computing_type o i j ≡ j
computing_second binary.ShiftLeft i j other = absurd (other refl)
computing_second binary.ShiftRight i j other = absurd (other refl)
computing_second _ i j other = refl

promoted_by : (o : AssignOperator) (s t : Ty) → is_integer s ≡ true → combines_in o s t ≡ true →
    IsPromoted (computing_type (binary_of o) (int_in s) (int_in t))
promoted_by o s t integer combines =
    is_promoted-is (computing_type (binary_of o) (int_in s) (int_in t))
    (ap (λ b. b || is_promoted (computing_type (binary_of o) (int_in s) (int_in t))) (sym (no_pointer (out-Ty s) integer)) ∙ combines)

converted_level : (g : Given) (now : MeaningState) (l : TyLayer) (n : ℕ) → is_there (int_of_level l) ≡ true →
    IsOfLevel l (value_as l (Number n)) × Holds g now (value_as l (Number n)) (wrap (or_int (int_of_level l)) n)
converted_level g now (Ty-F.Int u) n is = (wrap-is_of u n, refl)
converted_level g now _ n is = absurd (cc)

pub converted-integer : {g : Given} {now : MeaningState} (s : Ty) (n : ℕ) → is_integer s ≡ true →
    ValueIs g s (converted_to s (Number n)) now (wrap (int_in s) n)
converted-integer {g} {now} s n is =
    let both = converted_level g now (out-Ty s) n is in
    record { of = both.0; holds = both.1 }

-- the code behind both operands, in three pieces
integer_pieces : (k : Scene) (o : AssignOperator) (s t : Ty) (r : Reg) → is_integer s ≡ true →
    combined_code (structs_in k) o s t r
    ≡ in_turn (plain (between_integers (int_in s) (computing_type (binary_of o) (int_in s) (int_in t)) left)
    ∷ on_integers (binary_of o) (computing_type (binary_of o) (int_in s) (int_in t)) r
    ∷ plain (between_integers (computing_type (binary_of o) (int_in s) (int_in t)) (int_in s) r) ∷ [])
integer_pieces k o s t r is = fun_ext (λ at. combined-divides (structs_in k) o s t r at (target-none s is))

-- what comes next, where memory is that of an earlier state
abbrev pub Next : {A : Type 0} → (k : Scene) → ℕ → Reg → Result A → State → ℕ → ℕ → Ty → (Value → Run A) → State → MeaningState → ℕ → ℕ →
    Type 0
Next k first reg result st to leaves s f u now middle left_over =
    (r : Value) (x : State) (c : Account) → ValueIs (given_in k) s r now (x.register reg.0) → x.byte ≡ u.byte →
    On k first reg false st middle c 0 left_over now x → Goes k first reg false result st to leaves c (f r) now x

module _ {A : Type 0} {k : Scene} (scene : IsScene k) {first : ℕ} {reg : Reg} {result : Result A} {st : State} {to leaves : ℕ}
    (low : 9 ≤ reg.0) (high : reg.0 ≤ 15) (s t : Ty) (span : Span) (f : Value → Run A) where
  -- both operands are integers, the first one in the type in which the operator computes
  last_piece : {acc : Account} {spare from middle : ℕ} {now : MeaningState} {u : State} (by : IntType) (n left_over : ℕ) →
      is_integer s ≡ true → IsOf by n → HasInstrs k (between_integers by (int_in s) reg) from middle → u.register reg.0 ≡ n →
      On k first reg false st from acc 0 spare now u → 1 + left_over ≤ spare →
      Next k first reg result st to leaves s f u now middle left_over →
      Goes k first reg false result st to leaves acc (f (converted_to s (Number n))) now u
  last_piece {now = now} {u} by n left_over integer of has is on fits more =
      Goes-list_kept left_over has (between_short by (int_in s) reg)
      (λ w same near. between-computes reg n w (omega (arith, high)) (ap (λ g. g reg.0) same ∙ is) (IsOf-lt by n of)
      (omega (arith, near)) by
      (int_in s) of)
      (Suits-other reg reg all (omega (arith, high)) tt) on (omega arith) (omega (arith, fits))
      (λ w c holds others byte done. more (converted_to s (Number n)) w c
      (subst (λ m. ValueIs (given_in k) s (converted_to s (Number n)) now m) (sym holds) (converted-integer s n integer)) byte done)

  -- the operator's own list, and the last piece
  own_list : {acc : Account} {spare own before after : ℕ} {now : MeaningState} {u : State} {most : ℕ} (o : AssignOperator) (by : IntType)
      (a b n left_over : ℕ) → is_integer s ≡ true → HasInstrs k (integer_instrs (binary_of o) by reg) own before →
      Short most (integer_instrs (binary_of o) by reg) → HasInstrs k (between_integers by (int_in s) reg) before after →
      u.register 16 ≡ wrap by a → u.register reg.0 ≡ b → IsPromoted by → (group_of (binary_of o) ≢ Shift → IsOf by b) → b < 2 ^ 64 →
      binary_value (binary_of o) by (wrap by a) b ≡ Some n → On k first reg false st own acc 0 spare now u → most + 1 + left_over ≤ spare →
      Next k first reg result st to leaves s f u now after left_over → Goes k first reg false result st to leaves acc
      (f (converted_to s (Number n))) now u
  own_list {now = now} o by a b n left_over first_int has short has_last a_is b_is promoted second_of fits_b value on fits more =
      Goes-list_kept (1 + left_over) has short
      (λ x same near. integers-compute by reg (wrap by a) b n x (record {
        for_values = record { from = low; to = high };
        first = ap (λ g. g 16) same ∙ a_is;
        second = ap (λ g. g reg.0) same ∙ b_is;
        first_fits = IsOf-lt by (wrap by a) (wrap-is_of by a);
        second_fits = fits_b;
      }) (omega (arith, near)) (binary_of o) (evaluates o) promoted (wrap-is_of by a) second_of value)
      (Suits-other reg reg (all_but scratch) (omega (arith, high)) (λ same. omega (arith, same))) on (omega arith) (omega (arith, fits))
      (λ x d holds others own_byte done.
      last_piece by n left_over first_int (assigned-is_of o by (wrap by a) b n promoted (wrap-is_of by a) second_of value) has_last holds
      done (omega arith)
      (λ r y c is last_byte behind. more r y c is (last_byte ∙ own_byte) behind))

  -- with the first operand in the type in which the operator computes
  after_first : {acc : Account} {spare from before after : ℕ} {now : MeaningState} {u : State} (o : AssignOperator) (by : IntType)
      (a b left_over : ℕ) → is_integer s ≡ true → Lies k (on_integers (binary_of o) by reg) from before →
      HasInstrs k (between_integers by (int_in s) reg) before after → u.register 16 ≡ wrap by a → u.register reg.0 ≡ b → IsPromoted by →
      (group_of (binary_of o) ≢ Shift → IsOf by b) → b < 2 ^ 64 → On k first reg false st from acc 0 spare now u → 19 + left_over ≤ spare →
      Next k first reg result st to leaves s f u now after left_over →
      Goes k first reg false result st to leaves acc (and_then (and_then (or_divide (binary_value (binary_of o) by (wrap by a) b))
      (λ x. gives (converted_to s x))) f) now u
  after_first {from = from} {before} {now = now} {u} o by a b left_over first_int lies has_last a_is b_is promoted second_of fits_b on fits
      more =
      elim (cases_Bool (is_division (binary_of o))) [
        | inl divides ↦
            let typed : Lies k (in_turn (unless_zero reg ∷ plain instrs ∷ [])) from before =
            subst (λ code. Lies k code from before) (fun_ext (λ at. on_integers-divides (binary_of o) by reg at divides)) lies in
            let test = Lies-turn (unless_zero reg) (plain instrs ∷ []) typed in
            let rest = Lies-turn (plain instrs) [] test.back in
            let list_end : rest.middle ≡ before = Lies-none rest.back in
            Goes-unless_zero reg (15 + left_over) test.front (omega (arith, high))
            (λ none. ap (λ v. goes_on (goes_on (or_divide v now) (λ x. gives (converted_to s x))) f)
            (no_number (binary_of o) by (wrap by a) b divides (sym b_is ∙ none)))
            on (omega arith) (omega (arith, fits))
            (λ m some there.
            let known : HasNumber (binary_of o) by (wrap by a) b =
            some_number (binary_of o) by (wrap by a) b divides (λ none. some (b_is ∙ none)) in
            Goes-same {n = f (converted_to s (Number known.number))}
            (ap (λ v. goes_on (goes_on (or_divide v now) (λ x. gives (converted_to s x))) f) known.is)
            (own_list o by a b known.number left_over first_int
            (subst (λ (e : ℕ). HasInstrs k instrs test.middle e) list_end (Lies-plain instrs rest.front))
            (division_short (binary_of o) by reg divides) has_last a_is b_is promoted second_of fits_b known.is there (omega arith)
            (λ r y c is byte behind. more r y c is byte behind)))
        | inr undivided ↦
            let known : HasNumber (binary_of o) by (wrap by a) b = has_number (binary_of o) by (wrap by a) b (evaluates o) undivided in
            Goes-same {n = f (converted_to s (Number known.number))}
            (ap (λ v. goes_on (goes_on (or_divide v now) (λ x. gives (converted_to s x))) f) known.is)
            (own_list o by a b known.number left_over first_int
            (Lies-plain instrs (subst (λ code. Lies k code from before)
            (fun_ext (λ at. on_integers-plain (binary_of o) by reg at undivided)) lies))
            (integer_short (binary_of o) by reg undivided) has_last a_is b_is promoted second_of fits_b known.is on (omega (arith, fits))
            more)
      ]
    where
      instrs : List Instr
      instrs = integer_instrs (binary_of o) by reg

  pub combines_integers : {acc : Account} {spare from middle : ℕ} {now : MeaningState} {u : State} (left_over : ℕ) (o : AssignOperator) →
      is_integer s ≡ true → is_integer t ≡ true → combines_in o s t ≡ true → (v w : Value) →
      Lies k (combined_code (structs_in k) o s t reg) from middle → ValueIs (given_in k) s v now (u.register 16) →
      ValueIs (given_in k) t w now (u.register reg.0) → On k first reg false st from acc 0 spare now u → 20 + left_over ≤ spare →
      Next k first reg result st to leaves s f u now middle left_over →
      Goes k first reg false result st to leaves acc (and_then (combined k.here span o (operand s v) (operand t w)) f) now u
  combines_integers {from = from} {middle} {now} {u} left_over o first_int second_int combines v w lies v_is w_is on fits more =
      let i : IntType = int_in s in
      let a : ℕ = u.register 16 in
      let b : ℕ = u.register reg.0 in
      let by : IntType = computing_type (binary_of o) (int_in s) (int_in t) in
      let one = ValueIs-integer s v a first_int v_is in
      let two = ValueIs-integer t w b second_int w_is in
      let first_list : List Instr = between_integers i by left in
      let last_list : List Instr = between_integers by i reg in
      let typed : Lies k (in_turn (plain first_list ∷ on_integers (binary_of o) by reg ∷ plain last_list ∷ [])) from middle =
      subst (λ code. Lies k code from middle) (integer_pieces k o s t reg first_int) lies in
      let p1 = Lies-turn (plain first_list) (on_integers (binary_of o) by reg ∷ plain last_list ∷ []) typed in
      let p2 = Lies-turn (on_integers (binary_of o) by reg) (plain last_list ∷ []) p1.back in
      let p3 = Lies-turn (plain last_list) [] p2.back in
      let second_of : group_of (binary_of o) ≢ Shift → IsOf by b =
      λ other. subst (λ j. IsOf j b) (sym (computing_second (binary_of o) (int_in s) (int_in t) other)) two.of in
      Goes-same (ap (λ x. goes_on (combined k.here span o (operand s x) (operand t w) now) f) one.is
      ∙ ap (λ x. goes_on (combined k.here span o (operand s (Number a)) (operand t x) now) f) two.is)
      (Goes-list_kept (19 + left_over) (Lies-plain first_list p1.front) (between_short i by left)
      (λ y same near. between-computes left a y (omega arith) (ap (λ g. g 16) same) (IsOf-lt i a one.of) (omega (arith, near)) i by one.of)
      (Suits-other reg left all (omega arith) tt) on (omega arith) (omega (arith, fits))
      (λ y c holds others byte done.
      after_first o by a b left_over first_int p2.front (Lies-plain last_list p3.front) holds
      (others reg.0 (λ same. omega (arith, same, high)) tt) (promoted_by o s t first_int combines) second_of (IsOf-lt (int_in t) b two.of)
      done (omega arith)
      (λ r x d is last_byte behind. more r x d is (last_byte ∙ byte) (On-at (Lies-none p3.back) behind))))
