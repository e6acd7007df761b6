-- Operators on one integer of a promoted type (ISO C11 6.5.3.3): what their lists compute is what the meaning computes.
use Rattle.std.specs.Prelude.{◌≡◌, ℕ, ◌+◌, ◌-◌, ◌%◌, ◌^◌, ◌<◌, [], ◌∷◌, Some, refl}
use Rattle.std.proofs.Common.{arith, ◌∙◌}
use Rattle.std.proofs.lemmas.Bool.{lt-ltb}
use Rattle.mt_base.specs.Wrapping.{wrapping_sub}
use Rattle.c_ast.specs.declared.int_type.IntType.{IntType}
use Rattle.c_ast.specs.declared.operator.UnaryOperator.{UnaryOperator}
use Rattle.c_ast.specs.declared.operator.UnaryOperator.TheVariants as unary
use Rattle.c_type_base.specs.Arithmetic.{negated, unary_value}
use Rattle.c_type_base.specs.Conversions.{bits_of, wrap}
use Rattle.a64_alu.specs.Width.{width, of_width}
use Rattle.a64_code.specs.declared.instr.Instr.TheVariants.{SubReg, SubImm, Nop}
use Rattle.a64_code.specs.declared.instr.Reg.{Reg}
use Rattle.a64_code.specs.State.{State}
use Rattle.a64_code.specs.Stepped.{Leads}
use Rattle.a64_code.specs.Effect.{effect}
use Rattle.a64_laws.specs.Forms.{next, zero_register, puts_register}
use Rattle.a64_laws.specs.Laws.Extending.{passed_over}
use Rattle.a64_laws.specs.Laws.Runs.{Runs-one}
use Rattle.gen_base.specs.Integers.{is_wide, on_integer}
use Rattle.gen_laws.specs.Computes.{Computes, IsPromoted, all}
use Rattle.gen_laws.specs.Laws.Arithmetic.{signed-computes}
use Rattle.gen_laws.specs.Laws.Comparisons.{is_zero-computes}
use Rattle.gen_laws.specs.Laws.Computing.{Computes-put, Computes-is, Computes-again}
use Rattle.gen_laws.specs.Laws.Numbers.{some_same, each_promoted, wrap-same}

-- ---- instructions

-- zero less a number
abbrev negated_as : IntType → ℕ → ℕ
negated_as t n = of_width (is_wide t) (wrapping_sub (width (is_wide t)) (of_width (is_wide t) 0) (of_width (is_wide t) n))

negated_put : (t : IntType) (r : Reg) (n : ℕ) (s : State) → r.0 < 31 → s.register r.0 ≡ n →
    effect (SubReg (is_wide t) r zero_register r) s ≡ Leads (puts_register r (negated_as t n) s)
unfolding puts_register
negated_put t r n s small is = rw (lt-ltb r.0 31 small, is) refl

-- a number less 1
abbrev less_one_as : IntType → ℕ → ℕ
less_one_as t n = of_width (is_wide t) (wrapping_sub (width (is_wide t)) (of_width (is_wide t) n) 1)

less_one_put : (t : IntType) (r : Reg) (n : ℕ) (s : State) → r.0 < 31 → s.register r.0 ≡ n →
    effect (SubImm (is_wide t) 0 1 r r) s ≡ Leads (puts_register r (less_one_as t n) s)
unfolding puts_register
less_one_put t r n s small is = rw (lt-ltb r.0 31 small, is) refl

-- nothing, for a value that is there
pub nop-computes : (r : Reg) (n : ℕ) (s : State) → s.register r.0 ≡ n → s.pc + 4 < 2 ^ 64 → Computes (Nop ∷ []) r n all s
unfolding next
nop-computes r n s is room = record {
  to = next s;
  runs = Runs-one (passed_over s) refl room;
  holds = is;
  registers = λ q other spared. refl;
  same = record {
    sp = refl;
    byte = refl;
    tag = refl;
    regions = refl;
    guard = refl;
    choices = refl;
    drawn = refl;
    outside = refl;
  };
}

-- ---- the numbers

minus_is : (t : IntType) (a : ℕ) → IsPromoted t → a < 2 ^ 64 → wrap t (negated_as t a) ≡ wrap t (negated a)
minus_is t a promoted fits =
    wrap-same t (negated_as t a) (negated a)
    (each_promoted (λ t. negated_as t a % 2 ^ bits_of t ≡ negated a % 2 ^ bits_of t)
    (omega (arith, fits)) (omega (arith, fits)) (omega (arith, fits)) (omega (arith, fits)) t promoted)

minus-lt : (t : IntType) (a : ℕ) → IsPromoted t → negated_as t a < 2 ^ bits_of t
minus-lt t a promoted =
    each_promoted (λ t. negated_as t a < 2 ^ bits_of t) (omega arith) (omega arith) (omega arith) (omega arith) t promoted

complement_is : (t : IntType) (a : ℕ) → IsPromoted t → a < 2 ^ 64 → wrap t (less_one_as t (negated_as t a)) ≡ wrap t (2 ^ 64 - 1 - a)
complement_is t a promoted fits =
    wrap-same t (less_one_as t (negated_as t a)) (2 ^ 64 - 1 - a)
    (each_promoted (λ t. less_one_as t (negated_as t a) % 2 ^ bits_of t ≡ (2 ^ 64 - 1 - a) % 2 ^ bits_of t)
    (omega (arith, fits)) (omega (arith, fits)) (omega (arith, fits)) (omega (arith, fits)) t promoted)

less_one-lt : (t : IntType) (n : ℕ) → IsPromoted t → less_one_as t n < 2 ^ bits_of t
less_one-lt t n promoted =
    each_promoted (λ t. less_one_as t n < 2 ^ bits_of t) (omega arith) (omega arith) (omega arith) (omega arith) t promoted

-- ---- the operators

-- Of `+ - ~ !`; the others have no value. Only `!` is of a type that need not be promoted.
pub integer-computes : (o : UnaryOperator) (t : IntType) (r : Reg) (a n : ℕ) (s : State) → IsPromoted t → r.0 < 31 → s.register r.0 ≡ a →
    a < 2 ^ 64 → unary_value o t a ≡ Some n → s.pc + 12 < 2 ^ 64 → Computes (on_integer o t r) r n all s
integer-computes unary.Minus t r a n s promoted small is fits value room =
    Computes-is (minus_is t a promoted fits ∙ some_same value)
    (signed-computes _ t r (negated_as t a) s promoted small (minus-lt t a promoted) (negated_put t r a s small is) (omega (arith, room)))
integer-computes unary.Complement t r a n s promoted small is fits value room =
    Computes-is (complement_is t a promoted fits ∙ some_same value)
    (Computes-again (Computes-put _ r (negated_as t a) s (negated_put t r a s small is) (omega (arith, room)))
    (λ c. signed-computes _ t r (less_one_as t (negated_as t a)) c.to promoted small (less_one-lt t (negated_as t a) promoted)
    (less_one_put t r (negated_as t a) c.to small c.holds) (omega (arith, c.runs.pc, room))))
integer-computes unary.Not t r a n s promoted small is fits value room =
    Computes-is (some_same value) (is_zero-computes r a s small is fits (omega (arith, room)))
integer-computes unary.Plus t r a n s promoted small is fits value room =
    Computes-is (some_same value) (nop-computes r a s is (omega (arith, room)))
integer-computes _ t r a n s promoted small is fits value room = absurd (cc)
