-- The numbers of a state are in range, and stay so (this project's own).
use Rattle.std.specs.Prelude.{◌≡◌, ℕ, zero, suc, ◌+◌, ◌-◌, ◌/◌, ◌%◌, ◌^◌, ◌<◌, ◌==◌, nat_lt, Bool, true, false, if◌then◌else◌, List, []}
use Rattle.std.specs.Prelude.{◌∷◌, length, map, slice_index, All, Option, Some, refl}
use Rattle.std.proofs.Common.{arith, get_or, mod-lt}
use Rattle.mt_base.specs.Granules.{granule_of}
use Rattle.mt_base.specs.Memory.{is_between, store, store_bytes, bytes_of, store_tag}
use Rattle.a64_alu.specs.declared.flags.Flags.{Flags}
use Rattle.a64_code.specs.declared.instr.Reg.{Reg}
use Rattle.a64_code.specs.Outside.{Outside, number_of, next_number, left_after, after_next, after_put}
use Rattle.a64_code.specs.State.{State, with_value, operand, with_operand, with_flags, with_bytes, with_tags, tagged, with_choice_drawn}
use Rattle.a64_code.specs.State.{with_outside, of_width, at_pc, advanced}

-- what the source answers are numbers of 64 bits
abbrev pub AnswersFit : List (Option ℕ) → Type 0
AnswersFit [] = Unit {0}
AnswersFit (answer ∷ answers) = (number_of answer < 2 ^ 64) × AnswersFit answers

-- as bytes are, of which each is one
pub AnswersFit-bytes : (bytes : List ℕ) → All (λ byte. byte < 2 ^ 8) bytes → AnswersFit (map Some bytes)
AnswersFit-bytes [] below = tt
AnswersFit-bytes (byte ∷ bytes) below = (
  let first : byte < 2 ^ 8 = below 0 0 (omega arith) in
      omega (arith, first),
  AnswersFit-bytes bytes (λ k d h. below (suc k) d (omega (arith, h))),
)

-- the choices of a list of tags
pub choices-lt : (choices : List ℕ) → All (λ choice. choice < 16) choices → (n : ℕ) → slice_index choices n < 16
choices-lt [] below n = omega arith
choices-lt (choice ∷ choices) below zero = below 0 0 (omega arith)
choices-lt (choice ∷ choices) below (suc n) = choices-lt choices (λ k d h. below (suc k) d (omega (arith, h))) n

-- Registers hold numbers of 64 bits, memory bytes and tags, and the choices are tags, of which one comes next.
pub record IsInRange (s : State) : Type 0 where
  pub registers : (n : ℕ) → s.register n < 2 ^ 64
  pub sp : s.sp < 2 ^ 64
  pub pc : s.pc < 2 ^ 64
  pub bytes : (at : ℕ) → s.byte at < 256
  pub tags : (granule : ℕ) → s.tag granule < 16
  pub drawn : s.drawn < length s.choices
  pub choices : (n : ℕ) → slice_index s.choices n < 16
  pub answers : AnswersFit s.outside.answers

in_range : {s : State} → ((n : ℕ) → s.register n < 2 ^ 64) → s.sp < 2 ^ 64 → s.pc < 2 ^ 64 → ((at : ℕ) → s.byte at < 256) →
    ((granule : ℕ) → s.tag granule < 16) → s.drawn < length s.choices → ((n : ℕ) → slice_index s.choices n < 16) →
    AnswersFit s.outside.answers → IsInRange s
in_range registers sp pc bytes tags drawn choices answers = record {
  registers = registers;
  sp = sp;
  pc = pc;
  bytes = bytes;
  tags = tags;
  drawn = drawn;
  choices = choices;
  answers = answers;
}

pub operand-lt : (takes : Bool) (s : State) (r : Reg) → IsInRange s → operand takes s r < 2 ^ 64
operand-lt takes s r range = by_number takes (nat_lt r.0 31) refl
  where
    by_number : (takes small : Bool) → nat_lt r.0 31 ≡ small → operand takes s r < 2 ^ 64
    by_number true true is = rw is (range.registers r.0)
    by_number true false is = rw is range.sp
    by_number false true is = rw is (range.registers r.0)
    by_number false false is = rw is (omega arith)

pub of_width-lt : (wide : Bool) (value : ℕ) → value < 2 ^ 64 → of_width wide value < 2 ^ 64
of_width-lt true value small = small
of_width-lt false value small = omega arith

with_value-lt : (f : ℕ → ℕ) (place value : ℕ) → ((n : ℕ) → f n < 2 ^ 64) → value < 2 ^ 64 → (n : ℕ) → with_value f place value n < 2 ^ 64
with_value-lt f place value all small n = by_place (n == place)
  where
    by_place : (same : Bool) → (if same then value else f n) < 2 ^ 64
    by_place true = small
    by_place false = all n

pub range_operand : (takes : Bool) (q : Reg) (value : ℕ) (s : State) → value < 2 ^ 64 → IsInRange s →
    IsInRange (with_operand takes q value s)
range_operand takes q value s small range = by_number takes (nat_lt q.0 31) refl
  where
    in_register : IsInRange (record s { register = with_value s.register q.0 value })
    in_register =
        in_range (with_value-lt s.register q.0 value range.registers small) range.sp range.pc range.bytes range.tags range.drawn
        range.choices range.answers

    in_sp : IsInRange (record s { sp = value })
    in_sp =
        in_range range.registers small range.pc range.bytes range.tags range.drawn range.choices range.answers

    by_number : (takes small : Bool) → nat_lt q.0 31 ≡ small → IsInRange (with_operand takes q value s)
    by_number true true is = rw is in_register
    by_number true false is = rw is in_sp
    by_number false true is = rw is in_register
    by_number false false is = rw is range

-- ---- other parts

pub range_at_pc : (address : ℕ) (s : State) → address < 2 ^ 64 → IsInRange s → IsInRange (at_pc address s)
range_at_pc address s small range =
    in_range range.registers range.sp small range.bytes range.tags range.drawn range.choices range.answers

pub range_advanced : (s : State) → IsInRange s → IsInRange (advanced s)
range_advanced s range = range_at_pc ((s.pc + 4) % 2 ^ 64) s (omega arith) range

pub range_flags : (flags : Flags) (s : State) → IsInRange s → IsInRange (with_flags flags s)
range_flags flags s range =
    in_range range.registers range.sp range.pc range.bytes range.tags range.drawn range.choices range.answers

pub range_bytes : (byte : ℕ → ℕ) (s : State) → ((at : ℕ) → byte at < 256) → IsInRange s → IsInRange (with_bytes byte s)
range_bytes byte s small range =
    in_range range.registers range.sp range.pc small range.tags range.drawn range.choices range.answers

pub range_tags : (tag : ℕ → ℕ) (s : State) → ((granule : ℕ) → tag granule < 16) → IsInRange s → IsInRange (with_tags tag s)
range_tags tag s small range =
    in_range range.registers range.sp range.pc range.bytes small range.drawn range.choices range.answers

pub range_drawn : (s : State) → IsInRange s → IsInRange (with_choice_drawn s)
range_drawn s range =
    in_range range.registers range.sp range.pc range.bytes range.tags (mod-lt (s.drawn + 1) (omega (arith, range.drawn))) range.choices
    range.answers

range_outside : (outside : Outside) (s : State) → AnswersFit outside.answers → IsInRange s → IsInRange (with_outside outside s)
range_outside outside s fit range =
    in_range range.registers range.sp range.pc range.bytes range.tags range.drawn range.choices fit

next_number-lt : (answers : List (Option ℕ)) → AnswersFit answers → next_number answers < 2 ^ 64
next_number-lt [] fit = omega arith
next_number-lt (answer ∷ answers) fit = fit.0

left_after-fit : (answers : List (Option ℕ)) → AnswersFit answers → AnswersFit (left_after answers)
left_after-fit [] fit = tt
left_after-fit (answer ∷ answers) fit = fit.1

-- what a service takes and puts
pub range_next : (s : State) → IsInRange s → IsInRange (with_outside (after_next s.outside) s)
range_next s range = range_outside (after_next s.outside) s (left_after-fit s.outside.answers range.answers) range

pub range_put : (byte : ℕ) (s : State) → IsInRange s → IsInRange (with_outside (after_put byte s.outside) s)
range_put byte s range = range_outside (after_put byte s.outside) s range.answers range

pub range_number : (s : State) → IsInRange s → next_number s.outside.answers < 2 ^ 64
range_number s range = next_number-lt s.outside.answers range.answers

-- ---- bytes and tags that are stored

bytes_of-lt : (n value k : ℕ) → get_or (bytes_of n value) k 0 < 256
unfolding bytes_of
bytes_of-lt zero value k = omega arith
bytes_of-lt (suc n) value zero = omega arith
bytes_of-lt (suc n) value (suc k) = bytes_of-lt n (value / 256) k

pub store-lt : (n : ℕ) (byte : ℕ → ℕ) (at value : ℕ) → ((a : ℕ) → byte a < 256) → (a : ℕ) → store n byte at value a < 256
unfolding store_bytes
store-lt n byte at value small a = by_place (is_between at (length (bytes_of n value)) a)
  where
    by_place : (inside : Bool) → (if inside then slice_index (bytes_of n value) (a - at) else byte a) < 256
    by_place true = bytes_of-lt n value (a - at)
    by_place false = small a

store_tag-lt : (tag : ℕ → ℕ) (at value : ℕ) → ((granule : ℕ) → tag granule < 16) → value < 16 → (granule : ℕ) →
    store_tag tag at value granule < 16
unfolding store_tag
store_tag-lt tag at value small fits granule = by_place (granule == granule_of at)
  where
    by_place : (same : Bool) → (if same then value else tag granule) < 16
    by_place true = fits
    by_place false = small granule

pub tagged-lt : (n : ℕ) (tag : ℕ → ℕ) (at value : ℕ) → ((granule : ℕ) → tag granule < 16) → value < 16 → (granule : ℕ) →
    tagged n tag at value granule < 16
tagged-lt zero tag at value small fits granule = small granule
tagged-lt (suc n) tag at value small fits granule =
    tagged-lt n (store_tag tag at value) (at + 16) value (store_tag-lt tag at value small fits) fits granule
