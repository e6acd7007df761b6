-- Numbers in memory and their bytes.
use Rattle.std.proofs.Common.{◌≡◌, ℕ, zero, suc, ◌+◌, ◌/◌, ◌%◌, ◌≤◌, Bool, true, List, [], ◌∷◌, ◌++◌, length, length-append, take, drop}
use Rattle.std.proofs.Common.{Result, Ok, Err, Option, None, Some, refl, sym, ◌∙◌, ap, subst, arith, w64}
use Rattle.std.specs.Int.{from_le_bytes}
use Rattle.mt_base.specs.Memory.{load, bytes_at, bytes_of, store, store_bytes}
use Rattle.mt_base.specs.Laws.Memory.{length-bytes_of, store_bytes-append}
use Rattle.tag_mem.specs.Laws.Bytes.{load_of_8}
use Rattle.a64_code.specs.Access.{access_end}
use Rattle.a64_code.specs.State.{State, with_bytes}
use Rattle.a64_code.specs.Stepped.{unless}
use Rattle.a64_code.specs.declared.end.MachineEnd.{MachineEnd}
use Rattle.mte_machine.specs.Accesses.{gives, Performs, touching}

-- what is given where nothing ends the run
pub given : {A : Type 0} (end : Option MachineEnd) (told : Unit {0}) (value wanted : A) → Ok told ≡ gives end (tt {0}) → value ≡ wanted →
    Ok value ≡ gives end wanted
given None told value wanted e same = ap Ok same
given (Some end) told value wanted e same = cc

pub refused_too : {A : Type 0} (end : Option MachineEnd) (first : MachineEnd) (wanted : A) → Err first ≡ gives end (tt {0}) →
    Err first ≡ gives end wanted
refused_too None first wanted e = cc
refused_too (Some end) first wanted e = ap Err (let same : first ≡ end = cc in same)

-- ---- 1 to 8 bytes

-- the number of so many bytes and zeros behind them
pub number_read : (n : ℕ) (byte : ℕ → ℕ) (at : ℕ) → n ≤ 8 →
    from_le_bytes w64 (bytes_at n byte at ++ drop n (0 ∷ 0 ∷ 0 ∷ 0 ∷ 0 ∷ 0 ∷ 0 ∷ 0 ∷ [])) ≡ load n byte at
unfolding load bytes_at
number_read zero byte at h = refl
number_read (suc zero) byte at h = omega arith
number_read (suc (suc zero)) byte at h = omega arith
number_read (suc (suc (suc zero))) byte at h = omega arith
number_read (suc (suc (suc (suc zero)))) byte at h = omega arith
number_read (suc (suc (suc (suc (suc zero))))) byte at h = omega arith
number_read (suc (suc (suc (suc (suc (suc zero)))))) byte at h = omega arith
number_read (suc (suc (suc (suc (suc (suc (suc zero))))))) byte at h = omega arith
number_read (suc (suc (suc (suc (suc (suc (suc (suc zero)))))))) byte at h = omega arith
number_read (suc (suc (suc (suc (suc (suc (suc (suc (suc n))))))))) byte at h = absurd (omega (arith, h))

pub take-bytes_of : (n m value : ℕ) → n ≤ m → take n (bytes_of m value) ≡ bytes_of n value
unfolding bytes_of
take-bytes_of zero m value h = refl
take-bytes_of (suc n) zero value h = absurd (omega (arith, h))
take-bytes_of (suc n) (suc m) value h = ap (λ rest. value % 256 ∷ rest) (take-bytes_of n m (value / 256) (omega (arith, h)))

-- a write of the low bytes of a number is a store
pub stored : (old new : State) (pointer unit n at value : ℕ) (checked : Bool) (bytes : List ℕ) (result : Result (Unit {0}) MachineEnd) →
    bytes ≡ bytes_of n value
    → Performs
    (unless (access_end old (touching pointer unit (length bytes) true checked)) (with_bytes (store_bytes old.byte at bytes) old)) old
    result new
    → Performs (unless (access_end old (touching pointer unit n true checked)) (with_bytes (store n old.byte at value) old)) old result new
stored old new pointer unit n at value checked bytes result is wrote =
    subst (λ k. Performs (unless (access_end old (touching pointer unit k true checked)) (with_bytes (store n old.byte at value) old)) old
    result new)
    (length-bytes_of n value)
    (subst
    (λ xs. Performs
    (unless (access_end old (touching pointer unit (length xs) true checked)) (with_bytes (store_bytes old.byte at xs) old)) old
    result new) is wrote)

-- ---- pairs

pub front_of_pair : (byte : ℕ → ℕ) (at : ℕ) (bytes front : List ℕ) → bytes ≡ bytes_at 16 byte at → front ≡ take 8 bytes →
    from_le_bytes w64 front ≡ load 8 byte at
unfolding bytes_at
front_of_pair byte at bytes front is taken = ap (from_le_bytes w64) (taken ∙ ap (take 8) is) ∙ load_of_8 byte at

pub back_of_pair : (byte : ℕ → ℕ) (at : ℕ) (bytes back : List ℕ) → bytes ≡ bytes_at 16 byte at → back ≡ take 8 (drop 8 bytes) →
    from_le_bytes w64 back ≡ load 8 byte (at + 8)
unfolding bytes_at
back_of_pair byte at bytes back is taken =
    let moved : at + 1 + 1 + 1 + 1 + 1 + 1 + 1 + 1 ≡ at + 8 = omega arith in
    ap (from_le_bytes w64) (taken ∙ ap (λ xs. take 8 (drop 8 xs)) is ∙ ap (bytes_at 8 byte) moved) ∙ load_of_8 byte (at + 8)

-- a write of the bytes of two numbers is two stores
pub stored_pair : (old new : State) (pointer at first second : ℕ) (checked : Bool) (bytes : List ℕ)
    (result : Result (Unit {0}) MachineEnd) → bytes ≡ bytes_of 8 first ++ bytes_of 8 second
    → Performs (unless (access_end old (touching pointer 8 (length bytes) true checked)) (with_bytes (store_bytes old.byte at bytes) old))
    old result new
    → Performs
    (unless (access_end old (touching pointer 8 16 true checked))
    (with_bytes (store 8 (store 8 old.byte at first) (at + 8) second) old)) old result new
stored_pair old new pointer at first second checked bytes result is wrote =
    let two : store_bytes old.byte at bytes ≡ store 8 (store 8 old.byte at first) (at + 8) second =
    ap (store_bytes old.byte at) is
    ∙ sym (store_bytes-append old.byte at (bytes_of 8 first) (bytes_of 8 second))
    ∙ ap (λ k. store_bytes (store 8 old.byte at first) (at + k) (bytes_of 8 second)) (length-bytes_of 8 first) in
    let long : length bytes ≡ 16 = ap length is ∙ length-append (bytes_of 8 first) (bytes_of 8 second)
    ∙ omega (arith, length-bytes_of 8 first, length-bytes_of 8 second) in
    subst (λ byte. Performs (unless (access_end old (touching pointer 8 16 true checked)) (with_bytes byte old)) old result new) two
    (subst
    (λ k. Performs (unless (access_end old (touching pointer 8 k true checked)) (with_bytes (store_bytes old.byte at bytes) old)) old
    result new) long wrote)
