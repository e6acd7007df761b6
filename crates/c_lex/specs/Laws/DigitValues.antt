-- What the scanner computes of digits is the number that they write.
use Rattle.std.proofs.Common.{◌≡◌, ℕ, ◌+◌, ◌*◌, ◌^◌, List, [], ◌∷◌, length, fold, ◌∙◌, ap, arith, mul_assoc}
use Rattle.std.proofs.Math.Nat.{pow-zero, pow-succ', add-mul}
use Rattle.std.specs.Char.{digit_value}
use Rattle.c_lex.specs.Digits.{number_of}
use Rattle.c_lex.specs.Scan.Digits.{value_of}

-- further digits shift the value so far by as many places
fold-is : (radix value : ℕ) (digits : List ℕ) →
    fold (λ v b. v * radix + digit_value b) value digits ≡ value * radix ^ length digits + number_of radix digits
fold-is radix value [] = omega (arith, ap (λ p. value * p) (pow-zero radix))
fold-is radix value (b ∷ rest) =
    let one : radix ^ length (b ∷ rest) ≡ radix * radix ^ length rest = power radix rest in
    let parts : (value * radix + digit_value b) * radix ^ length rest
    ≡ value * radix * radix ^ length rest + digit_value b * radix ^ length rest =
    add-mul (value * radix) (digit_value b) (radix ^ length rest) in
    let moved : value * radix * radix ^ length rest
    ≡ value * (radix * radix ^ length rest) = mul_assoc value radix (radix ^ length rest) in
    let all : value * radix ^ length (b ∷ rest) ≡ value * (radix * radix ^ length rest) = ap (λ p. value * p) one in
    fold-is radix (value * radix + digit_value b) rest ∙ omega (arith, parts, moved, all)
  where
    power : (radix : ℕ) (rest : List ℕ) → radix ^ length (b ∷ rest) ≡ radix * radix ^ length rest
    power radix rest = pow-succ' radix (length rest)

pub value_of-number_of : (radix : ℕ) (digits : List ℕ) → value_of radix digits ≡ number_of radix digits
value_of-number_of radix digits = fold-is radix 0 digits ∙ omega arith
