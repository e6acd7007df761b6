-- How the scanner takes the number at the front apart: prefix, digits and suffix. What integer constants are is stated in Constant.
use Rattle.std.specs.Prelude.{ℕ, ◌+◌, Bool, ◌||◌, ◌&&◌, if◌then◌else◌, ◌==◌, nat_lt, List, length, take, drop, slice_index, Option}
use Rattle.std.specs.List.{prefix_len, list_any}
use Rattle.c_ast.specs.declared.int_type.IntType.{IntType}
use Rattle.c_lex.specs.Bytes.{is_numeral_byte}
use Rattle.c_lex.specs.Digits.{is_digit_of, number_of}
use Rattle.c_lex.specs.ConstantTypes.{listed_types, first_type}
use Rattle.c_lex.specs.Constant.{is_unsigned_mark, is_long_mark}

-- the letters, digits, `_` and `.` over which the number at the front goes on
abbrev pub numeral_at : List ℕ → List ℕ
numeral_at rest = take (prefix_len is_numeral_byte rest) rest

-- 16 after `0x` or `0X`, 8 after another `0`, else 10
abbrev pub radix_of : List ℕ → ℕ
radix_of bytes = if slice_index bytes 0 == 48 then (if slice_index bytes 1 == 120 || slice_index bytes 1 == 88 then 16 else 8) else 10

-- the bytes before the digits: `0x` or `0X`, or none, since the `0` of an octal number is one of its digits
abbrev pub prefix_bytes : ℕ → ℕ
prefix_bytes radix = if radix == 16 then 2 else 0

-- the bytes of the suffix at the front: one `u` or `U`, one `l` or `L`, or both in either order, or none
abbrev pub suffix_bytes : List ℕ → ℕ
suffix_bytes bytes =
    if is_unsigned_mark (slice_index bytes 0) then (if is_long_mark (slice_index bytes 1) then 2 else 1)
    else (if is_long_mark (slice_index bytes 0) then (if is_unsigned_mark (slice_index bytes 1) then 2 else 1) else 0)

-- how many digits stand behind the prefix
abbrev pub digit_count : List ℕ → ℕ
digit_count bytes = prefix_len (is_digit_of (radix_of bytes)) (drop (prefix_bytes (radix_of bytes)) bytes)

-- the place behind the digits
abbrev pub digits_end : List ℕ → ℕ
digits_end bytes = prefix_bytes (radix_of bytes) + digit_count bytes

-- how many bytes fit a number: the prefix, the digits and, where there is a digit, the suffix
abbrev pub fitting_bytes : List ℕ → ℕ
fitting_bytes bytes = digits_end bytes + (if digit_count bytes == 0 then 0 else suffix_bytes (drop (digits_end bytes) bytes))

-- the bytes are a prefix, at least one digit and a suffix, and nothing else
abbrev pub is_numeral : List ℕ → Bool
is_numeral bytes = nat_lt 0 (digit_count bytes) && (fitting_bytes bytes == length bytes)

-- the number that the digits write
abbrev pub numeral_value : List ℕ → ℕ
numeral_value bytes = number_of (radix_of bytes) (take (digit_count bytes) (drop (prefix_bytes (radix_of bytes)) bytes))

-- the type of a numeral, if one of its list holds its value
abbrev pub numeral_type : List ℕ → Option IntType
numeral_type bytes =
    let suffix = drop (digits_end bytes) bytes in
    first_type (numeral_value bytes) (listed_types (radix_of bytes == 10) (list_any is_unsigned_mark suffix)
    (list_any is_long_mark suffix))
