-- The one directive line, `#include <stdio.h>` (C11 6.10.2, where a directive is a line of its own: 6.10 paragraph 2).
use Rattle.std.specs.Prelude.{ℕ, ◌-◌, Bool, ◌&&◌, ◌||◌, if◌then◌else◌, ◌==◌, List, length, drop, slice_index, codes, nat_eq, Option, Some}
use Rattle.std.specs.Prelude.{None}
use Rattle.std.specs.List.{prefix_len, starts_with}
use Rattle.std.specs.Str.{bytes_eq}
use Rattle.c_lex.specs.Bytes.{is_blank}

-- what is left behind the spaces and tabs at the front
abbrev pub after_blanks : List ℕ → List ℕ
after_blanks rest = drop (prefix_len is_blank rest) rest

-- from the word on, behind `#`
abbrev pub from_word : List ℕ → List ℕ
from_word rest = after_blanks (drop 1 rest)

-- from the header's name on, behind the word
abbrev pub from_header : List ℕ → List ℕ
from_header rest = after_blanks (drop 7 (from_word rest))

-- a `#` and the word `include` stand at the front
abbrev pub begins_include : List ℕ → Bool
begins_include rest = slice_index rest 0 == 35 && starts_with nat_eq (from_word rest) (codes "include")

-- the slice is `#`, `include` and `<stdio.h>`, with spaces and tabs between
abbrev pub is_include : List ℕ → Bool
is_include bytes = begins_include bytes && bytes_eq (from_header bytes) (codes "<stdio.h>")

-- a newline or the end, behind spaces and tabs and an optional carriage return
abbrev pub ends_line : List ℕ → Bool
ends_line rest =
    let left = after_blanks rest in
    let end = if slice_index left 0 == 13 then drop 1 left else left in
    length end == 0 || slice_index end 0 == 10

-- the rest of the line from the `#` on is the directive
abbrev pub is_include_line : List ℕ → Bool
is_include_line rest = begins_include rest && starts_with nat_eq (from_header rest) (codes "<stdio.h>")
    && ends_line (drop 9 (from_header rest))

-- the bytes from the `#` to the `>`, where the rest of the line from the `#` on is the directive
abbrev pub include_line : List ℕ → Option ℕ
include_line rest = if is_include_line rest then Some (length rest - length (drop 9 (from_header rest))) else None
