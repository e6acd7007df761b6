-- What stands between tokens: white space and comments (C11 6.4 paragraph 3 and 6.4.9).
use Rattle.std.specs.Prelude.{ℕ, ◌+◌, suc, Bool, ◌&&◌, if◌then◌else◌, ◌==◌, List, [], ◌∷◌, drop, slice_index, Option, Some, None}
use Rattle.std.specs.List.{prefix_len}
use Rattle.std.specs.Option.{option_map}
use Rattle.c_lex.specs.Bytes.{is_white, is_in_line}

-- `//` stands at the front
abbrev pub begins_line_comment : List ℕ → Bool
begins_line_comment rest = slice_index rest 0 == 47 && slice_index rest 1 == 47

-- `/*` stands at the front
abbrev pub begins_block_comment : List ℕ → Bool
begins_block_comment rest = slice_index rest 0 == 47 && slice_index rest 1 == 42

-- the bytes up to and with the first `*/`, if there is one
abbrev pub comment_end : List ℕ → Option ℕ
comment_end [] = None
comment_end (b ∷ rest) = if b == 42 && slice_index rest 0 == 47 then Some 2 else option_map suc (comment_end rest)

-- the bytes of a comment from its `/*` to its `*/`, if it has an end
abbrev pub block_comment : List ℕ → Option ℕ
block_comment rest = option_map (λ n. 2 + n) (comment_end (drop 2 rest))

-- the bytes of the gap that begins at the front, if one does: a byte of white space, a comment `//` to the end of
-- its line, or a comment `/*` to its `*/`
abbrev pub gap_bytes : List ℕ → Option ℕ
gap_bytes [] = None
gap_bytes (b ∷ rest) =
    if is_white b then Some 1
    else (if begins_line_comment (b ∷ rest) then Some (prefix_len is_in_line (b ∷ rest))
    else (if begins_block_comment (b ∷ rest) then block_comment (b ∷ rest) else None))
