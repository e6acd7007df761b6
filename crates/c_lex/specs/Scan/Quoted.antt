-- Characters and strings (C11 6.4.4.4 and 6.4.5, without wide and prefixed ones).
use Rattle.std.specs.Prelude.{ℕ, zero, suc, ◌+◌, ◌-◌, ◌&&◌, if◌then◌else◌, ◌==◌, List, [], ◌∷◌, ◌++◌, length, drop, slice_index, Option}
use Rattle.std.specs.Prelude.{Some, None}
use Rattle.c_lex.specs.declared.fault.Fault.{Fault}
use Rattle.c_lex.specs.declared.escape.Item.{Item}
use Rattle.c_lex.specs.declared.escape.Item.TheVariants.{Byte, Close, Wrong, Cut}
use Rattle.c_lex.specs.Scan.Escape.{item_at}

-- how many bytes write the item, where it is a byte
abbrev pub item_bytes : Item → ℕ
item_bytes (Byte value bytes) = bytes
item_bytes _ = 0

-- What a string is from behind its opening quote on: its bytes and the place behind the closing quote, or the fault at
-- a place before it, or cut off by a newline or the end.
pub data Body : Type 0 where
  closed : List ℕ → ℕ → Body
  wrong : Fault → ℕ → Body
  cut : Body

-- the body that goes on behind some bytes of the string
abbrev pub behind : List ℕ → ℕ → Body → Body
behind values bytes (closed more place) = closed (values ++ more) (bytes + place)
behind values bytes (wrong fault place) = wrong fault (bytes + place)
behind values bytes cut = cut

-- the body that begins with an item
abbrev pub body_with : Item → Body → Body
body_with (Byte value bytes) rest = behind (value ∷ []) bytes rest
body_with Close rest = closed [] 1
body_with (Wrong fault) rest = wrong fault 0
body_with Cut rest = cut

-- items in turn up to the closing quote, the first number of bytes being left of an item
abbrev pub body_from : ℕ → List ℕ → Body
body_from left [] = cut
body_from (suc left) (b ∷ rest) = body_from left rest
body_from zero (b ∷ rest) = body_with (item_at 34 (b ∷ rest)) (body_from (item_bytes (item_at 34 (b ∷ rest)) - 1) rest)

-- items in turn up to the closing quote
unfoldable pub body : List ℕ → Body
body = body_from 0

-- the bytes of a body whose closing quote is the last of so many bytes
abbrev pub closed_text : Body → ℕ → Option (List ℕ)
closed_text (closed values place) bytes = if place == bytes then Some values else None
closed_text _ bytes = None

-- the bytes of the string that a slice spells: a quote, items, and a quote at its end
abbrev pub text_of : List ℕ → Option (List ℕ)
text_of bytes = if slice_index bytes 0 == 34 then closed_text (body (drop 1 bytes)) (length bytes - 1) else None

-- the value of an item whose closing quote is the last of so many bytes
abbrev pub closed_character : Item → ℕ → List ℕ → Option ℕ
closed_character (Byte value n) bytes rest = if slice_index rest n == 39 && bytes == n + 1 then Some value else None
closed_character _ bytes rest = None

-- the value of the character that a slice spells: a quote, one item, and a quote at its end
abbrev pub character_of : List ℕ → Option ℕ
character_of bytes = if slice_index bytes 0 == 39 then closed_character (item_at 39 (drop 1 bytes)) (length bytes - 1) (drop 1 bytes)
    else None
