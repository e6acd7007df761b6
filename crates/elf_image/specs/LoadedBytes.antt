-- The bytes of each part of an image that is loaded: those of its file from the part's place on, as far as the part has any.
use Rattle.std.specs.Prelude.{ℕ, List, [], ◌++◌}
use Rattle.std.specs.List.{flat_map}
use Rattle.elf_base.specs.Layout.{word_bytes}
use Rattle.elf_base.specs.Laying.{put_all}
use Rattle.elf_image.specs.Image.{Image}
use Rattle.elf_image.specs.Pieces.{header_pieces, table_pieces, entries_bytes, dynamic_entries}

-- the part that is only read begins the file: the headers, the tables, the descriptors and the read-only data
abbrev pub read_only_bytes : Image → List ℕ
read_only_bytes p = put_all (header_pieces p ++ table_pieces p) []

-- the code
abbrev pub code_bytes : Image → List ℕ
code_bytes p = flat_map word_bytes p.words

-- the writable part: the dynamic entries, which are whole granules, and the filled bytes
abbrev pub writable_bytes : Image → List ℕ
writable_bytes p = entries_bytes (dynamic_entries p) ++ p.filled
