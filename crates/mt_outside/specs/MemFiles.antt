-- What files in memory show: their content, their numbered calls and their counts of faults.
use Rattle.std.specs.Prelude.{ℕ, List, Option, Some, None, [], ◌∷◌, if◌then◌else◌, bytes_eq, position, string_bytes}
use Rattle.mt_outside.specs.Files.{Contents}
use Rattle.mt_outside.specs.declared.mem_files.MemFile.{MemFile}
use Rattle.mt_outside.specs.declared.mem_files.MemFiles.{MemFiles}

-- the bytes of the first file of a name, where there is one
abbrev pub first_bytes : List MemFile → Contents
first_bytes [] name = None
first_bytes (file ∷ files) name = if bytes_eq (string_bytes file.name) name then Some file.bytes.items else first_bytes files name

-- the place of that file
abbrev pub first_place : List MemFile → List ℕ → Option ℕ
first_place files name = position (λ file. bytes_eq (string_bytes file.name) name) files

-- the map from names to bytes
abbrev pub files_content : MemFiles → Contents
files_content files = first_bytes files.files.items

-- the number of the next call
abbrev pub files_calls : MemFiles → ℕ
files_calls files = files.calls.made

-- the numbers of the calls that fail
abbrev pub files_failing : MemFiles → List ℕ
files_failing files = files.calls.failing.items

-- how many reads have failed
abbrev pub files_read_faults : MemFiles → ℕ
files_read_faults files = files.read_faults

-- how many writes have failed
abbrev pub files_write_faults : MemFiles → ℕ
files_write_faults files = files.write_faults
