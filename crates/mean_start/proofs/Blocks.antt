-- The blocks before the call of `main`, one further.
use Rattle.std.proofs.Common.{◌≡◌, refl, sym, ap, subst, ◌∙◌, ℕ, suc, ◌+◌, ◌<◌, ◌≤◌, List}
use Rattle.std.proofs.Common.{[], ◌∷◌, ◌++◌, append_assoc, length, map, take}
use Rattle.std.proofs.Common.{get_or, arith, Option, Some, None, add-zero, zero-add}
use Rattle.std.specs.Prelude.{slice_get}
use Rattle.std.proofs.lemmas.List.{take_more, length-take-le, take_all, append-nil}
use Rattle.std.proofs.lemmas.Option.{none-some, slice_get_past, slice_get_within, get_or_from_slice_get}
use Rattle.c_type_base.specs.declared.typed.GlobalInfo.{GlobalInfo}
use Rattle.c_type_base.specs.declared.typed.StructInfo.{StructInfo}
use Rattle.c_type_base.specs.declared.typed.TFunction.{TFunction}
use Rattle.c_type_base.specs.declared.typed.Typed.{Typed}
use Rattle.block_meaning.specs.declared.cell.Cell.{Cell}
use Rattle.block_meaning.specs.declared.cell.Cell.TheVariants.{Byte}
use Rattle.block_meaning.specs.declared.kind.Kind.TheVariants.{NullBlock, Global, Text, Code}
use Rattle.block_meaning.specs.Blocks.{Block, block_of, null_block}
use Rattle.block_meaning.specs.Opening.{objects_from, texts_from, codes_from, opening_from, with_pieces, zero_cells}
use Rattle.block_meaning.specs.Running.{Program}
use Rattle.mean_memory.specs.declared.memory.Memory.{Memory}
use Rattle.mean_memory.specs.Standing.{IsMemory}
use Rattle.mean_start.specs.declared.file.File.{File}
use Rattle.mean_start.specs.Files.{IsFileAt, IsProgram}
use Rattle.mean_start.proofs.Starting.{element, past}
use Rattle.mean_start.specs.Opened.{file_blocks}

-- a list of blocks that is made so
record IsNumbered {A : Type 0} (f : ℕ → A → Block) (from : ℕ → List A → List Block) : Type 0 where
  none : (n : ℕ) → from n [] ≡ []
  more : (n : ℕ) (x : A) (xs : List A) → from n (x ∷ xs) ≡ f n x ∷ from (n + 1) xs

last : {A : Type 0} (f : ℕ → A → Block) (from : ℕ → List A → List Block) → IsNumbered f from → (n : ℕ) (xs : List A) (x : A) →
    from n (xs ++ x ∷ []) ≡ from n xs ++ f (n + length xs) x ∷ []
last f from is n [] x =
    is.more n x [] ∙ ap (λ l. f n x ∷ l) (is.none (n + 1)) ∙ ap (λ k. f k x ∷ []) (sym (add-zero n))
    ∙ ap (λ l. l ++ f (n + 0) x ∷ []) (sym (is.none n))
last f from is n (y ∷ ys) x =
    let further : n + 1 + length ys ≡ n + suc (length ys) = omega arith in
    is.more n y (ys ++ x ∷ []) ∙ ap (λ l. f n y ∷ l) (last f from is (n + 1) ys x)
    ∙ ap (λ k. f n y ∷ (from (n + 1) ys ++ f k x ∷ [])) further
    ∙ ap (λ l. l ++ f (n + suc (length ys)) x ∷ []) (sym (is.more n y ys))

-- the first so many, behind other blocks, and one more
further : {A : Type 0} (f : ℕ → A → Block) (from : ℕ → List A → List Block) → IsNumbered f from → (blocks : List Block) (xs : List A)
    (i : ℕ) (x : A) → i < length xs → x ≡ get_or xs i x →
    (blocks ++ from 0 (take i xs)) ++ f i x ∷ [] ≡ blocks ++ from 0 (take (i + 1) xs)
further f from is blocks xs i x within at =
    append_assoc blocks (from 0 (take i xs)) (f i x ∷ [])
    ∙ ap (λ l. blocks ++ l) (sym (
    ap (from 0) (take_more xs i x within ∙ ap (λ y. take i xs ++ y ∷ []) (sym at)) ∙ last f from is 0 (take i xs) x
    ∙ ap (λ k. from 0 (take i xs) ++ f k x ∷ []) (zero-add _ ∙ length-take-le i xs (omega arith))))

abbrev object_of : List Typed → ℕ → List StructInfo → ℕ → GlobalInfo → Block
object_of units unit structs n g = block_of (Global unit n) (with_pieces units unit g.init (zero_cells structs g.ty))

abbrev text_of : ℕ → ℕ → List ℕ → Block
text_of unit n t = block_of (Text unit n) (map Byte t)

abbrev code_of : ℕ → ℕ → TFunction → Block
code_of unit n f = block_of (Code unit n) []

-- an object more
pub objects_further : (units : List Typed) (unit : ℕ) (structs : List StructInfo) (blocks : List Block) (gs : List GlobalInfo) (i : ℕ)
    (g : GlobalInfo) → i < length gs → g ≡ get_or gs i g →
    (blocks ++ objects_from units unit structs 0 (take i gs))
    ++ block_of (Global unit i) (with_pieces units unit g.init (zero_cells structs g.ty)) ∷ [] ≡
    blocks ++ objects_from units unit structs 0 (take (i + 1) gs)
objects_further units unit structs =
    further (object_of units unit structs) (objects_from units unit structs)
    (record { none = λ n. refl; more = λ n x xs. refl })

-- a text more
pub texts_further : (unit : ℕ) (blocks : List Block) (ts : List (List ℕ)) (i : ℕ) (t : List ℕ) → i < length ts → t ≡ get_or ts i t →
    (blocks ++ texts_from unit 0 (take i ts)) ++ block_of (Text unit i) (map Byte t) ∷ [] ≡ blocks ++ texts_from unit 0 (take (i + 1) ts)
texts_further unit =
    further (text_of unit) (texts_from unit) (record { none = λ n. refl; more = λ n x xs. refl })

-- a function more
pub codes_further : (unit : ℕ) (blocks : List Block) (fs : List TFunction) (i : ℕ) (f : TFunction) → i < length fs → f ≡ get_or fs i f →
    (blocks ++ codes_from unit 0 (take i fs)) ++ block_of (Code unit i) [] ∷ [] ≡ blocks ++ codes_from unit 0 (take (i + 1) fs)
codes_further unit = further (code_of unit) (codes_from unit) (record { none = λ n. refl; more = λ n x xs. refl })

-- a file's three kinds of blocks, one behind the other
pub file_is : (units : List Typed) (unit : ℕ) (u : Typed) (blocks : List Block) →
    ((blocks ++ objects_from units unit u.structs 0 u.globals) ++ texts_from unit 0 u.texts) ++ codes_from unit 0 u.functions ≡
    blocks ++ file_blocks units unit u
file_is units unit u blocks =
    let os = objects_from units unit u.structs 0 u.globals in
    let ts = texts_from unit 0 u.texts in
    let fs = codes_from unit 0 u.functions in
    append_assoc (blocks ++ os) ts fs ∙ append_assoc blocks os (ts ++ fs)
    ∙ ap (λ l. blocks ++ l) (sym (append_assoc os ts fs))

opening_last : (units us : List Typed) (u : Typed) (n : ℕ) →
    opening_from units n (us ++ u ∷ []) ≡ opening_from units n us ++ file_blocks units (n + length us) u
opening_last units [] u n =
    append-nil (file_blocks units n u) ∙ ap (λ k. file_blocks units k u) (sym (add-zero n))
opening_last units (x ∷ xs) u n =
    let k : n + 1 + length xs ≡ n + suc (length xs) = omega arith in
    ap (λ l. file_blocks units n x ++ l) (opening_last units xs u (n + 1)
    ∙ ap (λ m. opening_from units (n + 1) xs ++ file_blocks units m u) k)
    ∙ sym (append_assoc (file_blocks units n x) (opening_from units (n + 1) xs) (file_blocks units (n + suc (length xs)) u))

-- a file more
pub opening_further : (units : List Typed) (i : ℕ) (u : Typed) → slice_get units i ≡ Some u →
    (null_block ∷ opening_from units 0 (take i units)) ++ file_blocks units i u ≡ null_block ∷ opening_from units 0 (take (i + 1) units)
opening_further units i u at =
    let within : i < length units = slice_get_within units i u at in
    let is : get_or units i u ≡ u = get_or_from_slice_get units i u u at in
    ap (λ l. null_block ∷ l) (sym (
    ap (opening_from units 0) (take_more units i u within ∙ ap (λ y. take i units ++ y ∷ []) is) ∙ opening_last units (take i units) u 0
    ∙ ap (λ k. opening_from units 0 (take i units) ++ file_blocks units k u) (zero-add _ ∙ length-take-le i units (omega arith))))

-- ---- memories that hold them

-- an object was pushed
pub pushed_object : (m : Memory) (units : List Typed) (unit : ℕ) (structs : List StructInfo) (blocks : List Block) (gs : List GlobalInfo)
    (i k : ℕ) (g : GlobalInfo) → i < length gs → g ≡ get_or gs i g → k ≡ i →
    IsMemory m ((blocks ++ objects_from units unit structs 0 (take i gs))
    ++ block_of (Global unit k) (with_pieces units unit g.init (zero_cells structs g.ty)) ∷ []) →
    IsMemory m (blocks ++ objects_from units unit structs 0 (take (i + 1) gs))
pushed_object m units unit structs blocks gs i k g within at is holds =
    let before = blocks ++ objects_from units unit structs 0 (take i gs) in
    subst (IsMemory m)
    (ap (λ j. before ++ block_of (Global unit j) (with_pieces units unit g.init (zero_cells structs g.ty)) ∷ []) is
    ∙ objects_further units unit structs blocks gs i g within at) holds

-- a text was pushed
pub pushed_text : (m : Memory) (unit : ℕ) (blocks : List Block) (ts : List (List ℕ)) (i k : ℕ) (t bytes : List ℕ) (cells : List Cell) →
    i < length ts → t ≡ get_or ts i t → k ≡ i → bytes ≡ t → cells ≡ map Byte bytes →
    IsMemory m ((blocks ++ texts_from unit 0 (take i ts)) ++ block_of (Text unit k) cells ∷ []) →
    IsMemory m (blocks ++ texts_from unit 0 (take (i + 1) ts))
pushed_text m unit blocks ts i k t bytes cells within at is same made holds =
    let before = blocks ++ texts_from unit 0 (take i ts) in
    subst (IsMemory m)
    (ap (λ j. before ++ block_of (Text unit j) cells ∷ []) is
    ∙ ap (λ l. before ++ block_of (Text unit i) l ∷ []) (made ∙ ap (map Byte) same)
    ∙ texts_further unit blocks ts i t within at) holds

-- a function was pushed
pub pushed_code : (m : Memory) (unit : ℕ) (blocks : List Block) (fs : List TFunction) (i k : ℕ) (cells : List Cell) →
    i < length fs → k ≡ i →
    cells ≡ [] → IsMemory m ((blocks ++ codes_from unit 0 (take i fs)) ++ block_of (Code unit k) cells ∷ []) →
    IsMemory m (blocks ++ codes_from unit 0 (take (i + 1) fs))
pushed_code m unit blocks fs i k cells within is none holds =
    let before = blocks ++ codes_from unit 0 (take i fs) in
    let there = element fs i within in
    subst (IsMemory m)
    (ap (λ j. before ++ block_of (Code unit j) cells ∷ []) is
    ∙ ap (λ l. before ++ block_of (Code unit i) l ∷ []) none
    ∙ codes_further unit blocks fs i there.0 within there.1) holds

-- the blocks of a file were pushed
pub file_opened : (m : Memory) (units : List Typed) (k unit : ℕ) (u : Typed) (blocks : List Block) → k ≡ unit →
    IsMemory m (((blocks ++ objects_from units k u.structs 0 u.globals) ++ texts_from k 0 u.texts) ++ codes_from k 0 u.functions) →
    IsMemory m (blocks ++ file_blocks units unit u)
file_opened m units k unit u blocks is holds =
    subst (λ j. IsMemory m (blocks ++ file_blocks units j u)) is (subst (IsMemory m) (file_is units k u blocks) holds)

-- the null block was pushed
pub null_pushed : (m : Memory) (cells : List Cell) → cells ≡ [] → IsMemory m (block_of NullBlock cells ∷ []) → IsMemory m (null_block ∷ [])
null_pushed m cells none holds = subst (λ l. IsMemory m (block_of NullBlock l ∷ [])) none holds

-- ---- all files

past_by : (o : Option File) (program : Program) (unit : ℕ) → IsFileAt o program unit → o ≡ None → slice_get program.units unit ≡ None
past_by None program unit is none = is.0
past_by (Some f) program unit is none = absurd (none-some f (sym none))

-- there are as many files as the program has
pub all_files : (files : List File) (program : Program) → IsProgram files program → (i : ℕ) → length files ≤ i →
    take i program.units ≡ program.units
all_files files program is i far =
    take_all i program.units (past program.units i (past_by (slice_get files i) program i (is.each i) (slice_get_past files i far)))
