-- All blocks before the call of `main` but the null block are those of files, and lie where they are given (this project's own).
use Rattle.std.specs.Prelude.{◌≡◌, ℕ, zero, suc, ◌+◌, ◌<◌, ◌≤◌, true, false, List, [], ◌∷◌, ◌++◌, length, take, slice_get}
use Rattle.std.specs.Prelude.{Some, refl}
use Rattle.std.proofs.Common.{arith, ap, sym, subst, ◌∙◌, length-append}
use Rattle.c_type_base.specs.declared.typed.Typed.{Typed}
use Rattle.c_type_base.specs.declared.typed.StructInfo.{StructInfo}
use Rattle.c_type_base.specs.declared.typed.GlobalInfo.{GlobalInfo}
use Rattle.c_type_base.specs.declared.typed.TFunction.{TFunction}
use Rattle.block_meaning.specs.declared.kind.Kind.{Kind}
use Rattle.block_meaning.specs.declared.kind.Kind.TheVariants.{NullBlock, Global, Text, Code, Local}
use Rattle.block_meaning.specs.Blocks.{Block, pointer}
use Rattle.block_meaning.specs.Linkage.{blocks_of, blocks_in, objects_in, text_block}
use Rattle.block_meaning.specs.Laws.Progress.Linked.{all_blocks}
use Rattle.block_meaning.specs.Laws.Progress.Opening.{opening-count}
use Rattle.block_meaning.specs.Opening.{objects_from, texts_from, codes_from, opening_from, opening}
use Rattle.block_meaning.specs.Running.{Call, State as MeaningState}
use Rattle.code_relation.specs.Laws.Lists.{InJoined, front, back, get_joined}
use Rattle.code_relation.specs.Laws.Placing.{get_front, get_back}
use Rattle.code_relation.specs.Loaded.{IsFileBlock, FilesLie}
use Rattle.code_relation.specs.Numbers.{IsNumber, number_at}
use Rattle.code_relation.specs.Sites.{Given, units_of, site_by, is_of_file, is_object}
use Rattle.code_relation.specs.Stands.{IsAsOpened}
use Rattle.unit_follows.specs.Sound.{HasText}

-- ---- what the blocks are

abbrev pub AllOfFile : List Block → Type 0
AllOfFile bs = (k : ℕ) (b : Block) → slice_get bs k ≡ Some b → is_of_file b.kind ≡ true

none_of_file : AllOfFile []
none_of_file k b there = absurd (cc)

first_of_file : (c : Block) (bs : List Block) → is_of_file c.kind ≡ true → AllOfFile bs → AllOfFile (c ∷ bs)
first_of_file c bs first rest zero b there = ap (λ x. is_of_file x.kind) (let e : b ≡ c = cc in e) ∙ first
first_of_file c bs first rest (suc k) b there = rest k b there

both_of_file : (as' bs : List Block) → AllOfFile as' → AllOfFile bs → AllOfFile (as' ++ bs)
both_of_file as' bs first rest k b there = by_part (get_joined as' bs k b there)
  where
    by_part : InJoined as' bs k b → is_of_file b.kind ≡ true
    by_part (front is) = first k b is
    by_part (back j same is) = rest j b is

objects_of_file : (units : List Typed) (unit : ℕ) (structs : List StructInfo) (n : ℕ) (gs : List GlobalInfo) →
    AllOfFile (objects_from units unit structs n gs)
objects_of_file units unit structs n [] = none_of_file
objects_of_file units unit structs n (g ∷ gs) = first_of_file _ _ refl (objects_of_file units unit structs (n + 1) gs)

texts_of_file : (unit n : ℕ) (ts : List (List ℕ)) → AllOfFile (texts_from unit n ts)
texts_of_file unit n [] = none_of_file
texts_of_file unit n (t ∷ ts) = first_of_file _ _ refl (texts_of_file unit (n + 1) ts)

codes_of_file : (unit n : ℕ) (fs : List TFunction) → AllOfFile (codes_from unit n fs)
codes_of_file unit n [] = none_of_file
codes_of_file unit n (f ∷ fs) = first_of_file _ _ refl (codes_of_file unit (n + 1) fs)

pub opening_of_file : (units : List Typed) (unit : ℕ) (us : List Typed) → AllOfFile (opening_from units unit us)
opening_of_file units unit [] = none_of_file
opening_of_file units unit (u ∷ us) =
    both_of_file _ _ (both_of_file _ _ (both_of_file _ _ (objects_of_file units unit u.structs 0 u.globals) (texts_of_file unit 0 u.texts))
    (codes_of_file unit 0 u.functions)) (opening_of_file units (unit + 1) us)

-- ---- blocks by number

pub record FileBlock (g : Given) (number : ℕ) : Type 0 where
  pub block : Block
  pub is : IsFileBlock g number block

get_below : {A : Type 0} (xs : List A) (k : ℕ) → k < length xs → (x : A) × (slice_get xs k ≡ Some x)
get_below [] k within = absurd (omega (arith, within))
get_below (x ∷ xs) zero within = (x, refl)
get_below (x ∷ xs) (suc k) within = get_below xs k (omega (arith, within))

pub file_block : (g : Given) (number : ℕ) → 1 ≤ number → number < all_blocks (units_of g) → FileBlock g number
file_block g zero some within = absurd (omega (arith, some))
file_block g (suc number) some within =
    let found = get_below (opening (units_of g)) (suc number) (omega (arith, within, opening-count (units_of g))) in
    record {
      block = found.0;
      is = record { is = found.1; of_file = opening_of_file (units_of g) 0 (units_of g) number found.0 found.1 };
    }

-- a block of a file lies where it is given
site_of_file : (g : Given) (calls : List Call) (kind : Kind) (number : ℕ) → is_of_file kind ≡ true →
    site_by g calls kind number ≡ g.starts number
site_of_file g calls NullBlock number is = absurd (cc)
site_of_file g calls (Global unit k) number is = refl
site_of_file g calls (Text unit k) number is = refl
site_of_file g calls (Code unit k) number is = refl
site_of_file g calls (Local call k) number is = absurd (cc)

-- so the number of a pointer to its start is that of where it lies
pub IsNumber-file : {g : Given} {now : MeaningState} {number : ℕ} (n : ℕ) → FileBlock g number →
    ((b : Block) → slice_get (opening (units_of g)) number ≡ Some b → IsAsOpened now number b) → n ≡ number_at (g.starts number) 0 →
    IsNumber g now (pointer number 0) n
IsNumber-file {g} {now} {number} n file opened is =
    let there : IsAsOpened now number file.block = opened file.block file.is.is in
    record {
      block = there.block;
      is = there.lives.is;
      fits = omega arith;
      number = is ∙ sym (ap (λ site. number_at site 0) (site_of_file g now.calls there.block.kind number
          (ap is_of_file there.kind_is ∙ file.is.of_file)));
    }

-- ---- texts

-- at a position there is a block of a file that is no object
pub record NoObject (bs : List Block) (k : ℕ) : Type 0 where
  pub block : Block
  pub is : slice_get bs k ≡ Some block
  pub of_file : is_of_file block.kind ≡ true
  pub other : is_object block.kind ≡ false

no_object_front : (as' bs : List Block) (k : ℕ) → NoObject as' k → NoObject (as' ++ bs) k
no_object_front as' bs k there =
    record { block = there.block; is = get_front as' bs k there.block there.is; of_file = there.of_file; other = there.other }

no_object_back : (as' bs : List Block) (k : ℕ) → NoObject bs k → NoObject (as' ++ bs) (length as' + k)
no_object_back as' bs k there =
    record { block = there.block; is = get_back as' bs k there.block there.is; of_file = there.of_file; other = there.other }

no_object_text : (unit from : ℕ) (ts : List (List ℕ)) (n : ℕ) → n < length ts → NoObject (texts_from unit from ts) n
no_object_text unit from [] n within = absurd (omega (arith, within))
no_object_text unit from (t ∷ ts) zero within = record { block = _; is = refl; of_file = refl; other = refl }
no_object_text unit from (t ∷ ts) (suc n) within =
    let there = no_object_text unit (from + 1) ts n (omega (arith, within)) in
    record { block = there.block; is = there.is; of_file = there.of_file; other = there.other }

objects_count : (units : List Typed) (unit : ℕ) (structs : List StructInfo) (k : ℕ) (gs : List GlobalInfo) →
    length (objects_from units unit structs k gs) ≡ length gs
objects_count units unit structs k [] = refl
objects_count units unit structs k (g ∷ gs) = ap suc (objects_count units unit structs (k + 1) gs)

texts_count : (unit k : ℕ) (ts : List (List ℕ)) → length (texts_from unit k ts) ≡ length ts
texts_count unit k [] = refl
texts_count unit k (t ∷ ts) = ap suc (texts_count unit (k + 1) ts)

codes_count : (unit k : ℕ) (fs : List TFunction) → length (codes_from unit k fs) ≡ length fs
codes_count unit k [] = refl
codes_count unit k (f ∷ fs) = ap suc (codes_count unit (k + 1) fs)

no_object_at : {bs : List Block} {j k : ℕ} → j ≡ k → NoObject bs j → NoObject bs k
no_object_at {bs} same there = subst (NoObject bs) same there

text_in_files : (units : List Typed) (from : ℕ) (us : List Typed) (unit : ℕ) (u : Typed) (n : ℕ) → slice_get us unit ≡ Some u →
    n < length u.texts → NoObject (opening_from units from us) (blocks_in (take unit us) + length u.globals + n)
text_in_files units from [] unit u n is within = absurd (cc)
text_in_files units from (v ∷ us) zero u n is within =
    let same : v ≡ u = cc in
    let objects = objects_from units from v.structs 0 v.globals in
    let texts = texts_from from 0 v.texts in
    let codes = codes_from from 0 v.functions in
    let found : NoObject (objects ++ texts ++ codes ++ opening_from units (from + 1) us) (length objects + n) =
    no_object_front (objects ++ texts ++ codes) (opening_from units (from + 1) us) (length objects + n)
    (no_object_front (objects ++ texts) codes (length objects + n)
    (no_object_back objects texts n (no_object_text from 0 v.texts n (omega (arith, within, ap (λ (x : Typed). length x.texts) same))))) in
    no_object_at (omega (arith, objects_count units from v.structs 0 v.globals, ap (λ (x : Typed). length x.globals) same)) found
text_in_files units from (v ∷ us) (suc unit) u n is within =
    let objects = objects_from units from v.structs 0 v.globals in
    let texts = texts_from from 0 v.texts in
    let codes = codes_from from 0 v.functions in
    let of_front : length (objects ++ texts ++ codes) ≡ blocks_of v =
    omega (
      arith,
      length-append (objects ++ texts) codes,
      length-append objects texts,
      objects_count units from v.structs 0 v.globals,
      texts_count from 0 v.texts,
      codes_count from 0 v.functions,
    ) in
    no_object_at (omega (arith, of_front))
    (no_object_back (objects ++ texts ++ codes) (opening_from units (from + 1) us) (blocks_in (take unit us) + length u.globals + n)
    (text_in_files units (from + 1) us unit u n is within))

-- the block of a text has tag 0
pub text_block_untagged : (g : Given) (unit n : ℕ) → HasText (units_of g) unit n → FilesLie g →
    (g.starts (text_block (units_of g) unit n)).tag ≡ 0
text_block_untagged g unit n has lies =
    let there = text_in_files (units_of g) 0 (units_of g) unit has.file n has.is has.within in
    let objects : objects_in (slice_get (units_of g) unit) ≡ length has.file.globals = ap objects_in has.is in
    let place : suc (blocks_in (take unit (units_of g)) + length has.file.globals + n) ≡ text_block (units_of g) unit n =
    omega (arith, objects) in
    subst (λ k. (g.starts k).tag ≡ 0) place
    (lies.untagged (suc (blocks_in (take unit (units_of g)) + length has.file.globals + n)) there.block
    (record { is = there.is; of_file = there.of_file }) there.other)
