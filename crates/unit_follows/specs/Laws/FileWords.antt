-- The words of a placed file: those of each function, its entry, its items and its exit (this project's own).
use Rattle.std.specs.Prelude.{◌≡◌, ℕ, zero, suc, ◌+◌, ◌*◌, ◌^◌, ◌≤◌, List, [], ◌∷◌, ◌++◌, length, map, slice_get}
use Rattle.std.specs.Prelude.{Some, refl}
use Rattle.std.proofs.Common.{arith, ap, sym, subst, ◌∙◌, length-append}
use Rattle.std.proofs.lemmas.List.{length-map}
use Rattle.a64_code.specs.declared.instr.Instr.TheVariants.{Ldp, Ret}
use Rattle.a64_laws.specs.Forms.{stack_pointer}
use Rattle.a64_laws.specs.Frames.{frame_pointer, link_register}
use Rattle.block_meaning.specs.Linkage.{function_of, function_in}
use Rattle.c_type_base.specs.declared.typed.StructInfo.{StructInfo}
use Rattle.c_type_base.specs.declared.typed.TFunction.{TFunction}
use Rattle.code_relation.specs.Follows.{Code}
use Rattle.code_runs.specs.Laws.CodeAt.{HasCode-kept}
use Rattle.frame_layout.specs.declared.frame.Frame.{Frame}
use Rattle.frame_layout.specs.Frames.{frame}
use Rattle.gen_unit.specs.declared.parts.Place.{Place}
use Rattle.gen_unit.specs.Functions.{entry, exit, function_items, function_words, words_by}
use Rattle.gen_unit.specs.Labels.{end_of, form_of, words_in}
use Rattle.gen_unit.specs.Units.{all_words, places_from}
use Rattle.gen_unit.specs.Words.{Form, Word, whole}
use Rattle.sym_code.specs.declared.item.SymItem.{SymItem}
use Rattle.tag_plan.specs.Lists.{exit_list, offset_from}
use Rattle.unit_follows.specs.Placed.{IsPlacedFile}
use Rattle.unit_follows.specs.Placing.{Placing, filled}
use Rattle.unit_follows.specs.Sound.{IsWithinReach}
use Rattle.unit_follows.specs.Units.{IsInside}
use Rattle.unit_follows.specs.Laws.Filled.{length-filled, filled-whole}
use Rattle.unit_follows.specs.Laws.Items.{targets}
use Rattle.unit_follows.specs.Laws.LabelPlaces.{within-reach}
use Rattle.unit_follows.specs.Laws.Lengths.{length-words}
use Rattle.unit_follows.specs.Laws.PlacedWords.{PlacedWords, PlacedWords-front, PlacedWords-back, PlacedWords-at, IsNear}
use Rattle.unit_follows.specs.Laws.Standing.{Standing, Standing-as}

-- ---- a file

pub PlacedWords-file : {c : Code} {p : Placing} {unit : ℕ} (placed : IsPlacedFile c.given p unit) →
    IsInside c p.words (length (all_words placed.file.structs placed.file.functions)) →
    PlacedWords c p unit p.words (all_words placed.file.structs placed.file.functions)
PlacedWords-file {c} {p} {unit} placed inside = record {
  stands = record {
    code = λ s as_loaded. HasCode-kept (record {
      regions = as_loaded.regions;
      bytes = λ a from below. as_loaded.bytes a (placed.beside.off_stack a from (omega (arith, below, many)))
          (placed.beside.off_objects a from (omega (arith, below, many)));
    }) placed.stand;
    inside = λ k s within is_at. inside.inside k s (omega (arith, within, many)) is_at;
    below = omega (arith, many, placed.placing.words_in.to, placed.placing.load_below);
  };
  load_whole = placed.placing.load_whole;
  load_below = placed.placing.load_below;
  whole = omega (arith, placed.placing.words_whole);
  image = placed.placing.words_in;
  gots = λ t wanted.
      record { whole = placed.placing.gots_whole t wanted; image = placed.placing.gots_in t wanted; has = placed.gots t wanted };
  texts = placed.placing.texts_in;
  functions = λ f there. record {
    whole = placed.placing.functions_whole f there;
    image = placed.placing.functions_in f there;
    on = placed.placing.functions_on f there;
    back = placed.placing.functions_back f there;
  };
}
  where
    many : length (filled c.given p unit p.words (all_words placed.file.structs placed.file.functions))
        ≡ length (all_words placed.file.structs placed.file.functions)
    many = length-filled c.given p unit p.words (all_words placed.file.structs placed.file.functions)

-- ---- one of its functions

pub record PlacedFunction (c : Code) (p : Placing) (unit words at : ℕ) (structs : List StructInfo) (fs : List TFunction) (n : ℕ)
    (tf : TFunction) : Type 0 where
  pub place : Place
  pub is : slice_get (places_from structs at fs) n ≡ Some place
  pub placed : PlacedWords c p unit (words + place.start) (function_words structs tf)

function_placed : {c : Code} {p : Placing} {unit : ℕ} (words at : ℕ) (structs : List StructInfo) (fs : List TFunction) (n : ℕ)
    (tf : TFunction) → slice_get fs n ≡ Some tf → PlacedWords c p unit (words + 4 * at) (all_words structs fs) →
    PlacedFunction c p unit words at structs fs n tf
function_placed words at structs [] n tf there placed = absurd (cc)
function_placed {c} {p} {unit} words at structs (f ∷ fs) zero tf there placed = record {
  place = _;
  is = refl;
  placed = subst (λ x. PlacedWords c p unit (words + 4 * at) (function_words structs x)) (let e : f ≡ tf = cc in e)
      (PlacedWords-front (function_words structs f) (all_words structs fs) placed);
}
function_placed {c} {p} {unit} words at structs (f ∷ fs) (suc n) tf there placed =
    let rest = function_placed words (at + length (function_words structs f)) structs fs n tf there
    (PlacedWords-at (omega arith) (PlacedWords-back (function_words structs f) (all_words structs fs) placed)) in
    record { place = rest.place; is = rest.is; placed = rest.placed }

-- ---- its parts

-- the words of a function, in a frame, from an address on
pub record FunctionWords (c : Code) (p : Placing) (unit base : ℕ) (fr : Frame) (is : List SymItem) : Type 0 where
  pub enters : Standing c base (entry fr)
  pub items : let at = length (entry fr) in let form = form_of fr at is in
      PlacedWords c p unit (base + 4 * at) (words_in form (targets form at is) at is)
  pub leaves : let at = length (entry fr) in Standing c (base + 4 * end_of (form_of fr at is) at is) (exit fr)
  pub reach : let at = length (entry fr) in let form = form_of fr at is in IsWithinReach form (end_of form at is)

exit_some : (fr : Frame) → 1 ≤ length (exit fr)
exit_some fr = omega (
  arith,
  length-append (exit_list fr ++ Ldp 0 link_register stack_pointer frame_pointer ∷ offset_from stack_pointer fr.bytes stack_pointer)
      (Ret ∷ []),
)

function_parts : {c : Code} {p : Placing} {unit : ℕ} (base : ℕ) (fr : Frame) (is : List SymItem) →
    PlacedWords c p unit base (map whole (entry fr) ++ words_by (form_of fr (length (entry fr)) is) (length (entry fr)) is
    ++ map whole (exit fr)) →
    length (map whole (entry fr) ++ words_by (form_of fr (length (entry fr)) is) (length (entry fr)) is ++ map whole (exit fr)) ≤ 2 ^ 25 →
    FunctionWords c p unit base fr is
function_parts {c} {p} {unit} base fr is placed few = record {
  enters = Standing-as (filled-whole c.given p unit base (entry fr)) (PlacedWords-front first items front).stands;
  items = PlacedWords-at (omega (arith, length-map (entry fr) whole)) (PlacedWords-back first items front);
  leaves = Standing-as (filled-whole c.given p unit (base + 4 * end) (exit fr))
      (PlacedWords-at {ws = map whole (exit fr)} (omega (arith, ends)) (PlacedWords-back (first ++ items) last placed)).stands;
  reach = within-reach fr at is (omega (arith, few, ends, length-append (first ++ items) last, length-map (exit fr) whole, exit_some fr));
}
  where
    at : ℕ
    at = length (entry fr)

    form : Form
    form = form_of fr at is

    first : List Word
    first = map whole (entry fr)

    items : List Word
    items = words_by form at is

    last : List Word
    last = map whole (exit fr)

    end : ℕ
    end = end_of form at is

    front : PlacedWords c p unit base (first ++ items)
    front = PlacedWords-front (first ++ items) last placed

    ends : length (first ++ items) ≡ end
    ends = omega (arith, length-append first items, length-map (entry fr) whole, length-words form (targets form at is) at is)

-- The words of each function of a placed file stand where the placing has it.
pub FunctionWords-file : {c : Code} {p : Placing} {unit : ℕ} (placed : IsPlacedFile c.given p unit) →
    IsInside c p.words (length (all_words placed.file.structs placed.file.functions)) → (n : ℕ) (tf : TFunction) →
    slice_get placed.file.functions n ≡ Some tf →
    FunctionWords c p unit (p.function (function_of unit n)) (frame placed.file.structs tf) (function_items placed.file.structs tf)
FunctionWords-file {c} {p} {unit} placed inside n tf there =
    function_parts base (frame placed.file.structs tf) (function_items placed.file.structs tf) found_there
    (omega (arith, near.back))
  where
    found : PlacedFunction c p unit p.words 0 placed.file.structs placed.file.functions n tf
    found = function_placed p.words 0 placed.file.structs placed.file.functions n tf there
        (PlacedWords-at (omega arith) (PlacedWords-file placed inside))

    base : ℕ
    base = p.function (function_of unit n)

    found_there : PlacedWords c p unit base (function_words placed.file.structs tf)
    found_there = PlacedWords-at (sym (placed.functions n found.place found.is)) found.placed

    near : IsNear p base (4 * length (function_words placed.file.structs tf)) (function_of unit n)
    near = found_there.functions (function_of unit n)
        (record { function = tf; is = ap (λ u. function_in u n) placed.file_is ∙ there })
