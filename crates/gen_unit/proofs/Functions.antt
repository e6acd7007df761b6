-- The words of functions, one behind the other.
use Rattle.std.proofs.Common.{◌≡◌, refl, ap, sym, ◌∙◌, subst, ℕ, ◌+◌, ◌-◌, ◌*◌, ◌<◌, ◌≤◌, List, [], ◌∷◌, ◌++◌, length, map}
use Rattle.std.proofs.Common.{drop, get_or, arith, append_assoc, append-nil, Result, OnOk}
use Rattle.std.proofs.Math.Path.{fun_ext}
use Rattle.c_type_base.specs.Layout.{LaidOut}
use Rattle.c_type_base.specs.declared.typed.StructInfo.{StructInfo}
use Rattle.c_type_base.specs.declared.typed.TFunction.{TFunction}
use Rattle.c_type_base.specs.declared.typed.Typed.{Typed}
use Rattle.frame_layout.specs.declared.frame.Frame.{Frame}
use Rattle.frame_layout.specs.Frames.{frame, largest_frame, first_safe}
use Rattle.frame_layout.specs.Parts.{parts}
use Rattle.frame_layout.specs.StatementNeeds.{stmt_need}
use Rattle.frame_layout.specs.Laws.PartLaws.{parts-positive}
use Rattle.frame_layout.specs.Laws.WellFormedLaws.{safe_room, safe_within}
use Rattle.sym_code.specs.declared.item.SymItem.{SymItem}
use Rattle.gen_unit.specs.declared.labels.Labels.{Labels}
use Rattle.gen_unit.specs.declared.output.Output.{Output}
use Rattle.gen_unit.specs.declared.parts.Place.{Place}
use Rattle.gen_unit.specs.declared.parts.UnitCode.{UnitCode}
use Rattle.gen_unit.specs.Appended.{Gains, AreLabels, AreParts, form, targets_of}
use Rattle.gen_unit.specs.Functions.{entry, exit, words_by, words_around, function_code, function_words}
use Rattle.gen_unit.specs.Labels.{words_in, form_of, label_in, end_of}
use Rattle.gen_unit.specs.Units.{AreWords, IsCodeOf, relocs_from, place_of, places_from, all_words}
use Rattle.gen_unit.specs.Words.{Word, Form, Targets, whole}
use Rattle.gen_unit.proofs.Gains.{gains_none, gains_then, gains_as, gains_length, then_ok}
use Rattle.gen_unit.proofs.Turns.{drop-here, drop-all}

-- ---- a frame that is not too large has room for few words in between

few_words : (words bytes : ℕ) → first_safe words ≤ bytes → bytes ≤ largest_frame → words ≤ 32765
few_words words bytes within small = omega arith

pub needs_few : (structs : List StructInfo) (f : TFunction) → LaidOut structs → (frame structs f).bytes ≤ largest_frame →
    stmt_need f.body ≤ 32765
needs_few structs f laid small =
    let words = stmt_need f.body in
    let ps = parts structs f in
    let positive = parts-positive structs laid f 0 f.locals in
    let room : first_safe words ≤ (frame structs f).bytes = omega (arith, safe_room words ps positive, safe_within words ps positive) in
    few_words words (frame structs f).bytes room small

-- ---- a function

items_by : (f : Form) (at : ℕ) (is : List SymItem) (l : Labels) → AreLabels f at is l →
    words_in (form f.frame l.long) (targets_of l) at is ≡ words_by f at is
items_by f at is l are =
    ap (λ long. words_in (form f.frame long) (targets_of l) at is) are.long
    ∙ ap (λ (ts : Targets). words_in f ts at is) targets
  where
    targets : targets_of l ≡ record { label = label_in f at is; exit = end_of f at is }
    targets =
        ap (λ (label : ℕ → ℕ). record { label = label; exit = l.end }) (fun_ext (λ n. are.each n))
        ∙ ap (λ n. record { label = label_in f at is; exit = n }) are.end

pub gains_around : {T E : Type 0} (r : Result T E) (f : Frame) (is : List SymItem) (at : ℕ) (l : Labels) (a b c d : Output) →
    at ≡ length (entry f) → AreLabels (form_of f at is) at is l → Gains a (map whole (entry f)) b →
    Gains b (words_in (form f l.long) (targets_of l) at is) c → OnOk r (Gains c (map whole (exit f)) d) →
    OnOk r (Gains a (words_around f is) d)
gains_around r f is at l a b c d place are first second last =
    let between : Gains b (words_by (form_of f at is) at is) c = gains_as (items_by (form_of f at is) at is l are) second in
    let here : Gains b (words_by (form_of f (length (entry f)) is) (length (entry f)) is) c =
    subst (λ n. Gains b (words_by (form_of f n is) n is) c) place between in
    then_ok r a c d (map whole (entry f) ++ words_by (form_of f (length (entry f)) is) (length (entry f)) is) (map whole (exit f))
    (gains_then first here) last

-- ---- the same words

pub gains_same : {T E : Type 0} (r : Result T E) (a b : Output) (ws vs : List Word) → ws ≡ vs → OnOk r (Gains a ws b) →
    OnOk r (Gains a vs b)
gains_same r a b ws vs same = subst (λ ws. OnOk r (Gains a ws b)) same

pub function_words-is : (structs : List StructInfo) (f : TFunction) (fr : Frame) (is : List SymItem) → fr ≡ frame structs f →
    is ≡ function_code structs f fr 0 → words_around fr is ≡ function_words structs f
function_words-is structs f fr is same items =
    ap (words_around fr) items ∙ ap (λ fr. words_around fr (function_code structs f fr 0)) same

-- ---- several functions

-- so many functions stand, and those that are left come behind them
pub record Built (structs : List StructInfo) (fs : List TFunction) (k : ℕ) (old : Output) (before : List Place) (new : Output)
    (places : List Place) : Type 0 where
  pub words : List Word
  pub gained : Gains old words new
  pub left : words ++ all_words structs (drop k fs) ≡ all_words structs fs
  pub stand :
      places ++ places_from structs (length new.words.items) (drop k fs) ≡ before ++ places_from structs (length old.words.items) fs

module _ (structs : List StructInfo) (fs : List TFunction) (old : Output) (before : List Place) where
  pub built_first : Built structs fs 0 old before old before
  built_first = record { words = []; gained = gains_none old; left = refl; stand = refl }

  pub built_last : (k : ℕ) (new : Output) (places : List Place) → length fs ≤ k → Built structs fs k old before new places →
      AreParts structs fs old before new places
  built_last k new places past built = record {
    gained = gains_as
        (sym (append-nil built.words) ∙ ap (λ gs. built.words ++ all_words structs gs) (sym (drop-all fs k past)) ∙ built.left)
        built.gained;
    places = sym (append-nil places)
        ∙ ap (λ gs. places ++ places_from structs (length new.words.items) gs) (sym (drop-all fs k past)) ∙ built.stand;
  }

  pub built_next : (k : ℕ) (f : TFunction) (place : Place) (b c : Output) (places behind : List Place) → k < length fs →
      f ≡ get_or fs k f → Built structs fs k old before b places → Gains b (function_words structs f) c →
      place ≡ place_of (length b.words.items) (length c.words.items) f → behind ≡ places ++ place ∷ [] →
      Built structs fs (k + 1) old before c behind
  built_next k f place b c places behind within there built turn is pushed = record {
    words = built.words ++ function_words structs f;
    gained = gains_then built.gained turn;
    left =
        append_assoc built.words (function_words structs f) (all_words structs (drop (k + 1) fs))
        ∙ ap (λ gs. built.words ++ all_words structs gs) (sym here) ∙ built.left;
    stand =
        ap (λ ps. ps ++ places_from structs (length c.words.items) (drop (k + 1) fs)) (pushed ∙ ap (λ p. places ++ p ∷ []) (is ∙ shape))
        ∙ append_assoc places (given ∷ []) (places_from structs (length c.words.items) (drop (k + 1) fs))
        ∙ ap (λ n. places ++ given ∷ places_from structs n (drop (k + 1) fs)) size
        ∙ ap (λ gs. places ++ places_from structs (length b.words.items) gs) (sym here)
        ∙ built.stand;
  }
    where
      here : drop k fs ≡ f ∷ drop (k + 1) fs
      here = drop-here fs k f within there

      size : length c.words.items ≡ length b.words.items + length (function_words structs f)
      size = gains_length turn

      given : Place
      given = record { name = f.name; local = f.local; start = 4 * length b.words.items; bytes = 4 * length (function_words structs f) }

      shape : place_of (length b.words.items) (length c.words.items) f ≡ given
      shape =
          let bytes : 4 * (length c.words.items - length b.words.items) ≡ 4 * length (function_words structs f) = omega (arith, size) in
          ap (λ n. record { name = f.name; local = f.local; start = 4 * length b.words.items; bytes = n }) bytes

-- ---- a unit

pub parts_of_functions : (structs : List StructInfo) (fs gs : List TFunction) (old : Output) (before : List Place) (new : Output)
    (places : List Place) → fs ≡ gs → before ≡ [] → AreParts structs fs old before new places → AreParts structs gs old [] new places
parts_of_functions structs fs gs old before new places same none parts =
    subst (λ gs. AreParts structs gs old [] new places) same (subst (λ before. AreParts structs fs old before new places) none parts)

pub code_by : (typed : Typed) (old new : Output) (places : List Place) (code : UnitCode) → old.words.items ≡ [] → old.relocs.items ≡ [] →
    AreParts typed.structs typed.functions old [] new places → code.words.items ≡ new.words.items → code.functions.items ≡ places →
    code.relocs.items ≡ new.relocs.items → IsCodeOf typed code
code_by typed old new places code no_words no_relocs parts words functions relocs = record {
  words = subst (λ ns. AreWords ns ws) (sym (words ∙ parts.gained.words ∙ ap (λ ns. ns ++ parts.gained.numbers) no_words))
      parts.gained.are;
  functions = functions ∙ parts.places ∙ ap (λ ns. places_from typed.structs (length ns) typed.functions) no_words;
  relocs = relocs ∙ parts.gained.relocs ∙ ap (λ ns. old.relocs.items ++ relocs_from (length ns) ws) no_words
      ∙ ap (λ rs. rs ++ relocs_from 0 ws) no_relocs;
}
  where
    ws : List Word
    ws = all_words typed.structs typed.functions
