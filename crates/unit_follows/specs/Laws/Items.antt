-- The items of a function stand where their words do (this project's own).
use Rattle.std.specs.Prelude.{◌≡◌, ◌≢◌, ℕ, zero, suc, ◌+◌, ◌*◌, ◌^◌, ◌<◌, ◌≤◌, Bool, true, false, List, [], ◌∷◌, length, map}
use Rattle.std.specs.Prelude.{slice_get, Option, Some, None, refl}
use Rattle.std.proofs.Common.{arith, ap, sym, subst, ◌∙◌}
use Rattle.std.proofs.lemmas.List.{length-map}
use Rattle.a64_code.specs.declared.instr.Reg.{Reg}
use Rattle.a64_code.specs.State.{State, general}
use Rattle.a64_laws.specs.Branches.{Branch, OnZero, OnOther}
use Rattle.block_meaning.specs.Blocks.{pointer}
use Rattle.block_meaning.specs.Laws.Progress.Linked.{all_blocks, DefinedWithin, defined-within, object-within, text-within}
use Rattle.block_meaning.specs.Laws.Progress.Linked.{code-within}
use Rattle.block_meaning.specs.Linkage.{Definition, AnObject, AFunction, defined, definition_of, block_of_definition, extern_at}
use Rattle.block_meaning.specs.Linkage.{object_block}
use Rattle.block_meaning.specs.Linkage.{text_block, code_block}
use Rattle.block_meaning.specs.Running.{Function, State as MeaningState}
use Rattle.c_type_base.specs.declared.expr.Callee.TheVariants as callee
use Rattle.c_type_base.specs.declared.typed.ExternInfo.{ExternInfo}
use Rattle.c_type_base.specs.declared.typed.Typed.{Typed}
use Rattle.code_relation.specs.Calls.{frame_of}
use Rattle.code_relation.specs.Follows.{Code}
use Rattle.code_relation.specs.Items.{GoesTo, PutsPointer, PutsAddress, Place, Spot, Acts}
use Rattle.code_relation.specs.Items.{StandsAt, Calls}
use Rattle.code_relation.specs.Sites.{Given, units_of}
use Rattle.frame_layout.specs.declared.frame.Frame.{Frame}
use Rattle.frame_layout.specs.declared.frame.Slot.{Slot}
use Rattle.frame_layout.specs.WellFormed.{is_tagged_slot}
use Rattle.gen_unit.specs.declared.parts.CodeTarget.TheVariants as target
use Rattle.gen_unit.specs.Labels.{end_of, label_in, words_in}
use Rattle.gen_unit.specs.Words.{Form, Targets, item_words, item_length, whole, branch_words, address_of}
use Rattle.sym_code.specs.declared.item.SymItem.{SymItem}
use Rattle.sym_code.specs.declared.item.SymItem.TheVariants as item
use Rattle.tag_plan.specs.Lists.{slot_address_list}
use Rattle.unit_follows.specs.Placing.{Placing}
use Rattle.unit_follows.specs.Sound.{HasSafeSlot, IsSound, AreSound, IsWithinReach}
use Rattle.unit_follows.specs.Laws.CallItems.{AllFollow, Calls-function}
use Rattle.unit_follows.specs.Laws.ExternCalls.{Calls-extern}
use Rattle.unit_follows.specs.Laws.FileBlocks.{FileBlock, file_block, text_block_untagged}
use Rattle.unit_follows.specs.Laws.Filled.{filled-whole}
use Rattle.unit_follows.specs.Laws.Jumps.{GoesTo-jump, Branching, Branching-words, IsBranch, IsBranch-zero, IsBranch-other, length_of}
use Rattle.unit_follows.specs.Laws.Jumps.{reach_of}
use Rattle.unit_follows.specs.Laws.LabelPlaces.{label-at, label-within}
use Rattle.unit_follows.specs.Laws.Lengths.{length-item, place_of, place-behind, place-within}
use Rattle.unit_follows.specs.Laws.PlacedWords.{PlacedWords, PlacedWords-front, PlacedWords-back, PlacedWords-at}
use Rattle.unit_follows.specs.Laws.Pointers.{object_put, text_put}
use Rattle.unit_follows.specs.Laws.SlotAddresses.{safe_slot_put}
use Rattle.unit_follows.specs.Laws.Standing.{Standing-as, HasInstr-first}

-- ---- one item among others

pub item_placed : {c : Code} {p : Placing} {unit : ℕ} (f : Form) (ts : Targets) (base at : ℕ) (is : List SymItem) (k : ℕ) (i : SymItem) →
    slice_get is k ≡ Some i → PlacedWords c p unit (base + 4 * at) (words_in f ts at is) →
    PlacedWords c p unit (base + 4 * place_of f at is k) (item_words f ts (place_of f at is k) i)
item_placed f ts base at [] k i there placed = absurd (cc)
item_placed {c} {p} {unit} f ts base at (j ∷ is) zero i there placed =
    subst (λ x. PlacedWords c p unit (base + 4 * at) (item_words f ts at x)) (let e : j ≡ i = cc in e)
    (PlacedWords-front (item_words f ts at j) (words_in f ts (at + item_length f j) is) placed)
item_placed {c} {p} {unit} f ts base at (j ∷ is) (suc k) i there placed =
    item_placed f ts base (at + item_length f j) is k i there
    (PlacedWords-at (omega (arith, length-item f ts at j))
    (PlacedWords-back (item_words f ts at j) (words_in f ts (at + item_length f j) is) placed))

-- ---- the place of all

abbrev pub targets : Form → ℕ → List SymItem → Targets
targets f at is = record { label = label_in f at is; exit = end_of f at is }

-- addresses of items whose function's words begin at one; no item enters or leaves a scope
abbrev pub place : ℕ → Form → ℕ → List SymItem → Place
place base f at is = record {
  at = λ k. base + 4 * place_of f at is k;
  label = λ n. base + 4 * label_in f at is n;
  scope_steps = λ k s. 0;
}

-- ---- what each does

-- the block of a definition is one of a file
pub record Among (units : List Typed) (number : ℕ) : Type 0 where
  pub some : 1 ≤ number
  pub within : number < all_blocks units

definition_among : (units : List Typed) (d : Definition) → DefinedWithin units d → (number : ℕ) →
    block_of_definition units (Some d) ≡ Some number → Among units number
definition_among units (AnObject unit k) there number is =
    let same : object_block units unit k ≡ number = cc in
    record { some = omega (arith, same); within = omega (arith, same, object-within units unit there.0 k there.1 there.2) }
definition_among units (AFunction f) there number is =
    let same : code_block units f.unit f.number ≡ number = cc in
    record { some = omega (arith, same); within = omega (arith, same, code-within units f.unit there.0 f.number there.1 there.2) }

extern_among : (units : List Typed) (o : Option ExternInfo) (number : ℕ) →
    block_of_definition units (definition_of units o) ≡ Some number → Among units number
extern_among units None number is = absurd (cc)
extern_among units (Some e) number is = by_definition (defined units e.name) refl is
  where
    by_definition : (d : Option Definition) → defined units e.name ≡ d → block_of_definition units d ≡ Some number → Among units number
    by_definition None found is = absurd (cc)
    by_definition (Some d) found is = definition_among units d (defined-within units e.name d found) number is

file_of : (g : Given) (number : ℕ) → Among (units_of g) number → FileBlock g number
file_of g number among = file_block g number among.some among.within

length_branching : (long : Bool) (taken contrary : Branch) → length (map whole (branch_words long taken contrary 0 0)) ≡ length_of long
length_branching false taken contrary = refl
length_branching true taken contrary = refl

-- ---- all of them

some_branch : (long : Bool) (taken contrary : Branch) → 1 ≤ length (map whole (branch_words long taken contrary 0 0))
some_branch false taken contrary = omega arith
some_branch true taken contrary = omega arith

module _ {c : Code} {p : Placing} (f : Function) (form : Form) (base at : ℕ) (is : List SymItem)
    (frame : form.frame ≡ frame_of (units_of c.given) f) (all : AllFollow c p) (pays : 1 ≤ c.per)
    (reach : IsWithinReach form (end_of form at is)) (fits : base + 4 * end_of form at is < 2 ^ 56) where
  abbrev ts : Targets
  ts = targets form at is

  -- where an item would stand at a place
  abbrev spot_of : ℕ → SymItem → Spot
  spot_of q i = record {
    from = base + 4 * q;
    to = base + 4 * (q + item_length form i);
    label = (place base form at is).label;
    steps = λ s. 0;
  }

  reached_short : (long : Bool) (x y : ℕ) → form.long ≡ long → x ≤ end_of form at is → x < y + reach_of long
  reached_short false x y short within = omega (arith, reach.branches short, within)
  reached_short true x y long within = omega (arith, reach.jumps, within)

  branching : (taken contrary : Branch) (P Q : State → Type 0) (q n : ℕ) → IsBranch taken contrary P Q →
      PlacedWords c p f.unit (base + 4 * q) (map whole (branch_words form.long taken contrary q (label_in form at is n))) →
      q + 1 ≤ end_of form at is →
      Branching c (base + 4 * q) (base + 4 * label_in form at is n) (base + 4 * (q + length_of form.long)) P Q
  branching taken contrary P Q q n is_branch placed within =
      Branching-words form.long base q (label_in form at is n) is_branch
      (Standing-as (filled-whole c.given p f.unit (base + 4 * q) (branch_words form.long taken contrary q (label_in form at is n)))
      placed.stands)
      (reached_short form.long (q + 1) (label_in form at is n) refl within)
      (reached_short form.long (label_in form at is n) q refl (label-within form at is n))
      (omega (arith, fits, label-within form at is n))

  put_at : (q : ℕ) (r : Reg) (now : MeaningState) (s : State) (number : ℕ) → PutsPointer c (base + 4 * q + 8) r (pointer number 0) now s →
      PutsPointer c (base + 4 * (q + 2)) r (pointer number 0) now s
  put_at q r now s number puts = subst (λ to. PutsPointer c to r (pointer number 0) now s) (omega arith) puts

  slot_item : (q n : ℕ) (r : Reg) → r.0 < 31 → HasSafeSlot c.given f n → (o : Option Slot) → slice_get form.frame.slots n ≡ o →
      PlacedWords c p f.unit (base + 4 * q) (map whole (address_of o r)) →
      PutsAddress c f (base + 4 * q) (base + 4 * (q + length (map whole (address_of o r)))) r (λ here. here.local n)
  slot_item q n r small has None is' placed =
      absurd (let e : None ≡ Some has.slot = sym is' ∙ ap (λ (x : Frame). slice_get x.slots n) frame ∙ has.is in cc)
  slot_item q n r small has (Some slot) is' placed =
      let there : slice_get (frame_of (units_of c.given) f).slots n ≡ Some slot = ap (λ (x : Frame). slice_get x.slots n) (sym frame)
      ∙ is' in
      let same : has.slot ≡ slot = let e : Some has.slot ≡ Some slot = sym has.is ∙ there in cc in
      subst (λ to. PutsAddress c f (base + 4 * q) to r (λ here. here.local n))
      (omega (arith, length-map (slot_address_list slot r) whole))
      (safe_slot_put f (base + 4 * q) n r slot
      (Standing-as (filled-whole c.given p f.unit (base + 4 * q) (slot_address_list slot r)) placed.stands) there
      (ap is_tagged_slot (sym same) ∙ has.safe) (omega (arith, has.start, ap (λ (x : Slot). x.start) same)) small)

  -- an item that stands at a place does what it is for
  acts_at : (q : ℕ) (i : SymItem) → PlacedWords c p f.unit (base + 4 * q) (item_words form ts q i) →
      q + item_length form i ≤ end_of form at is → IsSound c.given f i → ((n : ℕ) → i ≡ item.Label n → label_in form at is n ≡ q) →
      Acts c f (spot_of q i) i
  acts_at q (item.Plain instr) placed within sound labels = (HasInstr-first placed.stands, omega arith)
  acts_at q (item.Label n) placed within sound labels = (omega (arith, labels n refl), omega arith)
  acts_at q (item.Jump n) placed within sound labels =
      λ s is_at. GoesTo-jump base q (label_in form at is n) (HasInstr-first placed.stands) is_at (omega (arith, reach.jumps, within))
      (omega (arith, reach.jumps, label-within form at is n)) (omega (arith, fits, label-within form at is n))
  acts_at q (item.JumpIfZero r n) placed within sound labels =
      let b = branching (OnZero true r) (OnOther true r) (λ s. general s r ≡ 0) (λ s. general s r ≢ 0) q n (IsBranch-zero r) placed
      (omega (arith, within, some_branch form.long (OnZero true r) (OnOther true r))) in
      record {
        on_zero = b.on;
        on_other = λ s is_at other. subst (λ to. GoesTo c to s)
            (omega (arith, length_branching form.long (OnZero true r) (OnOther true r))) (b.off s is_at other);
      }
  acts_at q (item.JumpIfNotZero r n) placed within sound labels =
      let b = branching (OnOther true r) (OnZero true r) (λ s. general s r ≢ 0) (λ s. general s r ≡ 0) q n (IsBranch-other r) placed
      (omega (arith, within, some_branch form.long (OnOther true r) (OnZero true r))) in
      record {
        on_zero = λ s is_at zero. subst (λ to. GoesTo c to s)
            (omega (arith, length_branching form.long (OnOther true r) (OnZero true r))) (b.off s is_at zero);
        on_other = b.on;
      }
  acts_at q (item.SlotAddress n r) placed within sound labels =
      slot_item q n r sound.0 sound.1 (slice_get form.frame.slots n) refl placed
  acts_at q (item.GlobalAddress n r) placed within sound labels = record {
    puts = λ here now s number injects inside pc is.
        let same : object_block (units_of c.given) f.unit n ≡ number = cc in
        let among : Among (units_of c.given) number = record {
          some = omega (arith, same);
          within = omega (arith, same, object-within (units_of c.given) f.unit sound.1.file n sound.1.is sound.1.within);
        } in
        put_at q r now s number (object_put (target.Global n) placed refl sound.0 (file_of c.given number among) is injects pc);
  }
  acts_at q (item.ExternAddress n r) placed within sound labels = record {
    puts = λ here now s number injects inside pc is. put_at q r now s number (object_put (target.Extern n) placed refl sound
        (file_of c.given number (extern_among (units_of c.given) (extern_at (units_of c.given) f.unit n) number is)) is injects pc);
  }
  acts_at q (item.TextAddress n r) placed within sound labels = record {
    puts = λ here now s number injects inside pc is.
        let same : text_block (units_of c.given) f.unit n ≡ number = cc in
        let among : Among (units_of c.given) (text_block (units_of c.given) f.unit n) = record {
          some = omega arith;
          within = text-within (units_of c.given) f.unit sound.1.file n sound.1.is sound.1.within;
        } in
        subst (λ b. PutsPointer c (base + 4 * (q + 2)) r (pointer b 0) now s) same
        (put_at q r now s (text_block (units_of c.given) f.unit n)
        (text_put n placed sound.0 (file_of c.given (text_block (units_of c.given) f.unit n) among)
        (text_block_untagged c.given f.unit n sound.1 injects.files) injects pc));
  }
  acts_at q (item.CallFunction n) placed within sound labels =
      subst (λ to. Calls c f (base + 4 * q) to (callee.Function n)) (omega arith) (Calls-function f n (base + 4 * q) placed sound all)
  acts_at q (item.CallExtern n) placed within sound labels =
      subst (λ to. Calls c f (base + 4 * q) to (callee.Extern n)) (omega arith) (Calls-extern f n (base + 4 * q) placed all pays)
  acts_at q item.Leave placed within sound labels = tt
  acts_at q (item.EnterScope slots) placed within sound labels = absurd sound
  acts_at q (item.LeaveScope first last) placed within sound labels = absurd sound

  -- The items stand where their words do.
  pub StandsAt-words : AreSound c.given f is → PlacedWords c p f.unit (base + 4 * at) (words_in form ts at is) →
      StandsAt c f (place base form at is) is
  StandsAt-words sound placed = record {
    acts = λ k i there.
        subst (λ (to : ℕ). Acts c f (record {
          from = base + 4 * place_of form at is k;
          to = base + 4 * to;
          label = (place base form at is).label;
          steps = λ s. 0;
        }) i) (sym (place-behind form at is k i there))
        (acts_at (place_of form at is k) i (item_placed form ts base at is k i there placed)
        (omega (arith, place-behind form at is k i there, place-within form at is (suc k))) (sound.each k i there)
        (λ n same. label-at form at is k n (there ∙ ap Some same) (λ j less found.
        omega (arith, less, sound.once j k n found (there ∙ ap Some same)))));
  }
