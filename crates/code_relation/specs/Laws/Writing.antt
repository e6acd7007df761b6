-- Memory gets the bytes of a live block's new cells, and the relation holds on (this project's own).
use Rattle.std.specs.Prelude.{◌≡◌, ◌≢◌, ℕ, zero, suc, ◌+◌, ◌<◌, true, false, List, [], ◌∷◌, length, slice_get, Some}
use Rattle.std.proofs.Common.{arith, ap, sym, subst, inl, inr, ◌∙◌}
use Rattle.std.proofs.lemmas.Bool.{cases_Bool, cases_eq}
use Rattle.std.proofs.lemmas.Bool.Decides.{nat_tests}
use Rattle.mt_base.specs.Granules.{granule_of}
use Rattle.mt_base.specs.Memory.{is_between}
use Rattle.a64_code.specs.State.{State}
use Rattle.a64_laws.specs.Laws.Effects.InRange.{IsInRange}
use Rattle.block_meaning.specs.declared.cell.Cell.{Cell}
use Rattle.block_meaning.specs.Blocks.{Block, null_block}
use Rattle.block_meaning.specs.Meaning.{open_bytes}
use Rattle.block_meaning.specs.Running.{Context, State as MeaningState}
use Rattle.tag_plan.specs.Lists.{tagged_base}
use Rattle.code_relation.specs.Apart.{AreTwo, AreApart}
use Rattle.code_relation.specs.Bases.{HaveBaseWords}
use Rattle.code_relation.specs.Cells.{IsCell, HasCells}
use Rattle.code_relation.specs.Injects.{Injects}
use Rattle.code_relation.specs.Loaded.{on_stack, NoObjectAt}
use Rattle.code_relation.specs.Sites.{Given, Lives, site_of, has_byte}
use Rattle.code_relation.specs.Stands.{Stands}
use Rattle.code_relation.specs.Laws.Changing.{Change, changed, lived, lives_on}
use Rattle.code_relation.specs.Laws.Changing.{site_same, has_byte_same, tagged_same, IsCell-changed, Stands-changed}
use Rattle.code_relation.specs.Laws.Lists.{get_set_same, get_set_other}

-- but for bytes of memory, what the relation speaks of is the same in both states
pub record SameButBytes (s t : State) : Type 0 where
  pub sp : t.sp ≡ s.sp
  pub base : t.register tagged_base.0 ≡ s.register tagged_base.0
  pub tag : t.tag ≡ s.tag
  pub regions : t.regions ≡ s.regions
  pub guard : t.guard ≡ s.guard
  pub choices : t.choices ≡ s.choices
  pub drawn : t.drawn ≡ s.drawn

-- The block has its new cells in memory, and no byte of memory is another but its own. These are of the stack or of a file-scope object,
-- and none is of a base word.
pub record IsWritten (g : Given) (here : Context) (now : MeaningState) (x : Change g now) (s t : State) : Type 0 where
  pub whole : length x.after.cells ≡ x.after.size
  pub not_null : x.number ≢ 0
  pub cells : (offset : ℕ) (c : Cell) → slice_get x.after.cells offset ≡ Some c →
      IsCell g now c (t.byte ((site_of g now x.number x.before).start + offset))
  pub others : (a : ℕ) → has_byte g now x.number x.before a ≡ false → t.byte a ≡ s.byte a
  pub own : (a : ℕ) → has_byte g now x.number x.before a ≡ true → on_stack g a ≡ false → NoObjectAt g a → ⊥
  pub words : HaveBaseWords g now.calls t here.open_calls

null_there : {g : Given} {now : MeaningState} (x : Change g now) → x.number ≢ 0 → slice_get now.blocks 0 ≡ Some null_block →
    slice_get (changed x).blocks 0 ≡ Some null_block
null_there {now = now} x other null = get_set_other now.blocks x.number 0 x.after other ∙ null

apart_on : {g : Given} {now : MeaningState} (x : Change g now) → AreApart g now → AreApart g (changed x)
apart_on {g} {now} x apart = record {
  bytes = λ i j b c two a first second.
      let l = lived x two.first in
      let r = lived x two.second in
      apart.bytes i j l.block r.block (record { different = two.different; first = l.lives; second = r.lives }) a
      (sym (has_byte_same g now i a l.same) ∙ first) (sym (has_byte_same g now j a r.same) ∙ second);
  granules = λ i j b c two tagged y z first second.
      let l = lived x two.first in
      let r = lived x two.second in
      apart.granules i j l.block r.block (record { different = two.different; first = l.lives; second = r.lives })
      (sym (tagged_same g now l.same) ∙ tagged) y z
      (sym (has_byte_same g now i y l.same) ∙ first) (sym (has_byte_same g now j z r.same) ∙ second);
}

in_list : (cells : List Cell) (offset : ℕ) (c : Cell) → slice_get cells offset ≡ Some c → offset < length cells
in_list [] offset c is = absurd (cc)
in_list (d ∷ ds) zero c is = omega arith
in_list (d ∷ ds) (suc offset) c is = omega (arith, in_list ds offset c is)

inside : (start size offset : ℕ) → offset < size → is_between start size (start + offset) ≡ true
inside start size offset below = grind (arith, nat_tests)

module _ {g : Given} {here : Context} {now : MeaningState} {s t : State} {x : Change g now} (written : IsWritten g here now x s t) where
  -- the cells of the block itself, and those of another
  own_cell : (d : Block) (offset : ℕ) (c : Cell) → slice_get (changed x).blocks x.number ≡ Some d →
      slice_get d.cells offset ≡ Some c → IsCell g (changed x) c (t.byte ((site_of g now x.number d).start + offset))
  own_cell d offset c is cell =
      let found : slice_get (changed x).blocks x.number ≡ Some x.after = get_set_same now.blocks x.number x.before x.after x.lives.is in
      let new : x.after ≡ d = cc in
      IsCell-changed x c _
      (subst (λ place. IsCell g now c (t.byte (place + offset)))
      (ap (λ y. y.start) (sym (site_same g now x.number x.same)) ∙ ap (λ y. (site_of g now x.number y).start) new)
      (written.cells offset c (ap (λ y. slice_get y.cells offset) new ∙ cell)))

  other_cell : AreApart g now → HasCells g now s → (i : ℕ) (d : Block) → i ≢ x.number → Lives now i d →
      length d.cells ≡ d.size → (offset : ℕ) (c : Cell) → slice_get d.cells offset ≡ Some c →
      IsCell g (changed x) c (t.byte ((site_of g now i d).start + offset))
  other_cell apart has i d other lives whole offset c cell =
      let at : ℕ = (site_of g now i d).start + offset in
      let within : has_byte g now i d at ≡ true =
      inside (site_of g now i d).start d.size offset (omega (arith, in_list d.cells offset c cell, whole)) in
      let two : AreTwo now i x.number d x.before = record { different = other; first = lives; second = x.lives } in
      let apart_from : has_byte g now x.number x.before at ≡ false =
      elim (cases_Bool (has_byte g now x.number x.before at)) [
        | inl both ↦ absurd (apart.bytes i x.number d x.before two at within both)
        | inr none ↦ none
      ] in
      IsCell-changed x c _
      (subst (λ byte. IsCell g now c byte) (sym (written.others at apart_from)) (has.cell i d offset c lives cell))

  HasCells-written : AreApart g now → Stands g here now → HasCells g now s → HasCells g (changed x) t
  HasCells-written apart stands has = record {
    cell = λ i d offset c lives cell. elim (cases_eq i x.number) [
      | inl here ↦ of_number i d offset c here lives cell
      | inr other ↦
          let before : Lives now i d = record {
            is = sym (get_set_other now.blocks x.number i x.after (λ same. other (sym same))) ∙ lives.is;
            live = lives.live;
          } in
          other_cell apart has i d other before (stands.cells i d before) offset c cell
    ];
  }
    where
      of_number : (i : ℕ) (d : Block) (offset : ℕ) (c : Cell) → i ≡ x.number → Lives (changed x) i d → slice_get d.cells offset ≡ Some c →
          IsCell g (changed x) c (t.byte ((site_of g now i d).start + offset))
      of_number i d offset c same lives cell =
          subst (λ n. IsCell g (changed x) c (t.byte ((site_of g now n d).start + offset))) (sym same)
          (own_cell d offset c (ap (λ n. slice_get (changed x).blocks n) (sym same) ∙ lives.is) cell)

-- What is written to a block that is alive keeps the relation.
pub Injects-written : {g : Given} {here : Context} {now : MeaningState} {s t : State} {x : Change g now} → IsWritten g here now x s t →
    SameButBytes s t → IsInRange t → Injects g here now s → Injects g here (changed x) t
Injects-written {g} {here} {now} {s} {t} {x} written same range injects = record {
  loaded = injects.loaded;
  files = injects.files;
  stands = Stands-changed x written.whole (null_there x written.not_null injects.stands.null_is) injects.stands;
  in_range = range;
  apart = apart_on x injects.apart;
  frames = record {
    fit = injects.frames.fit;
    owned = λ number b call k lives local.
        let before = lived x lives in
        injects.frames.owned number before.block call k before.lives (sym before.same.kind ∙ local);
    sp = ap (λ sp. sp + open_bytes here.open_calls) same.sp ∙ injects.frames.sp;
    in_order = injects.frames.in_order;
    drawn = same.drawn ∙ injects.frames.drawn;
    choices = same.choices ∙ injects.frames.choices;
  };
  tags = record {
    of_blocks = λ number b lives tagged a has.
        let before = lived x lives in
        ap (λ tag. tag (granule_of a)) same.tag
        ∙ injects.tags.of_blocks number before.block before.lives (sym (tagged_same g now before.same) ∙ tagged) a
        (sym (has_byte_same g now number a before.same) ∙ has)
        ∙ ap (λ place. place.tag) (sym (site_same g now number before.same));
    of_others = λ granule on none.
        ap (λ tag. tag granule) same.tag
        ∙ injects.tags.of_others granule on (λ number b lives tagged a has.
        let after = lives_on x lives in
        none number after.block after.lives (sym (tagged_same g now after.same) ∙ tagged) a
        (sym (has_byte_same g now number a after.same) ∙ has));
    outside = λ granule off. ap (λ tag. tag granule) same.tag ∙ injects.tags.outside granule off;
    without_object = λ granule off none. ap (λ tag. tag granule) same.tag ∙ injects.tags.without_object granule off none;
  };
  as_loaded = record {
    regions = same.regions ∙ injects.as_loaded.regions;
    guard = same.guard ∙ injects.as_loaded.guard;
    bytes = λ a off none. not_own a off none;
  };
  cells = HasCells-written written injects.apart injects.stands injects.cells;
  bases = record { register_is = same.base ∙ injects.bases.register_is; words = written.words };
}
  where
    not_own : (a : ℕ) → on_stack g a ≡ false → NoObjectAt g a → t.byte a ≡ g.loaded.byte a
    not_own a off none = elim (cases_Bool (has_byte g now x.number x.before a)) [
      | inl has ↦ absurd (written.own a has off none)
      | inr other ↦ written.others a other ∙ injects.as_loaded.bytes a off none
    ]
