-- The temps of the innermost frame are no bytes of live blocks: what is written there keeps the relation (this project's own).
use Rattle.std.specs.Prelude.{◌≡◌, ℕ, ◌+◌, ◌-◌, ◌*◌, ◌<◌, ◌≤◌, Bool, true, false, List, [], ◌∷◌, slice_get, Some, refl}
use Rattle.std.proofs.Common.{arith, ap, sym, subst, inl, inr, ◌∙◌}
use Rattle.std.proofs.lemmas.Bool.{cases_Bool, cases_lt}
use Rattle.std.proofs.lemmas.Bool.Decides.{nat_tests}
use Rattle.mt_base.specs.Granules.{granule_of}
use Rattle.mt_base.specs.Memory.{is_between}
use Rattle.c_type_base.specs.declared.typed.Typed.{Typed}
use Rattle.a64_code.specs.State.{State}
use Rattle.a64_laws.specs.Laws.Effects.InRange.{IsInRange}
use Rattle.block_meaning.specs.declared.cell.Cell.{Cell}
use Rattle.block_meaning.specs.declared.kind.Kind.{Kind}
use Rattle.block_meaning.specs.declared.kind.Kind.TheVariants.{NullBlock, Global, Text, Code, Local}
use Rattle.block_meaning.specs.Blocks.{Block, null_block}
use Rattle.block_meaning.specs.Locals.{latest}
use Rattle.block_meaning.specs.Meaning.{open_bytes}
use Rattle.block_meaning.specs.ProgramsInOrder.{InOrder}
use Rattle.block_meaning.specs.Running.{Call, Context, State as MeaningState}
use Rattle.code_relation.specs.Bases.{HaveBaseWords}
use Rattle.code_relation.specs.Calls.{stack_end, lowest, LieInOrder}
use Rattle.code_relation.specs.Cells.{IsCell}
use Rattle.code_relation.specs.Injects.{Injects}
use Rattle.code_relation.specs.Kept.{KeepsFrom}
use Rattle.code_relation.specs.Loaded.{on_stack, IsFileBlock}
use Rattle.code_relation.specs.Sites.{Given, units_of, Lives, site_by, site_of, has_byte, is_of_file}
use Rattle.code_relation.specs.Stands.{WasOpened}
use Rattle.code_relation.specs.Laws.Framed.{ChangesWithin, InFrame, KeepsFrom-within, HaveBaseWords-within}
use Rattle.code_relation.specs.Laws.Lists.{get_within}
use Rattle.code_relation.specs.Laws.LocalBytes.{local_untouched, all_framed}
use Rattle.code_relation.specs.Laws.Untouched.{words_of, Untouched, AreFramed}
use Rattle.code_relation.specs.Laws.Writing.{SameButBytes}

-- bytes of the innermost frame are bytes of the stack
on_stack_at : (g : Given) (c : Call) (a bytes : ℕ) → g.program.stack ≤ stack_end → c.place ≤ g.program.stack → bytes ≤ c.place →
    lowest c ≤ a → a < lowest c + bytes → on_stack g a ≡ true
on_stack_at g c a bytes small fit held from below = grind (arith, nat_tests, small, fit, held, from, below)

untouched_first : (units : List Typed) (changed : ℕ → Bool) (cs : List Call) (c : Call) → latest cs ≡ Some c → Untouched units changed cs →
    (w : ℕ) → w < words_of units c → changed (lowest c + w) ≡ false
untouched_first units changed [] c is apart w below = absurd (cc)
untouched_first units changed (d ∷ ds) c is apart w below =
    let same : d ≡ c = cc in
    subst (λ x. w < words_of units x → changed (lowest x + w) ≡ false) same (apart.0 w) below

inside : (start size offset : ℕ) → offset < size → is_between start size (start + offset) ≡ true
inside start size offset below = grind (arith, nat_tests)

clash : {X : Type 0} (b : Bool) → b ≡ true → b ≡ false → X
clash true is not = absurd (cc)
clash false is not = absurd (cc)

none_between : (start a : ℕ) → is_between start 0 a ≡ false
none_between start a = grind (arith, nat_tests)

-- the frame of the innermost call is on the stack, with its words
pub record IsInnermost (g : Given) (cs : List Call) (c : Call) : Type 0 where
  pub place_is : open_bytes cs ≡ c.place
  pub fit : c.place ≤ g.program.stack
  pub held : words_of (units_of g) c ≤ c.place

module _ {g : Given} {here : Context} {now : MeaningState} {s : State} (injects : Injects g here now s) (order : InOrder g.program) where
  small : g.program.stack ≤ stack_end
  small = omega (arith, injects.loaded.stack_size.most)

  pub innermost : (c : Call) → latest here.open_calls ≡ Some c → IsInnermost g here.open_calls c
  innermost c is =
      by_calls here.open_calls is injects.frames.fit injects.frames.in_order
      (all_framed g.program order now.calls here.open_calls injects.stands.calls)
    where
      by_calls : (cs : List Call) → latest cs ≡ Some c → open_bytes cs ≤ g.program.stack → LieInOrder (units_of g) cs →
          AreFramed (units_of g) cs → IsInnermost g cs c
      by_calls [] is fit lie framed = absurd (cc)
      by_calls (d ∷ ds) is fit lie framed =
          let same : d ≡ c = cc in
          subst (λ x. IsInnermost g (d ∷ ds) x) same
          (record { place_is = refl; fit = omega (arith, fit); held = omega (arith, lie.0, framed.0) })

  -- no live block has a byte among the words of the innermost frame
  pub block_apart : (c : Call) → latest here.open_calls ≡ Some c → (number : ℕ) (b : Block) → Lives now number b → (w : ℕ) →
      w < words_of (units_of g) c → has_byte g now number b (lowest c + w) ≡ false
  block_apart c is number b lives w below = by_kind b.kind refl
    where
      first : IsInnermost g here.open_calls c
      first = innermost c is

      on : on_stack g (lowest c + w) ≡ true
      on = on_stack_at g c (lowest c + w) (words_of (units_of g) c) small first.fit first.held (omega arith) (omega (arith, below))

      by_file : is_of_file b.kind ≡ true → site_of g now number b ≡ g.starts number → has_byte g now number b (lowest c + w) ≡ false
      by_file of site_is = elim (cases_Bool (has_byte g now number b (lowest c + w))) [
        | inl has ↦
            let opened : WasOpened g number b = injects.stands.of_files number b lives.is of in
            let file : IsFileBlock g number opened.before =
            record { is = opened.is; of_file = ap is_of_file (sym opened.kind_is) ∙ of } in
            clash (on_stack g (lowest c + w)) on
            (injects.files.outside number opened.before (lowest c + w) file
            (ap (λ y. is_between y.start opened.before.size (lowest c + w)) (sym site_is)
            ∙ ap (λ n. is_between (site_of g now number b).start n (lowest c + w)) (sym opened.size_is) ∙ has))
        | inr none ↦ none
      ]

      by_kind : (kind : Kind) → b.kind ≡ kind → has_byte g now number b (lowest c + w) ≡ false
      by_kind NullBlock kind_is =
          let zero_is : number ≡ 0 = injects.stands.null_alone number b lives.is kind_is in
          let there : slice_get now.blocks number ≡ Some null_block = ap (λ n. slice_get now.blocks n) zero_is ∙ injects.stands.null_is in
          let found : slice_get now.blocks number ≡ Some b = lives.is in
          let same : b ≡ null_block = cc in
          ap (λ (y : Block). is_between (site_of g now number b).start y.size (lowest c + w)) same
          ∙ none_between (site_of g now number b).start (lowest c + w)
      by_kind (Local call k) kind_is =
          untouched_first (units_of g) (has_byte g now number b) here.open_calls c is
          (local_untouched injects order number b call k lives kind_is) w below
      by_kind (Global unit k) kind_is =
          by_file (ap is_of_file kind_is) (ap (λ kind. site_by g now.calls kind number) kind_is)
      by_kind (Text unit k) kind_is =
          by_file (ap is_of_file kind_is) (ap (λ kind. site_by g now.calls kind number) kind_is)
      by_kind (Code unit k) kind_is =
          by_file (ap is_of_file kind_is) (ap (λ kind. site_by g now.calls kind number) kind_is)

  -- bytes among the temps of the innermost frame, from one of them on
  pub record AreTemps (c : Call) (first from to : ℕ) : Type 0 where
    pub latest_is : latest here.open_calls ≡ Some c
    pub from_on : lowest c + (24 + 8 * first) ≤ from
    pub before : to ≤ lowest c + words_of (units_of g) c

  in_innermost : (c : Call) (cs : List Call) (first from to : ℕ) → here.open_calls ≡ c ∷ cs → AreTemps c first from to →
      InFrame (units_of g) c cs first from to
  in_innermost c cs first from to open_is temps =
      let one : IsInnermost g here.open_calls c = innermost c temps.latest_is in
      let lie : LieInOrder (units_of g) (c ∷ cs) = subst (λ calls. LieInOrder (units_of g) calls) open_is injects.frames.in_order in
      let framed : AreFramed (units_of g) (c ∷ cs) =
      subst (λ calls. AreFramed (units_of g) calls) open_is
      (all_framed g.program order now.calls here.open_calls injects.stands.calls) in
      record {
        lie = lie;
        within = omega (arith, one.fit, small);
        from_on = temps.from_on;
        before = omega (arith, temps.before, framed.0);
      }

  -- what the relation says, and what is kept of the open frames
  pub record KeepsTemps (first : ℕ) (t : State) : Type 0 where
    pub injects_on : Injects g here now t
    pub kept : KeepsFrom (units_of g) first s t here.open_calls

  pub Injects-temps : (c : Call) (first from to : ℕ) (t : State) → AreTemps c first from to → ChangesWithin from to s t →
      SameButBytes s t → IsInRange t → KeepsTemps first t
  Injects-temps c first from to t temps changes same range = by_calls here.open_calls refl temps.latest_is
    where
      one : IsInnermost g here.open_calls c
      one = innermost c temps.latest_is

      same_byte : (a : ℕ) → (lowest c ≤ a → a < lowest c + words_of (units_of g) c → ⊥) → t.byte a ≡ s.byte a
      same_byte a out = elim (cases_lt a from) [
        | inl low ↦ changes.below a low
        | inr high ↦ elim (cases_lt a to) [
          | inl less ↦ absurd (out (omega (arith, high, temps.from_on)) (omega (arith, less, temps.before)))
          | inr more ↦ changes.above a more
        ]
      ]

      on : (a : ℕ) → lowest c ≤ a → a < lowest c + words_of (units_of g) c → on_stack g a ≡ true
      on a low high = on_stack_at g c a (words_of (units_of g) c) small one.fit one.held low high

      block_byte : (number : ℕ) (b : Block) → Lives now number b → (a : ℕ) → has_byte g now number b a ≡ true → t.byte a ≡ s.byte a
      block_byte number b lives a has = same_byte a (λ low high.
          let none : has_byte g now number b (lowest c + (a - lowest c)) ≡ false =
          block_apart c temps.latest_is number b lives (a - lowest c) (omega (arith, low, high)) in
          let back : lowest c + (a - lowest c) ≡ a = omega (arith, low) in
          clash (has_byte g now number b a) has (ap (λ x. has_byte g now number b x) (sym back) ∙ none))

      injects_by : HaveBaseWords g now.calls t here.open_calls → Injects g here now t
      injects_by words = record {
        loaded = injects.loaded;
        files = injects.files;
        stands = injects.stands;
        in_range = range;
        apart = injects.apart;
        frames = record {
          fit = injects.frames.fit;
          owned = injects.frames.owned;
          sp = ap (λ sp. sp + open_bytes here.open_calls) same.sp ∙ injects.frames.sp;
          in_order = injects.frames.in_order;
          drawn = same.drawn ∙ injects.frames.drawn;
          choices = same.choices ∙ injects.frames.choices;
        };
        tags = record {
          of_blocks = λ number b lives tagged a has.
              ap (λ tag. tag (granule_of a)) same.tag ∙ injects.tags.of_blocks number b lives tagged a has;
          of_others = λ granule on none. ap (λ tag. tag granule) same.tag ∙ injects.tags.of_others granule on none;
          outside = λ granule off. ap (λ tag. tag granule) same.tag ∙ injects.tags.outside granule off;
          without_object = λ granule off none. ap (λ tag. tag granule) same.tag ∙ injects.tags.without_object granule off none;
        };
        as_loaded = record {
          regions = same.regions ∙ injects.as_loaded.regions;
          guard = same.guard ∙ injects.as_loaded.guard;
          bytes = λ a off none.
              same_byte a (λ low high. clash (on_stack g a) (on a low high) off)
              ∙ injects.as_loaded.bytes a off none;
        };
        cells = record {
          cell = λ number b offset d lives is.
              subst (λ byte. IsCell g now d byte) (sym
              (block_byte number b lives ((site_of g now number b).start + offset)
              (within_block number b offset d lives is)))
              (injects.cells.cell number b offset d lives is);
        };
        bases = record { register_is = same.base ∙ injects.bases.register_is; words = words };
      }
        where
          within_block : (number : ℕ) (b : Block) (offset : ℕ) (d : Cell) → Lives now number b → slice_get b.cells offset ≡ Some d →
              has_byte g now number b ((site_of g now number b).start + offset) ≡ true
          within_block number b offset d lives is =
              inside (site_of g now number b).start b.size offset
              (omega (arith, get_within b.cells offset d is, injects.stands.cells number b lives))

      by_calls : (cs : List Call) → here.open_calls ≡ cs → latest cs ≡ Some c → KeepsTemps first t
      by_calls [] open_is is = absurd (cc)
      by_calls (d ∷ ds) open_is is =
          let found : d ≡ c = cc in
          let calls_are : here.open_calls ≡ c ∷ ds = open_is ∙ ap (λ x. x ∷ ds) found in
          let there : InFrame (units_of g) c ds first from to = in_innermost c ds first from to calls_are temps in
          record {
            injects_on = injects_by (subst (λ calls. HaveBaseWords g now.calls t calls) (sym calls_are)
                (HaveBaseWords-within g now.calls first s t c ds there changes
                (subst (λ calls. HaveBaseWords g now.calls s calls) calls_are injects.bases.words)));
            kept = subst (λ calls. KeepsFrom (units_of g) first s t calls) (sym calls_are)
                (KeepsFrom-within (units_of g) first s t c ds there changes);
          }
