-- A new local of the latest call lies apart from all that is alive (this project's own).
use Rattle.std.specs.Prelude.{◌≡◌, ◌≢◌, ℕ, zero, suc, ◌+◌, ◌%◌, ◌<◌, ◌≤◌, ◌-◌, Bool, true, false, ◌||◌, List, [], ◌∷◌, slice_get, Some}
use Rattle.std.specs.Prelude.{None, refl, ◌⊎◌}
use Rattle.std.specs.List.{list_any}
use Rattle.std.proofs.Common.{arith, ap, sym, subst, inl, inr, ◌∙◌}
use Rattle.std.proofs.lemmas.Bool.Decides.{nat_tests}
use Rattle.mt_base.specs.Granules.{granule_of}
use Rattle.mt_base.specs.Memory.{is_between}
use Rattle.a64_code.specs.State.{State}
use Rattle.frame_layout.specs.declared.frame.Slot.{Slot}
use Rattle.frame_layout.specs.WellFormed.{is_tagged_slot}
use Rattle.block_meaning.specs.declared.kind.Kind.{Kind}
use Rattle.block_meaning.specs.declared.kind.Kind.TheVariants.{NullBlock, Global, Text, Code, Local}
use Rattle.block_meaning.specs.Blocks.{Block, null_block}
use Rattle.block_meaning.specs.Locals.{latest}
use Rattle.block_meaning.specs.Meaning.{open_bytes}
use Rattle.block_meaning.specs.ProgramsInOrder.{InOrder}
use Rattle.block_meaning.specs.Running.{Call, Context, State as MeaningState}
use Rattle.code_relation.specs.Calls.{stack_end, lowest, frame_of, has_tagged, LieInOrder}
use Rattle.code_relation.specs.Injects.{Injects}
use Rattle.code_relation.specs.Loaded.{on_stack}
use Rattle.code_relation.specs.Sites.{Given, units_of, Lives, site_of, site_by, has_byte, slot_in, is_of_file, is_tagged_by}
use Rattle.code_relation.specs.Sites.{is_tagged_local}
use Rattle.code_relation.specs.Sites.{is_tagged_block}
use Rattle.code_relation.specs.Stands.{AreCalls, IsLocal, WasOpened}
use Rattle.code_relation.specs.Laws.Framed.{frame-ends}
use Rattle.code_relation.specs.Laws.Untouched.{Among, here, there, among_calls, place_within}
use Rattle.stmt_follows.specs.Laws.Locals.Slots.{SlotAt, slot_at, slots_apart, place_whole}

-- an address between two others
record Between (from to a : ℕ) : Type 0 where
  least : from ≤ a
  below : a < to

between : (start bytes a : ℕ) → is_between start bytes a ≡ true → Between start (start + bytes) a
between start bytes a is = record { least = grind (arith, nat_tests, is); below = grind (arith, nat_tests, is) }

-- no slot of a function without tagged slots is one
first_of : (a b : Bool) → (a || b) ≡ false → a ≡ false
first_of false b is = refl
first_of true b is = absurd (cc)

second_of : (a b : Bool) → (a || b) ≡ false → b ≡ false
second_of false b is = is
second_of true b is = absurd (cc)

pub none_tagged : (ss : List Slot) → list_any is_tagged_slot ss ≡ false → (k : ℕ) → is_tagged_by (slice_get ss k) ≡ false
none_tagged [] none k = refl
none_tagged (s ∷ ss) none zero = first_of (is_tagged_slot s) (list_any is_tagged_slot ss) none
none_tagged (s ∷ ss) none (suc k) = none_tagged ss (second_of (is_tagged_slot s) (list_any is_tagged_slot ss) none) k

first_or : {o c : Call} {cs : List Call} → Among o (c ∷ cs) → (o ≡ c) ⊎ Among o cs
first_or here = inl refl
first_or (there among) = inr among

-- a block that is to be that of a local of the latest call
pub record NewLocal (g : Given) (here : Context) (now : MeaningState) (number : ℕ) (b : Block) (k : ℕ) : Type 0 where
  pub c : Call
  pub cs : List Call
  pub open_is : here.open_calls ≡ c ∷ cs
  pub kind_is : b.kind ≡ Local c.number k
  pub at : SlotAt g now number b c k
  pub none : here.local k ≡ None
  pub safe : has_tagged (units_of g) c.function ≡ false

module _ {g : Given} {here : Context} {now : MeaningState} {s : State} (injects : Injects g here now s) (order : InOrder g.program)
    {number : ℕ} {b : Block} {k : ℕ} (new : NewLocal g here now number b k) where
  lie : LieInOrder (units_of g) (new.c ∷ new.cs)
  lie = subst (λ cs. LieInOrder (units_of g) cs) new.open_is injects.frames.in_order

  fits : new.c.place ≤ g.program.stack
  fits = subst (λ cs. open_bytes cs ≤ g.program.stack) new.open_is injects.frames.fit

  small : g.program.stack ≤ stack_end
  small = omega (arith, injects.loaded.stack_size.most)

  -- its bytes are in the frame of the call
  in_frame : (a : ℕ) → has_byte g now number b a ≡ true →
      Between (lowest new.c + new.at.slot.start) (lowest new.c + new.at.slot.start + new.at.slot.bytes) a
  in_frame a has =
      let is : Between (site_of g now number b).start ((site_of g now number b).start + b.size) a =
      between (site_of g now number b).start b.size a has in
      record { least = omega (arith, is.least, new.at.start_is); below = omega (arith, is.below, new.at.start_is, new.at.holds) }

  pub new_on_stack : (a : ℕ) → has_byte g now number b a ≡ true → on_stack g a ≡ true
  new_on_stack a has =
      let is = in_frame a has in
      let held : (frame_of (units_of g) new.c.function).bytes ≤ new.c.place = omega (arith, lie.0) in
      grind (arith, nat_tests, is.least, is.below, new.at.before, held, fits, small)

  -- another local that is alive
  record OtherLocal (i : ℕ) (d : Block) : Type 0 where
    of : Call
    local : ℕ
    kind_is : d.kind ≡ Local of.number local
    among : Among of (new.c ∷ new.cs)
    at : SlotAt g now i d of local

  other_local : (i : ℕ) (d : Block) (call j : ℕ) → Lives now i d → d.kind ≡ Local call j → OtherLocal i d
  other_local i d call j lives kind_is =
      let l : IsLocal g now d call j = injects.stands.locals i d call j lives.is kind_is in
      let number_is : l.made_by.number ≡ call = injects.stands.numbers call l.made_by l.call_is in
      record {
        of = l.made_by;
        local = j;
        kind_is = kind_is ∙ ap (λ n. Local n j) (sym number_is);
        among = subst (λ cs. Among l.made_by cs) new.open_is
            (among_calls (units_of g) now.calls here.open_calls call l.made_by injects.stands.calls l.call_is
            (injects.frames.owned i d call j lives kind_is));
        at = slot_at g order now i d call j l kind_is;
      }

  -- in the same frame it is another local
  other_in_scope : (i : ℕ) (d : Block) (j : ℕ) → Lives now i d → d.kind ≡ Local new.c.number j → j ≢ k
  other_in_scope i d j lives kind_is same =
      let latest_is : latest here.open_calls ≡ Some new.c = ap latest new.open_is in
      let is : here.local j ≡ Some i = injects.stands.in_scope new.c i d j latest_is lives kind_is in
      let none : here.local j ≡ None = ap here.local same ∙ new.none in
      absurd (cc)

  calls_there : AreCalls (units_of g) now.calls (new.c ∷ new.cs)
  calls_there = subst (λ cs. AreCalls (units_of g) now.calls cs) new.open_is injects.stands.calls

  has_in : (i : ℕ) (d : Block) (of : Call) (j : ℕ) (at : SlotAt g now i d of j) (a : ℕ) → has_byte g now i d a ≡ true →
      Between (lowest of + at.slot.start) (lowest of + at.slot.start + at.slot.bytes) a
  has_in i d of j at a has =
      let is : Between (site_of g now i d).start ((site_of g now i d).start + d.size) a =
      between (site_of g now i d).start d.size a has in
      record { least = omega (arith, is.least, at.start_is); below = omega (arith, is.below, at.start_is, at.holds) }

  -- the frame of a call that opened before is above
  frame_above : (of : Call) → Among of new.cs → lowest new.c + (frame_of (units_of g) new.c.function).bytes ≤ lowest of
  frame_above of among =
      frame-ends (units_of g) new.c of new.cs lie (omega (arith, fits, small))
      (place_within (units_of g) of new.cs lie.1 among)

  local_apart : (i : ℕ) (d : Block) (o : OtherLocal i d) → Lives now i d → (a : ℕ) → has_byte g now i d a ≡ true →
      has_byte g now number b a ≡ true → ⊥
  local_apart i d o lives a one two = elim (first_or o.among) [
    | inl same ↦
        let at : SlotAt g now i d new.c o.local = subst (λ x. SlotAt g now i d x o.local) same o.at in
        let first = has_in i d new.c o.local at a one in
        let second = in_frame a two in
        other_in_scope i d o.local lives (o.kind_is ∙ ap (λ (x : Call). Local x.number o.local) same)
        (slots_apart g.program order new.c.function calls_there.1 o.local k at.slot new.at.slot (a - lowest new.c) at.is new.at.is
        (record { from_on = omega (arith, first.least); before = omega (arith, first.least, first.below) })
        (record { from_on = omega (arith, second.least); before = omega (arith, second.least, second.below) }))
    | inr among ↦
        let first = has_in i d o.of o.local o.at a one in
        let second = in_frame a two in
        let above = frame_above o.of among in
        omega (arith, first.least, second.below, above, new.at.before)
  ]

  file_outside : (i : ℕ) (d : Block) → Lives now i d → is_of_file d.kind ≡ true → site_of g now i d ≡ g.starts i → (a : ℕ) →
      has_byte g now i d a ≡ true → on_stack g a ≡ false
  file_outside i d lives of site_is a has =
      let was : WasOpened g i d = injects.stands.of_files i d lives.is of in
      injects.files.outside i was.before a (record { is = was.is; of_file = ap is_of_file (sym was.kind_is) ∙ of })
      (ap (λ y. is_between y.start was.before.size a) (sym site_is)
      ∙ ap (λ n. is_between (site_of g now i d).start n a) (sym was.size_is) ∙ has)

  -- no byte is one of a block that is alive
  pub new_apart : (i : ℕ) (d : Block) → Lives now i d → (a : ℕ) → has_byte g now i d a ≡ true → has_byte g now number b a ≡ true → ⊥
  new_apart i d lives a one two = by_kind d.kind refl
    where
      of_file : is_of_file d.kind ≡ true → site_of g now i d ≡ g.starts i → ⊥
      of_file of site_is =
          let off : on_stack g a ≡ false = file_outside i d lives of site_is a one in
          let on : on_stack g a ≡ true = new_on_stack a two in
          absurd (cc)

      by_kind : (kind : Kind) → d.kind ≡ kind → ⊥
      by_kind NullBlock is =
          let zero_is : i ≡ 0 = injects.stands.null_alone i d lives.is is in
          let found : slice_get now.blocks 0 ≡ Some d = ap (λ n. slice_get now.blocks n) (sym zero_is) ∙ lives.is in
          let null : slice_get now.blocks 0 ≡ Some null_block = injects.stands.null_is in
          let same : d ≡ null_block = cc in
          let empty : d.size ≡ 0 = ap (λ y. y.size) same in
          let at : Between (site_of g now i d).start ((site_of g now i d).start + d.size) a =
          between (site_of g now i d).start d.size a one in
          omega (arith, at.least, at.below, empty)
      by_kind (Local call j) is = local_apart i d (other_local i d call j lives is) lives a one two
      by_kind (Global unit j) is = of_file (ap is_of_file is) (ap (λ kind. site_by g now.calls kind i) is)
      by_kind (Text unit j) is = of_file (ap is_of_file is) (ap (λ kind. site_by g now.calls kind i) is)
      by_kind (Code unit j) is = of_file (ap is_of_file is) (ap (λ kind. site_by g now.calls kind i) is)

  -- a granule of the stack is on it as a whole
  whole_granule : (x y : ℕ) → granule_of x ≡ granule_of y → on_stack g y ≡ true → on_stack g x ≡ true
  whole_granule x y same on =
      let at : Between (stack_end - g.program.stack) (stack_end - g.program.stack + g.program.stack) y =
      between (stack_end - g.program.stack) g.program.stack y on in
      let whole : g.program.stack % 1024 ≡ 0 = injects.loaded.stack_size.whole in
      let least : stack_end - g.program.stack ≤ x = omega (arith, at.least, whole, same, small) in
      let below : x < stack_end - g.program.stack + g.program.stack = omega (arith, at.below, whole, same, small) in
      grind (arith, nat_tests, least, below)

  -- nor is it in a granule of one that is tagged
  pub new_granules : (i : ℕ) (d : Block) → Lives now i d → is_tagged_block g now.calls d.kind ≡ true → (x y : ℕ) →
      has_byte g now i d x ≡ true → has_byte g now number b y ≡ true → granule_of x ≢ granule_of y
  new_granules i d lives tagged x y one two same = by_kind d.kind refl
    where
      not_here : (call j : ℕ) → d.kind ≡ Local call j → (o : OtherLocal i d) → o.of ≡ new.c → ⊥
      not_here call j is o same =
          let kind_is : d.kind ≡ Local new.c.number o.local = o.kind_is ∙ ap (λ (x : Call). Local x.number o.local) same in
          let tagged_is : is_tagged_local g (slice_get now.calls new.c.number) o.local ≡ true =
          ap (λ kind. is_tagged_block g now.calls kind) (sym kind_is) ∙ tagged in
          let by_slot : is_tagged_by (slot_in g new.c o.local) ≡ true =
          ap (λ call. is_tagged_local g call o.local) (sym calls_there.0) ∙ tagged_is in
          let none : is_tagged_by (slot_in g new.c o.local) ≡ false =
          none_tagged (frame_of (units_of g) new.c.function).slots new.safe o.local in
          absurd (cc)

      local_apart_too : (o : OtherLocal i d) → Among o.of new.cs → ⊥
      local_apart_too o among =
          let first = has_in i d o.of o.local o.at x one in
          let second = in_frame y two in
          let above = frame_above o.of among in
          let whole : o.of.place % 16 ≡ 0 = place_whole (units_of g) now.calls new.cs o.of calls_there.2 lie.1 among in
          let before : o.of.place ≤ open_bytes new.cs = place_within (units_of g) o.of new.cs lie.1 among in
          let inside : o.of.place ≤ stack_end = omega (arith, before, lie.0, fits, small) in
          let below : y < lowest o.of = omega (arith, second.below, above, new.at.before) in
          let from : lowest o.of ≤ x = omega (arith, first.least) in
          omega (arith, below, from, whole, inside, same)

      by_kind : (kind : Kind) → d.kind ≡ kind → ⊥
      by_kind (Local call j) is =
          let o = other_local i d call j lives is in
          elim (first_or o.among) [
            | inl first ↦ not_here call j is o first
            | inr among ↦ local_apart_too o among
          ]
      by_kind (Global unit j) is =
          let off : on_stack g x ≡ false =
          file_outside i d lives (ap is_of_file is) (ap (λ kind. site_by g now.calls kind i) is) x one in
          let on : on_stack g x ≡ true = whole_granule x y same (new_on_stack y two) in
          absurd (cc)
      by_kind NullBlock is =
          let tagged_is : false ≡ true = ap (λ kind. is_tagged_block g now.calls kind) (sym is) ∙ tagged in
          absurd (cc)
      by_kind (Text unit j) is =
          let tagged_is : false ≡ true = ap (λ kind. is_tagged_block g now.calls kind) (sym is) ∙ tagged in
          absurd (cc)
      by_kind (Code unit j) is =
          let tagged_is : false ≡ true = ap (λ kind. is_tagged_block g now.calls kind) (sym is) ∙ tagged in
          absurd (cc)
