-- Which live tagged block has a byte in a granule of an open frame: that of a local of the frame's own call, whose slot has the granule
-- (this project's own).
use Rattle.std.specs.Prelude.{◌≡◌, ℕ, ◌+◌, ◌-◌, ◌%◌, ◌<◌, ◌≤◌, true, false, ◌&&◌, leb, ltb, List, [], ◌∷◌, slice_get, Some, refl}
use Rattle.std.proofs.Common.{arith, ap, sym, subst, ◌∙◌}
use Rattle.std.proofs.lemmas.Bool.Decides.{nat_tests}
use Rattle.mt_base.specs.Granules.{granule_of}
use Rattle.mt_base.specs.Memory.{is_between}
use Rattle.c_type_base.specs.declared.typed.TFunction.{TFunction}
use Rattle.c_type_base.specs.declared.typed.Typed.{Typed}
use Rattle.a64_code.specs.State.{State}
use Rattle.slot_safety.specs.declared.kind.Kind.{Kind as SlotKind}
use Rattle.slot_safety.specs.declared.kind.Kind.TheVariants.{Safe, Tagged}
use Rattle.frame_layout.specs.declared.frame.Frame.{Frame}
use Rattle.frame_layout.specs.declared.frame.Slot.{Slot}
use Rattle.frame_layout.specs.Frames.{frame}
use Rattle.frame_layout.specs.Laws.PartLaws.{parts-positive}
use Rattle.frame_layout.specs.Laws.WellFormedLaws.{on_granule, index}
use Rattle.frame_layout.specs.Neighbours.{has_place}
use Rattle.frame_layout.specs.Parts.{parts}
use Rattle.frame_layout.specs.StatementNeeds.{stmt_need}
use Rattle.frame_layout.specs.WellFormed.{of_kind, is_tagged_slot}
use Rattle.block_meaning.specs.Blocks.{Block}
use Rattle.block_meaning.specs.Linkage.{structs_of, function_named}
use Rattle.block_meaning.specs.Meaning.{open_bytes}
use Rattle.block_meaning.specs.ProgramsInOrder.{InOrder}
use Rattle.block_meaning.specs.Running.{Function, Call, Context, State as MeaningState}
use Rattle.block_meaning.specs.declared.kind.Kind.{Kind}
use Rattle.block_meaning.specs.declared.kind.Kind.TheVariants.{NullBlock, Global, Text, Code, Local}
use Rattle.code_relation.specs.Calls.{stack_end, lowest, frame_of, LieInOrder}
use Rattle.code_relation.specs.Injects.{Injects}
use Rattle.code_relation.specs.Loaded.{on_stack, is_stack_granule}
use Rattle.code_relation.specs.Sites.{Given, units_of, Lives, has_byte}
use Rattle.code_relation.specs.Sites.{is_tagged_block, is_tagged_by, is_tagged_local, slot_in, is_of_file}
use Rattle.code_relation.specs.Stands.{IsLocal}
use Rattle.code_relation.specs.Laws.LocalBytes.{InFrame, in_frame, frame_is, laid_out}
use Rattle.code_relation.specs.Laws.Untouched.{Among, here, there, among_calls, place_within, frame_within}
use Rattle.gen_laws.specs.Laws.Numbers.{some_same}
use Rattle.code_follows.specs.Laws.BlockTags.{file_off_stack, granule_on, granule_off}
use Rattle.code_follows.specs.Laws.SlotAccess.{frame_whole, open_whole}
use Rattle.code_follows.specs.Laws.TaggedSlots.{TaggedBytes, tagged_bytes}

-- ---- frames of calls that are open

place_whole : (units : List Typed) (o : Call) (cs : List Call) → LieInOrder units cs → Among o cs → o.place % 16 ≡ 0
place_whole units o [] lie among = elim among [ ]
place_whole units o (c ∷ cs) lie here = omega (arith, lie.0, frame_whole units c.function, open_whole units cs lie.1)
place_whole units o (c ∷ cs) lie (there among) = place_whole units o cs lie.1 among

-- two frames are one, or apart
pub data FramesApart (units : List Typed) (c d : Call) : Type 0 where
  one_frame : c ≡ d → FramesApart units c d
  lies_below : lowest c + (frame_of units c.function).bytes ≤ lowest d → FramesApart units c d
  lies_above : lowest d + (frame_of units d.function).bytes ≤ lowest c → FramesApart units c d

ends_before : (units : List Typed) (c d : Call) (cs : List Call) → LieInOrder units (c ∷ cs) → c.place ≤ stack_end → Among d cs →
    lowest c + (frame_of units c.function).bytes ≤ lowest d
ends_before units c d cs lie fit among =
    numbers stack_end c.place (open_bytes cs) (frame_of units c.function).bytes d.place lie.0 (place_within units d cs lie.1 among) fit
  where
    numbers : (top place outer bytes other : ℕ) → place ≡ outer + bytes → other ≤ outer → place ≤ top → top - place + bytes ≤ top - other
    numbers top place outer bytes other is less within = omega (arith, is, less, within)

frames_apart : (units : List Typed) (c d : Call) (cs : List Call) → LieInOrder units cs → open_bytes cs ≤ stack_end → Among c cs →
    Among d cs → FramesApart units c d
frames_apart units c d [] lie fit first second = elim first [ ]
frames_apart units c d (x ∷ xs) lie fit here here = one_frame refl
frames_apart units c d (x ∷ xs) lie fit here (there second) = lies_below (ends_before units c d xs lie fit second)
frames_apart units c d (x ∷ xs) lie fit (there first) here = lies_above (ends_before units d c xs lie fit first)
frames_apart units c d (x ∷ xs) lie fit (there first) (there second) =
    frames_apart units c d xs lie.1 (omega (arith, fit, lie.0)) first second

-- ---- tagged slots

pub tagged_kind : (s : Slot) → is_tagged_slot s ≡ true → s.kind ≡ Tagged
tagged_kind s is = by_kind s.kind is
  where
    by_kind : (kind : SlotKind) → of_kind kind ≡ true → kind ≡ Tagged
    by_kind Safe is = absurd (cc)
    by_kind Tagged is = refl

-- a tagged slot of a frame starts on a granule, and has an index below 15
pub record TaggedWell (s : Slot) : Type 0 where
  pub start_whole : s.start % 16 ≡ 0
  pub index_small : s.index < 15

below_fifteen : (i n : ℕ) → i ≡ n % 15 → i < 15
below_fifteen i n is = omega (arith, is)

module _ {g : Given} {here : Context} {now : MeaningState} {s : State} (injects : Injects g here now s) (order : InOrder g.program) where
  pub tagged_well : (f : Function) (function : TFunction) (k : ℕ) (x : Slot) → function_named (units_of g) f ≡ Some function →
      slice_get (frame_of (units_of g) f).slots k ≡ Some x → x.kind ≡ Tagged → TaggedWell x
  tagged_well f function k x named is tag =
      let structs = structs_of (units_of g) f.unit in
      let of_frame : slice_get (frame structs function).slots k ≡ Some x =
      ap (λ (y : Frame). slice_get y.slots k) (sym (frame_is (units_of g) f function named)) ∙ is in
      let positive = parts-positive structs (laid_out g.program order f function named) function 0 function.locals in
      record {
        start_whole = on_granule (stmt_need function.body) (parts structs function) positive k x of_frame tag;
        index_small = below_fifteen x.index _ (index (stmt_need function.body) (parts structs function) positive k x of_frame tag);
      }

  -- the frame of a call that is open
  pub record OpenFrame (c : Call) : Type 0 where
    pub lowest_whole : lowest c % 16 ≡ 0
    pub bytes_whole : (frame_of (units_of g) c.function).bytes % 16 ≡ 0
    pub fits : c.place ≤ g.program.stack
    pub held : (frame_of (units_of g) c.function).bytes ≤ c.place
    pub small : g.program.stack ≤ 67108864

  pub open_frame : (c : Call) → Among c here.open_calls → OpenFrame c
  open_frame c among =
      let fits : c.place ≤ g.program.stack =
      omega (arith, place_within (units_of g) c here.open_calls injects.frames.in_order among, injects.frames.fit) in
      record {
        lowest_whole = omega (
          arith,
          place_whole (units_of g) c here.open_calls injects.frames.in_order among,
          fits,
          injects.loaded.stack_size.most,
        );
        bytes_whole = frame_whole (units_of g) c.function;
        fits = fits;
        held = frame_within (units_of g) c here.open_calls injects.frames.in_order among;
        small = injects.loaded.stack_size.most;
      }

  -- a live local has its frame open, and what its slot is like
  pub local_open_call : (number : ℕ) (b : Block) (call k : ℕ) (c : Call) → Lives now number b → b.kind ≡ Local call k →
      slice_get now.calls call ≡ Some c → Among c here.open_calls
  local_open_call number b call k c lives kind_is call_is =
      among_calls (units_of g) now.calls here.open_calls call c injects.stands.calls call_is
      (injects.frames.owned number b call k lives kind_is)

  -- the bytes of a local's tagged slot
  pub local_bytes : (number : ℕ) (b : Block) (call k : ℕ) (c : Call) (x : Slot) → slice_get now.blocks number ≡ Some b →
      b.kind ≡ Local call k → slice_get now.calls call ≡ Some c → slot_in g c k ≡ Some x → x.kind ≡ Tagged →
      TaggedBytes x b.size × TaggedWell x
  local_bytes number b call k c x is kind_is call_is slot_is tag =
      let l : IsLocal g now b call k = injects.stands.locals number b call k is kind_is in
      let made : l.made_by ≡ c = some_same (sym l.call_is ∙ call_is) in
      let structs = structs_of (units_of g) l.made_by.function.unit in
      let there : slice_get (frame_of (units_of g) l.made_by.function).slots k ≡ Some x =
      ap (λ (d : Call). slot_in g d k) made ∙ slot_is in
      let of_frame : slice_get (frame structs l.function).slots k ≡ Some x =
      ap (λ (y : Frame). slice_get y.slots k) (sym (frame_is (units_of g) l.made_by.function l.function l.function_is)) ∙ there in (
        subst (λ n. TaggedBytes x n) (sym l.size_is) (tagged_bytes structs l.function k l.info x l.info_is of_frame tag),
        tagged_well l.made_by.function l.function k x l.function_is there tag,
      )

  -- ---- who has a granule

  -- a local of the call, in a tagged slot that has the place
  pub record IsOwner (c : Call) (call place : ℕ) (b : Block) : Type 0 where
    pub local : ℕ
    pub kind_is : b.kind ≡ Local call local
    pub slot : Slot
    pub slot_is : slot_in g c local ≡ Some slot
    pub tagged : slot.kind ≡ Tagged
    pub has : has_place slot place ≡ true

  module _ (c : Call) (call place : ℕ) (call_is : slice_get now.calls call ≡ Some c) (among : Among c here.open_calls)
      (within : place < (frame_of (units_of g) c.function).bytes) where
    pub place_on_stack : on_stack g (lowest c + place) ≡ true
    place_on_stack =
        let frame_c : OpenFrame c = open_frame c among in
        on_stack_by g.program.stack c.place (frame_of (units_of g) c.function).bytes place frame_c.small frame_c.fits frame_c.held within
      where
        on_stack_by : (stack place bytes w : ℕ) → stack ≤ 67108864 → place ≤ stack → bytes ≤ place → w < bytes →
            is_between (stack_end - stack) stack (stack_end - place + w) ≡ true
        on_stack_by stack place bytes w small fits held below = grind (arith, nat_tests, small, fits, held, below)

    -- a block of a file has none
    not_of_file : (number : ℕ) (b : Block) (x : ℕ) → Lives now number b → is_of_file b.kind ≡ true → has_byte g now number b x ≡ true →
        granule_of x ≡ granule_of (lowest c + place) → ⊥
    not_of_file number b x lives of_file has same =
        let off : is_stack_granule g (granule_of x) ≡ false =
        granule_off g.program.stack x injects.loaded.stack_size.whole injects.loaded.stack_size.most
        (file_off_stack injects order number b x lives of_file has) in
        let on : is_stack_granule g (granule_of (lowest c + place)) ≡ true =
        granule_on g.program.stack (lowest c + place) injects.loaded.stack_size.whole injects.loaded.stack_size.most place_on_stack in
        let both : true ≡ false = sym on ∙ ap (is_stack_granule g) (sym same) ∙ off in
        absurd (cc)

    in_slot : (low start bytes size x : ℕ) → low % 16 ≡ 0 → start % 16 ≡ 0 → bytes % 16 ≡ 0 → size ≤ bytes →
        is_between (low + start) size x ≡ true → granule_of x ≡ granule_of (low + place) →
        (leb start place && ltb place (start + bytes)) ≡ true
    in_slot low start bytes size x low_whole start_whole bytes_whole fits has same =
        grind (arith, nat_tests, low_whole, start_whole, bytes_whole, fits, has, same)

    apart_below : (low bytes other start size x : ℕ) → low % 16 ≡ 0 → bytes % 16 ≡ 0 → other % 16 ≡ 0 → low + bytes ≤ other →
        place < bytes → is_between (other + start) size x ≡ true → granule_of x ≡ granule_of (low + place) → ⊥
    apart_below low bytes other start size x low_whole bytes_whole other_whole ends inside has same =
        absurd (grind (arith, nat_tests, low_whole, bytes_whole, other_whole, ends, inside, has, same))

    apart_above : (low other bytes start size x : ℕ) → low % 16 ≡ 0 → bytes % 16 ≡ 0 → other % 16 ≡ 0 → other + bytes ≤ low →
        start + size ≤ bytes → is_between (other + start) size x ≡ true → granule_of x ≡ granule_of (low + place) → ⊥
    apart_above low other bytes start size x low_whole bytes_whole other_whole ends inside has same =
        absurd (grind (arith, nat_tests, low_whole, bytes_whole, other_whole, ends, inside, has, same))

    local_owner_at : (number : ℕ) (b : Block) (other k x : ℕ) → Lives now number b → b.kind ≡ Local other k →
        is_tagged_block g now.calls b.kind ≡ true → has_byte g now number b x ≡ true → granule_of x ≡ granule_of (lowest c + place) →
        (at : InFrame injects order number b other k) → Among at.of here.open_calls → IsOwner c call place b
    local_owner_at number b other k x lives kind_is tagged has same_granule at among_d =
        by_frames (frames_apart (units_of g) c at.of here.open_calls injects.frames.in_order
        (omega (arith, injects.frames.fit, injects.loaded.stack_size.most)) among among_d)
      where
        frame_c : OpenFrame c
        frame_c = open_frame c among

        frame_d : OpenFrame at.of
        frame_d = open_frame at.of among_d

        byte : is_between (lowest at.of + at.slot.start) b.size x ≡ true
        byte = ap (λ start. is_between start b.size x) (sym at.start_is) ∙ has

        tag : at.slot.kind ≡ Tagged
        tag = tagged_kind at.slot (ap is_tagged_by (sym at.slot_is) ∙ ap (λ o. is_tagged_local g o k) (sym at.of_is)
            ∙ ap (is_tagged_block g now.calls) (sym kind_is) ∙ tagged)

        by_frames : FramesApart (units_of g) c at.of → IsOwner c call place b
        by_frames (one_frame one) =
            let bytes = local_bytes number b other k at.of at.slot lives.is kind_is at.of_is at.slot_is tag in
            let number_same : other ≡ call =
            sym (injects.stands.numbers other at.of at.of_is) ∙ ap (λ e. e.number) (sym one) ∙ injects.stands.numbers call c call_is in
            record {
              local = k;
              kind_is = kind_is ∙ ap (λ n. Local n k) number_same;
              slot = at.slot;
              slot_is = ap (λ e. slot_in g e k) one ∙ at.slot_is;
              tagged = tag;
              has = in_slot (lowest c) at.slot.start at.slot.bytes b.size x frame_c.lowest_whole bytes.1.start_whole bytes.0.whole
                  at.holds (ap (λ e. is_between (lowest e + at.slot.start) b.size x) one ∙ byte) same_granule;
            }
        by_frames (lies_below ends) =
            absurd (apart_below (lowest c) (frame_of (units_of g) c.function).bytes (lowest at.of) at.slot.start b.size x
            frame_c.lowest_whole frame_c.bytes_whole frame_d.lowest_whole ends within byte same_granule)
        by_frames (lies_above ends) =
            absurd (apart_above (lowest c) (lowest at.of) (frame_of (units_of g) at.of.function).bytes at.slot.start b.size x
            frame_c.lowest_whole frame_d.bytes_whole frame_d.lowest_whole ends (omega
            (arith, at.behind.before, at.holds)) byte same_granule)

    local_owner : (number : ℕ) (b : Block) (other k x : ℕ) → Lives now number b → b.kind ≡ Local other k →
        is_tagged_block g now.calls b.kind ≡ true → has_byte g now number b x ≡ true → granule_of x ≡ granule_of (lowest c + place) →
        IsOwner c call place b
    local_owner number b other k x lives kind_is tagged has same_granule =
        let at : InFrame injects order number b other k = in_frame injects order number b other k lives.is kind_is in
        local_owner_at number b other k x lives kind_is tagged has same_granule at
        (local_open_call number b other k at.of lives kind_is at.of_is)

    -- so does each live tagged block with a byte in the granule
    pub owner_of : (number : ℕ) (b : Block) (x : ℕ) → Lives now number b → is_tagged_block g now.calls b.kind ≡ true →
        has_byte g now number b x ≡ true → granule_of x ≡ granule_of (lowest c + place) → IsOwner c call place b
    owner_of number b x lives tagged has same_granule = by_kind b.kind refl
      where
        by_kind : (kind : Kind) → b.kind ≡ kind → IsOwner c call place b
        by_kind NullBlock is = absurd (let both : true ≡ false = sym tagged ∙ ap (is_tagged_block g now.calls) is in cc)
        by_kind (Text unit k) is = absurd (let both : true ≡ false = sym tagged ∙ ap (is_tagged_block g now.calls) is in cc)
        by_kind (Code unit k) is = absurd (let both : true ≡ false = sym tagged ∙ ap (is_tagged_block g now.calls) is in cc)
        by_kind (Global unit k) is = absurd (not_of_file number b x lives (ap is_of_file is) has same_granule)
        by_kind (Local other k) is = local_owner number b other k x lives is tagged has same_granule
