-- Where an access leaves a tagged slot for a neighbour, memory has the tag that the frame says, and it is not the slot's (this project's
-- own).
use Rattle.std.specs.Prelude.{◌≡◌, ◌≢◌, ℕ, ◌+◌, ◌*◌, ◌%◌, ◌<◌, ◌≤◌, Bool, true, false, ◌&&◌, leb, ltb, List, slice_get, Some, refl}
use Rattle.std.specs.Prelude.{if◌then◌else◌}
use Rattle.std.proofs.Common.{arith, ap, sym, subst, ◌∙◌}
use Rattle.std.proofs.lemmas.Bool.Decides.{nat_tests}
use Rattle.mt_base.specs.Granules.{granule_of}
use Rattle.mt_base.specs.Laws.SlotTags.{slot_tag_nonzero, slot_tag_apart}
use Rattle.mt_base.specs.Memory.{is_between}
use Rattle.mt_base.specs.Tags.{slot_tag}
use Rattle.c_type_base.specs.declared.typed.TFunction.{TFunction}
use Rattle.a64_code.specs.State.{State}
use Rattle.slot_safety.specs.declared.kind.Kind.{Kind as SlotKind}
use Rattle.slot_safety.specs.declared.kind.Kind.TheVariants.{Tagged}
use Rattle.slot_safety.specs.Kinds.{among}
use Rattle.frame_layout.specs.declared.frame.Frame.{Frame}
use Rattle.frame_layout.specs.declared.frame.Slot.{Slot}
use Rattle.frame_layout.specs.Laws.FrameLaws.{Has}
use Rattle.frame_layout.specs.Laws.NeighbourLaws.{apart-each}
use Rattle.frame_layout.specs.Laws.PartLaws.{parts-positive}
use Rattle.frame_layout.specs.Laws.WellFormedLaws.{apart}
use Rattle.frame_layout.specs.Neighbours.{has_place, has_tagged, tag_among}
use Rattle.frame_layout.specs.Neighbours as neighbours
use Rattle.frame_layout.specs.Parts.{parts}
use Rattle.frame_layout.specs.StatementNeeds.{stmt_need}
use Rattle.frame_layout.specs.WellFormed.{of_kind, is_tagged_slot}
use Rattle.block_meaning.specs.Blocks.{Block}
use Rattle.block_meaning.specs.Linkage.{structs_of, function_named}
use Rattle.block_meaning.specs.ProgramsInOrder.{InOrder}
use Rattle.block_meaning.specs.Running.{Call, Context, State as MeaningState}
use Rattle.block_meaning.specs.declared.kind.Kind.TheVariants.{Local}
use Rattle.code_relation.specs.Calls.{lowest, frame_of}
use Rattle.code_relation.specs.Ends.{live_locals}
use Rattle.code_relation.specs.Injects.{Injects}
use Rattle.code_relation.specs.Sites.{Site, site, Given, units_of, choice_of, site_of, site_by, site_of_local, site_of_slot, has_byte}
use Rattle.code_relation.specs.Sites.{is_tagged_block}
use Rattle.code_relation.specs.Sites.{is_tagged_by, is_tagged_local, slot_in}
use Rattle.code_relation.specs.Tags.{NoTaggedIn}
use Rattle.code_relation.specs.Laws.LocalBytes.{frame_is, laid_out}
use Rattle.code_relation.specs.Laws.Untouched.{Among}
use Rattle.code_follows.specs.Laws.BlockTags.{granule_on}
use Rattle.code_follows.specs.Laws.GranuleOwners.{open_frame, local_bytes, IsOwner, owner_of, place_on_stack}
use Rattle.code_follows.specs.Laws.GranuleOwners.{tagged_kind}
use Rattle.code_follows.specs.Laws.TaggedSlots.{TagThere, owner, nobody, tag_there_is, LivesLocal, among_live, live_among}

-- a place that a slot has, as bytes
has_bytes : (s : Slot) (place : ℕ) → has_place s place ≡ true → Has s place
has_bytes s place has = record { from_on = from s.start s.bytes has; before = before s.start s.bytes has }
  where
    from : (start bytes : ℕ) → (leb start place && ltb place (start + bytes)) ≡ true → start ≤ place
    from start bytes has = grind (arith, nat_tests, has)

    before : (start bytes : ℕ) → (leb start place && ltb place (start + bytes)) ≡ true → place < start + bytes
    before start bytes has = grind (arith, nat_tests, has)

both_parts : (a b : Bool) → (a && b) ≡ true → (a ≡ true) × (b ≡ true)
both_parts true true both = (refl, refl)
both_parts true false both = absurd (cc)
both_parts false b both = absurd (cc)

both_of : (a b : Bool) → a ≡ true → b ≡ true → (a && b) ≡ true
both_of true true first second = refl
both_of true false first second = absurd (cc)
both_of false b first second = absurd (cc)

-- the first byte of a granule that a slot has is one of its local's
first_byte : (low start bytes size place : ℕ) → low % 16 ≡ 0 → start % 16 ≡ 0 → bytes % 16 ≡ 0 → bytes < size + 16 → start ≤ place →
    place < start + bytes → is_between (low + start) size (16 * granule_of (low + place)) ≡ true
first_byte low start bytes size place low_whole start_whole bytes_whole close from before =
    grind (arith, nat_tests, low_whole, start_whole, bytes_whole, close, from, before)

same_granule : (n : ℕ) → granule_of (16 * granule_of n) ≡ granule_of n
same_granule n = omega arith

module _ {g : Given} {here : Context} {now : MeaningState} {s : State} (injects : Injects g here now s) (order : InOrder g.program) where
  -- where a local in a tagged slot lies
  pub tagged_site : (number : ℕ) (b : Block) (call k : ℕ) (c : Call) (x : Slot) → b.kind ≡ Local call k →
      slice_get now.calls call ≡ Some c → slot_in g c k ≡ Some x → x.kind ≡ Tagged →
      site_of g now number b ≡ site (lowest c + x.start) (slot_tag (choice_of g now.calls c) x.index)
  tagged_site number b call k c x kind_is call_is slot_is tag =
      ap (λ kind. site_by g now.calls kind number) kind_is ∙ ap (λ o. site_of_local g now.calls o k) call_is
      ∙ ap (λ o. site_of_slot g now.calls c o) slot_is
      ∙ ap (λ (kind : SlotKind). site (lowest c + x.start) (if of_kind kind then slot_tag (choice_of g now.calls c) x.index else 0)) tag

  tagged_local : (b : Block) (call k : ℕ) (c : Call) (x : Slot) → b.kind ≡ Local call k → slice_get now.calls call ≡ Some c →
      slot_in g c k ≡ Some x → x.kind ≡ Tagged → is_tagged_block g now.calls b.kind ≡ true
  tagged_local b call k c x kind_is call_is slot_is tag =
      ap (is_tagged_block g now.calls) kind_is ∙ ap (λ o. is_tagged_local g o k) call_is ∙ ap is_tagged_by slot_is ∙ ap of_kind tag

  -- a call that is open, of a function that is there, a place of its frame, and the slot that was left
  module _ (c : Call) (call place : ℕ) (call_is : slice_get now.calls call ≡ Some c) (open_among : Among c here.open_calls)
      (within : place < (frame_of (units_of g) c.function).bytes) (function : TFunction)
      (function_is : function_named (units_of g) c.function ≡ Some function) (left : Slot) (left_index : left.index < 15)
      (passed : neighbours.apart left.index place (frame_of (units_of g) c.function).slots ≡ true) where
    abbrev choice : ℕ
    choice = choice_of g now.calls c

    abbrev slots : List Slot
    slots = (frame_of (units_of g) c.function).slots

    abbrev live : List ℕ
    live = live_locals call now.blocks

    -- memory has this tag at the place, which is not that of the slot
    pub record HasTag (tag : ℕ) : Type 0 where
      pub there : s.tag (granule_of (lowest c + place)) ≡ tag
      pub other : tag ≢ slot_tag choice left.index

    small : choice < 16
    small = injects.loaded.in_range.choices _

    -- no tag is there, where no live tagged block has a byte
    no_tag : NoTaggedIn g now (granule_of (lowest c + place)) → HasTag 0
    no_tag none = record {
      there = injects.tags.of_others (granule_of (lowest c + place))
          (granule_on g.program.stack (lowest c + place) injects.loaded.stack_size.whole injects.loaded.stack_size.most
          (place_on_stack injects order c call place call_is open_among within)) none;
      other = λ same. absurd (omega (arith, same, slot_tag_nonzero choice left.index small (omega (arith, left_index))));
    }

    -- the slots of the frame are apart
    one_slot : (j k : ℕ) (x y : Slot) → slice_get slots j ≡ Some x → slice_get slots k ≡ Some y → has_place x place ≡ true →
        has_place y place ≡ true → j ≡ k
    one_slot j k x y first second has also =
        let structs = structs_of (units_of g) c.function.unit in
        let same = ap (λ (f : Frame). f.slots) (frame_is (units_of g) c.function function function_is) in
        apart (stmt_need function.body) (parts structs function)
        (parts-positive structs (laid_out g.program order c.function function function_is) function 0 function.locals) j k x y place
        (ap (λ ss. slice_get ss j) (sym same) ∙ first) (ap (λ ss. slice_get ss k) (sym same) ∙ second) (has_bytes x place has)
        (has_bytes y place also)

    -- its slot's local lives
    of_live : (j : ℕ) (x : Slot) → slice_get slots j ≡ Some x → x.kind ≡ Tagged → has_place x place ≡ true →
        LivesLocal now.blocks call j → HasTag (slot_tag choice x.index)
    of_live j x is tag has l =
        let bytes = local_bytes injects order l.number l.block call j c x l.is l.kind_is call_is is tag in
        let frame_c = open_frame injects order c open_among in
        let has' : Has x place = has_bytes x place has in
        let lies = tagged_site l.number l.block call j c x l.kind_is call_is is tag in
        let y : ℕ = 16 * granule_of (lowest c + place) in
        let byte : has_byte g now l.number l.block y ≡ true =
        ap (λ (z : Site). is_between z.start l.block.size y) lies
        ∙ first_byte (lowest c) x.start x.bytes l.block.size place frame_c.lowest_whole bytes.1.start_whole bytes.0.whole bytes.0.close
        has'.from_on has'.before in
        record {
          there = ap s.tag (sym (same_granule (lowest c + place)))
              ∙ injects.tags.of_blocks l.number l.block (record { is = l.is; live = l.live })
              (tagged_local l.block call j c x l.kind_is call_is is tag) y byte
              ∙ ap (λ (z : Site). z.tag) lies;
          other = slot_tag_apart choice x.index left.index small bytes.1.index_small left_index (λ same.
              let none : has_place x place ≡ false = apart-each left.index place slots passed j x is tag same in
              let both : true ≡ false = sym has ∙ none in
              absurd (cc));
        }

    -- it does not
    of_dead : (j : ℕ) (x : Slot) → slice_get slots j ≡ Some x → has_place x place ≡ true → among j live ≡ false → HasTag 0
    of_dead j x is has dead = no_tag (λ number b lives tagged y byte same.
        let o : IsOwner injects order c call place b =
        owner_of injects order c call place call_is open_among within number b y lives tagged byte same in
        let here_too : among o.local live ≡ true = live_among call o.local now.blocks number b lives.is lives.live o.kind_is in
        let one : j ≡ o.local = one_slot j o.local x o.slot is o.slot_is has o.has in
        let both : true ≡ false = sym here_too ∙ ap (λ i. among i live) (sym one) ∙ dead in
        absurd (cc))

    -- no tagged slot has the place
    of_nobody : ((j : ℕ) (x : Slot) → slice_get slots j ≡ Some x → has_tagged x place ≡ false) → HasTag 0
    of_nobody none = no_tag (λ number b lives tagged y byte same.
        let o : IsOwner injects order c call place b =
        owner_of injects order c call place call_is open_among within number b y lives tagged byte same in
        let has : has_tagged o.slot place ≡ true = both_of (is_tagged_slot o.slot) (has_place o.slot place) (ap of_kind o.tagged) o.has in
        let both : true ≡ false = sym has ∙ none o.local o.slot o.slot_is in
        absurd (cc))

    by_owner : (j : ℕ) (x : Slot) → slice_get slots j ≡ Some x → x.kind ≡ Tagged → has_place x place ≡ true → (lives : Bool) →
        among (0 + j) live ≡ lives → HasTag (if lives then slot_tag choice x.index else 0)
    by_owner j x is tag has true lives =
        of_live j x is tag has (among_live call j now.blocks (ap (λ i. among i live) (let e : j ≡ 0 + j = omega arith in e) ∙ lives))
    by_owner j x is tag has false lives =
        of_dead j x is has (ap (λ i. among i live) (let e : j ≡ 0 + j = omega arith in e) ∙ lives)

    pub memory_there : HasTag (tag_among choice live place 0 slots)
    memory_there = by_case (tag_there_is choice live place 0 slots)
      where
        by_case : TagThere choice live place 0 slots → HasTag (tag_among choice live place 0 slots)
        by_case (owner j x is has tag) =
            let parts = both_parts (is_tagged_slot x) (has_place x place) has in
            subst (λ (n : ℕ). HasTag n) (sym tag) (by_owner j x is (tagged_kind x parts.0) parts.1 (among (0 + j) live) refl)
        by_case (nobody none tag) = subst (λ (n : ℕ). HasTag n) (sym tag) (of_nobody none)
