-- An access that leaves a tagged local for a neighbour in its frame is caught: the next step is the tag fault that says so (this project's
-- own).
use Rattle.std.specs.Prelude.{◌≡◌, ◌≢◌, ℕ, ◌+◌, ◌%◌, ◌^◌, ◌<◌, ◌≤◌, true, slice_get, Some}
use Rattle.std.proofs.Common.{arith, ap, sym, subst, inl, inr, ◌∙◌}
use Rattle.mt_base.specs.Granules.{granule_of}
use Rattle.mt_base.specs.Tags.{slot_tag}
use Rattle.a64_code.specs.declared.instr.Instr.{Instr}
use Rattle.a64_code.specs.declared.end.MachineEnd.TheVariants as machine
use Rattle.a64_code.specs.Effect.{effect}
use Rattle.a64_code.specs.State.{State}
use Rattle.a64_code.specs.Step.{carried_out, step}
use Rattle.a64_code.specs.Stepped.{Ends}
use Rattle.a64_laws.specs.Forms.{Points}
use Rattle.a64_laws.specs.Laws.Effects.Accesses.{IsSize}
use Rattle.a64_laws.specs.Laws.Effects.Open.{IsOpen}
use Rattle.a64_laws.specs.Laws.Loads.{load_is_size, load_caught}
use Rattle.a64_laws.specs.Laws.Stores.{store_is_size, store_caught}
use Rattle.mt_base.specs.Laws.SlotTags.{slot_tag-lt}
use Rattle.frame_layout.specs.Neighbours.{Neighbour, place, tag_there}
use Rattle.block_meaning.specs.Blocks.{Block}
use Rattle.block_meaning.specs.ProgramsInOrder.{InOrder}
use Rattle.block_meaning.specs.Linkage.{function_named}
use Rattle.block_meaning.specs.Running.{Call, Context, State as MeaningState}
use Rattle.block_meaning.specs.declared.access.Access.{Access}
use Rattle.block_meaning.specs.declared.kind.Kind.TheVariants.{Local}
use Rattle.code_relation.specs.Calls.{lowest, frame_of}
use Rattle.code_relation.specs.Ends.{AccessesAt, loads, stores, NextAccesses, live_locals, IsCaught}
use Rattle.code_relation.specs.Injects.{Injects}
use Rattle.code_relation.specs.Numbers.{number_at}
use Rattle.code_relation.specs.Sites.{Site, site, Given, units_of, choice_of, Lives, site_of}
use Rattle.code_relation.specs.Stands.{IsLocal}
use Rattle.code_relation.specs.Laws.Untouched.{Among}
use Rattle.gen_laws.specs.Laws.Numbers.{some_same}
use Rattle.code_follows.specs.Laws.GranuleOwners.{OpenFrame, open_frame, local_bytes, local_open_call}
use Rattle.code_follows.specs.Laws.NeighbourTags.{memory_there, tagged_site}
use Rattle.code_follows.specs.Laws.Stack.{stack_open}

-- ---- numbers

-- the address: the frame's lowest, and the place in it
same_address : (low start offset bytes : ℕ) → low < 2 ^ 40 → (start + offset) % 2 ^ 64 < bytes → bytes < 2 ^ 40 →
    (low + start + offset) % 2 ^ 64 ≡ low + (start + offset) % 2 ^ 64
same_address low start offset bytes low_small within bytes_small = omega (arith, low_small, within, bytes_small)

points_there : (low start offset bytes tag : ℕ) → low < 2 ^ 40 → (start + offset) % 2 ^ 64 < bytes → bytes < 2 ^ 40 → tag < 16 →
    Points (number_at (site (low + start) tag) offset) (low + (start + offset) % 2 ^ 64) tag
points_there low start offset bytes tag low_small within bytes_small tag_small = record {
  is_at = omega (arith, low_small, within, bytes_small, tag_small);
  has_tag = omega (arith, low_small, within, bytes_small, tag_small);
}

-- an aligned access at a place of a frame of whole granules is in it
record InFrameAt (low at size bytes : ℕ) : Type 0 where
  ends : at + size ≤ bytes
  aligned : (low + at) % size ≡ 0

in_frame_at : (low start offset size bytes : ℕ) → IsSize size → low % 16 ≡ 0 → start % 16 ≡ 0 → bytes % 16 ≡ 0 → offset % size ≡ 0 →
    (start + offset) % 2 ^ 64 < bytes → InFrameAt low ((start + offset) % 2 ^ 64) size bytes
in_frame_at low start offset size bytes is low_whole start_whole bytes_whole aligned within = by_size is aligned
  where
    by_size : IsSize size → offset % size ≡ 0 → InFrameAt low ((start + offset) % 2 ^ 64) size bytes
    by_size (inl one) aligned =
        subst (λ (n : ℕ). InFrameAt low ((start + offset) % 2 ^ 64) n bytes) (sym one)
        (record { ends = omega (arith, within); aligned = omega arith })
    by_size (inr (inl two)) aligned =
        subst (λ (n : ℕ). offset % n ≡ 0 → InFrameAt low ((start + offset) % 2 ^ 64) n bytes) (sym two)
        (λ aligned. record {
          ends = omega (arith, within, bytes_whole, start_whole, aligned);
          aligned = omega (arith, low_whole, start_whole, aligned);
        }) aligned
    by_size (inr (inr (inl four))) aligned =
        subst (λ (n : ℕ). offset % n ≡ 0 → InFrameAt low ((start + offset) % 2 ^ 64) n bytes) (sym four)
        (λ aligned. record {
          ends = omega (arith, within, bytes_whole, start_whole, aligned);
          aligned = omega (arith, low_whole, start_whole, aligned);
        }) aligned
    by_size (inr (inr (inr eight))) aligned =
        subst (λ (n : ℕ). offset % n ≡ 0 → InFrameAt low ((start + offset) % 2 ^ 64) n bytes) (sym eight)
        (λ aligned. record {
          ends = omega (arith, within, bytes_whole, start_whole, aligned);
          aligned = omega (arith, low_whole, start_whole, aligned);
        }) aligned

-- ---- the instruction

access_size : {s : State} {size number : ℕ} {instr : Instr} → AccessesAt s size number instr → IsSize size
access_size (loads l imm12 rn rt base size_is number_is) = subst (λ n. IsSize n) size_is (load_is_size l)
access_size (stores w imm12 rn rt base size_is number_is) = subst (λ n. IsSize n) size_is (store_is_size w)

-- such an access, where memory has another tag, is that fault
access_caught : {s : State} {size number : ℕ} {instr : Instr} (at tag : ℕ) → AccessesAt s size number instr → Points number at tag →
    at % size ≡ 0 → IsOpen s at size → s.tag (granule_of at) ≢ tag →
    effect instr s ≡ Ends (machine.TagFault at tag (s.tag (granule_of at)))
access_caught {s} at tag (loads l imm12 rn rt base size_is number_is) points aligned memory differs =
    load_caught l imm12 at tag rn rt s base (subst (λ n. Points n at tag) (sym number_is) points)
    (subst (λ (n : ℕ). at % n ≡ 0) (sym size_is) aligned) (subst (λ n. IsOpen s at n) (sym size_is) memory).readable differs
access_caught {s} at tag (stores w imm12 rn rt base size_is number_is) points aligned memory differs =
    store_caught w imm12 at tag rn rt s base (subst (λ n. Points n at tag) (sym number_is) points)
    (subst (λ (n : ℕ). at % n ≡ 0) (sym size_is) aligned) (subst (λ n. IsOpen s at n) (sym size_is) memory) differs

-- ---- the whole

module _ {g : Given} {here : Context} {now : MeaningState} {s : State} (injects : Injects g here now s) (order : InOrder g.program) where
  pub is_caught : (a : Access) → NextAccesses g now a s → ((b : Block) → slice_get now.blocks a.at.block ≡ Some b → b.live ≡ true) →
      IsCaught g now a s
  is_caught a next lives = record { fault = λ b call k c there kind_is call_is n. faults b call k c there kind_is call_is n }
    where
      faults : (b : Block) (call k : ℕ) (c : Call) → slice_get now.blocks a.at.block ≡ Some b → b.kind ≡ Local call k →
          slice_get now.calls call ≡ Some c →
          (n : Neighbour (frame_of (units_of g) c.function)
          (record { live = live_locals call now.blocks; number = k; offset = a.at.offset; size = a.size })) →
          step s ≡ Ends (machine.TagFault (((site_of g now a.at.block b).start + a.at.offset) % 2 ^ 64) (site_of g now a.at.block b).tag
          (tag_there (choice_of g now.calls c) n))
      faults b call k c there kind_is call_is n =
          let live : Lives now a.at.block b = record { is = there; live = lives b there } in
          let open_among : Among c here.open_calls = local_open_call injects order a.at.block b call k c live kind_is call_is in
          let frame_c : OpenFrame injects order c = open_frame injects order c open_among in
          let bytes = local_bytes injects order a.at.block b call k c n.slot there kind_is call_is n.is n.tagged in
          let lies = tagged_site injects order a.at.block b call k c n.slot kind_is call_is n.is n.tagged in
          let l : IsLocal g now b call k = injects.stands.locals a.at.block b call k there kind_is in
          let made : l.made_by ≡ c = some_same (sym l.call_is ∙ call_is) in
          let choice : ℕ = choice_of g now.calls c in
          let tag : ℕ = slot_tag choice n.slot.index in
          let at : ℕ = lowest c + place n.slot a.at.offset in
          let memory = memory_there injects order c call (place n.slot a.at.offset) call_is open_among n.within l.function
          (ap (λ (d : Call). function_named (units_of g) d.function) (sym made) ∙ l.function_is) n.slot bytes.1.index_small n.other_index in
          let low_small : lowest c < 2 ^ 40 = omega arith in
          let bytes_small : (frame_of (units_of g) c.function).bytes < 2 ^ 40 = omega (arith, frame_c.held, frame_c.fits, frame_c.small) in
          let number_same : number_at (site (lowest c + n.slot.start) tag) a.at.offset ≡ next.number =
          ap (λ y. number_at y a.at.offset) (sym lies)
          ∙ ap (λ y. number_at (site_of g now a.at.block y) a.at.offset) (some_same (sym there ∙ next.number_is.is))
          ∙ sym next.number_is.number in
          let points : Points next.number at tag =
          subst (λ m. Points m at tag) number_same
          (points_there (lowest c) n.slot.start a.at.offset (frame_of (units_of g) c.function).bytes tag low_small n.within bytes_small
          (slot_tag-lt choice n.slot.index (injects.loaded.in_range.choices _) (omega (arith, bytes.1.index_small)))) in
          let inside = in_frame_at (lowest c) n.slot.start a.at.offset a.size (frame_of (units_of g) c.function).bytes
          (access_size next.accesses) frame_c.lowest_whole bytes.1.start_whole frame_c.bytes_whole n.aligned n.within in
          let memory_open : IsOpen s at a.size =
          stack_open injects at a.size (omega (arith, frame_c.fits, frame_c.small))
          (omega (arith, inside.ends, frame_c.held, frame_c.fits, frame_c.small)) in
          let caught : effect next.instr s ≡ Ends (machine.TagFault at tag (s.tag (granule_of at))) =
          access_caught at tag next.accesses points inside.aligned memory_open (λ same. memory.other (sym memory.there ∙ same)) in
          let address_same : at ≡ ((site_of g now a.at.block b).start + a.at.offset) % 2 ^ 64 =
          sym (ap (λ (y : Site). (y.start + a.at.offset) % 2 ^ 64) lies
          ∙ same_address (lowest c) n.slot.start a.at.offset (frame_of (units_of g) c.function).bytes low_small n.within bytes_small) in
          ap (λ i. carried_out i s) next.instr_is ∙ caught
          ∙ ap (λ m. Ends (machine.TagFault m tag (s.tag (granule_of at)))) address_same
          ∙ ap (λ m. Ends (machine.TagFault (((site_of g now a.at.block b).start + a.at.offset) % 2 ^ 64) m (s.tag (granule_of at))))
          (ap (λ (y : Site). y.tag) (sym lies))
          ∙ ap (λ m.
          Ends (machine.TagFault (((site_of g now a.at.block b).start + a.at.offset) % 2 ^ 64) (site_of g now a.at.block b).tag m))
          memory.there
