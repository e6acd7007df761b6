-- A store to a local that is alive, or to an object, keeps the relation and the words of all frames that are open (this project's own).
use Rattle.std.specs.Prelude.{◌≡◌, ℕ, ◌+◌, ◌<◌, ◌≤◌, Bool, true, false, List, [], ◌∷◌}
use Rattle.std.proofs.Common.{arith, ap, sym, inl, inr, ◌∙◌}
use Rattle.std.proofs.lemmas.Bool.{cases_Bool}
use Rattle.std.proofs.lemmas.Bool.Decides.{nat_tests}
use Rattle.mt_base.specs.Memory.{is_between}
use Rattle.a64_code.specs.State.{State}
use Rattle.block_meaning.specs.declared.kind.Kind.TheVariants.{Local}
use Rattle.block_meaning.specs.Blocks.{Block}
use Rattle.block_meaning.specs.Meaning.{open_bytes}
use Rattle.block_meaning.specs.ProgramsInOrder.{InOrder}
use Rattle.block_meaning.specs.Running.{Call, Context, State as MeaningState}
use Rattle.code_relation.specs.Calls.{stack_end, lowest, frame_of, LieInOrder}
use Rattle.code_relation.specs.Injects.{Injects}
use Rattle.code_relation.specs.Loaded.{on_stack, IsFileBlock}
use Rattle.code_relation.specs.Sites.{Given, units_of, Lives, site_of, has_byte, is_object}
use Rattle.code_relation.specs.Laws.LocalBytes.{InFrame, in_frame, all_framed}
use Rattle.code_relation.specs.Laws.Untouched.{words_of, Untouched}
use Rattle.code_relation.specs.Laws.Untouched.{Among, among_calls, AreFramed, place_within, frame_within}

-- ---- the frames that are open are on the stack

on_stack_at : (g : Given) (c : Call) (w bytes opened : ℕ) → g.program.stack ≤ stack_end → opened ≤ g.program.stack → c.place ≤ opened →
    bytes ≤ c.place → w < bytes → on_stack g (lowest c + w) ≡ true
on_stack_at g c w bytes opened small fit within held below = grind (arith, nat_tests, small, fit, within, held, below)

words_on_stack : (g : Given) (cs : List Call) → g.program.stack ≤ stack_end → open_bytes cs ≤ g.program.stack →
    LieInOrder (units_of g) cs → AreFramed (units_of g) cs → (changed : ℕ → Bool) → ((a : ℕ) → on_stack g a ≡ true → changed a ≡ false) →
    Untouched (units_of g) changed cs
words_on_stack g [] small fit lie framed changed none = tt
words_on_stack g (c ∷ cs) small fit lie framed changed none = (
  λ w below. none (lowest c + w)
      (on_stack_at g c w (words_of (units_of g) c) (open_bytes (c ∷ cs)) small fit (omega arith) (omega (arith, lie.0, framed.0)) below),
  words_on_stack g cs small (omega (arith, fit, lie.0)) lie.1 framed.1 changed none,
)

slot_on_stack : (g : Given) (o : Call) (start size bytes a : ℕ) → g.program.stack ≤ stack_end → o.place ≤ g.program.stack →
    bytes ≤ o.place → start + size ≤ bytes → is_between (lowest o + start) size a ≡ true → on_stack g a ≡ true
slot_on_stack g o start size bytes a small fit held before has = grind (arith, nat_tests, small, fit, held, before, has)

module _ {g : Given} {here : Context} {now : MeaningState} {s : State} (injects : Injects g here now s) (order : InOrder g.program) where
  small : g.program.stack ≤ stack_end
  small = omega (arith, injects.loaded.stack_size.most)

  -- an object is outside the stack
  pub object_untouched : (number : ℕ) (b before : Block) → IsFileBlock g number before → is_object before.kind ≡ true →
      b.size ≡ before.size → site_of g now number b ≡ g.starts number →
      Untouched (units_of g) (has_byte g now number b) here.open_calls
  object_untouched number b before file object size_is site_is =
      words_on_stack g here.open_calls small injects.frames.fit injects.frames.in_order
      (all_framed g.program order now.calls here.open_calls injects.stands.calls) (has_byte g now number b)
      (λ a on. elim (cases_Bool (has_byte g now number b a)) [
        | inl has ↦
            let of_file : is_between (g.starts number).start before.size a ≡ true =
            ap (λ y. is_between y.start before.size a) (sym site_is)
            ∙ ap (λ n. is_between (site_of g now number b).start n a) (sym size_is) ∙ has in
            let off : on_stack g a ≡ false = injects.files.outside number before a file of_file in
            absurd (cc)
        | inr none ↦ none
      ])

  -- a local is on the stack
  pub local_on_stack : (number : ℕ) (b : Block) (call k : ℕ) → Lives now number b → b.kind ≡ Local call k → (a : ℕ) →
      has_byte g now number b a ≡ true → on_stack g a ≡ true
  local_on_stack number b call k lives kind_is a has =
      let at : InFrame injects order number b call k = in_frame injects order number b call k lives.is kind_is in
      let among : Among at.of here.open_calls =
      among_calls (units_of g) now.calls here.open_calls call at.of injects.stands.calls at.of_is
      (injects.frames.owned number b call k lives kind_is) in
      slot_on_stack g at.of at.slot.start b.size (frame_of (units_of g) at.of.function).bytes a small
      (omega (arith, place_within (units_of g) at.of here.open_calls injects.frames.in_order among, injects.frames.fit))
      (frame_within (units_of g) at.of here.open_calls injects.frames.in_order among) (omega (arith, at.behind.before, at.holds))
      (ap (λ start. is_between start b.size a) (sym at.start_is) ∙ has)
