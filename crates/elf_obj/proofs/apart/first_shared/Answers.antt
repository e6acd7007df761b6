use Rattle.std.proofs.Common.{◌≡◌, ℕ, ◌+◌, ◌-◌, ◌<◌, ◌≤◌, Bool, true, false, List, [], ◌∷◌, ◌++◌, length, take, drop, get_or, refl, sym}
use Rattle.std.proofs.Common.{ap, ◌∙◌, arith, Some, None}
use Rattle.std.specs.Prelude.{◌==◌, not, slice_get}
use Rattle.std.specs.List.{list_any, AllByRecursion}
use Rattle.std.proofs.lemmas.List.{take_more}
use Rattle.elf_base.specs.Laws.Tests.{same_is}
use Rattle.elf_obj.specs.declared.parts.Symbol.{Symbol}
use Rattle.elf_obj.specs.declared.parts.Home.{Home}
use Rattle.elf_obj.specs.Records.{home_number}
use Rattle.elf_obj.specs.Rules.{shares_found}
use Rattle.elf_obj.specs.Apart.{lies_in, is_found_apart, meets, IsSound}
use Rattle.elf_obj.proofs.Steps.{left}
use Rattle.elf_obj.proofs.Intervals.{found_first, put_rising, put_any}
use Rattle.elf_obj.proofs.Sharing.{apart-step, shared-step, not-there, not-object, elsewhere, as-apart, home-is, seen-put, seen-other}
use Rattle.elf_obj.proofs.Sharing.{not_same, get-some, get-none}
use Rattle.elf_obj.proofs.apart.first_shared.Goals as goal
use Rattle.elf_obj.proofs.apart.first_shared.Goals.{then-home_number+in-Some-end_of+else-meets+in_ok-insert, else-home_number}

pub returns-in_default : goal.returns-in_default
returns-in_default c = λ sound.
    let ts : List ℕ = c.args.tagged.now in
    let i : ℕ = c.loop-index.index in
    let t : ℕ = get_or ts i 0 in
    let within : i < length ts = omega arith in
    let front : drop i ts ≡ t ∷ drop (i + 1) ts = left ts i t 0 within refl in
    let there : slice_get c.args.symbols.now t ≡ None = get-none c.args.symbols.now t c.in_default.ensures.lookup.3 in
    sym (shared-step c.args.home c.args.symbols.now ts i t front
    (not-there c.args.home c.args.symbols.now (take i ts) (slice_get c.args.symbols.now t) there))
    ∙ c.loop-index.invariant.rest sound

pub returns-then-symbol : goal.returns-then-symbol
returns-then-symbol c = λ sound.
    let ts : List ℕ = c.args.tagged.now in
    let i : ℕ = c.loop-index.index in
    let t : ℕ = get_or ts i 0 in
    let within : i < length ts = omega arith in
    let front : drop i ts ≡ t ∷ drop (i + 1) ts = left ts i t 0 within refl in
    let s : Symbol = c.in-Some.symbol.now in
    let there : slice_get c.args.symbols.now t ≡ Some s =
    get-some c.args.symbols.now t s s c.in-Some.ensures.lookup.3.0 (c.in-Some.ensures.lookup.3.1 s) in
    sym (shared-step c.args.home c.args.symbols.now ts i t front
    (not-object c.args.home c.args.symbols.now (take i ts) (slice_get c.args.symbols.now t) s there c.if-symbol.true))
    ∙ c.loop-index.invariant.rest sound

-- the tests of the section, by the numbers of the sections
same_home : (home : Home) (s : Symbol) (a b : ℕ) (is : Bool) → a ≡ home_number s.home → b ≡ home_number home → (a == b) ≡ is
    → lies_in home s ≡ is
same_home home s a b is ea eb h = ap (λ (n : ℕ). n == home_number home) (sym ea) ∙ ap (λ (n : ℕ). a == n) (sym eb) ∙ h

pub returns-then-meets : goal.returns-then-meets
returns-then-meets c = λ sound.
    let home : Home = c.args.home in
    let symbols : List Symbol = c.args.symbols.now in
    let ts : List ℕ = c.args.tagged.now in
    let i : ℕ = c.loop-index.index in
    let t : ℕ = get_or ts i 0 in
    let within : i < length ts = omega arith in
    let front : drop i ts ≡ t ∷ drop (i + 1) ts = left ts i t 0 within refl in
    let s : Symbol = c.in-Some.symbol.now in
    let there : slice_get symbols t ≡ Some s = get-some symbols t s s c.in-Some.ensures.lookup.3.0 (c.in-Some.ensures.lookup.3.1 s) in
    let here : lies_in home s ≡ true = same_home home s _ _ true c.home_number.ensures c.home_number-in-loop-index.ensures
    (same_is _ _ c.if-home_number.true) in
    let is : c.meets.result ≡ list_any (λ e. shares_found s (slice_get symbols e)) (take i ts) =
    c.meets.ensures ∙ found_first 0 s.value c.in-Some-end_of.end c.loop-index.taken.entries (c.loop-index.invariant.rising sound)
    ∙ ap (λ (n : ℕ). list_any (meets s.value n) c.loop-index.taken.entries) c.in-Some-end_of.ensures.found.0
    ∙ c.loop-index.invariant.seen sound s (home-is home s here) in
    let bad : is_found_apart home symbols (take i ts) (slice_get symbols t) ≡ false =
    as-apart home symbols (take i ts) (slice_get symbols t) s c.meets.result there c.if-symbol.false here is ∙ ap not c.if-meets.true in
    sym (shared-step home symbols ts i t front bad) ∙ c.loop-index.invariant.rest sound

pub loop-index-preserved : goal.loop-index-preserved
loop-index-preserved c =
    let home : Home = c.args.home in
    let symbols : List Symbol = c.args.symbols.now in
    let ts : List ℕ = c.args.tagged.now in
    let i : ℕ = c.loop-index.index in
    let t : ℕ = get_or ts i 0 in
    let within : i < length ts = omega arith in
    let front : drop i ts ≡ t ∷ drop (i + 1) ts = left ts i t 0 within refl in
    let more : take (i + 1) ts ≡ take i ts ++ t ∷ [] = take_more ts i 0 within in
    let s : Symbol = c.in-Some.symbol.now in
    let there : slice_get symbols t ≡ Some s = get-some symbols t s s c.in-Some.ensures.lookup.3.0 (c.in-Some.ensures.lookup.3.1 s) in
    let entries : List (ℕ × ℕ) = c.loop-index.taken.entries in
    elim c.if-home_number.branch [
      | then-home_number+in-Some-end_of+else-meets+in_ok-insert w ↦
          let here : lies_in home s ≡ true = same_home home s _ _ true c.home_number.ensures c.home_number-in-loop-index.ensures
          (same_is _ _ w.if-home_number.true) in
          let hs : home_number s.home ≡ home_number home = home-is home s here in
          let ends : w.in-Some-end_of.end ≡ s.value + s.size = w.in-Some-end_of.ensures.found.0 in
          let some : 1 ≤ s.size = w.in-Some-end_of.ensures.found.1 in
          let last : s.value + s.size - 1 + 1 ≡ s.value + s.size = omega (arith, some) in
          let order : s.value ≤ s.value + s.size - 1 = omega (arith, some) in
          let all = λ (sound : AllByRecursion (IsSound home) symbols). w.meets.ensures
          ∙ found_first 0 s.value w.in-Some-end_of.end entries (c.loop-index.invariant.rising sound)
          ∙ ap (λ (n : ℕ). list_any (meets s.value n) entries) ends in
          let none = λ (sound : AllByRecursion (IsSound home) symbols). ap (λ (n : ℕ). list_any (meets s.value n) entries) last
          ∙ sym (all sound) ∙ w.if-meets.false in
          let good = λ (sound : AllByRecursion (IsSound home) symbols).
          as-apart home symbols (take i ts) (slice_get symbols t) s w.meets.result there c.if-symbol.false here
          (all sound ∙ c.loop-index.invariant.seen sound s hs)
          ∙ ap not w.if-meets.false in
          record {
            rising = λ sound. rw (w.taken-is, w.in_ok-insert.ensures.entries, ends)
                (put_rising 0 s.value (s.value + s.size - 1) entries (c.loop-index.invariant.rising sound) (omega arith) order
                (none sound));
            seen = λ sound. rw (w.taken-is, w.in_ok-insert.ensures.entries, ends)
                (seen-put home symbols entries _ ts i t s more there hs some (c.loop-index.invariant.seen sound)
                (λ test. put_any test 0 s.value (s.value + s.size - 1) entries (c.loop-index.invariant.rising sound) order (none sound)));
            rest = λ sound. sym (apart-step home symbols ts i t front more (good sound)) ∙ c.loop-index.invariant.rest sound;
          }
      | else-home_number w ↦
          let other : lies_in home s ≡ false = same_home home s _ _ false c.home_number.ensures c.home_number-in-loop-index.ensures
          (not_same _ _ w.if-home_number.false) in
          let good : is_found_apart home symbols (take i ts) (slice_get symbols t) ≡ true =
          elsewhere home symbols (take i ts) (slice_get symbols t) s there c.if-symbol.false other in
          record {
            rising = λ sound. rw w.taken-is (c.loop-index.invariant.rising sound);
            seen = λ sound. rw w.taken-is (seen-other home symbols entries ts i t s more there other (c.loop-index.invariant.seen sound));
            rest = λ sound. sym (apart-step home symbols ts i t front more good) ∙ c.loop-index.invariant.rest sound;
          }
    ]
