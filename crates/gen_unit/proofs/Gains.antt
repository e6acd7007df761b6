-- What is appended, one thing behind the other.
use Rattle.std.proofs.Common.{◌≡◌, ℕ, suc, ◌+◌, ◌*◌, ◌<◌, List, [], ◌∷◌, ◌++◌, length, map, take, get_or}
use Rattle.std.proofs.Common.{refl, ap, sym, ◌∙◌, subst, arith, append_assoc, append-nil, length-append, pos}
use Rattle.std.proofs.Common.{Result, Ok, Err, OnOk}
use Rattle.std.proofs.Math.Seq.{take-suc}
use Rattle.std.proofs.lemmas.List.{map-append}
use Rattle.a64_code.specs.declared.instr.Instr.{Instr}
use Rattle.a64_code.specs.Row.{Row}
use Rattle.gen_unit.specs.declared.output.Output.{Output}
use Rattle.gen_unit.specs.declared.parts.CodeReloc.{CodeReloc}
use Rattle.gen_unit.specs.declared.parts.CodeTarget.{CodeTarget}
use Rattle.gen_unit.specs.Appended.{Gains}
use Rattle.gen_unit.specs.Units.{AreWords, reloc_of, relocs_from}
use Rattle.gen_unit.specs.Words.{Word, whole, waiting}

-- ---- lists of words

pub are-append : (ns ms : List ℕ) (ws vs : List Word) → AreWords ns ws → AreWords ms vs → AreWords (ns ++ ms) (ws ++ vs)
are-append [] ms [] vs first second = second
are-append [] ms (w ∷ ws) vs first second = absurd first
are-append (n ∷ ns) ms [] vs first second = absurd first
are-append (n ∷ ns) ms (w ∷ ws) vs first second = (first.0, are-append ns ms ws vs first.1 second)

pub are-length : (ns : List ℕ) (ws : List Word) → AreWords ns ws → length ns ≡ length ws
are-length [] [] are = refl
are-length [] (w ∷ ws) are = absurd are
are-length (n ∷ ns) [] are = absurd are
are-length (n ∷ ns) (w ∷ ws) are = ap suc (are-length ns ws are.1)

pub relocs-append : (at : ℕ) (ws vs : List Word) → relocs_from at (ws ++ vs) ≡ relocs_from at ws ++ relocs_from (at + length ws) vs
relocs-append at [] vs = ap (λ k. relocs_from k vs) (let e : at ≡ at + 0 = omega arith in e)
relocs-append at (w ∷ ws) vs =
    ap (λ rs. reloc_of at w.wants ++ rs) (relocs-append (suc at) ws vs)
    ∙ sym (append_assoc (reloc_of at w.wants) (relocs_from (suc at) ws) (relocs_from (suc at + length ws) vs))
    ∙ ap (λ k. reloc_of at w.wants ++ relocs_from (suc at) ws ++ relocs_from k vs)
    (let e : suc at + length ws ≡ at + length (w ∷ ws) = omega arith in e)

-- ---- what is gained

pub gains_none : (out : Output) → Gains out [] out
gains_none out = record { numbers = []; are = tt; words = sym (append-nil out.words.items); relocs = sym (append-nil out.relocs.items) }

pub gains_then : {a b c : Output} {ws vs : List Word} → Gains a ws b → Gains b vs c → Gains a (ws ++ vs) c
gains_then {a} {b} {c} {ws} {vs} first second = record {
  numbers = first.numbers ++ second.numbers;
  are = are-append first.numbers second.numbers ws vs first.are second.are;
  words = second.words ∙ ap (λ ns. ns ++ second.numbers) first.words ∙ append_assoc a.words.items first.numbers second.numbers;
  relocs =
      second.relocs ∙ ap (λ rs. rs ++ relocs_from (length b.words.items) vs) first.relocs
      ∙ ap (λ k. a.relocs.items ++ relocs_from (length a.words.items) ws ++ relocs_from k vs) places
      ∙ append_assoc a.relocs.items (relocs_from (length a.words.items) ws) (relocs_from (length a.words.items + length ws) vs)
      ∙ ap (λ rs. a.relocs.items ++ rs) (sym (relocs-append (length a.words.items) ws vs));
}
  where
    places : length b.words.items ≡ length a.words.items + length ws
    places = omega (arith, ap length first.words, length-append a.words.items first.numbers, are-length first.numbers ws first.are)

pub gains_as : {a b : Output} {ws vs : List Word} → ws ≡ vs → Gains a ws b → Gains a vs b
gains_as {a} {b} same gained = subst (λ ws. Gains a ws b) same gained

-- how many words there are then
pub gains_length : {a b : Output} {ws : List Word} → Gains a ws b → length b.words.items ≡ length a.words.items + length ws
gains_length {a} {b} {ws} gained =
    omega (arith, ap length gained.words, length-append a.words.items gained.numbers, are-length gained.numbers ws gained.are)

-- ---- one word

pub gains_one : (old new : Output) (word : ℕ) (i : Instr) → Row word i → new.words.items ≡ old.words.items ++ word ∷ [] →
    new.relocs.items ≡ old.relocs.items → Gains old (whole i ∷ []) new
gains_one old new word i row words relocs = record {
  numbers = word ∷ [];
  are = (row, tt);
  words = words;
  relocs = relocs ∙ sym (append-nil old.relocs.items);
}

pub gains_waiting : (old new : Output) (word : ℕ) (i : Instr) (kind : ℕ) (target : CodeTarget) (reloc : CodeReloc) → Row word i →
    new.words.items ≡ old.words.items ++ word ∷ [] → new.relocs.items ≡ old.relocs.items ++ reloc ∷ [] →
    reloc ≡ record { offset = 4 * length old.words.items; kind = kind; target = target; addend = pos 0 } →
    Gains old (waiting i kind target ∷ []) new
gains_waiting old new word i kind target reloc row words relocs is = record {
  numbers = word ∷ [];
  are = (row, tt);
  words = words;
  relocs = relocs ∙ ap (λ r. old.relocs.items ++ r ∷ []) is;
}

-- ---- a turn

pub map_turn : (is : List Instr) (k : ℕ) (d : Instr) (a b c : Output) → k < length is → Gains a (map whole (take k is)) b →
    Gains b (whole (get_or is k d) ∷ []) c → Gains a (map whole (take (k + 1) is)) c
map_turn is k d a b c within before turn =
    gains_as
    (sym (map-append whole (take k is) (get_or is k d ∷ []))
    ∙ ap (map whole) (sym (take-suc is k d within) ∙ ap (λ j. take j is) (let e : suc k ≡ k + 1 = omega arith in e)))
    (gains_then before turn)

-- ---- the last call of several

pub then_ok : {T E : Type 0} (r : Result T E) (a b c : Output) (ws vs : List Word) → Gains a ws b → OnOk r (Gains b vs c) →
    OnOk r (Gains a (ws ++ vs) c)
then_ok (Ok x) a b c ws vs first last = gains_then first last
then_ok (Err e) a b c ws vs first last = tt
